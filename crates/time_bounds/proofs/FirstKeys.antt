-- The derivations before the first round have keys of rules.
use Rattle.std.proofs.Common.{◌≡◌, inl, inr, ℕ, zero, suc, ◌≤◌, ◌==◌, true, List, [], ◌∷◌, length, map, filter}
use Rattle.std.proofs.Common.{Option, Some, None, refl, sym, subst, arith, All}
use Rattle.std.specs.Prelude.{nat_lt}
use Rattle.std.specs.List.{range_with_len}
use Rattle.std.proofs.lemmas.Bool.{or_left, or_right}
use Rattle.std.proofs.lemmas.List.Elements.{All-nil, All-cons, All-append}
use Rattle.model.specs.Entries.{is_in}
use Rattle.model.specs.Paths.{target_of}
use Rattle.model.specs.Programs.{Program, arity_of}
use Rattle.model.proofs.Membership.{same_number, filter-in}
use Rattle.cert_types.specs.cert_rules.AcceptsPlain.{IsRule, places_at}
use Rattle.cert_types.specs.cert_rules.Nodes.{ResultVariable}
use Rattle.bound_fixpoint.specs.Keys.{IsPlace, has_key, key, rule_numbers, time_key}
use Rattle.bound_fixpoint.specs.Derivations.{Derivation, keys_after}
use Rattle.bound_fixpoint.specs.Searches.{Searches}
use Rattle.bound_fixpoint.specs.Beginning.{AreFirst, AreEmptyDerivations, empty_derivation, unreached_derivation, never_derivation, has_places, is_cut, is_dead}
use Rattle.bound_fixpoint.specs.Beginning.{zeroed}
use Rattle.bound_fixpoint.proofs.FirstDerivationsAreJustified.{keys_after-sound}
use Rattle.bound_fixpoint.proofs.MissingBounds.{all-has_key}
use Rattle.bound_fixpoint.proofs.RuleNumbers.{in_rules}
use Rattle.bound_derivations.specs.Books.{IsKey}
use Rattle.time_bounds.proofs.OpenDerivations.{HasKeysOfRules}

module _ (p : Program) where
  -- the key of the time of a rule is a key of a rule
  time_keyed : (t : ℕ) (f : Derivation) → f.keys ≡ time_key t ∷ [] → IsRule p t → HasKeysOfRules p f
  time_keyed t f e rule = record {
    some = subst (λ (ks : List ResultVariable). 1 ≤ length ks) (sym e) (let z : 1 ≤ 1 = omega arith in z);
    each =
        subst (λ (ks : List ResultVariable). All (λ k. IsKey p k.rule k.place) ks) (sym e)
        (All-cons (λ (k : ResultVariable). IsKey p k.rule k.place) (time_key t) [] (record { rule = rule; place = inl refl })
        (All-nil (λ (k : ResultVariable). IsKey p k.rule k.place)));
  }

  empties_keyed : (q : Searches) (ts : List ℕ) (fs : List Derivation) → AreEmptyDerivations q ts fs → ((t : ℕ) → is_in t ts ≡ true → IsRule p t)
      → All (HasKeysOfRules p) fs
  empties_keyed q [] fs h rules = subst (λ (xs : List Derivation). All (HasKeysOfRules p) xs) (sym h) (All-nil (HasKeysOfRules p))
  empties_keyed q (t ∷ ts) fs (m, told, (rest, e, later)) rules =
      subst (λ (xs : List Derivation). All (HasKeysOfRules p) xs) (sym e)
      (All-cons (HasKeysOfRules p) (empty_derivation t m) rest
      (time_keyed t (empty_derivation t m) refl (rules t (or_left (t == t) (is_in t ts) (same_number t))))
      (empties_keyed q ts rest later (λ u k. rules u (or_right (u == t) (is_in u ts) k))))

  unreached_keyed : (dead : List ResultVariable) (ts : List ℕ) → ((t : ℕ) → is_in t ts ≡ true → IsRule p t)
      → All (HasKeysOfRules p) (map (unreached_derivation dead) ts)
  unreached_keyed dead [] rules = All-nil (HasKeysOfRules p)
  unreached_keyed dead (t ∷ ts) rules =
      All-cons (HasKeysOfRules p) (unreached_derivation dead t) (map (unreached_derivation dead) ts)
      (time_keyed t (unreached_derivation dead t) refl (rules t (or_left (t == t) (is_in t ts) (same_number t))))
      (unreached_keyed dead ts (λ u k. rules u (or_right (u == t) (is_in u ts) k)))

  -- the keys of the places after a rule that has some are keys of a rule
  some_keys : (t : ℕ) (o : Option ℕ) → has_places p o ≡ true → 1 ≤ length (map (λ i. key t i) (places_at p o))
  some_keys t None e = absurd (let f : ⊥ = cc in f)
  some_keys t (Some a) e = go (arity_of p a) e
    where
      go : (n : ℕ) → nat_lt 0 n ≡ true → 1 ≤ length (map (λ i. key t i) (range_with_len 1 n))
      go zero k = absurd (let f : ⊥ = grind (arith, k) in f)
      go (suc n) k = omega arith

  never_keyed : (ts : List ℕ) → ((t : ℕ) → is_in t ts ≡ true → IsRule p t × (has_places p (target_of p t) ≡ true))
      → All (HasKeysOfRules p) (map (never_derivation p) ts)
  never_keyed [] rules = All-nil (HasKeysOfRules p)
  never_keyed (t ∷ ts) rules =
      All-cons (HasKeysOfRules p) (never_derivation p t) (map (never_derivation p) ts) (record {
        some = some_keys t (target_of p t) own.1;
        each = all-has_key (λ (k : ResultVariable). IsKey p k.rule k.place) (keys_after p t) each;
      })
      (never_keyed ts (λ u k. rules u (or_right (u == t) (is_in u ts) k)))
    where
      own : IsRule p t × (has_places p (target_of p t) ≡ true)
      own = rules t (or_left (t == t) (is_in t ts) (same_number t))

      each : (u i : ℕ) → has_key (keys_after p t) u i ≡ true → IsKey p u i
      each u i m =
          let told = keys_after-sound p t u i m in
          record {
            rule = subst (λ (n : ℕ). IsRule p n) told.0 own.0;
            place = inr (subst (λ (n : ℕ). IsPlace p n i) told.0 told.1);
          }

  -- all derivations before the first round have keys of rules
  pub first_keyed : (q : Searches) (fs : List Derivation) → AreFirst q p fs → All (HasKeysOfRules p) fs
  first_keyed q fs h =
      subst (λ (xs : List Derivation). All (HasKeysOfRules p) xs) (sym h.in_order)
      (All-append (HasKeysOfRules p) h.empties _
      (empties_keyed q (filter h.is_empty (rule_numbers p)) h.empties h.are_empties
      (λ t m. in_rules p t (filter-in h.is_empty (rule_numbers p) t m).0))
      (All-append (HasKeysOfRules p) (map (unreached_derivation (map time_key (filter h.is_empty (rule_numbers p))))
      (filter (is_cut h.is_empty h.is_unreached) (rule_numbers p))) _
      (unreached_keyed (map time_key (filter h.is_empty (rule_numbers p))) (filter (is_cut h.is_empty h.is_unreached) (rule_numbers p))
      (λ t m. in_rules p t (filter-in (is_cut h.is_empty h.is_unreached) (rule_numbers p) t m).0))
      (never_keyed (zeroed p h.is_empty h.is_unreached) never)))
    where
      never : (t : ℕ) → is_in t (zeroed p h.is_empty h.is_unreached) ≡ true → IsRule p t × (has_places p (target_of p t) ≡ true)
      never t m =
          let placed = filter-in (λ u. has_places p (target_of p u)) (filter (is_dead h.is_empty h.is_unreached) (rule_numbers p)) t m in
          (in_rules p t (filter-in (is_dead h.is_empty h.is_unreached) (rule_numbers p) t placed.0).0, placed.1)
