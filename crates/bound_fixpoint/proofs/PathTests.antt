-- It is decidable whether a path of allowed rules leads from one symbol to another.
use Rattle.std.proofs.Common.{◌≡◌, ◌⊎◌, ◌↔◌, inl, inr, ℕ, zero, suc, ◌+◌, ◌<◌, ◌≤◌, ◌==◌, ◌&&◌, ◌||◌, Bool, true, false}
use Rattle.std.proofs.Common.{cond, List, [], ◌∷◌, length, Option, Some, None, refl, sym, ◌∙◌, ap, subst, arith}
use Rattle.std.specs.List.{list_any, count_by}
use Rattle.std.proofs.lemmas.Bool.{and_parts, or_left, or_right}
use Rattle.std.proofs.lemmas.List.Sums.{count_by-le-length}
use Rattle.rule_questions.specs.model.Programs.{Program, rule_at}
use Rattle.rule_questions.specs.model.Entries.{is_in}
use Rattle.rule_questions.specs.model.Paths.{Here, Onward, HasEdge, HasPath, source_of, target_of, source_in, target_in}
use Rattle.rule_questions.specs.model.Paths.{same_symbol}
use Rattle.rule_questions.proofs.model.Membership.{same_number, same_number-sound, no_is_not_yes, is_in-cases, list_any-from}
use Rattle.rule_questions.proofs.model.Membership.{list_any-sound}
use Rattle.bound_fixpoint.specs.Keys.{rule_numbers}
use Rattle.bound_fixpoint.proofs.Cases.{either, by_cases}
use Rattle.bound_fixpoint.proofs.Counts.{counts-first}
use Rattle.bound_fixpoint.proofs.RuleNumbers.{rule_in}
use Rattle.bound_fixpoint.proofs.EntryBounds.{edge_by, one_symbol}

-- two tests of numbers: the second passes each number that the first does; it passes a further one, or is the same
record MoreOrSame (ns : List ℕ) (f g : ℕ → Bool) : Type 0 where
  pub cases : (count_by f ns < count_by g ns) ⊎ ((count_by f ns ≡ count_by g ns) ×
      ((n : ℕ) → is_in n ns ≡ true → g n ≡ f n))

one_test : (v w : Bool) → (v ≡ true → w ≡ true) → (a b : ℕ) (Same : Type 0) → (a < b) ⊎ ((a ≡ b) × Same)
    → (cond v 1 0 + a < cond w 1 0 + b) ⊎ ((cond v 1 0 + a ≡ cond w 1 0 + b) × ((w ≡ v) × Same))
one_test true true h a b Same (inl x) = inl (omega (arith, x))
one_test true true h a b Same (inr x) = inr (ap (λ (n : ℕ). 1 + n) x.0, (refl, x.1))
one_test true false h a b Same x = absurd (no_is_not_yes false refl (h refl))
one_test false true h a b Same (inl x) = inl (omega (arith, x))
one_test false true h a b Same (inr x) = let e = x.0 in inl (omega (arith, e))
one_test false false h a b Same (inl x) = inl (omega (arith, x))
one_test false false h a b Same (inr x) = inr (ap (λ (n : ℕ). 0 + n) x.0, (refl, x.1))

more_or_same : (ns : List ℕ) (f g : ℕ → Bool) → ((n : ℕ) → f n ≡ true → g n ≡ true) → MoreOrSame ns f g
more_or_same [] f g h = record { cases = inr (refl, λ n m. absurd (no_is_not_yes false refl m)) }
more_or_same (k ∷ ns) f g h = record {
  cases = widen (counts-first f g k ns ((g k ≡ f k) × ((n : ℕ) → is_in n ns ≡ true → g n ≡ f n))
      (one_test (f k) (g k) (h k) (count_by f ns) (count_by g ns) ((n : ℕ) → is_in n ns ≡ true → g n ≡ f n)
      (more_or_same ns f g h).cases));
}
  where
    widen : (count_by f (k ∷ ns) < count_by g (k ∷ ns))
        ⊎ ((count_by f (k ∷ ns) ≡ count_by g (k ∷ ns)) × ((g k ≡ f k) × ((n : ℕ) → is_in n ns ≡ true → g n ≡ f n)))
        → (count_by f (k ∷ ns) < count_by g (k ∷ ns))
        ⊎ ((count_by f (k ∷ ns) ≡ count_by g (k ∷ ns)) × ((n : ℕ) → is_in n (k ∷ ns) ≡ true → g n ≡ f n))
    widen (inl x) = inl x
    widen (inr x) = inr (
      x.0,
      λ n m. either (is_in-cases n k ns m) (λ e. subst (λ (i : ℕ). g i ≡ f i) (sym e) x.1.0)
          (λ l. x.1.1 n l),
    )

-- whether a symbol, where there is one, passes
abbrev pub passes_at : (ℕ → Bool) → Option ℕ → Bool
passes_at test None = false
passes_at test (Some x) = test x

module _ (p : Program) (f : ℕ → Bool) (a : ℕ) where
  -- whether a rule is allowed and comes from a symbol that passes
  abbrev leaves : (ℕ → Bool) → ℕ → Bool
  leaves test t = f t && passes_at test (source_of p t)

  -- whether a path of this many allowed rules at most leads to a symbol
  abbrev reaches : ℕ → ℕ → Bool
  reaches zero b = a == b
  reaches (suc k) b =
      reaches k b || list_any (λ t. leaves (reaches k) t && same_symbol (Some b) (target_of p t)) (rule_numbers p)

  onward : (k b : ℕ) → reaches k b ≡ true → reaches (suc k) b ≡ true
  onward k b h = or_left (reaches k b) (list_any (λ t. leaves (reaches k) t && same_symbol (Some b) (target_of p t))
      (rule_numbers p)) h

  at_start : (k : ℕ) → reaches k a ≡ true
  at_start zero = same_number a
  at_start (suc k) = onward k a (at_start k)

  sound : (k b : ℕ) → reaches k b ≡ true → HasPath p f a b
  sound zero b h = Here (same_number-sound a b h)
  sound (suc k) b h =
      by_cases (reaches k b) (λ e. sound k b e) (λ e. last (λ x m. sound k x m) (list_any-sound
      (λ t. leaves (reaches k) t && same_symbol (Some b) (target_of p t)) (rule_numbers p) (rw e at h)))
    where
      from : (t : ℕ) (o : Option ℕ) → source_of p t ≡ o → passes_at (reaches k) o ≡ true → (x : ℕ) ×
          (source_of p t ≡ Some x) × (reaches k x ≡ true)
      from t None e m = absurd (no_is_not_yes false refl m)
      from t (Some x) e m = (x, e, m)

      last : ((x : ℕ) → reaches k x ≡ true → HasPath p f a x)
          → ((t : ℕ) × (is_in t (rule_numbers p) ≡ true) × ((leaves (reaches k) t && same_symbol (Some b)
          (target_of p t)) ≡ true))
          → HasPath p f a b
      last path (t, m, passes) =
          let both = and_parts (leaves (reaches k) t) (same_symbol (Some b) (target_of p t)) passes in
          let left = and_parts (f t) (passes_at (reaches k) (source_of p t)) both.0 in
          let here = from t (source_of p t) refl left.1 in
          let there = one_symbol (Some b) (target_of p t) both.1 in
          let same : there.0 ≡ b = some_number there.0 b there.1 in
          Onward (path here.0 here.2) (edge_by p f t here.0 b left.0 here.1 (there.2 ∙ ap (λ (n : ℕ). Some n) same))
        where
          some_number : (x y : ℕ) → Some y ≡ Some x → x ≡ y
          some_number x y e = cc

  -- an allowed rule leads on
  step : (k x b : ℕ) → HasEdge p f x b → ((t : ℕ) → is_in t (rule_numbers p) ≡ true → leaves (reaches (suc k)) t
      ≡ leaves (reaches k) t)
      → reaches (suc k) x ≡ true → reaches (suc k) b ≡ true
  step k x b edge stable h =
      or_right (reaches k b) (list_any (λ t. leaves (reaches k) t && same_symbol (Some b) (target_of p t))
      (rule_numbers p))
      (list_any-from (λ t. leaves (reaches k) t && same_symbol (Some b) (target_of p t))
      (rule_numbers p) edge.number inside
      (rw (sym (stable edge.number inside) ∙ left, target) refl))
    where
      inside : is_in edge.number (rule_numbers p) ≡ true
      inside = rule_in p edge.number edge.rule edge.numbered

      source : source_of p edge.number ≡ Some x
      source = ap source_in edge.numbered ∙ ap (λ (n : ℕ). Some n) edge.source

      left : leaves (reaches (suc k)) edge.number ≡ true
      left = rw (edge.allowed, source, h) refl

      leads : target_of p edge.number ≡ Some b
      leads = target_at edge.number edge.numbered
        where
          target_at : (t : ℕ) → rule_at p t ≡ Some edge.rule → target_of p t ≡ Some b
          target_at zero e = absurd (none e)
            where
              none : None ≡ Some edge.rule → ⊥
              none y = cc
          target_at (suc n) e = ap target_in e ∙ ap (λ (n : ℕ). Some n) edge.target

      target : same_symbol (Some b) (target_of p edge.number) ≡ true
      target = subst (λ (o : Option ℕ). same_symbol (Some b) o ≡ true) (sym leads) (same_number b)

  complete : (k b : ℕ) → ((t : ℕ) → is_in t (rule_numbers p) ≡ true → leaves (reaches (suc k)) t ≡ leaves (reaches k) t)
      → HasPath p f a b → reaches (suc k) b ≡ true
  complete k b stable (Here e) = subst (λ (n : ℕ). reaches (suc k) n ≡ true) e (at_start (suc k))
  complete k b stable (Onward {b = x} r edge) = step k x b edge stable (complete k x stable r)

  -- after some number of rules no edge leads to a further symbol
  leaves_more : (k t : ℕ) → leaves (reaches k) t ≡ true → leaves (reaches (suc k)) t ≡ true
  leaves_more k t h =
      let both = and_parts (f t) (passes_at (reaches k) (source_of p t)) h in rw
      (both.0, from (source_of p t) both.1) refl
    where
      from : (o : Option ℕ) → passes_at (reaches k) o ≡ true → passes_at (reaches (suc k)) o ≡ true
      from None m = m
      from (Some x) m = onward k x m

  settles : (fuel k : ℕ) → length (rule_numbers p) ≤ fuel + count_by (leaves (reaches k)) (rule_numbers p)
      → (m : ℕ) × ((t : ℕ) → is_in t (rule_numbers p) ≡ true → leaves (reaches (suc m)) t ≡ leaves (reaches m) t)
  settles zero k h =
      either (more_or_same (rule_numbers p) (leaves (reaches k)) (leaves (reaches (suc k))) (leaves_more k)).cases
      (λ more. absurd (omega (arith, h, more, count_by-le-length (leaves (reaches (suc k))) (rule_numbers p))))
      (λ same. (k, same.1))
  settles (suc fuel) k h =
      either (more_or_same (rule_numbers p) (leaves (reaches k)) (leaves (reaches (suc k))) (leaves_more k)).cases
      (λ more. settles fuel (suc k) (omega (arith, h, more))) (λ same. (k, same.1))

  -- there is a test for the symbols that a path leads to
  pub paths_decided : (test : ℕ → Bool) × ((b : ℕ) → (test b ≡ true) ↔ HasPath p f a b)
  paths_decided =
      let m = settles (length (rule_numbers p)) 0 (omega arith) in
      (reaches (suc m.0), λ b. (sound (suc m.0) b, complete m.0 b m.1))
