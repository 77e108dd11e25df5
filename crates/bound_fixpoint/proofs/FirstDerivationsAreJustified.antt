-- The derivations before the first round are justified.
use Rattle.std.proofs.Common.{◌≡◌, inl, inr, ℕ, ◌≤◌, ◌==◌, Bool, not, true, false, List, [], ◌∷◌, ◌++◌}
use Rattle.std.proofs.Common.{length, map, filter, Some, None, refl, sym, ◌∙◌, ap, subst, arith, All}
use Rattle.std.proofs.lemmas.Bool.{and_parts, and_from, not-true, not_from_false, or_left, or_right}
use Rattle.std.proofs.lemmas.List.Elements.{All-nil, All-cons, All-map}
use Rattle.rule_questions.specs.model.Programs.{Program}
use Rattle.rule_questions.specs.model.Bounds.{Constant}
use Rattle.rule_questions.specs.model.Entries.{is_in}
use Rattle.rule_questions.specs.model.Paths.{target_of}
use Rattle.rule_questions.proofs.model.Membership.{same_number, is_in-cases, is_in-filter, filter-in, no_is_not_yes}
use Rattle.rule_questions.specs.cert_rules.Nodes.{ResultVariable}
use Rattle.rule_questions.specs.cert_rules.Known.{IsKnown}
use Rattle.rule_questions.specs.cert_rules.Setting.{Setting}
use Rattle.rule_questions.specs.cert_rules.AcceptsPlain.{IsRule, IsUnreached, places_at}
use Rattle.bound_fixpoint.specs.Keys.{Bounds, key, time_key, at_key, has_key, rule_numbers, IsPlace}
use Rattle.bound_fixpoint.specs.Derivations.{Derivation, bounds_of, keys_after}
use Rattle.bound_fixpoint.specs.Justification.{IsJustified, AreJustifiedAfter, is_left}
use Rattle.bound_fixpoint.specs.Searches.{Searches, NoPoint}
use Rattle.bound_fixpoint.specs.Components.{IsDead}
use Rattle.bound_fixpoint.specs.Beginning.{AreEmptyDerivations, AreFirst, empty_derivation, unreached_derivation, never_derivation, is_cut}
use Rattle.bound_fixpoint.specs.Beginning.{is_dead}
use Rattle.bound_fixpoint.specs.Beginning.{zeroed, has_places}
use Rattle.bound_fixpoint.specs.Right.{AreRight}
use Rattle.bound_fixpoint.proofs.Cases.{either}
use Rattle.bound_fixpoint.proofs.Keys.{has_key-cases, has_key-none, has_time_key}
use Rattle.bound_fixpoint.proofs.MissingBounds.{all-has_key, rule_bounds}
use Rattle.bound_fixpoint.proofs.RuleNumbers.{rule_in, in_rules, in_places}
use Rattle.bound_fixpoint.proofs.FreshDerivations.{AscendFrom, range_ascends, filter_ascends, AreOfRule}
use Rattle.bound_fixpoint.proofs.FreshDerivations.{made_ascend, AreFresh, fresh_by_rules, begins_itself, justified_over}
use Rattle.bound_fixpoint.proofs.FreshDerivations.{stand-append}
use Rattle.bound_fixpoint.proofs.KnownPremises.{of_each_in}
use Rattle.bound_fixpoint.proofs.DeadRules.{path_on}
use Rattle.bound_fixpoint.proofs.ZeroTimes.{AreZeroTimesOf, empties_zero, unreached_zero, zero_times-append}
use Rattle.bound_fixpoint.proofs.ZeroTimes.{zero_times_ascend, zero_found, zero_missing, zero_fresh}

-- a key among those of these places after a rule is of that rule and of one of these places
places_of : (t : ℕ) (is : List ℕ) (u i : ℕ) → has_key (map (λ j. key t j) is) u i ≡ true
    → (t ≡ u) × (is_in i is ≡ true)
places_of t [] u i m = absurd (has_key-none u i m)
places_of t (j ∷ is) u i m =
    either (has_key-cases (key t j) (map (λ n. key t n) is) u i m) here
    (λ l. let rest = places_of t is u i l in (rest.0, or_right (i == j) (is_in i is) rest.1))
  where
    here : key t j ≡ key u i → (t ≡ u) × (is_in i (j ∷ is) ≡ true)
    here e =
        let place : j ≡ i = ap (λ (k : ResultVariable). k.place) e in (
          ap (λ (k : ResultVariable). k.rule) e,
          or_left (i == j) (is_in i is) (subst (λ (n : ℕ). (n == j) ≡ true) place (same_number j)),
        )

-- a key of the places after a rule is of that rule and of one of its places
pub keys_after-sound : (p : Program) (t u i : ℕ) → has_key (keys_after p t) u i ≡ true → (t ≡ u) × IsPlace p t i
keys_after-sound p t u i m =
    let both = places_of t (places_at p (target_of p t)) u i m in (both.0, in_places p t i both.1)

-- the keys after a rule are of that rule
after_of_rule : (p : Program) (t : ℕ) → AreOfRule t (keys_after p t)
after_of_rule p t =
    all-has_key (λ k. k.rule ≡ t) (keys_after p t) (λ u i m. sym (keys_after-sound p t u i m).0)

-- the time of a rule is of that rule
pub time_of_rule : (t : ℕ) → AreOfRule t (time_key t ∷ [])
time_of_rule t = All-cons (λ (k : ResultVariable). k.rule ≡ t) (time_key t) [] refl (All-nil (λ (k : ResultVariable). k.rule ≡ t))

-- a number in the first of two lists is in both joined
in-left : (n : ℕ) (xs ys : List ℕ) → is_in n xs ≡ true → is_in n (xs ++ ys) ≡ true
in-left n [] ys m = absurd (no_is_not_yes false refl m)
in-left n (x ∷ xs) ys m =
    either (is_in-cases n x xs m)
    (λ e. or_left (n == x) (is_in n (xs ++ ys)) (subst (λ (k : ℕ). (n == k) ≡ true) e (same_number n)))
    (λ l. or_right (n == x) (is_in n (xs ++ ys)) (in-left n xs ys l))

-- a member of the second list is one of the appended list
in-right : (n : ℕ) (xs ys : List ℕ) → is_in n ys ≡ true → is_in n (xs ++ ys) ≡ true
in-right n [] ys m = m
in-right n (x ∷ xs) ys m = or_right (n == x) (is_in n (xs ++ ys)) (in-right n xs ys m)

-- a bound that is 0 is known
zero_known : (b : Bounds) (k : ResultVariable) → at_key b k ≡ Some (Constant 0) → IsKnown (at_key b k)
zero_known b k e = (Constant 0, e)

-- the derivations of infeasible rules are justified over no bounds
empties_justified : (q : Searches) (s : Setting) (right : AreRight q s) (ts : List ℕ)
    → ((t : ℕ) → is_in t ts ≡ true → IsRule s.program t) → (fs : List Derivation) → AreEmptyDerivations q ts fs
    → All (IsJustified s (bounds_of s.program [])) fs
empties_justified q s right [] rules fs h =
    subst (λ (xs : List Derivation). All (IsJustified s (bounds_of s.program [])) xs) (sym h)
    (All-nil (IsJustified s (bounds_of s.program [])))
empties_justified q s right (t ∷ ts) rules fs (m, shown, (rest, e, later)) =
    subst (λ (xs : List Derivation). All (IsJustified s (bounds_of s.program [])) xs) (sym e)
    (All-cons (IsJustified s (bounds_of s.program [])) (empty_derivation t m) rest (record {
      keys = refl;
      accepted = right.empty t (NoPoint m) (rules t (or_left (t == t) (is_in t ts) (same_number t))) shown;
      premises = refl;
      known = All-nil (λ (k : ResultVariable). IsKnown (at_key (bounds_of s.program []) k));
      bound = refl;
    })
    (empties_justified q s right ts (λ u k. rules u (or_right (u == t) (is_in u ts) k)) rest later))

module _ (q : Searches) (s : Setting) (fs : List Derivation) (h : AreFirst q s.program fs) where
  -- the infeasible rules; the unreached ones; and those of both whose target has places
  abbrev pub empty_ones : List ℕ
  empty_ones = filter h.is_empty (rule_numbers s.program)

  abbrev pub cut_ones : List ℕ
  cut_ones = filter (is_cut h.is_empty h.is_unreached) (rule_numbers s.program)

  abbrev pub sized_ones : List ℕ
  sized_ones = zeroed s.program h.is_empty h.is_unreached

  -- the keys of the times of infeasible rules
  abbrev pub dead_keys : List ResultVariable
  dead_keys = map time_key empty_ones

  abbrev pub cuts : List Derivation
  cuts = map (unreached_derivation dead_keys) cut_ones

  abbrev pub nevers : List Derivation
  nevers = map (never_derivation s.program) sized_ones

  -- an empty rule is one that the search says is empty
  empty_rule : (t : ℕ) → is_in t empty_ones ≡ true → IsRule s.program t × (h.is_empty t ≡ true)
  empty_rule t m =
      let kept = filter-in h.is_empty (rule_numbers s.program) t m in (in_rules s.program t kept.0, kept.1)

  -- each infeasible rule is among the listed ones
  empty_there : (t : ℕ) → IsRule s.program t → h.is_empty t ≡ true → is_in t empty_ones ≡ true
  empty_there t rule e =
      is_in-filter h.is_empty (rule_numbers s.program) t (rule_in s.program t rule.rule rule.numbered) e

  -- a rule that is cut off isn't empty, and is unreached
  pub cut_rule : (t : ℕ) → is_in t cut_ones ≡ true → IsRule s.program t × (h.is_empty t ≡ false) ×
      IsUnreached s.program (λ e. not (h.is_empty e)) t
  cut_rule t m =
      let kept = filter-in (is_cut h.is_empty h.is_unreached) (rule_numbers s.program) t m in
      let rule = in_rules s.program t kept.0 in
      let both = and_parts (not (h.is_empty t)) (h.is_unreached t) kept.1 in
      let live = not-true (h.is_empty t) both.0 in
      (rule, live, (h.unreached t rule live).0 both.1)

  -- a rule that never runs and whose target has places is infeasible or unreached
  pub sized_rule : (t : ℕ) → is_in t sized_ones ≡ true → IsRule s.program t × IsDead s.program h.is_empty t ×
      (is_in t (empty_ones ++ cut_ones) ≡ true)
  sized_rule t m = go (h.is_empty t) refl
    where
      placed : (is_in t (filter (is_dead h.is_empty h.is_unreached) (rule_numbers s.program)) ≡ true)
          × (has_places s.program (target_of s.program t) ≡ true)
      placed =
          filter-in (λ u. has_places s.program (target_of s.program u))
          (filter (is_dead h.is_empty h.is_unreached) (rule_numbers s.program)) t m

      kept : (is_in t (rule_numbers s.program) ≡ true) × (is_dead h.is_empty h.is_unreached t ≡ true)
      kept = filter-in (is_dead h.is_empty h.is_unreached) (rule_numbers s.program) t placed.0

      rule : IsRule s.program t
      rule = in_rules s.program t kept.0

      go : (v : Bool) → h.is_empty t ≡ v → IsRule s.program t × IsDead s.program h.is_empty t ×
          (is_in t (empty_ones ++ cut_ones) ≡ true)
      go true e = (rule, inl e, in-left t empty_ones cut_ones (empty_there t rule e))
      go false e =
          let out : h.is_unreached t ≡ true = rw e at kept.1 in (
            rule,
            inr ((h.unreached t rule e).0 out),
            in-right t empty_ones cut_ones
                (is_in-filter (is_cut h.is_empty h.is_unreached) (rule_numbers s.program) t kept.0
                (and_from (not (h.is_empty t)) (h.is_unreached t) (not_from_false (h.is_empty t) e) out)),
          )

  -- the derivations of infeasible rules state that their times are 0
  zero_empties : AreZeroTimesOf empty_ones h.empties
  zero_empties = empties_zero q empty_ones h.empties h.are_empties

  -- all times before the first round are 0
  pub zero_both : AreZeroTimesOf (empty_ones ++ cut_ones) (h.empties ++ cuts)
  zero_both =
      zero_times-append empty_ones cut_ones h.empties cuts zero_empties (unreached_zero dead_keys cut_ones)

  -- the rules of these lists ascend
  ascending : AscendFrom 1 (rule_numbers s.program)
  ascending = range_ascends 1 (length s.program.rules)

  -- after the derivations of infeasible rules their times are known to be 0
  empty_known : (t : ℕ) → is_in t empty_ones ≡ true → bounds_of s.program h.empties t 0 ≡ Some (Constant 0)
  empty_known t m =
      rule_bounds s.program h.empties t 0 (empty_rule t m).0 ∙ zero_found empty_ones h.empties zero_empties t m

  -- after the derivations of infeasible rules the times of unreached rules are missing
  cut_missing : (t : ℕ) → is_in t cut_ones ≡ true → bounds_of s.program h.empties t 0 ≡ None
  cut_missing t m =
      rule_bounds s.program h.empties t 0 (cut_rule t m).0
      ∙ zero_missing empty_ones h.empties zero_empties t 0
      (λ k place. no_is_not_yes (h.is_empty t) (cut_rule t m).1 (empty_rule t k).1)

  -- after all times before the first round that of each dead rule with places is 0
  dead_known : (t : ℕ) → is_in t sized_ones ≡ true → bounds_of s.program (h.empties ++ cuts) t 0 ≡ Some (Constant 0)
  dead_known t m =
      let rule = sized_rule t m in
      rule_bounds s.program (h.empties ++ cuts) t 0 rule.0
      ∙ zero_found (empty_ones ++ cut_ones) (h.empties ++ cuts) zero_both t rule.2

  -- after all times before the first round each size is missing
  size_missing : (t i : ℕ) → IsRule s.program t → 1 ≤ i → bounds_of s.program (h.empties ++ cuts) t i ≡ None
  size_missing t i rule low =
      rule_bounds s.program (h.empties ++ cuts) t i rule
      ∙ zero_missing (empty_ones ++ cut_ones) (h.empties ++ cuts) zero_both t i (λ k place. omega (arith, place, low))

  -- the derivations of infeasible rules are justified
  empties_first : AreRight q s → AreJustifiedAfter s [] h.empties
  empties_first right =
      justified_over s [] [] h.empties (begins_itself [])
      (empties_justified q s right empty_ones (λ t m. (empty_rule t m).0) h.empties h.are_empties)
      (fresh_by_rules s.program h.empties 1 []
      (zero_times_ascend 1 empty_ones h.empties (filter_ascends h.is_empty 1 (rule_numbers s.program) ascending)
      zero_empties)
      (zero_fresh (bounds_of s.program []) empty_ones h.empties zero_empties
      (λ t m. rule_bounds s.program [] t 0 (empty_rule t m).0)))

  -- an unreached rule isn't reached by rules that are left
  left_unreached : (t : ℕ) → IsUnreached s.program (λ e. not (h.is_empty e)) t
      → IsUnreached s.program (is_left dead_keys) t
  left_unreached t out r numbered way =
      out r numbered
      (path_on s.program h.is_empty (λ e. has_key dead_keys e 0)
      (λ e rule k. has_time_key empty_ones e (empty_there e rule k)) s.program.start r.source way)

  -- the derivation of an unreached rule is justified
  cut_justified : (t : ℕ) → is_in t cut_ones ≡ true → IsJustified s (bounds_of s.program h.empties) (unreached_derivation dead_keys t)
  cut_justified t m = record {
    keys = refl;
    accepted = (
      record {
        times = All-map (λ (k : ResultVariable). k.place ≡ 0) time_key empty_ones
            (of_each_in (λ (n : ℕ). ◌≡◌ {A = ℕ} 0 0) empty_ones (λ n l. refl));
        zero = All-map (λ (k : ResultVariable). bounds_of s.program h.empties k.rule 0 ≡ Some (Constant 0)) time_key empty_ones
            (of_each_in (λ (n : ℕ). bounds_of s.program h.empties n 0 ≡ Some (Constant 0)) empty_ones empty_known);
      },
      record { shape = (cut_rule t m).0; reached = left_unreached t (cut_rule t m).2 },
    );
    premises = tt;
    known = All-map (λ (k : ResultVariable). IsKnown (at_key (bounds_of s.program h.empties) k)) time_key empty_ones
        (of_each_in (λ (n : ℕ). IsKnown (bounds_of s.program h.empties n 0)) empty_ones
        (λ n l. (Constant 0, empty_known n l)));
    bound = refl;
  }

  -- the derivations of unreached rules are justified after those of infeasible ones
  cuts_first : AreJustifiedAfter s h.empties cuts
  cuts_first =
      justified_over s h.empties h.empties cuts (begins_itself h.empties)
      (All-map (IsJustified s (bounds_of s.program h.empties)) (unreached_derivation dead_keys) cut_ones
      (of_each_in (λ (t : ℕ). IsJustified s (bounds_of s.program h.empties) (unreached_derivation dead_keys t)) cut_ones
      cut_justified))
      (fresh_by_rules s.program cuts 1 h.empties
      (zero_times_ascend 1 cut_ones cuts
      (filter_ascends (is_cut h.is_empty h.is_unreached) 1 (rule_numbers s.program) ascending)
      (unreached_zero dead_keys cut_ones))
      (zero_fresh (bounds_of s.program h.empties) cut_ones cuts (unreached_zero dead_keys cut_ones) cut_missing))

  -- the derivation of the sizes after a dead rule is justified
  never_stands : (t : ℕ) → is_in t sized_ones ≡ true
      → IsJustified s (bounds_of s.program (h.empties ++ cuts)) (never_derivation s.program t)
  never_stands t m = record {
    keys = refl;
    accepted = record { rule = (sized_rule t m).0; zero = dead_known t m };
    premises = refl;
    known = All-cons (λ (k : ResultVariable). IsKnown (at_key (bounds_of s.program (h.empties ++ cuts)) k)) (time_key t) []
        (Constant 0, dead_known t m)
        (All-nil (λ (k : ResultVariable). IsKnown (at_key (bounds_of s.program (h.empties ++ cuts)) k)));
    bound = refl;
  }

  -- the keys of the sizes after a dead rule are unknown before their derivation
  never_fresh : (t : ℕ) → is_in t sized_ones ≡ true
      → AreFresh (bounds_of s.program (h.empties ++ cuts)) (keys_after s.program t)
  never_fresh t m =
      all-has_key (λ (k : ResultVariable). at_key (bounds_of s.program (h.empties ++ cuts)) k ≡ None) (keys_after s.program t)
      each
    where
      each : (u i : ℕ) → has_key (keys_after s.program t) u i ≡ true
          → bounds_of s.program (h.empties ++ cuts) u i ≡ None
      each u i k =
          let here = keys_after-sound s.program t u i k in
          size_missing u i (subst (λ (n : ℕ). IsRule s.program n) here.0 (sized_rule t m).0) here.1.least

  -- the derivations of sizes are justified last
  nevers_first : AreJustifiedAfter s (h.empties ++ cuts) nevers
  nevers_first =
      justified_over s (h.empties ++ cuts) (h.empties ++ cuts) nevers (begins_itself (h.empties ++ cuts))
      (All-map (IsJustified s (bounds_of s.program (h.empties ++ cuts))) (never_derivation s.program) sized_ones
      (of_each_in (λ (t : ℕ). IsJustified s (bounds_of s.program (h.empties ++ cuts)) (never_derivation s.program t)) sized_ones
      never_stands))
      (fresh_by_rules s.program nevers 1 (h.empties ++ cuts)
      (made_ascend (never_derivation s.program) (after_of_rule s.program) 1 sized_ones
      (filter_ascends (λ t. has_places s.program (target_of s.program t)) 1
      (filter (is_dead h.is_empty h.is_unreached) (rule_numbers s.program))
      (filter_ascends (is_dead h.is_empty h.is_unreached) 1 (rule_numbers s.program) ascending)))
      (All-map (λ (f : Derivation). AreFresh (bounds_of s.program (h.empties ++ cuts)) f.keys) (never_derivation s.program)
      sized_ones
      (of_each_in (λ (t : ℕ). AreFresh (bounds_of s.program (h.empties ++ cuts)) (keys_after s.program t)) sized_ones
      never_fresh)))

  -- the derivations before the first round are justified
  pub first_justified : AreRight q s → AreJustifiedAfter s [] fs
  first_justified right =
      subst (λ (xs : List Derivation). AreJustifiedAfter s [] xs) (sym h.in_order)
      (stand-append s [] h.empties (cuts ++ nevers) (empties_first right)
      (stand-append s h.empties cuts nevers cuts_first nevers_first))
