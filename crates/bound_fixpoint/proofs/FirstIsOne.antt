-- If each search has at most one answer, there is at most one list of derivations before the first round.
use Rattle.std.proofs.Common.{◌≡◌, ℕ, ◌==◌, Bool, true, false, List, [], ◌∷◌, ◌++◌, filter, map}
use Rattle.std.proofs.Common.{refl, sym, ◌∙◌, ap, subst}
use Rattle.std.proofs.lemmas.Bool.{or_left, or_right}
use Rattle.rule_questions.specs.model.Entries.{is_in}
use Rattle.rule_questions.specs.model.Paths.{target_of}
use Rattle.rule_questions.specs.model.Programs.{Program}
use Rattle.rule_questions.proofs.model.Cases.{same_tests}
use Rattle.rule_questions.proofs.model.Membership.{same_number}
use Rattle.rule_questions.specs.cert_rules.AcceptsPlain.{IsRule}
use Rattle.bound_fixpoint.specs.Keys.{rule_numbers, time_key}
use Rattle.bound_fixpoint.specs.Derivations.{Derivation}
use Rattle.bound_fixpoint.specs.Searches.{Searches, NoPoint}
use Rattle.bound_fixpoint.specs.Beginning.{empty_derivation, unreached_derivation, never_derivation, AreEmptyDerivations, has_places, is_cut}
use Rattle.bound_fixpoint.specs.Beginning.{is_dead, zeroed, AreFirst}
use Rattle.bound_fixpoint.specs.Right.{AreOne}
use Rattle.bound_fixpoint.proofs.RuleNumbers.{in_rules}
use Rattle.bound_fixpoint.proofs.DeadRules.{path_on}

-- two tests that agree on a list filter it alike
filter-same : (f g : ℕ → Bool) (ns : List ℕ) → ((n : ℕ) → is_in n ns ≡ true → f n ≡ g n) → filter f ns ≡ filter g ns
filter-same f g [] h = refl
filter-same f g (n ∷ ns) h = go (f n) refl (filter-same f g ns (λ m i. h m (or_right (m == n) (is_in m ns) i)))
  where
    there : f n ≡ g n
    there = h n (or_left (n == n) (is_in n ns) (same_number n))

    go : (v : Bool) → f n ≡ v → filter f ns ≡ filter g ns → filter f (n ∷ ns) ≡ filter g (n ∷ ns)
    go true e rest = rw (e, sym there ∙ e) (ap (λ (ms : List ℕ). n ∷ ms) rest)
    go false e rest = rw (e, sym there ∙ e) rest

no_point_one : (xs ys : List ℕ) → NoPoint xs ≡ NoPoint ys → xs ≡ ys
no_point_one xs ys e = cc

-- there is at most one list of derivations of infeasible rules
empties_one : (q : Searches) → AreOne q → (ts : List ℕ) (x y : List Derivation) → AreEmptyDerivations q ts x → AreEmptyDerivations q ts y
    → x ≡ y
empties_one q one [] x y h k = h ∙ sym k
empties_one q one (t ∷ ts) x y h k =
    let same = no_point_one h.0 k.0 (one.empties t (NoPoint h.0) (NoPoint k.0) h.1 k.1) in
    let rest = empties_one q one ts h.2.0 k.2.0 h.2.2 k.2.2 in
    h.2.1 ∙ (ap (λ (m : List ℕ). empty_derivation t m ∷ h.2.0) same
    ∙ (ap (λ (fs : List Derivation). empty_derivation t k.0 ∷ fs) rest ∙ sym k.2.1))

-- the initial list: the derivations of the infeasible rules, one for each unreached feasible rule, and one for each
-- dead rule whose target has places
abbrev joined : Program → List Derivation → List ℕ → List ℕ → List ℕ → List Derivation
joined p empties dead cut zeros = empties
    ++ (map (unreached_derivation (map time_key dead)) cut ++ map (never_derivation p) zeros)

module _ (q : Searches) (one : AreOne q) (p : Program) (x y : List Derivation) (h : AreFirst q p x) (k : AreFirst q p y) where
  -- the same rules are infeasible
  same_empty : (t : ℕ) → IsRule p t → h.is_empty t ≡ k.is_empty t
  same_empty t rule =
      same_tests (h.is_empty t) (k.is_empty t) (λ e. (k.empty t rule).1 ((h.empty t rule).0 e))
      (λ e. (h.empty t rule).1 ((k.empty t rule).0 e))

  -- among the feasible rules the same ones are unreached
  same_unreached : (t : ℕ) → IsRule p t → h.is_empty t ≡ false → h.is_unreached t ≡ k.is_unreached t
  same_unreached t rule e =
      let here = h.unreached t rule e in
      let there = k.unreached t rule (sym (same_empty t rule) ∙ e) in
      same_tests (h.is_unreached t) (k.is_unreached t)
      (λ u. there.1 (λ r n way. here.0 u r n (path_on p h.is_empty k.is_empty (λ m s f. sym (same_empty m s) ∙ f)
      p.start r.source way)))
      (λ u. here.1 (λ r n way. there.0 u r n (path_on p k.is_empty h.is_empty (λ m s f. same_empty m s ∙ f)
      p.start r.source way)))

  same_cut : (t : ℕ) → IsRule p t → is_cut h.is_empty h.is_unreached t ≡ is_cut k.is_empty k.is_unreached t
  same_cut t rule = go (h.is_empty t) refl
    where
      go : (v : Bool) → h.is_empty t ≡ v → is_cut h.is_empty h.is_unreached t ≡ is_cut k.is_empty k.is_unreached t
      go true e = rw (e, sym (same_empty t rule) ∙ e) refl
      go false e = rw (e, sym (same_empty t rule) ∙ e) (same_unreached t rule e)

  same_dead : (t : ℕ) → IsRule p t → is_dead h.is_empty h.is_unreached t ≡ is_dead k.is_empty k.is_unreached t
  same_dead t rule = go (h.is_empty t) refl
    where
      go : (v : Bool) → h.is_empty t ≡ v → is_dead h.is_empty h.is_unreached t ≡ is_dead k.is_empty k.is_unreached t
      go true e = rw (e, sym (same_empty t rule) ∙ e) refl
      go false e = rw (e, sym (same_empty t rule) ∙ e) (same_unreached t rule e)

  -- the initial list is unique
  pub first_one : x ≡ y
  first_one =
      h.in_order ∙ (ap (λ (fs : List Derivation). joined p fs (filter h.is_empty (rule_numbers p))
      (filter (is_cut h.is_empty h.is_unreached) (rule_numbers p)) (zeroed p h.is_empty h.is_unreached)) derivations
      ∙ (ap (λ (ts : List ℕ). joined p k.empties ts
      (filter (is_cut h.is_empty h.is_unreached) (rule_numbers p)) (zeroed p h.is_empty h.is_unreached)) empty
      ∙ (ap (λ (ts : List ℕ). joined p k.empties (filter k.is_empty (rule_numbers p)) ts
      (zeroed p h.is_empty h.is_unreached)) cut
      ∙ (ap (λ (ts : List ℕ). joined p k.empties (filter k.is_empty (rule_numbers p))
      (filter (is_cut k.is_empty k.is_unreached) (rule_numbers p)) ts) zeros ∙ sym k.in_order))))
    where
      empty : filter h.is_empty (rule_numbers p) ≡ filter k.is_empty (rule_numbers p)
      empty = filter-same h.is_empty k.is_empty (rule_numbers p) (λ t i. same_empty t (in_rules p t i))

      derivations : h.empties ≡ k.empties
      derivations =
          empties_one q one (filter k.is_empty (rule_numbers p)) h.empties k.empties
          (subst (λ (ts : List ℕ). AreEmptyDerivations q ts h.empties) empty h.are_empties) k.are_empties

      cut : filter (is_cut h.is_empty h.is_unreached) (rule_numbers p)
          ≡ filter (is_cut k.is_empty k.is_unreached) (rule_numbers p)
      cut =
          filter-same (is_cut h.is_empty h.is_unreached) (is_cut k.is_empty k.is_unreached) (rule_numbers p)
          (λ t i. same_cut t (in_rules p t i))

      zeros : zeroed p h.is_empty h.is_unreached ≡ zeroed p k.is_empty k.is_unreached
      zeros =
          ap (λ (ts : List ℕ). filter (λ t. has_places p (target_of p t)) ts)
          (filter-same (is_dead h.is_empty h.is_unreached) (is_dead k.is_empty k.is_unreached) (rule_numbers p)
          (λ t i. same_dead t (in_rules p t i)))
