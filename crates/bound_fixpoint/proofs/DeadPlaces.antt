-- A place after a rule that never runs has its size before the first round.
use Rattle.std.proofs.Common.{◌≡◌, inl, inr, ℕ, zero, suc, ◌<◌, true, false, List, [], ◌∷◌, ◌++◌, filter, map, Option}
use Rattle.std.proofs.Common.{None}
use Rattle.std.proofs.Common.{refl, sym, ◌∙◌, subst, arith}
use Rattle.std.specs.Prelude.{nat_lt}
use Rattle.std.proofs.lemmas.List.{append_assoc}
use Rattle.rule_questions.specs.model.Programs.{Program, arity_of}
use Rattle.rule_questions.specs.model.Bounds.{Constant}
use Rattle.rule_questions.specs.model.Entries.{is_in}
use Rattle.rule_questions.specs.model.Paths.{target_of}
use Rattle.rule_questions.proofs.model.Cases.{some_none}
use Rattle.rule_questions.proofs.model.Membership.{is_in-cases, is_in-filter, no_is_not_yes}
use Rattle.rule_questions.specs.cert_rules.Nodes.{ResultVariable}
use Rattle.rule_questions.specs.cert_rules.AcceptsPlain.{IsRule, places_at}
use Rattle.rule_questions.specs.cert_rules.Setting.{Setting}
use Rattle.bound_fixpoint.specs.Keys.{IsPlace, key, has_key, rule_numbers}
use Rattle.bound_fixpoint.specs.Derivations.{Derivation, keys_after, bound_found, bounds_of}
use Rattle.bound_fixpoint.specs.Searches.{Searches}
use Rattle.bound_fixpoint.specs.Components.{IsDead, AreComponentsOf}
use Rattle.bound_fixpoint.specs.Beginning.{never_derivation, has_places, is_dead, zeroed, AreFirst}
use Rattle.bound_fixpoint.specs.Rounds.{IsMade, Begun, Made}
use Rattle.bound_fixpoint.proofs.Cases.{either, by_cases}
use Rattle.bound_fixpoint.proofs.Keys.{has_key-first, has_key-later}
use Rattle.bound_fixpoint.proofs.DerivationLists.{bounds_of-missing, found-here, found-later}
use Rattle.bound_fixpoint.proofs.MissingBounds.{missing_before}
use Rattle.bound_fixpoint.proofs.RuleNumbers.{rule_in, place_in}
use Rattle.bound_fixpoint.proofs.DeadRules.{dead_by}
use Rattle.bound_fixpoint.proofs.FirstDerivationsAreJustified.{cuts, nevers}

-- a listed place i has its key (t, i) among the keys of the list
has_place_key : (t : ℕ) (js : List ℕ) (i : ℕ) → is_in i js ≡ true → has_key (map (λ j. key t j) js) t i ≡ true
has_place_key t [] i m = absurd (no_is_not_yes false refl m)
has_place_key t (j ∷ js) i m =
    either (is_in-cases i j js m)
    (λ e. subst (λ (n : ℕ). has_key (key t j ∷ map (λ x. key t x) js) t n ≡ true) (sym e)
    (has_key-first (key t j) (map (λ x. key t x) js)))
    (λ l. has_key-later (key t j) (map (λ x. key t x) js) t i (has_place_key t js i l))

-- a place after a rule is among the keys of its places
has_key_after : (p : Program) (t i : ℕ) → IsPlace p t i → has_key (keys_after p t) t i ≡ true
has_key_after p t i place = has_place_key t (places_at p (target_of p t)) i (place_in p t i place)

-- if rule t has a result variable, its target symbol has places
placed : (p : Program) (t i : ℕ) → IsPlace p t i → has_places p (target_of p t) ≡ true
placed p t i place =
    subst (λ (o : Option ℕ). has_places p o ≡ true) (sym place.target)
    (below (arity_of p place.symbol) (omega (arith, place.least, place.last)))
  where
    below : (n : ℕ) → 0 < n → nat_lt 0 n ≡ true
    below zero low = absurd (omega (arith, low))
    below (suc n) low = grind arith

-- the `never` derivations of the rules ts bound every result variable of these rules
never_found : (p : Program) (ts : List ℕ) (t i : ℕ) → is_in t ts ≡ true → IsPlace p t i
    → bound_found (map (never_derivation p) ts) t i ≡ None → ⊥
never_found p [] t i m place e = no_is_not_yes false refl m
never_found p (u ∷ ts) t i m place e =
    by_cases (has_key (keys_after p u) t i) here (later (λ l n. never_found p ts t i l place n))
  where
    here : has_key (keys_after p u) t i ≡ true → ⊥
    here k = some_none (Constant 0) (sym (found-here (never_derivation p u) (map (never_derivation p) ts) t i k) ∙ e)

    later : (is_in t ts ≡ true → bound_found (map (never_derivation p) ts) t i ≡ None → ⊥)
        → has_key (keys_after p u) t i ≡ false → ⊥
    later rest k =
        either (is_in-cases t u ts m)
        (λ same. no_is_not_yes (has_key (keys_after p u) t i) k
        (subst (λ (n : ℕ). has_key (keys_after p n) t i ≡ true) same (has_key_after p t i place)))
        (λ l. rest l (sym (found-later (never_derivation p u) (map (never_derivation p) ts) t i k) ∙ e))

module _ (q : Searches) (s : Setting) where
  -- in the initial list every result variable of a dead rule has its bound
  first_known : (fs : List Derivation) (h : AreFirst q s.program fs) → (t i : ℕ) → IsRule s.program t → IsPlace s.program t i
      → is_dead h.is_empty h.is_unreached t ≡ true → bounds_of s.program fs t i ≡ None → ⊥
  first_known fs h t i rule place dead missing =
      let parts = subst (λ (xs : List Derivation). bounds_of s.program xs t i ≡ None) h.in_order missing in
      let others = bounds_of-missing s.program (h.empties ++ cuts q s fs h) (nevers q s fs h) t i
      (subst (λ (xs : List Derivation). bounds_of s.program xs t i ≡ None)
      (sym (append_assoc h.empties (cuts q s fs h) (nevers q s fs h))) parts) in
      never_found s.program (zeroed s.program h.is_empty h.is_unreached) t i among place others.1
    where
      among : is_in t (zeroed s.program h.is_empty h.is_unreached) ≡ true
      among =
          is_in-filter (λ u. has_places s.program (target_of s.program u))
          (filter (is_dead h.is_empty h.is_unreached) (rule_numbers s.program)) t
          (is_in-filter (is_dead h.is_empty h.is_unreached) (rule_numbers s.program) t
          (rule_in s.program t rule.rule rule.numbered) dead) (placed s.program t i place)

  -- a dead rule is marked dead by the initial derivations
  dead_marked : (fs : List Derivation) (h : AreFirst q s.program fs) → (t : ℕ) → IsRule s.program t
      → IsDead s.program h.is_empty t → is_dead h.is_empty h.is_unreached t ≡ true
  dead_marked fs h t rule dead = by_cases (h.is_empty t) (λ e. rw e refl) (λ e. rw e (live e dead))
    where
      live : h.is_empty t ≡ false → IsDead s.program h.is_empty t → h.is_unreached t ≡ true
      live e (inl k) = absurd (no_is_not_yes (h.is_empty t) e k)
      live e (inr out) = (h.unreached t rule e).1 out

  module _ (cs : List (List ResultVariable)) (are : AreComponentsOf q s.program cs) where
    -- a rule with a result variable that has no bound after some rounds isn't dead
    pub missing_live : (fs : List Derivation) → IsMade q s fs → (t i : ℕ) → IsRule s.program t → IsPlace s.program t i
        → bounds_of s.program fs t i ≡ None → ¬ (IsDead s.program are.is_empty t)
    missing_live fs (Begun h) t i rule place missing dead =
        first_known fs h t i rule place
        (dead_marked fs h t rule (dead_by s.program are.is_empty h.is_empty
        (λ e is k. (h.empty e is).1 ((are.empty e is).0 k)) t rule dead)) missing
    missing_live fs (Made {fs = old} {more = more} m n) t i rule place missing dead =
        missing_live old m t i rule place (missing_before s.program old more t i missing) dead
