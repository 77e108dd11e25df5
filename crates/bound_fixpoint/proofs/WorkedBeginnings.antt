-- The derivations before the first round on small programs, and which of them are justified.
use Rattle.std.proofs.Common.{◌≡◌, ◌↔◌, inr, ℕ, zero, suc, Bool, not, true, false, List, [], ◌∷◌, length, Some, None}
use Rattle.std.proofs.Common.{refl}
use Rattle.std.proofs.Common.{ap, subst, arith}
use Rattle.std.proofs.lemmas.List.Elements.{All-nil, All-cons}
use Rattle.rule_questions.specs.model.Programs.{Rule}
use Rattle.rule_questions.specs.model.Bounds.{Constant}
use Rattle.rule_questions.specs.cert_rules.AcceptsPlain.{IsRule, IsUnreached}
use Rattle.rule_questions.specs.cert_rules.Worked.{once_time}
use Rattle.rule_questions.specs.cert_rules.WorkedSettings.{apart, counting, stuck, two_ways_in}
use Rattle.rule_questions.proofs.cert_rules.WorkedAccepted.{plain_nodes}
use Rattle.rule_questions.proofs.cert_rules.ReachTests.{decides-unreached}
use Rattle.bound_fixpoint.specs.Keys.{Bounds, key, time_key}
use Rattle.bound_fixpoint.specs.Derivations.{Derivation, bounds_of}
use Rattle.bound_fixpoint.specs.Searches.{searches_of, NoPoint, HasPoint}
use Rattle.bound_fixpoint.specs.Components.{IsEmpty}
use Rattle.bound_fixpoint.specs.Beginning.{empty_derivation, unreached_derivation, never_derivation, AreFirst}
use Rattle.bound_fixpoint.specs.Justification.{IsJustified, AreJustified}
use Rattle.bound_fixpoint.specs.WorkedDerivations.{once_derivation}
use Rattle.bound_fixpoint.specs.WorkedFirst.{cut_off, no_answers}
use Rattle.bound_fixpoint.specs.WorkedBeginnings.{first_two_empty, second_empty, empty_answers, six_derivations, six_on_one}
use Rattle.bound_fixpoint.specs.WorkedBeginnings.{leaving, BeginningsAreWorkedOut, EmptyDerivationsAreWorkedOut}
use Rattle.bound_fixpoint.proofs.Cases.{false_true, true_false}
use Rattle.bound_fixpoint.proofs.DerivationLists.{bounds_of-kept}
use Rattle.bound_fixpoint.proofs.FirstIsOne.{first_one}
use Rattle.bound_fixpoint.proofs.DerivationsAreOne.{answers_one}
use Rattle.bound_fixpoint.proofs.WorkedComponents as counted
use Rattle.bound_fixpoint.proofs.WorkedCutOff.{on_empty, not_before_empty, not_on_nothing}
use Rattle.bound_fixpoint.proofs.WorkedUnreached.{no_rule_0, no_rule_3, reached, IsKnownIn, IsNew, first_over}

-- the numbers for which the test succeeds
abbrev are_two : ℕ → Bool
are_two zero = false
are_two (suc zero) = true
are_two (suc (suc zero)) = true
are_two (suc (suc (suc t))) = false

abbrev is_first : ℕ → Bool
is_first zero = false
is_first (suc zero) = true
is_first (suc (suc t)) = false

abbrev is_second : ℕ → Bool
is_second zero = false
is_second (suc zero) = false
is_second (suc (suc zero)) = true
is_second (suc (suc (suc t))) = false

abbrev is_third : ℕ → Bool
is_third zero = false
is_third (suc zero) = false
is_third (suc (suc zero)) = false
is_third (suc (suc (suc zero))) = true
is_third (suc (suc (suc (suc t)))) = false

-- no rule has number 0, and there are three
no_entry_rule : IsRule two_ways_in 0 → ⊥
no_entry_rule h = none h.rule h.numbered
  where
    none : (r : Rule) → None ≡ Some r → ⊥
    none r e = cc

no_fourth : (t : ℕ) → IsRule two_ways_in (suc (suc (suc (suc t)))) → ⊥
no_fourth t h = none h.rule h.numbered
  where
    none : (r : Rule) → None ≡ Some r → ⊥
    none r e = cc

-- if neither entry is allowed, no path leads to l
cut : IsUnreached two_ways_in (λ e. not (are_two e)) 3
cut = (decides-unreached two_ways_in (λ e. not (are_two e)) 3).0 refl

-- a rule with a point isn't infeasible, and neither is one whose question hits a limit
pointed : (m : List ℕ) → HasPoint (record { parts = []; den = 1 }) ≡ NoPoint m → ⊥
pointed m e = cc

two_empty : AreFirst (searches_of (empty_answers first_two_empty)) two_ways_in six_derivations
two_empty = record {
  is_empty = are_two;
  empty = empty;
  is_unreached = is_third;
  unreached = out;
  empties = empty_derivation 1 [] ∷ empty_derivation 2 [] ∷ [];
  are_empties = ([], refl, (empty_derivation 2 [] ∷ [], refl, ([], refl, ([], refl, refl))));
  in_order = refl;
}
  where
    empty : (t : ℕ) → IsRule two_ways_in t → (are_two t ≡ true) ↔ IsEmpty (searches_of (empty_answers first_two_empty)) t
    empty zero rule = absurd (no_entry_rule rule)
    empty (suc zero) rule = (λ e. record { multipliers = []; shown = refl }, λ h. refl)
    empty (suc (suc zero)) rule = (λ e. record { multipliers = []; shown = refl }, λ h. refl)
    empty (suc (suc (suc t))) rule = (λ e. absurd (false_true e), λ h. absurd (pointed h.multipliers h.shown))

    out : (t : ℕ) → IsRule two_ways_in t → are_two t ≡ false
        → (is_third t ≡ true) ↔ IsUnreached two_ways_in (λ e. not (are_two e)) t
    out zero rule e = absurd (no_entry_rule rule)
    out (suc zero) rule e = absurd (true_false e)
    out (suc (suc zero)) rule e = absurd (true_false e)
    out (suc (suc (suc zero))) rule e = (λ x. cut, λ u. refl)
    out (suc (suc (suc (suc t)))) rule e = absurd (no_fourth t rule)

empty_alone : AreFirst (searches_of (empty_answers second_empty)) apart.program
    (empty_derivation 2 [] ∷ never_derivation apart.program 2 ∷ [])
empty_alone = record {
  is_empty = is_second;
  empty = empty;
  is_unreached = λ t. false;
  unreached = out;
  empties = empty_derivation 2 [] ∷ [];
  are_empties = ([], refl, ([], refl, refl));
  in_order = refl;
}
  where
    empty : (t : ℕ) → IsRule apart.program t → (is_second t ≡ true) ↔ IsEmpty (searches_of (empty_answers second_empty)) t
    empty zero rule = absurd (no_rule_0 rule)
    empty (suc zero) rule = (λ e. absurd (false_true e), λ h. absurd (pointed h.multipliers h.shown))
    empty (suc (suc zero)) rule = (λ e. record { multipliers = []; shown = refl }, λ h. refl)
    empty (suc (suc (suc t))) rule = absurd (no_rule_3 t rule)

    out : (t : ℕ) → IsRule apart.program t → is_second t ≡ false
        → (false ≡ true) ↔ IsUnreached apart.program (λ e. not (is_second e)) t
    out zero rule e = absurd (no_rule_0 rule)
    out (suc zero) rule e = (λ x. absurd (false_true x), λ u. absurd (reached (λ n. not (is_second n)) u))
    out (suc (suc zero)) rule e = absurd (true_false e)
    out (suc (suc (suc t))) rule e = absurd (no_rule_3 t rule)

hit_limit : AreFirst (searches_of no_answers) counting.program []
hit_limit = record {
  is_empty = λ t. false;
  empty = λ t rule. (λ e. absurd (false_true e), λ h. absurd (not_empty t h.multipliers h.shown));
  is_unreached = λ t. false;
  unreached = λ t rule e. (λ u. absurd (false_true u), λ u. absurd (counted.alive t rule (inr u)));
  empties = [];
  are_empties = refl;
  in_order = refl;
}
  where
    not_empty : (t : ℕ) (m : List ℕ) → no_answers.empty t ≡ NoPoint m → ⊥
    not_empty t m e = cc

-- the program without a place at l has one rule
no_rule_before : IsRule leaving 0 → ⊥
no_rule_before h = none h.rule h.numbered
  where
    none : (r : Rule) → None ≡ Some r → ⊥
    none r e = cc

no_rule_after : (t : ℕ) → IsRule leaving (suc (suc t)) → ⊥
no_rule_after t h = none h.rule h.numbered
  where
    none : (r : Rule) → None ≡ Some r → ⊥
    none r e = cc

no_place : AreFirst (searches_of cut_off) leaving (empty_derivation 1 [] ∷ [])
no_place = record {
  is_empty = is_first;
  empty = empty;
  is_unreached = λ t. false;
  unreached = out;
  empties = empty_derivation 1 [] ∷ [];
  are_empties = ([], refl, ([], refl, refl));
  in_order = refl;
}
  where
    empty : (t : ℕ) → IsRule leaving t → (is_first t ≡ true) ↔ IsEmpty (searches_of cut_off) t
    empty zero rule = absurd (no_rule_before rule)
    empty (suc zero) rule = (λ e. record { multipliers = []; shown = refl }, λ h. refl)
    empty (suc (suc t)) rule = absurd (no_rule_after t rule)

    out : (t : ℕ) → IsRule leaving t → is_first t ≡ false
        → (false ≡ true) ↔ IsUnreached leaving (λ e. not (is_first e)) t
    out zero rule e = absurd (no_rule_before rule)
    out (suc zero) rule e = absurd (true_false e)
    out (suc (suc t)) rule e = absurd (no_rule_after t rule)

-- how many premises the third derivation has
abbrev third_premises : List Derivation → ℕ
third_premises [] = 0
third_premises (f ∷ []) = 0
third_premises (f ∷ g ∷ []) = 0
third_premises (f ∷ g ∷ h ∷ fs) = length h.premises

pub beginnings_worked : BeginningsAreWorkedOut
beginnings_worked = record {
  two_empty = two_empty;
  not_on_one = λ h. on_one (first_one (searches_of (empty_answers first_two_empty))
      (answers_one (empty_answers first_two_empty)) two_ways_in six_on_one six_derivations h two_empty);
  lemmas = refl;
  empty_alone = empty_alone;
  not_both = λ h. both (first_one (searches_of (empty_answers second_empty)) (answers_one (empty_answers second_empty))
      apart.program (empty_derivation 2 [] ∷ unreached_derivation (time_key 2 ∷ []) 2 ∷ never_derivation apart.program 2 ∷ [])
      (empty_derivation 2 [] ∷ never_derivation apart.program 2 ∷ []) h empty_alone);
  hit_limit = hit_limit;
  no_place = no_place;
  not_without_place = λ h. without (first_one (searches_of cut_off) (answers_one cut_off) leaving
      (empty_derivation 1 [] ∷ never_derivation leaving 1 ∷ []) (empty_derivation 1 [] ∷ []) h no_place);
}
  where
    on_one : six_on_one ≡ six_derivations → ⊥
    on_one e = let n : ◌≡◌ {A = ℕ} 1 2 = ap third_premises e in omega (arith, n)

    both : empty_derivation 2 [] ∷ unreached_derivation (time_key 2 ∷ []) 2 ∷ never_derivation apart.program 2 ∷ []
        ≡ empty_derivation 2 [] ∷ never_derivation apart.program 2 ∷ [] → ⊥
    both e = let n : ◌≡◌ {A = ℕ} 3 2 = ap length e in omega (arith, n)

    without : empty_derivation 1 [] ∷ never_derivation leaving 1 ∷ [] ≡ empty_derivation 1 [] ∷ [] → ⊥
    without e = let n : ◌≡◌ {A = ℕ} 2 1 = ap length e in omega (arith, n)

-- the bounds of the program with an infeasible rule
abbrev known_with : List Derivation → Bounds
known_with fs = bounds_of stuck.program fs

empty_justified : IsJustified stuck (known_with []) (empty_derivation 2 (1 ∷ 1 ∷ []))
empty_justified = record {
  keys = refl;
  accepted = plain_nodes.empty;
  premises = refl;
  known = All-nil (IsKnownIn (known_with []));
  bound = refl;
}

abbrev after_empty : Bounds
after_empty = known_with (empty_derivation 2 (1 ∷ 1 ∷ []) ∷ [])

never_stands : IsJustified stuck after_empty (never_derivation stuck.program 2)
never_stands = record {
  keys = refl;
  accepted = record { rule = plain_nodes.empty.shape.rule; zero = refl };
  premises = refl;
  known = All-cons (IsKnownIn after_empty) (time_key 2) [] (Constant 0, refl) (All-nil (IsKnownIn after_empty));
  bound = refl;
}

stand : AreJustified stuck (empty_derivation 2 (1 ∷ 1 ∷ []) ∷ never_derivation stuck.program 2 ∷ [])
stand = record {
  each = (
    record {
      before = [];
      begins = record { between = []; same = refl };
      stands = empty_justified;
      fresh = All-cons (IsNew (known_with [])) (time_key 2) [] refl (All-nil (IsNew (known_with [])));
    },
    (
      record {
        before = empty_derivation 2 (1 ∷ 1 ∷ []) ∷ [];
        begins = record { between = []; same = refl };
        stands = never_stands;
        fresh = All-cons (IsNew after_empty) (key 2 1) [] refl (All-nil (IsNew after_empty));
      },
      tt,
    ),
  );
}

-- the time of rule 1, which isn't 0, isn't known to be 0 over any prefix
not_running : AreJustified counting (once_derivation ∷ never_derivation counting.program 1 ∷ []) → ⊥
not_running h =
    let a = h.each.1.0 in
    other (subst (λ (fs : List Derivation). bounds_of counting.program fs 1 0 ≡ Some (Constant 0)) a.begins.same
    (bounds_of-kept counting.program a.before a.begins.between 1 0 (Constant 0) a.stands.accepted.zero))
  where
    other : Some once_time ≡ Some (Constant 0) → ⊥
    other e = cc

pub empty_worked : EmptyDerivationsAreWorkedOut
empty_worked = record {
  stand = stand;
  not_shown = λ h. plain_nodes.not_empty (first_over stuck (empty_derivation 2 (1 ∷ 0 ∷ [])) [] h).accepted;
  not_running = not_running;
  on_empty = on_empty;
  not_before_empty = not_before_empty;
  not_on_nothing = not_on_nothing;
}
