-- Worked values of claims on a small program by lemmas about the program that a section spells, and of which are
-- accepted.
use Rattle.std.specs.Prelude.{◌≡◌, ℕ, List, [], ◌∷◌, pos, Some, None}
use Rattle.model.specs.Terms.{Variable, Literal, Negation}
use Rattle.model.specs.Programs.{Program}
use Rattle.model.specs.Bounds as plain_bounds
use Rattle.model.specs.Facts as plain_facts
use Rattle.model.specs.WorkedRuns.{countdown, entry_alone}
use Rattle.model.specs.WorkedCosts.{paying}
use Rattle.refinement.specs.Sections.{Copy, spelled}
use Rattle.refinement.specs.Laws.{same_numbers}
use Rattle.refinement.specs.Worked.{less, entry_copy, split_by_sign}
use Rattle.signed_bounds.specs.Bounds.{Signed, Constant, PositivePart, SumOf, MaximumOf, NoParts, Part}
use Rattle.signed_bounds.specs.Inputs.{absolute_value}
use Rattle.potential_nodes.specs.Facts.{SignedFact, SumFact, PeakFact, SizeFact, one_form}
use Rattle.potential_nodes.specs.PlainFacts.{signed_fact}
use Rattle.program_claims.specs.Claims.{Claim, ByOne, ByEach, OnTime, OnCost, OnTotal, OnAbove, OnBelow, OnSymbol}
use Rattle.program_claims.specs.Claims.{Stated, Time, Cost, Total, Above, Below, AtSymbol}
use Rattle.program_claims.specs.Copies.{charge_by}
use Rattle.program_claims.specs.Evidence.{Evidence, by_section, by_itself}
use Rattle.program_claims.specs.Verdicts.{NoRule, NoCost, NoPlace, NoCopy, NoFact, BadLemma, LowBound}
use Rattle.program_claims.specs.Verdicts.{Verdict, Accepted, Refused}
use Rattle.program_claims.specs.Acceptance.{stated_by, first_refused, all_stated}
use Rattle.program_claims.specs.Worked.{a_form, b_form}

-- Lemmas about the spelled program: entering, by two copies of rule 1, takes one step; looping, by one copy of rule 2,
-- at most 9; and all steps together are at most 10. After entering A is at most its start value, and at most 0 by the
-- second copy, and its absolute value after the second copy is at most 5, which isn't true; before each round A is at
-- most 9. Entering by the first copy alone takes one step; and the sum of no charges is at most 0.
abbrev pub lemmas : List SignedFact
lemmas =
    SumFact (charge_by one_form 1 ∷ charge_by one_form 2 ∷ []) (Constant 1)
    ∷ SumFact (charge_by one_form 3 ∷ []) (Constant 9)
    ∷ SumFact (charge_by one_form 1 ∷ charge_by one_form 2 ∷ charge_by one_form 3 ∷ []) (Constant 10)
    ∷ PeakFact 1 a_form (PositivePart a_form)
    ∷ PeakFact 2 a_form (Constant 0)
    ∷ PeakFact 3 a_form (Constant 9)
    ∷ SumFact (charge_by one_form 1 ∷ []) (Constant 1)
    ∷ SumFact [] (Constant 0)
    ∷ SizeFact 2 1 (Constant 5) ∷ []

-- the same lemmas, and one that the second copy of rule 1 never occurs
abbrev pub with_never : List SignedFact
with_never =
    PeakFact 1 a_form (PositivePart a_form) ∷ SumFact (charge_by one_form 2 ∷ []) (Constant 0) ∷ []

-- Lemmas about the spelled program with costs: all copies of rule 1 cost together at most the start value, as entering
-- costs A; all steps together cost at most 7, which isn't true; and entering takes one step.
abbrev pub cost_lemmas : List SignedFact
cost_lemmas =
    SumFact (charge_by a_form 1 ∷ charge_by a_form 2 ∷ []) (PositivePart a_form)
    ∷ SumFact (charge_by a_form 1 ∷ charge_by a_form 2 ∷ charge_by b_form 3 ∷ []) (Constant 7)
    ∷ SumFact (charge_by one_form 1 ∷ charge_by one_form 2 ∷ []) (Constant 1) ∷ []

-- the program with costs that the section spells
abbrev pub spelled_paying : Program
spelled_paying = spelled paying split_by_sign

-- Lemmas on each copy alone, as facts on its own time and cost: entering by the first copy and by the second takes one
-- step each, and costs A and 0; looping takes at most 9 steps, and costs B, at most 7 in all, which isn't true.
abbrev pub apart_lemmas : List SignedFact
apart_lemmas =
    signed_fact spelled_paying (plain_facts.Time 1 (plain_bounds.Constant 1))
    ∷ signed_fact spelled_paying (plain_facts.Time 2 (plain_bounds.Constant 1))
    ∷ signed_fact spelled_paying (plain_facts.Cost 1 (plain_bounds.Input 0))
    ∷ signed_fact spelled_paying (plain_facts.Cost 2 (plain_bounds.Constant 0))
    ∷ signed_fact spelled_paying (plain_facts.Cost 3 (plain_bounds.Constant 7))
    ∷ signed_fact spelled_paying (plain_facts.Time 3 (plain_bounds.Constant 0)) ∷ []

-- the verdict on a claim about the program that enters a loop and counts A down, and about the same with costs, by the
-- section that splits by the sign of A
abbrev pub by_lemmas : Evidence
by_lemmas = by_section countdown split_by_sign lemmas

abbrev pub of_countdown : Claim → Verdict Stated
of_countdown claim = stated_by by_lemmas claim

abbrev pub of_never : Claim → Verdict Stated
of_never claim = stated_by (by_section countdown split_by_sign with_never) claim

abbrev pub of_paying : Claim → Verdict Stated
of_paying claim = stated_by (by_section paying split_by_sign cost_lemmas) claim

abbrev pub of_apart : Claim → Verdict Stated
of_apart claim = stated_by (by_section paying split_by_sign apart_lemmas) claim

-- the verdict on a claim about the same program by the program without the loop, and by no section
abbrev pub of_entry : Claim → Verdict Stated
of_entry claim = stated_by (record {
  program = countdown;
  above = entry_alone;
  projection = same_numbers;
  copies = [];
  facts = lemmas;
}) claim

abbrev pub of_itself : Claim → Verdict Stated
of_itself claim = stated_by (by_itself countdown []) claim

-- the verdict on a claim by copies of l0, without facts, and of l1: A is at least 3 at the first copy of l1, and A is
-- at least 5 and B at least 0 at the second
abbrev pub loop_copies : List Copy
loop_copies =
    entry_copy
    ∷ record { name = 98 ∷ []; over = 1; facts = less (Variable 0) 3 ∷ [] }
    ∷ record { name = 99 ∷ []; over = 1; facts = Variable 1 ∷ less (Variable 0) 5 ∷ [] } ∷ []

abbrev pub of_copies : Claim → Verdict Stated
of_copies claim = stated_by (record {
  program = countdown;
  above = countdown;
  projection = same_numbers;
  copies = loop_copies;
  facts = [];
}) claim

-- the maximum of the start value of A and 0; that of A, 0 and 5; and the sum of the absolute start value of A and 2
abbrev pub a_or_0 : Signed
a_or_0 = PositivePart a_form

abbrev pub a_or_5 : Signed
a_or_5 = MaximumOf (Part (PositivePart a_form) (Part (Constant 5) NoParts))

abbrev pub size_and : ℕ → Signed
size_and n = SumOf (Part (absolute_value 0) (Part (Constant n) NoParts))

-- claims that are accepted, and their statements
pub record ClaimsAreAccepted : Type 0 where
  pub entering : of_countdown (OnTime 1 (ByOne 1)) ≡ Accepted (Time 1 (Constant 1))
  pub looping : of_countdown (OnTime 2 (ByOne 2)) ≡ Accepted (Time 2 (Constant 9))
  pub all_steps : of_countdown (OnTotal (ByOne 3)) ≡ Accepted (Total (Constant 10))
  pub above : of_countdown (OnAbove 1 1 (4 ∷ 5 ∷ []) a_or_0) ≡ Accepted (Above 1 1 a_or_0)
  -- a claim on the value from above may also cite the size of the place after the second copy
  pub above_by_size : of_countdown (OnAbove 1 1 (4 ∷ 9 ∷ []) a_or_5) ≡ Accepted (Above 1 1 a_or_5)
  -- a copy that never occurs needs no lemma
  pub above_without : of_never (OnAbove 1 1 (1 ∷ 0 ∷ []) a_or_0) ≡ Accepted (Above 1 1 a_or_0)
  -- the new value of B in the loop is -A, so its opposite is A
  pub below : of_countdown (OnBelow 2 2 (6 ∷ []) (Constant 9)) ≡ Accepted (Below 2 2 (Constant 9))
  pub cost : of_paying (OnCost 1 (ByOne 1)) ≡ Accepted (Cost 1 (PositivePart a_form))
  pub total_cost : of_paying (OnTotal (ByOne 2)) ≡ Accepted (Total (Constant 7))
  -- a claim on a sum may cite lemmas on each copy, and on each rule: with the sum of their bounds, or with more
  pub times_apart : of_apart (OnTime 1 (ByEach (1 ∷ 2 ∷ []) (Constant 2))) ≡ Accepted (Time 1 (Constant 2))
  pub times_more : of_apart (OnTime 1 (ByEach (1 ∷ 2 ∷ []) (Constant 3))) ≡ Accepted (Time 1 (Constant 3))
  pub costs_apart : of_apart (OnCost 1 (ByEach (3 ∷ 4 ∷ []) (absolute_value 0))) ≡ Accepted (Cost 1 (absolute_value 0))
  pub one_cost : of_apart (OnCost 2 (ByEach (5 ∷ []) (Constant 7))) ≡ Accepted (Cost 2 (Constant 7))
  pub total_apart : of_apart (OnTotal (ByEach (3 ∷ 4 ∷ 5 ∷ []) (size_and 7))) ≡ Accepted (Total (size_and 7))
  -- a rule that never occurs, as lemma 6 says, needs no lemma on its cost
  pub total_without : of_apart (OnTotal (ByEach (3 ∷ 4 ∷ 0 ∷ []) (absolute_value 0)))
      ≡ Accepted (Total (absolute_value 0))
  -- rule 2 has no copy in the program without the loop
  pub no_copy : of_entry (OnTime 2 (ByOne 8)) ≡ Accepted (Time 2 (Constant 0))
  pub no_copy_apart : of_entry (OnTime 2 (ByEach [] (Constant 0))) ≡ Accepted (Time 2 (Constant 0))
  pub no_copy_above : of_entry (OnAbove 2 1 [] (Constant 0)) ≡ Accepted (Above 2 1 (Constant 0))
  -- A is at least 3 at both copies of l1, so it is at least 3 and at least 2 there
  pub at_least_3 : of_copies (OnSymbol 1 (less (Variable 0) 3)) ≡ Accepted (AtSymbol 1 (less (Variable 0) 3))
  pub at_least_2 : of_copies (OnSymbol 1 (less (Variable 0) 2)) ≡ Accepted (AtSymbol 1 (less (Variable 0) 2))
  pub several : all_stated by_lemmas (OnTime 2 (ByOne 2) ∷ OnTime 1 (ByOne 1) ∷ [])
      ≡ Time 2 (Constant 9) ∷ Time 1 (Constant 1) ∷ []
  pub none_refused : first_refused by_lemmas 1 (OnTime 2 (ByOne 2) ∷ OnTime 1 (ByOne 1) ∷ []) ≡ None

-- claims that are refused: by a lemma on another rule, on one copy of two, or that doesn't exist; on no rule, with a
-- lemma on no steps; on a cost that isn't written, or by how often the rule occurs; on the total by a lemma that leaves
-- a rule out; by lemmas in another order, one too few, one too many, none for a copy that may occur, or on a size at
-- another rule; with a bound that is too low; on no place; and on the value from below by lemmas from above
pub record ClaimsAreRefused : Type 0 where
  pub other_rule : of_countdown (OnTime 1 (ByOne 2)) ≡ Refused BadLemma
  pub one_copy : of_countdown (OnTime 1 (ByOne 7)) ≡ Refused BadLemma
  pub no_lemma : of_countdown (OnTime 1 (ByOne 0)) ≡ Refused BadLemma
  pub past_the_lemmas : of_countdown (OnTime 1 (ByOne 10)) ≡ Refused BadLemma
  pub a_peak : of_countdown (OnTime 1 (ByOne 4)) ≡ Refused BadLemma
  pub no_rule : of_countdown (OnTime 3 (ByOne 8)) ≡ Refused NoRule
  pub entry : of_countdown (OnTime 0 (ByOne 8)) ≡ Refused NoRule
  pub no_rule_cost : of_paying (OnCost 3 (ByEach [] (Constant 0))) ≡ Refused NoRule
  pub no_rule_above : of_countdown (OnAbove 3 1 [] (Constant 0)) ≡ Refused NoRule
  pub no_rule_below : of_countdown (OnBelow 3 1 [] (Constant 0)) ≡ Refused NoRule
  pub no_cost : of_countdown (OnCost 1 (ByOne 1)) ≡ Refused NoCost
  pub cost_by_time : of_paying (OnCost 1 (ByOne 3)) ≡ Refused BadLemma
  pub left_out : of_countdown (OnTotal (ByOne 1)) ≡ Refused BadLemma
  pub other_order : of_countdown (OnAbove 1 1 (5 ∷ 4 ∷ []) a_or_5) ≡ Refused BadLemma
  pub too_few : of_countdown (OnAbove 1 1 (4 ∷ []) a_or_5) ≡ Refused BadLemma
  pub too_many : of_countdown (OnAbove 1 1 (4 ∷ 5 ∷ 5 ∷ []) a_or_5) ≡ Refused BadLemma
  pub may_occur : of_countdown (OnAbove 1 1 (4 ∷ 0 ∷ []) a_or_5) ≡ Refused BadLemma
  pub size_elsewhere : of_countdown (OnAbove 1 1 (9 ∷ 5 ∷ []) a_or_5) ≡ Refused BadLemma
  pub too_low : of_countdown (OnAbove 1 1 (4 ∷ 9 ∷ []) a_or_0) ≡ Refused LowBound
  pub start_too_low : of_countdown (OnAbove 1 1 (4 ∷ 5 ∷ []) (Constant 5)) ≡ Refused LowBound
  pub low_and_bad : of_countdown (OnAbove 1 1 (4 ∷ 8 ∷ []) (Constant 5)) ≡ Refused BadLemma
  pub no_place : of_countdown (OnAbove 1 0 (4 ∷ 5 ∷ []) a_or_5) ≡ Refused NoPlace
  pub third_place : of_countdown (OnAbove 1 3 (4 ∷ 5 ∷ []) a_or_5) ≡ Refused NoPlace
  pub third_below : of_countdown (OnBelow 1 3 (4 ∷ 5 ∷ []) a_or_5) ≡ Refused NoPlace
  pub other_place : of_countdown (OnAbove 1 2 (4 ∷ 5 ∷ []) a_or_5) ≡ Refused BadLemma
  pub from_above : of_countdown (OnBelow 1 1 (4 ∷ 5 ∷ []) a_or_5) ≡ Refused BadLemma
  -- claims by lemmas on each copy that are refused: with a bound that is too low for their sum, in another order, one
  -- too few, one too many, none for a copy that may occur, or by times in place of costs
  pub sum_too_low : of_apart (OnTime 1 (ByEach (1 ∷ 2 ∷ []) (Constant 1))) ≡ Refused LowBound
  pub cost_too_low : of_apart (OnCost 1 (ByEach (3 ∷ 4 ∷ []) (PositivePart a_form))) ≡ Refused LowBound
  pub total_too_low : of_apart (OnTotal (ByEach (3 ∷ 4 ∷ 5 ∷ []) (size_and 6))) ≡ Refused LowBound
  pub apart_order : of_apart (OnCost 1 (ByEach (4 ∷ 3 ∷ []) (absolute_value 0))) ≡ Refused BadLemma
  pub apart_few : of_apart (OnCost 1 (ByEach (3 ∷ []) (absolute_value 0))) ≡ Refused BadLemma
  pub apart_many : of_apart (OnCost 2 (ByEach (5 ∷ 5 ∷ []) (Constant 14))) ≡ Refused BadLemma
  pub apart_occurs : of_apart (OnCost 1 (ByEach (3 ∷ 0 ∷ []) (absolute_value 0))) ≡ Refused BadLemma
  pub apart_times : of_apart (OnCost 1 (ByEach (1 ∷ 2 ∷ []) (Constant 2))) ≡ Refused BadLemma
  pub left_out_apart : of_apart (OnTotal (ByEach (3 ∷ 4 ∷ []) (absolute_value 0))) ≡ Refused BadLemma
  -- claims on symbols that are refused: that A is at least 4 at l1, or B at least 0, which each is true at one copy
  -- alone; that A is at least 3 at l0, whose copy has no facts; and any claim at a symbol without a copy, or without a
  -- section
  pub at_least_4 : of_copies (OnSymbol 1 (less (Variable 0) 4)) ≡ Refused NoFact
  pub one_has : of_copies (OnSymbol 1 (Variable 1)) ≡ Refused NoFact
  pub opposite : of_copies (OnSymbol 1 (less (Negation (Variable 0)) 3)) ≡ Refused NoFact
  pub no_facts : of_copies (OnSymbol 0 (less (Variable 0) 3)) ≡ Refused NoFact
  pub no_symbol : of_copies (OnSymbol 2 (Literal (pos 0))) ≡ Refused NoCopy
  pub no_section : of_itself (OnSymbol 1 (Literal (pos 0))) ≡ Refused NoCopy
  pub second_of_three : first_refused by_lemmas 1 (OnTime 2 (ByOne 2) ∷ OnTime 2 (ByOne 1) ∷ OnTime 3 (ByOne 2) ∷ [])
      ≡ Some (record { number = 2; reason = BadLemma })
  pub third_of_three : first_refused by_lemmas 1 (OnTime 2 (ByOne 2) ∷ OnTime 1 (ByOne 1) ∷ OnTime 3 (ByOne 2) ∷ [])
      ≡ Some (record { number = 3; reason = NoRule })
