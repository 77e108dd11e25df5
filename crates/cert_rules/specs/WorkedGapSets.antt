-- Gaps over two rules, worked out by hand.
use Rattle.std.specs.Prelude.{ℕ, zero, suc, List, [], ◌∷◌, pos, negsuc}
use Rattle.run_counting.specs.model.Terms.{Literal, Variable}
use Rattle.run_counting.specs.model.Programs.{AtLeast, Compare, Program}
use Rattle.rule_forms.specs.linear_forms.Forms.{Form}
use Rattle.rule_forms.specs.linear_forms.RuleQuestions.{RuleForms}
use Rattle.cert_rules.specs.Gaps.{ScaledPoint, Gap}
use Rattle.cert_rules.specs.GapChecks.{GapHolds, MoveOff, FloorOff, NotKept, Unbalanced, LosesNothing, gap_checks}
use Rattle.cert_rules.specs.Reasons.{IsFirstAmong}
use Rattle.cert_rules.specs.WorkedSettings.{form, rule_over, program_with, enter}
use Rattle.cert_rules.specs.WorkedGaps.{FailsAlone, plain_forms, scaled, one, nowhere, gap_with}

-- the forms of a first, a second and a third rule, by number
abbrev pub three_forms : RuleForms → RuleForms → RuleForms → ℕ → RuleForms
three_forms first second third zero = first
three_forms first second third (suc zero) = first
three_forms first second third (suc (suc zero)) = second
three_forms first second third (suc (suc (suc t))) = third

-- a rule over one place that keeps it
abbrev pub keeping : ℕ → ℕ → List Form → RuleForms
keeping source target rows = plain_forms source target 1 rows (form (pos 1 ∷ []) (pos 0) ∷ [])

-- k(A) -> l(A), l(A) -> m(A), and m(A) -> l(A)
abbrev pub crossing : Program
crossing = program_with (enter ∷ rule_over 1 2 0 (Variable 0) [] ∷ rule_over 2 1 0 (Variable 0) [] ∷ [])

abbrev pub crossing_forms : ℕ → RuleForms
crossing_forms = three_forms (keeping 0 1 []) (keeping 1 2 []) (keeping 2 1 [])

-- this program with a guard of the third rule, A >= 1
abbrev pub guarded : Program
guarded = program_with
    (enter ∷ rule_over 1 2 0 (Variable 0) []
    ∷ rule_over 2 1 0 (Variable 0) (Compare (Variable 0) AtLeast (Literal (pos 1)) ∷ []) ∷ [])

abbrev pub guarded_forms : ℕ → RuleForms
guarded_forms = three_forms (keeping 0 1 []) (keeping 1 2 []) (keeping 2 1 (form (pos 1 ∷ []) (negsuc 0) ∷ []))

-- k(A) -> l(A), and two loops l(A) -> l(A)
abbrev pub loops : Program
loops = program_with (enter ∷ rule_over 1 1 0 (Variable 0) [] ∷ rule_over 1 1 0 (Variable 0) [] ∷ [])

abbrev pub loops_forms : ℕ → RuleForms
loops_forms = three_forms (keeping 0 1 []) (keeping 1 1 []) (keeping 1 1 [])

-- the ray along the only place
abbrev pub along : ScaledPoint
along = scaled (pos 1 ∷ []) 0

-- a gap over the second and the third rule, one of which is strict
abbrev pub gap_of_two : ℕ → ScaledPoint → ScaledPoint → ScaledPoint → ScaledPoint → ScaledPoint → Gap
gap_of_two t move next floor kept last = gap_with t (2 ∷ 3 ∷ []) [] (move ∷ next ∷ []) floor (kept ∷ last ∷ [])

-- a gap over two rules holds, whichever is strict. The floor counts at the source of the strict rule and at no other
-- symbol, and is checked against that rule's rows; each move and each kept point is checked against its own rule's
-- rows; of two symbols, two places or two rules with a fault the lesser is reported; and it is the strict rule's move
-- that has to lose something, not another rule's
pub record GapsOfTwoRulesAreJudged : Type 0 where
  pub second_strict : GapHolds crossing crossing_forms (gap_of_two 2 one one nowhere one one)
  pub third_strict : GapHolds crossing crossing_forms (gap_of_two 3 one one nowhere one one)
  pub floor_at_l :
      FailsAlone (gap_checks crossing crossing_forms (gap_of_two 2 one one along one one)) (Unbalanced 1 1)
  pub floor_at_m :
      FailsAlone (gap_checks crossing crossing_forms (gap_of_two 3 one one along one one)) (Unbalanced 2 1)
  pub constant_at_m :
      FailsAlone (gap_checks crossing crossing_forms (gap_of_two 3 one one (scaled (pos 0 ∷ []) 1) one one))
      (Unbalanced 2 0)
  pub lesser_symbol :
      IsFirstAmong
      (gap_checks crossing crossing_forms (gap_of_two 3 one (scaled (pos 2 ∷ []) 1) nowhere one one))
      (Unbalanced 1 1)
  pub lesser_constant :
      IsFirstAmong (gap_checks crossing crossing_forms (gap_of_two 3 one along nowhere one one)) (Unbalanced 1 0)
  pub lesser_rule :
      IsFirstAmong (gap_checks crossing crossing_forms (gap_of_two 3 one one nowhere along along)) (NotKept 2)
  pub kept_of_third :
      FailsAlone (gap_checks crossing crossing_forms (gap_of_two 3 one one nowhere one along)) (NotKept 3)
  pub move_of_third :
      FailsAlone
      (gap_checks guarded guarded_forms
      (gap_of_two 2 (scaled (pos 0 ∷ []) 1) (scaled (pos 0 ∷ []) 1) nowhere one one))
      (MoveOff 3)
  pub floor_of_strict :
      IsFirstAmong (gap_checks guarded guarded_forms (gap_of_two 3 one one (scaled (negsuc 0 ∷ []) 0) one one))
      FloorOff
  pub floor_of_other :
      FailsAlone (gap_checks guarded guarded_forms (gap_of_two 2 one one (scaled (negsuc 0 ∷ []) 0) one one))
      (Unbalanced 1 1)
  pub other_loses :
      FailsAlone (gap_checks loops loops_forms (gap_of_two 3 one nowhere nowhere one one)) LosesNothing
  pub strict_loses : GapHolds loops loops_forms (gap_of_two 3 nowhere one nowhere one one)
