-- Worked values of why a use of a rule is no step, and of the order of the reasons.
use Rattle.std.specs.Prelude.{◌≡◌, ℕ, Bool, true, false, List, [], ◌∷◌, ℤ, pos, negsuc, Option, Some, None}
use Rattle.poly_terms.specs.model.Terms.{Term, Literal, Variable, Negation, Addition, Subtraction, Multiplication}
use Rattle.poly_terms.specs.model.Programs.{Relation, AtLeast, MoreThan, AtMost, LessThan, EqualTo, Atom, Always}
use Rattle.poly_terms.specs.model.Programs.{Compare, Program}
use Rattle.poly_terms.specs.model.Runs.{Config, Step}
use Rattle.its_model.specs.Steps.{StepFault, OtherRule, AtomFails, PastRange, is_related, step_fault, RuleFits}
use Rattle.its_model.specs.Steps.{maximum_arity}
use Rattle.its_model.specs.WorkedPrograms.{two_and_one, rule_with, small_program}

-- The greatest and the least integer of 128 bits, 2^127 - 1 and -2^127.
abbrev pub maximum : ℤ
maximum = pos 170141183460469231731687303715884105727

abbrev pub minimum : ℤ
minimum = negsuc 170141183460469231731687303715884105727

-- The variables A and B of a rule, its free variable C, and 0.
abbrev pub A : Term
A = Variable 0

abbrev pub B : Term
B = Variable 1

abbrev pub C : Term
C = Variable 2

abbrev pub nothing : Term
nothing = Literal (pos 0)

-- The expression A + 1, which exceeds 128 bits at the maximum alone.
abbrev pub one_more : Term
one_more = Addition A (Literal (pos 1))

-- Whether a relation holds between 2, 3 and 4 on the left and 3 on the right.
abbrev pub around_3 : Relation → List Bool
around_3 r = is_related r (pos 2) (pos 3) ∷ is_related r (pos 3) (pos 3) ∷ is_related r (pos 4) (pos 3) ∷ []

-- The five relations, and two between negative integers.
pub record RelationsHold : Type 0 where
  pub at_least : around_3 AtLeast ≡ false ∷ true ∷ true ∷ []
  pub more_than : around_3 MoreThan ≡ false ∷ false ∷ true ∷ []
  pub at_most : around_3 AtMost ≡ true ∷ true ∷ false ∷ []
  pub less_than : around_3 LessThan ≡ true ∷ false ∷ false ∷ []
  pub equal_to : around_3 EqualTo ≡ false ∷ true ∷ false ∷ []
  pub above_below_zero : is_related MoreThan (negsuc 0) (negsuc 1) ≡ true
  pub less_than_zero : is_related LessThan (negsuc 0) (pos 0) ≡ true

-- The configuration at a symbol with two values.
abbrev pub standing_at : ℕ → ℤ → ℤ → Config
standing_at s x y = record { at = s; values = x ∷ y ∷ [] }

-- A use of a rule with these values of its free variables.
abbrev pub by_rule : ℕ → List ℤ → Step
by_rule t free = record { rule = t; free = free }

-- Worked values of whether a use of the small program's rule, l0(A, B) -> l1(A + B) with the guard A > B, is one of
-- that rule at all.
pub record RulesAreFound : Type 0 where
  pub taken : step_fault small_program (standing_at 0 (pos 3) (pos 2)) (by_rule 1 []) ≡ None
  -- There is no rule 2 and no rule 0.
  pub no_such_rule : step_fault small_program (standing_at 0 (pos 3) (pos 2)) (by_rule 2 []) ≡ Some OtherRule
  pub rule_0 : step_fault small_program (standing_at 0 (pos 3) (pos 2)) (by_rule 0 []) ≡ Some OtherRule
  -- Rule 1 leaves l0, not l1, and has no free variable, whatever its guard.
  pub other_symbol : step_fault small_program (standing_at 1 (pos 3) (pos 2)) (by_rule 1 []) ≡ Some OtherRule
  pub before_guard : step_fault small_program (standing_at 1 (pos 2) (pos 3)) (by_rule 1 []) ≡ Some OtherRule
  pub free_value : step_fault small_program (standing_at 0 (pos 3) (pos 2)) (by_rule 1 (pos 0 ∷ [])) ≡ Some OtherRule
  pub free_before_guard : step_fault small_program (standing_at 0 (pos 2) (pos 3)) (by_rule 1 (pos 0 ∷ []))
      ≡ Some OtherRule

-- The program l0(A, B) -> l0(u, v) with these atoms; C is free.
abbrev pub looping : List Atom → Term → Term → Program
looping guard u v = record {
  symbols = two_and_one;
  start = 0;
  start_names = (65 ∷ []) ∷ (66 ∷ []) ∷ [];
  rules = record {
    source = 0;
    target = 0;
    left = 2;
    free = 1;
    names = (65 ∷ []) ∷ (66 ∷ []) ∷ (67 ∷ []) ∷ [];
    updates = u ∷ v ∷ [];
    guard = guard;
    cost = None;
  } ∷ [];
}

-- The fault of its rule at (x, y) if C is z.
abbrev pub fault_at : ℤ → ℤ → ℤ → List Atom → Term → Term → Option StepFault
fault_at x y z guard u v = step_fault (looping guard u v) (standing_at 0 x y) (by_rule 1 (z ∷ []))

-- The free variable has its value, and there is one value for each.
pub record FreeValuesAreTaken : Type 0 where
  -- The atom A > C at A = 3 holds if C is 2 and not if C is 3; C + 1 has no value at the maximum.
  pub less : fault_at (pos 3) (pos 0) (pos 2) (Compare A MoreThan C ∷ []) A B ≡ None
  pub same : fault_at (pos 3) (pos 0) (pos 3) (Compare A MoreThan C ∷ []) A B ≡ Some (AtomFails 1)
  pub past : fault_at (pos 3) (pos 0) maximum [] A (Addition C (Literal (pos 1))) ≡ Some PastRange
  pub missing : step_fault (looping [] A B) (standing_at 0 (pos 3) (pos 0)) (by_rule 1 []) ≡ Some OtherRule
  pub too_many : step_fault (looping [] A B) (standing_at 0 (pos 3) (pos 0)) (by_rule 1 (pos 0 ∷ pos 0 ∷ []))
      ≡ Some OtherRule

-- The atoms A > B and B > A, which never hold together.
abbrev pub both_ways : List Atom
both_ways = Compare A MoreThan B ∷ Compare B MoreThan A ∷ []

-- Worked values of which of two faults is reported.
pub record FaultsComeInOrder : Type 0 where
  -- The guard comes before the updates: A > B fails at (maximum, maximum), where A + 1 has no value.
  pub guard_first : fault_at maximum maximum (pos 0) (Compare A MoreThan B ∷ []) one_more B ≡ Some (AtomFails 1)
  pub then_updates : fault_at maximum maximum (pos 0) (Compare A AtLeast B ∷ []) one_more B ≡ Some PastRange
  -- The last update is computed too.
  pub last_update : fault_at maximum (pos 0) (pos 0) [] B one_more ≡ Some PastRange
  pub no_update : fault_at maximum (pos 0) (pos 0) [] B A ≡ None
  -- The atoms come in order, with `TRUE` as one of them: the first fails, the second, both, or the third.
  pub first_atom : fault_at (pos 2) (pos 3) (pos 0) both_ways A B ≡ Some (AtomFails 1)
  pub second_atom : fault_at (pos 3) (pos 2) (pos 0) both_ways A B ≡ Some (AtomFails 2)
  pub both_atoms : fault_at (pos 3) (pos 3) (pos 0) both_ways A B ≡ Some (AtomFails 1)
  pub third_atom : fault_at (pos 3) (pos 3) (pos 0) (Always ∷ Compare A AtLeast B ∷ Compare B MoreThan A ∷ []) A B
      ≡ Some (AtomFails 3)
  -- An atom fails before one with a side without a value, and the other way round.
  pub fails_first : fault_at maximum (pos 0) (pos 0) (Compare B MoreThan A ∷ Compare one_more MoreThan B ∷ []) A B
      ≡ Some (AtomFails 1)
  pub past_first : fault_at maximum (pos 0) (pos 0) (Compare one_more MoreThan B ∷ Compare B MoreThan A ∷ []) A B
      ≡ Some PastRange
  -- Both sides are computed before they are compared: A + 1 <= 0 fails and A + 1 > 0 holds, but A + 1 has no value, on
  -- either side.
  pub left_side : fault_at maximum (pos 0) (pos 0) (Compare one_more AtMost nothing ∷ []) A B ≡ Some PastRange
  pub left_side_holds : fault_at maximum (pos 0) (pos 0) (Compare one_more MoreThan nothing ∷ []) A B ≡ Some PastRange
  pub right_side : fault_at maximum (pos 0) (pos 0) (Compare nothing AtLeast one_more ∷ []) A B ≡ Some PastRange
  pub right_side_holds : fault_at maximum (pos 0) (pos 0) (Compare nothing LessThan one_more ∷ []) A B ≡ Some PastRange

-- Worked values of integers that exceed 128 bits.
pub record ValuesPassRange : Type 0 where
  -- Both ends are values; one more than the maximum, one less than the minimum, and the opposite of the minimum are
  -- none.
  pub ends : fault_at maximum minimum (pos 0) (Compare A MoreThan B ∷ []) A B ≡ None
  pub above : fault_at maximum (pos 0) (pos 0) [] one_more B ≡ Some PastRange
  pub below : fault_at minimum (pos 0) (pos 0) [] (Subtraction A (Literal (pos 1))) B ≡ Some PastRange
  pub opposite_of_minimum : fault_at minimum (pos 0) (pos 0) [] (Negation A) B ≡ Some PastRange
  pub opposite_of_maximum : fault_at maximum (pos 0) (pos 0) [] (Negation A) B ≡ None
  -- Intermediate values count: (A + 1) - 1, and 0 * (A + 1).
  pub on_the_way : fault_at maximum (pos 0) (pos 0) [] (Subtraction one_more (Literal (pos 1))) B ≡ Some PastRange
  pub times_zero : fault_at maximum (pos 0) (pos 0) [] (Multiplication nothing one_more) B ≡ Some PastRange
  -- The rule l0(A, B) -> l1(A + B) fits at (2^127 - 1, 0), but not at (2^127 - 1, 1), nor with A + 1 > 0 in its guard.
  pub fits : RuleFits (rule_with (Addition A B ∷ []) (Compare A MoreThan B ∷ [])) (maximum ∷ pos 0 ∷ [])
  pub not_in_update : ¬ (RuleFits (rule_with (Addition A B ∷ []) []) (maximum ∷ pos 1 ∷ []))
  pub not_in_guard : ¬ (RuleFits (rule_with (A ∷ []) (Compare one_more MoreThan nothing ∷ [])) (maximum ∷ pos 0 ∷ []))

-- The maximum number of places: of l0 with two and l1 with one, in either order, and of no symbol.
pub record AritiesAreWorkedOut : Type 0 where
  pub two : maximum_arity two_and_one ≡ 2
  pub later : maximum_arity (record { name = []; arity = 1 } ∷ record { name = []; arity = 2 } ∷ []) ≡ 2
  pub none_at_all : maximum_arity [] ≡ 0

-- All worked values of steps.
pub record StepsAreWorkedOut : Type 0 where
  pub relations : RelationsHold
  pub rules : RulesAreFound
  pub free : FreeValuesAreTaken
  pub order : FaultsComeInOrder
  pub range : ValuesPassRange
  pub arities : AritiesAreWorkedOut
