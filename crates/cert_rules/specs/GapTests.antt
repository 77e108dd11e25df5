-- Tests of gaps, in the order in which they are made.
use Rattle.std.specs.Prelude.{ℕ, ◌==◌, ◌&&◌, not, nat_lt, nat_le, int_le, Bool, List, [], ◌∷◌, length, pos, nat_abs}
use Rattle.std.specs.List.{list_all}
use Rattle.std.specs.Ordering.{int_eq}
use Rattle.run_counting.specs.model.Programs.{Program}
use Rattle.run_counting.specs.model.Entries.{is_in}
use Rattle.rule_forms.specs.linear_forms.Forms.{Form}
use Rattle.rule_forms.specs.linear_forms.Limits.{point_limit}
use Rattle.rule_forms.specs.linear_forms.RuleQuestions.{RuleForms, Coefficient}
use Rattle.cert_rules.specs.Gaps.{ScaledPoint, Gap}
use Rattle.cert_rules.specs.GapChecks.{GapFault, WrongShape, MoveOff, FloorOff, NotKept, Unbalanced, LosesNothing}
use Rattle.cert_rules.specs.GapChecks.{point_of, value_at, balance, balanced}
use Rattle.cert_rules.specs.Reasons.{for_each}
use Rattle.cert_rules.specs.Tests.{TestOf, test}
use Rattle.cert_rules.specs.NumberTests.{is_ascending}
use Rattle.cert_rules.specs.PlainTests.{is_rule}

-- whether a scaled point has a part for each unknown of the rule, and numbers within the limit
abbrev pub is_gap_point : RuleForms → ScaledPoint → Bool
is_gap_point r z =
    (length z.parts == r.unknowns) && list_all (λ x. nat_le (nat_abs x) point_limit) z.parts && nat_le z.den point_limit

-- whether there is such a point for each rule of a set
abbrev pub are_gap_points : (ℕ → RuleForms) → List ℕ → List ScaledPoint → Bool
are_gap_points rule set zs =
    (length zs == length set) && list_all (λ t. is_gap_point (rule t) (point_of set zs t)) set

-- whether the shape of a gap is right
abbrev pub has_gap_shape : Program → (ℕ → RuleForms) → Gap → Bool
has_gap_shape p rule g =
    is_ascending g.set && list_all (is_rule p) g.set && is_in g.rule g.set
    && are_gap_points rule g.set g.moves && are_gap_points rule g.set g.kept && is_gap_point (rule g.rule) g.floor

-- whether every row gives at least 0 at a scaled point; and whether it has a denominator too
abbrev pub meets_at : List Form → ScaledPoint → Bool
meets_at rows z = list_all (λ r. int_le (pos 0) (value_at r z)) rows

abbrev pub is_point_of : List Form → ScaledPoint → Bool
is_point_of rows z = nat_lt 0 z.den && meets_at rows z

-- the test of the move of a rule, that of its kept point, and that of a balance
abbrev pub test_move : (ℕ → RuleForms) → Gap → ℕ → TestOf GapFault
test_move rule g t = test (MoveOff t) (meets_at (rule t).rows (point_of g.set g.moves t))

abbrev pub test_kept : (ℕ → RuleForms) → Gap → ℕ → TestOf GapFault
test_kept rule g t = test (NotKept t) (is_point_of (rule t).rows (point_of g.set g.kept t))

abbrev pub test_balance : (ℕ → RuleForms) → Gap → Coefficient → TestOf GapFault
test_balance rule g c = test (Unbalanced c.symbol c.place) (int_eq (balance rule g c) (pos 0))

-- the tests of a gap: its shape; the moves; the floor; the kept points; the balances; and that something is lost
abbrev pub gap_tests : Program → (ℕ → RuleForms) → Gap → List (TestOf GapFault)
gap_tests p rule g =
    test WrongShape (has_gap_shape p rule g) ∷
    for_each (test_move rule g) g.set
    (test FloorOff (meets_at (rule g.rule).rows g.floor) ∷
    for_each (test_kept rule g) g.set
    (for_each (test_balance rule g) (balanced p g)
    (test LosesNothing (not (((point_of g.set g.moves g.rule).den == 0) && (g.floor.den == 0))) ∷ [])))
