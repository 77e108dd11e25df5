-- Limits that the linear program for a point exceeds, if no function and no form is found, worked out by hand: of k(A)
-- -> k(0) where A <= 0, A <= -1 and A <= -2, with k(A) -> k(A - 1); and of k() -> l(C) where B <= 0, B <= -1 and B <=
-- -2, with B and C free.
use Rattle.std.specs.Prelude.{List, [], ◌∷◌, pos, negsuc, None}
use Rattle.model.specs.Programs.{Atom, AtMost, Compare, Rule, Program}
use Rattle.model.specs.Terms.{Literal, Variable, Subtraction}
use Rattle.outcome.specs.Reports.{TimeHitLimit, Untimed, SizeHitLimit, Unsized, Report}
use Rattle.cert_types.specs.declared.answer.Question.TheVariants as asked
use Rattle.cert_types.specs.cert_rules.WorkedSettings.{rule_over, program_with}
use Rattle.bound_fixpoint.specs.Keys.{Bounds}
use Rattle.time_bounds.specs.SaidBounds.{bounds_said}
use Rattle.time_bounds.specs.SizeWhys.{HasNoSize}
use Rattle.time_bounds.specs.TimeWhys.{HasNoTime}
use Rattle.worked_reasons.specs.Programs.{limit_hit_at}

-- the first variable is at most 0, at most -1 and at most -2
abbrev pub three_below : List Atom
three_below =
    Compare (Variable 0) AtMost (Literal (pos 0)) ∷ Compare (Variable 0) AtMost (Literal (negsuc 0))
    ∷ Compare (Variable 0) AtMost (Literal (negsuc 1)) ∷ []

abbrev pub resetting_rule : Rule
resetting_rule = rule_over 0 0 0 (Literal (pos 0)) three_below

abbrev pub falling_rule : Rule
falling_rule = rule_over 0 0 0 (Subtraction (Variable 0) (Literal (pos 1))) []

abbrev pub resetting : Program
resetting = program_with (resetting_rule ∷ falling_rule ∷ [])

-- neither rule has a time in the report
abbrev pub resetting_report : Report
resetting_report = record {
  times = Untimed (TimeHitLimit (limit_hit_at 2 (asked.Empty 1)))
      ∷ Untimed (TimeHitLimit (limit_hit_at 2 (asked.Empty 1))) ∷ [];
  costs = None ∷ None ∷ [];
  total = None;
  sizes = (Unsized (SizeHitLimit (limit_hit_at 2 (asked.Empty 1))) ∷ [])
      ∷ (Unsized (SizeHitLimit (limit_hit_at 2 (asked.Empty 1))) ∷ []) ∷ [];
}

abbrev pub resetting_said : Bounds
resetting_said = bounds_said resetting resetting_report

-- from a symbol without places to one with one, which gets a free variable, where another one is below
abbrev pub choosing_rule : Rule
choosing_rule = record {
  source = 0;
  target = 1;
  left = 0;
  free = 2;
  names = [];
  updates = Variable 1 ∷ [];
  guard = three_below;
  cost = None;
}

abbrev pub choosing : Program
choosing = record {
  symbols = record { name = 107 ∷ []; arity = 0 } ∷ record { name = 108 ∷ []; arity = 1 } ∷ [];
  start = 0;
  start_names = [];
  rules = choosing_rule ∷ [];
}

-- within 2 pivots the linear program that asks for a function which ranks the second rule ends without a solution, and
-- those that ask for forms of the chosen value and of its negation do; but the ones for a point of the first rule, and
-- of the one that chooses, exceed the limit, and no other one does. Within 3 pivots they end, too
pub record PointHitsLimitAreWorkedOut : Type 0 where
  pub rank : HasNoTime resetting 2 resetting_said 2 (TimeHitLimit (limit_hit_at 2 (asked.Empty 1)))
  pub other_rule : ¬ (HasNoTime resetting 2 resetting_said 2 (TimeHitLimit (limit_hit_at 2 (asked.Empty 2))))
  pub enough : ¬ (HasNoTime resetting 3 resetting_said 2 (TimeHitLimit (limit_hit_at 3 (asked.Empty 1))))
  pub size : (b : Bounds) → HasNoSize choosing 2 b 1 1 (SizeHitLimit (limit_hit_at 2 (asked.Empty 1)))
  pub other_size_rule : (b : Bounds) → ¬ (HasNoSize choosing 2 b 1 1 (SizeHitLimit (limit_hit_at 2 (asked.Empty 2))))
  pub enough_for_size : (b : Bounds) → ¬ (HasNoSize choosing 3 b 1 1 (SizeHitLimit (limit_hit_at 3 (asked.Empty 1))))
