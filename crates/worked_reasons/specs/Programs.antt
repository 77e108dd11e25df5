-- Small programs, and reports of them, worked out by hand: of k(A) -> k(A * A) and k(A) -> l(A * A), both where A <= 0;
-- and reports of k(A) -> l(A) with l(A) -> l(A - 1) where A >= 1, or with l(A) -> l(2 * A).
use Rattle.std.specs.Prelude.{ℕ, List, [], ◌∷◌, pos, None}
use Rattle.model.specs.Bounds.{Constant, Input}
use Rattle.model.specs.Polynomials.{Polynomial}
use Rattle.model.specs.Programs.{AtLeast, AtMost, Compare, Rule, Program}
use Rattle.model.specs.Terms.{Literal, Variable, Multiplication}
use Rattle.its_model.specs.linear_forms.declared.limit_cause.LimitCause.TheVariants as causes
use Rattle.outcome.specs.Reports.{TimeHitLimit, TimeLarge, Timed, Untimed, SizeMissing, SizeNonlinear, SizeUntimed, SizeLarge}
use Rattle.outcome.specs.Reports.{Sized, Unsized, Report}
use Rattle.cert_types.specs.declared.answer.Question.{Question}
use Rattle.cert_types.specs.declared.answer.Question.TheVariants as asked
use Rattle.cert_types.specs.declared.answer.LimitHit.{LimitHit}
use Rattle.cert_types.specs.cert_rules.Nodes.{ResultVariable, Member}
use Rattle.cert_types.specs.cert_rules.WorkedReasons.{tower}
use Rattle.cert_types.specs.cert_rules.WorkedSettings.{rule_over, program_with}
use Rattle.local_size.specs.LocalAnswers.{both_polynomial}
use Rattle.bound_fixpoint.specs.Keys.{key}

-- l(A) -> l(2 * A)
abbrev pub doubling_rule : Rule
doubling_rule = rule_over 1 1 0 (Multiplication (Literal (pos 2)) (Variable 0)) []

-- the question exceeded the limit of this many pivots
abbrev pub limit_hit_at : ℕ → Question → LimitHit
limit_hit_at pivots question = record { question = question; cause = causes.Budget pivots }

-- from k to a symbol, squaring the argument, where it is at most 0
abbrev pub squaring_to : ℕ → Rule
squaring_to target = record {
  source = 0;
  target = target;
  left = 1;
  free = 0;
  names = (65 ∷ []) ∷ [];
  updates = Multiplication (Variable 0) (Variable 0) ∷ [];
  guard = Compare (Variable 0) AtMost (Literal (pos 0)) ∷ [];
  cost = None;
}

-- the first rule stays at k, and the second one leaves it for l
abbrev pub squares : Program
squares = record {
  symbols = record { name = 107 ∷ []; arity = 1 } ∷ record { name = 108 ∷ []; arity = 1 } ∷ [];
  start = 0;
  start_names = (65 ∷ []) ∷ [];
  rules = squaring_to 0 ∷ squaring_to 1 ∷ [];
}

-- from k to itself, with the product of the arguments twice, where the first is at most 0
abbrev pub product_rule : Rule
product_rule = record {
  source = 0;
  target = 0;
  left = 2;
  free = 0;
  names = (65 ∷ []) ∷ (66 ∷ []) ∷ [];
  updates = Multiplication (Variable 0) (Variable 1) ∷ Multiplication (Variable 0) (Variable 1) ∷ [];
  guard = Compare (Variable 0) AtMost (Literal (pos 0)) ∷ [];
  cost = None;
}

abbrev pub products : Program
products = record {
  symbols = record { name = 107 ∷ []; arity = 2 } ∷ [];
  start = 0;
  start_names = (65 ∷ []) ∷ (66 ∷ []) ∷ [];
  rules = product_rule ∷ [];
}

-- both places after it, with the product as both bounds
abbrev pub both_products : List Member
both_products = record { result_variable = key 1 1; local = both_polynomial } ∷ record { result_variable = key 1 2; local = both_polynomial } ∷ []

-- within no pivots the rule has no time, and the first place is nonlinear
abbrev pub products_report : Report
products_report = record {
  times = Untimed (TimeHitLimit (limit_hit_at 0 (asked.Rank 1))) ∷ [];
  costs = None ∷ [];
  total = None;
  sizes = (Unsized (SizeNonlinear (key 1 1)) ∷ Unsized (SizeNonlinear (key 1 1)) ∷ []) ∷ [];
}

-- k(A) -> l(C) where C >= A
abbrev pub above_rule : Rule
above_rule = rule_over 0 1 1 (Variable 1) (Compare (Variable 1) AtLeast (Variable 0) ∷ [])

abbrev pub above : Program
above = program_with (above_rule ∷ [])

-- A * A, and the place after a rule of this program with it as both bounds
abbrev pub square : Polynomial
square = record { coef = pos 1; vars = 0 ∷ 0 ∷ [] } ∷ []

abbrev pub square_after : ℕ → Member
square_after rule = record { result_variable = key rule 1; local = both_polynomial }

-- the places have a component each
abbrev pub two_components : List (List ResultVariable)
two_components = (key 1 1 ∷ []) ∷ (key 2 1 ∷ []) ∷ []

-- within no pivots no rule has a time; the first place squares itself, and the second takes it over
abbrev pub squares_report : Report
squares_report = record {
  times = Untimed (TimeHitLimit (limit_hit_at 0 (asked.Rank 1)))
      ∷ Untimed (TimeHitLimit (limit_hit_at 0 (asked.Rank 2))) ∷ [];
  costs = None ∷ None ∷ [];
  total = None;
  sizes = (Unsized (SizeNonlinear (key 1 1)) ∷ []) ∷ (Unsized (SizeMissing (key 1 1)) ∷ []) ∷ [];
}

-- the same report, which says that the second place is nonlinear
abbrev pub nonlinear_report : Report
nonlinear_report = record {
  times = squares_report.times;
  costs = None ∷ None ∷ [];
  total = None;
  sizes = (Unsized (SizeNonlinear (key 1 1)) ∷ []) ∷ (Unsized (SizeNonlinear (key 2 1)) ∷ []) ∷ [];
}

-- the same report, which gives the first place a size of 201 levels
abbrev pub towering_report : Report
towering_report = record {
  times = squares_report.times;
  costs = None ∷ None ∷ [];
  total = None;
  sizes = (Sized (tower 200) ∷ []) ∷ (Unsized (SizeLarge 823) ∷ []) ∷ [];
}

-- the first rule has a time, and the place after it a size; the second rule has none, and the place after it grows by
-- it
abbrev pub growing_report : Report
growing_report = record {
  times = Timed (Constant 1) ∷ Untimed (TimeHitLimit (limit_hit_at 0 (asked.Rank 2))) ∷ [];
  costs = None ∷ None ∷ [];
  total = None;
  sizes = (Sized (Input 0) ∷ []) ∷ (Unsized (SizeUntimed 2) ∷ []) ∷ [];
}

-- the same report, in which neither rule has a time
abbrev pub untimed_report : Report
untimed_report = record {
  times = Untimed (TimeHitLimit (limit_hit_at 0 (asked.Rank 1)))
      ∷ Untimed (TimeHitLimit (limit_hit_at 0 (asked.Rank 2))) ∷ [];
  costs = None ∷ None ∷ [];
  total = None;
  sizes = growing_report.sizes;
}

-- the same report, in which the second rule has a time
abbrev pub timed_report : Report
timed_report = record {
  times = Timed (Constant 1) ∷ Timed (Constant 3) ∷ [];
  costs = None ∷ None ∷ [];
  total = None;
  sizes = growing_report.sizes;
}

-- the size after the first rule has 201 levels, and the second rule has no time
abbrev pub untimed_tower_report : Report
untimed_tower_report = record {
  times = untimed_report.times;
  costs = None ∷ None ∷ [];
  total = None;
  sizes = (Sized (tower 200) ∷ []) ∷ (Unsized (SizeUntimed 2) ∷ []) ∷ [];
}

-- the same report, in which the second rule has a time
abbrev pub timed_tower_report : Report
timed_tower_report = record {
  times = timed_report.times;
  costs = None ∷ None ∷ [];
  total = None;
  sizes = (Sized (tower 200) ∷ []) ∷ (Unsized (SizeLarge 415) ∷ []) ∷ [];
}

-- the size after the first rule has 201 levels, and the second rule has no time
abbrev pub deep_report : Report
deep_report = record {
  times = Timed (Constant 1) ∷ Untimed (TimeLarge 208) ∷ [];
  costs = None ∷ None ∷ [];
  total = None;
  sizes = (Sized (tower 200) ∷ []) ∷ (Sized (tower 200) ∷ []) ∷ [];
}
