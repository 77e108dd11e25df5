-- Bounds that are looked up among facts.
use Rattle.std.specs.Prelude.{ℕ, ◌==◌, ◌&&◌, cond, Option, Some, None, option_map}
use denote.Ref.{Bor}
use Rattle.poly_terms.specs.model.Bounds as plain
use Rattle.poly_terms.specs.model.Facts.{Fact, Time, Size, Cost}
use Rattle.bound_expr.specs.declared.bound.Bound.{Bound}
use Rattle.bound_expr.specs.Views.{bound_of}

-- a bound that was found, as plain data
abbrev pub optional_bound : Option (Bor Bound) → Option plain.Bound
optional_bound o = option_map (λ b. bound_of b.now) o

-- the bound of a fact that is a time of the rule
abbrev pub time_by_fact : Fact → ℕ → Option plain.Bound
time_by_fact (Time u b) t = cond (u == t) (Some b) None
time_by_fact (Size u i b) t = None
time_by_fact (Cost u b) t = None

-- the bound of a fact that is a size of the place after the rule
abbrev pub size_by_fact : Fact → ℕ → ℕ → Option plain.Bound
size_by_fact (Time u b) t i = None
size_by_fact (Size u j b) t i = cond ((u == t) && (j == i)) (Some b) None
size_by_fact (Cost u b) t i = None
