-- The bounds known where a node is checked: as a table, and as facts in which the first that matches is looked up.
use Rattle.std.specs.Prelude.{◌≡◌, ℕ, zero, ◌==◌, ◌&&◌, Bool, true, false, cond, List, [], ◌∷◌, Option, Some, None}
use Rattle.run_counting.specs.model.Bounds.{Bound, Constant}
use Rattle.run_counting.specs.model.Facts.{Fact, Time, Size, Cost}

-- there is a bound
abbrev pub IsKnown : Option Bound → Type 0
IsKnown o = (b : Bound) × (o ≡ Some b)

-- the bound, or 0 if there is none
abbrev pub known : Option Bound → Bound
known None = Constant 0
known (Some b) = b

-- the first time of a rule
abbrev pub time_in : List Fact → ℕ → Option Bound
time_in [] t = None
time_in (Time u b ∷ facts) t = cond (u == t) (Some b) (time_in facts t)
time_in (Size u i b ∷ facts) t = time_in facts t
time_in (Cost u b ∷ facts) t = time_in facts t

-- the first size of a place after a rule
abbrev pub size_in : List Fact → ℕ → ℕ → Option Bound
size_in [] t i = None
size_in (Time u b ∷ facts) t i = size_in facts t i
size_in (Size u j b ∷ facts) t i = cond ((u == t) && (j == i)) (Some b) (size_in facts t i)
size_in (Cost u b ∷ facts) t i = size_in facts t i

-- a table of bounds: each rule has a time or none, and each place after a rule a size or none
pub record Table : Type 0 where
  pub time : ℕ → Option Bound
  pub size : ℕ → ℕ → Option Bound

-- the table of facts: the first time of each rule, and the first size of each place after a rule
abbrev pub table_of : List Fact → Table
table_of facts = record { time = time_in facts; size = size_in facts }

-- the bound is the constant 0
abbrev pub is_zero_bound : Bound → Bool
is_zero_bound (Constant zero) = true
is_zero_bound b = false

-- some fact is a time of the rule that is 0
abbrev pub has_zero_time : List Fact → ℕ → Bool
has_zero_time [] t = false
has_zero_time (Time u b ∷ facts) t = cond ((u == t) && is_zero_bound b) true (has_zero_time facts t)
has_zero_time (Size u i b ∷ facts) t = has_zero_time facts t
has_zero_time (Cost u b ∷ facts) t = has_zero_time facts t
