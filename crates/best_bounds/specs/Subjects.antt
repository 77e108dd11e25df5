-- Subjects of statements.
use Rattle.std.specs.Prelude.{ℕ, List, ◌+◌, [], ◌∷◌, map}
use Rattle.std.specs.List.{All, Contains}
use Rattle.its_model.specs.model.Terms.{Term}
use Rattle.program_claims.specs.Claims.{Stated, Time, Cost, Total, Above, Below, AtSymbol}

-- The subject of a statement: how often a rule occurs, what its steps cost, what all steps cost, and the value at a place
-- after a rule, from above or from below. A fact at a symbol has itself as its subject.
pub data Subject : Type 0 where
  TimeOf : ℕ → Subject
  CostOf : ℕ → Subject
  AllCosts : Subject
  FromAbove : ℕ → ℕ → Subject
  FromBelow : ℕ → ℕ → Subject
  FactAt : ℕ → Term → Subject

abbrev pub subject_of : Stated → Subject
subject_of (Time t b) = TimeOf t
subject_of (Cost t b) = CostOf t
subject_of (Total b) = AllCosts
subject_of (Above t i b) = FromAbove t i
subject_of (Below t i b) = FromBelow t i
subject_of (AtSymbol s f) = FactAt s f

-- The second list has statements of the first one alone, and one on each subject of the first one's statements.
pub record KeepsSubjects (all some : List Stated) : Type 0 where
  pub among : All (Contains all) some
  pub on_each : All (Contains (map subject_of some)) (map subject_of all)

-- 1 for a bound on a time, on a cost or on all costs, and 0 for another statement
abbrev pub one_if_on_steps : Stated → ℕ
one_if_on_steps (Time t b) = 1
one_if_on_steps (Cost t b) = 1
one_if_on_steps (Total b) = 1
one_if_on_steps (Above t i b) = 0
one_if_on_steps (Below t i b) = 0
one_if_on_steps (AtSymbol s f) = 0

-- how many statements are on times, costs and totals
abbrev pub bounds_on_steps : List Stated → ℕ
bounds_on_steps [] = 0
bounds_on_steps (s ∷ stated) = one_if_on_steps s + bounds_on_steps stated
