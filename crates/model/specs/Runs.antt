-- What a program does: configurations, steps and runs over unbounded integers.
use Rattle.std.specs.Prelude.{◌≡◌, ℕ, zero, suc, ◌+◌, List, [], ◌∷◌, ◌++◌, length, map, ℤ, pos, Some, if◌then◌else◌}
use Rattle.std.specs.Prelude.{◌==◌, slice_index_or, nat_abs}
use Rattle.model.specs.Terms.{value}
use Rattle.model.specs.Programs.{Program, Rule, rule_at, arity_of, GuardHolds}

-- a symbol with an integer for each of its places
pub record Config : Type 0 where
  pub at : ℕ
  pub values : List ℤ

-- a step: the number of the rule that it uses, and the values of its free variables
pub record Step : Type 0 where
  pub rule : ℕ
  pub free : List ℤ

-- the rule leads from c to d, with these values of its free variables
pub record Leads (r : Rule) (c : Config) (free : List ℤ) (d : Config) : Type 0 where
  pub source : c.at ≡ r.source
  pub left : length c.values ≡ r.left
  pub free_ones : length free ≡ r.free
  pub guard : GuardHolds (c.values ++ free) r.guard
  pub target : d.at ≡ r.target
  pub values : d.values ≡ map (λ u. value u (c.values ++ free)) r.updates

-- the step leads from c to d by the rule with its number
pub record IsStep (p : Program) (c : Config) (s : Step) (d : Config) : Type 0 where
  pub rule : Rule
  pub numbered : rule_at p s.rule ≡ Some rule
  pub leads : Leads rule c s.free d

-- a run begins at the start symbol, with one integer for each of its arguments
pub record Begins (p : Program) (start : List ℤ) (c : Config) : Type 0 where
  pub places : length start ≡ arity_of p p.start
  pub at : c.at ≡ p.start
  pub values : c.values ≡ start

-- the steps, last step first, lead from the start symbol with the values `start` to c; without a step this is a run as
-- well
abbrev pub IsRun : Program → List ℤ → List Step → Config → Type 0
IsRun p start [] c = Begins p start c
IsRun p start (s ∷ earlier) c = (b : Config) × IsRun p start earlier b × IsStep p b s c

-- 1 if the numbers are equal, else 0
abbrev pub one_if_same : ℕ → ℕ → ℕ
one_if_same s t = if s == t then 1 else 0

-- how often a rule occurs among the steps; the virtual entry, rule 0, occurs once, before all of them
abbrev pub count : ℕ → List Step → ℕ
count t [] = one_if_same 0 t
count t (s ∷ earlier) = one_if_same s.rule t + count t earlier

-- the rule of the last step, or the virtual entry if there is no step
abbrev pub last_rule : List Step → ℕ
last_rule [] = 0
last_rule (s ∷ earlier) = s.rule

-- the value at a place; places are numbered from 1
abbrev pub place_value : Config → ℕ → ℤ
place_value c zero = pos 0
place_value c (suc i) = slice_index_or c.values i (pos 0)

-- the absolute values of the start values
abbrev pub sizes_of_start : List ℤ → List ℕ
sizes_of_start start = map nat_abs start
