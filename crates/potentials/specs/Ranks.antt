-- Ranking functions with entries: they are potentials whose only gains are at entries.
use Rattle.std.specs.Prelude.{◌≡◌, ◌≢◌, ℕ, ◌*◌, ◌≤◌, Bool, true, false, if◌then◌else◌, ◌==◌, List, ℤ, pos, ◌+ℤ◌, ◌≤ℤ◌}
use Rattle.run_counting.specs.model.Programs.{Program}
use Rattle.run_counting.specs.model.Runs.{Config, Step, IsRun, count}
use Rattle.run_counting.specs.Paying.{allowance, income}
use Rattle.potentials.specs.Potentials.{Keeps, Resets, Potential, Goal, level, begin_at, IsTaken, Pays}

-- a ranking function: the symbols that have one, the function at each, the rules that it doesn't rise by, the common
-- denominator, and the rule that it falls by
pub record Ranking : Type 0 where
  pub has : ℕ → Bool
  pub function : ℕ → List ℤ → ℤ
  pub is_member : ℕ → Bool
  pub den : ℕ
  pub rule : ℕ

-- entries, each with the weight that it brings in, once for each time that it is listed
pub record Entries : Type 0 where
  pub weight : ℕ → ℕ
  pub listed : List ℕ

abbrev pub brings : Entries → ℕ → ℕ
brings e t = allowance e.weight e.listed t

-- the potential of a ranking function: its rules keep it without a gain, and all other rules reset it to at most den
-- times the weight that they bring in; and the goal, 1 for each step by its rule
abbrev pub ranking_potential : Ranking → Entries → Potential
ranking_potential r e = record {
  has = r.has;
  function = r.function;
  kind = λ t. if r.is_member t then Keeps else Resets;
  gain = λ t env. if r.is_member t then pos 0 else pos (r.den * brings e t);
}

abbrev pub ranking_goal : Ranking → Goal
ranking_goal r = record { is_paid = λ t. t == r.rule; amount = λ t env. pos 1 }

-- a ranking function with entries ranks its rule: it begins within the weight of the virtual entry; each of its rules
-- leaves a symbol with a function and doesn't raise it; by its rule it falls by den, and is at least den before; and
-- any other rule that leads to a symbol with a function brings in at least the function's value there
pub record Ranks (p : Program) (start : List ℤ) (r : Ranking) (e : Entries) : Type 0 where
  pub rule : r.rule ≢ 0
  pub member : r.is_member r.rule ≡ true
  pub begins : level (ranking_potential r e) (begin_at p start) ≤ r.den * brings e 0
  pub leaves : (c : Config) (s : Step) (d : Config) → IsTaken p start c s d → r.is_member s.rule ≡ true
      → r.has c.at ≡ true
  pub keeps : (c : Config) (s : Step) (d : Config) → IsTaken p start c s d → r.is_member s.rule ≡ true
      → r.has d.at ≡ true → r.function d.at d.values ≤ℤ r.function c.at c.values
  pub falls : (c : Config) (s : Step) (d : Config) → IsTaken p start c s d → s.rule ≡ r.rule → r.has d.at ≡ true
      → (r.function d.at d.values +ℤ pos r.den) ≤ℤ r.function c.at c.values
  pub floor : (c : Config) (s : Step) (d : Config) → IsTaken p start c s d → s.rule ≡ r.rule
      → pos r.den ≤ℤ r.function c.at c.values
  pub enters : (c : Config) (s : Step) (d : Config) → IsTaken p start c s d → r.is_member s.rule ≡ false
      → r.has d.at ≡ true → r.function d.at d.values ≤ℤ pos (r.den * brings e s.rule)

-- a ranking function pays for its rule as a potential, so the rule occurs at most as often as the sum of the entries'
-- weights over their steps
pub record RanksAreFalls : Type 0 where
  pub pays : (p : Program) (start : List ℤ) (r : Ranking) (e : Entries) → Ranks p start r e
      → Pays p start (ranking_potential r e) r.den (ranking_goal r)
  pub counts : (p : Program) (start : List ℤ) (r : Ranking) (e : Entries) → 1 ≤ r.den → Ranks p start r e
      → (steps : List Step) (c : Config) → IsRun p start steps c
      → count r.rule steps ≤ income e.weight e.listed steps
