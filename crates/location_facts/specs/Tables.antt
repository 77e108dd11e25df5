-- Tables by symbol: the rules that lead to each, and how many facts of each a list has.
use Rattle.std.specs.Prelude.{◌≡◌, ℕ, ◌<◌, List, length, Vec, Some, slice_get, slice_index}
use Rattle.std.specs.declared.alloc.Global.{Global}
use Rattle.poly_terms.specs.model.Programs.{Program}
use Rattle.location_facts.specs.declared.fact.LocFact.{LocFact}
use Rattle.location_facts.specs.Faults.{rules_into}
use Rattle.location_facts.specs.Rows.{facts_at}

-- the entry of each symbol of a program in a table is the rules that lead to it
pub record AreRulesInto (p : Program) (table : List (Vec ℕ Global)) : Type 0 where
  pub many : length table ≡ length p.symbols
  pub each : (s : ℕ) (rules : Vec ℕ Global) → slice_get table s ≡ Some rules → rules.items ≡ rules_into p s

-- the entry of each symbol below a number in a table is how many facts of it a list has
pub record AreCounts (symbols : ℕ) (facts : List LocFact) (counts : List ℕ) : Type 0 where
  pub many : length counts ≡ symbols
  pub each : (s : ℕ) → s < symbols → slice_index counts s ≡ length (facts_at s facts)
