-- Facts that hold at a symbol: a value, or the difference of two values, is at least a number.
use Rattle.std.specs.Prelude.{◌≡◌, ◌-ℤ◌, ◌≤ℤ◌, List, ℤ}
use Rattle.poly_terms.specs.model.Programs.{Program}
use Rattle.poly_terms.specs.model.Runs.{Config, Step, IsRun, place_value}
use Rattle.location_facts.specs.declared.fact.LocFact.{LocFact}

-- a configuration satisfies a fact: if it is at the fact's symbol, the value at place plus, less the value at place
-- minus, is at least least; place 0 stands for the number 0
abbrev pub IsMetAt : LocFact → Config → Type 0
IsMetAt f c = c.at ≡ f.symbol → f.least ≤ℤ (place_value c f.plus -ℤ place_value c f.minus)

-- on every run, from any integers and by any choice of rules, the configuration that it reaches satisfies the fact
pub record HoldsAlways (p : Program) (f : LocFact) : Type 0 where
  pub each : (start : List ℤ) (steps : List Step) (c : Config) → IsRun p start steps c → IsMetAt f c
