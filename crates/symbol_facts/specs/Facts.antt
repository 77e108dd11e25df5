-- Facts at symbols: whenever a run is at a symbol, a sum of multiples of its values there is at least a number.
use Rattle.std.specs.Prelude.{◌≡◌, ℕ, List, ℤ, ◌≤ℤ◌}
use Rattle.model.specs.Polynomials.{Polynomial, polynomial_value}
use Rattle.model.specs.Programs.{Program}
use Rattle.model.specs.Runs.{Config, Step, IsRun}

-- a fact at a symbol: a polynomial over the places there, which are numbered from 0, is at least a number
pub record SymbolFact : Type 0 where
  pub symbol : ℕ
  pub form : Polynomial
  pub least : ℤ

-- whenever a run is at the symbol, from any integers and by any choice of rules, this value of where it is is at least a
-- number
pub record IsAtLeastAt (p : Program) (symbol : ℕ) (of_config : Config → ℤ) (least : ℤ) : Type 0 where
  pub each : (start : List ℤ) (steps : List Step) (c : Config) → IsRun p start steps c → c.at ≡ symbol
      → least ≤ℤ of_config c

-- the fact holds on all runs
abbrev pub IsSymbolFact : Program → SymbolFact → Type 0
IsSymbolFact p f = IsAtLeastAt p f.symbol (λ c. polynomial_value f.form c.values) f.least
