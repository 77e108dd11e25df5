-- Facts at symbols, as `facts` and `best` write them, stated like those of `check`.
use Rattle.std.specs.Prelude.{◌-ℤ◌, List, ℤ}
use Rattle.std.specs.List.{All}
use Rattle.model.specs.Programs.{Program}
use Rattle.model.specs.Runs.{Config, place_value}
use Rattle.location_facts.specs.declared.fact.LocFact.{LocFact}
use Rattle.symbol_facts.specs.Facts.{IsAtLeastAt}

-- the value at the one place of a fact, less that at the other; place 0 stands for the number 0
abbrev pub difference_at : LocFact → Config → ℤ
difference_at f c = place_value c f.plus -ℤ place_value c f.minus

-- each of the facts holds whenever a run is at its symbol
abbrev pub AllHoldAt : Program → List LocFact → Type 0
AllHoldAt p facts = All (λ f. IsAtLeastAt p f.symbol (difference_at f) f.least) facts
