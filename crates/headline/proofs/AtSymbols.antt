-- Facts that hold always hold whenever a run is at their symbol.
use Rattle.std.proofs.Common.{List}
use Rattle.std.proofs.lemmas.List.Elements.{All-weaker}
use Rattle.std.specs.List.{All}
use Rattle.model.specs.Programs.{Program}
use Rattle.location_facts.specs.declared.fact.LocFact.{LocFact}
use Rattle.location_facts.specs.Facts.{HoldsAlways}
use Rattle.symbol_facts.specs.Facts.{IsAtLeastAt}
use Rattle.headline.specs.AtSymbols.{difference_at, AllHoldAt}

pub all_hold_at : (p : Program) (facts : List LocFact) → All (HoldsAlways p) facts → AllHoldAt p facts
all_hold_at p facts h =
    All-weaker (HoldsAlways p) (λ f. IsAtLeastAt p f.symbol (difference_at f) f.least)
    (λ f always. record { each = λ start steps c run at. always.each start steps c run at }) facts h
