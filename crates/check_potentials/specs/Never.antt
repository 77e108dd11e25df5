-- Facts with the flags of the rules that they say never occur.
use Rattle.std.specs.Prelude.{◌<◌, length, map}
use Rattle.potential_types.specs.Views.{fact_view}
use Rattle.never_rules.specs.Never.{TellNever}
use Rattle.check_potentials.specs.declared.ground.Ground.{Ground}
use Rattle.check_potentials.specs.declared.known.Known.{Known}

-- the flags are those of the facts, and each rule of the program has one
pub record IsKnown (g : Ground) (k : Known) : Type 0 where
  pub tell : TellNever (map fact_view k.facts.now) k.never.now
  pub all : length g.program.now.rules.items < length k.never.now
