use Rattle.std.proofs.Common.{◌≡◌, map}
use Rattle.its_model.specs.Views.{symbol_of}
use Rattle.its_writer.specs.Generated.{locations}
use Rattle.its_writer.proofs.generator.locations.Given as goal

-- the locations below the number have been made
abbrev pub invariant-loop-number : goal.invariant-loop-number
invariant-loop-number l = map symbol_of l.symbols.items ≡ locations l.number
