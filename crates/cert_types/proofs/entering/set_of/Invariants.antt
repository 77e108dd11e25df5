use Rattle.std.proofs.Common.{take}
use Rattle.cert_types.specs.NumberSets.{HasJust}
use Rattle.cert_types.proofs.entering.set_of.Given as goal

-- the set contains exactly the numbers read so far
abbrev pub invariant-loop-number : goal.invariant-loop-number
invariant-loop-number l = HasJust l.set (take l.number-index l.numbers)
