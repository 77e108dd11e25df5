use Rattle.std.proofs.Common.{take}
use Rattle.farkas_cert.specs.Sizes.{AreWithinLimit}
use Rattle.programs_tests.proofs.certificates.are_multipliers.Given as goal

abbrev pub invariant-loop-multiplier : goal.invariant-loop-multiplier
invariant-loop-multiplier l = AreWithinLimit (take l.multiplier-index l.multipliers)
