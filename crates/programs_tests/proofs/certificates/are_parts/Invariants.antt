use Rattle.std.proofs.Common.{take}
use Rattle.farkas_cert.specs.Sizes.{AreParts}
use Rattle.programs_tests.proofs.certificates.are_parts.Given as goal

abbrev pub invariant-loop-part : goal.invariant-loop-part
invariant-loop-part l = AreParts (take l.part-index l.parts)
