use Rattle.std.proofs.Common.{take}
use Rattle.farkas_cert.specs.Sizes.{AreRowNumbers}
use Rattle.programs_tests.proofs.certificates.are_row_numbers.Given as goal

abbrev pub invariant-loop-number : goal.invariant-loop-number
invariant-loop-number l = AreRowNumbers (take l.number-index l.numbers)
