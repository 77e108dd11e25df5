use Rattle.std.proofs.Common.{◌≡◌, length}
use Rattle.simplex_core.specs.Scaling.{AreOver, AreWithin}
use Rattle.simplex_core.proofs.scaling.numbers_over.Given as goal

abbrev pub invariant-loop-position : goal.invariant-loop-position
invariant-loop-position l =
    (length l.numbers.items ≡ l.position) × AreOver l.fractions l.position l.numbers.items l.den × AreWithin l.limit l.position l.numbers.items
