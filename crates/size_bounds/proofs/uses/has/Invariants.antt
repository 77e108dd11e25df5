use Rattle.std.proofs.Common.{◌≡◌, drop}
use Rattle.model.specs.Entries.{is_in}
use Rattle.size_bounds.proofs.uses.has.Given as goal

-- the number is in the list exactly if it is among the remaining ones
abbrev pub invariant-loop-other : goal.invariant-loop-other
invariant-loop-other l = is_in l.number (drop l.other-index l.numbers) ≡ is_in l.number l.numbers
