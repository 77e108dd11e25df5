use Rattle.std.proofs.Common.{◌≡◌, ◌+◌, ◌-◌, ◌^◌, ◌≤◌, min, length, take}
use Rattle.cert_lexer.specs.Packed.{inners_in}
use Rattle.cert_text.specs.NumberFaults.{bytes_of}
use Rattle.cert_text.proofs.taking.bytes_of.Given as goal

-- the bytes of the pieces passed and those of the pieces left are the bytes of all
abbrev pub invariant-loop-inner : goal.invariant-loop-inner
invariant-loop-inner l =
    (min (l.sum + bytes_of (take l.left (inners_in l.rest))) (2 ^ 64 - 1)
    ≡ min (bytes_of (take l.count (inners_in l.pieces))) (2 ^ 64 - 1))
    × (l.sum ≤ 2 ^ 64 - 1)

abbrev pub decreases-loop-inner : goal.decreases-loop-inner
decreases-loop-inner l = length (inners_in l.rest)
