use Rattle.std.proofs.Common.{◌≡◌, ◌+◌, length, drop}
use Rattle.std.specs.Char.{is_ascii_digit}
use Rattle.text_core.specs.Prefixes.{prefix}
use Rattle.text_core.proofs.bytes.digits_len.Given as goal

-- the bytes passed are digits, and the digits at the front of the remaining bytes continue them
abbrev pub invariant-loop-i : goal.invariant-loop-i
invariant-loop-i l = l.i + length (prefix is_ascii_digit (drop l.i l.bytes)) ≡ length (prefix is_ascii_digit l.bytes)
