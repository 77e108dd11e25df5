use Rattle.std.proofs.Common.{◌≡◌, ◌+◌, drop}
use Rattle.proof_parts.specs.Lines.{first_line_length}
use Rattle.proof_parts.proofs.lines.line_len.Given as goal

-- the bytes passed are of the first line, and then come those that what is left begins with
abbrev pub invariant-loop-i : goal.invariant-loop-i
invariant-loop-i l = l.i + first_line_length (drop l.i l.bytes) ≡ first_line_length l.bytes
