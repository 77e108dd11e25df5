use Rattle.std.proofs.Common.{◌≡◌, ◌≤◌, ◌-◌, ◌++◌, length, take, drop}
use Rattle.std.specs.List.{concat}
use Rattle.proof_parts.specs.Lines.{lines_of}
use Rattle.proof_parts.specs.Kinds.{is_line_of}
use Rattle.proof_parts.specs.Parts.{through, past}
use Rattle.proof_parts.proofs.lines.through_len.Given as goal

-- no line passed is of the kind, and what is left decides which is the first one
abbrev pub invariant-loop-at : goal.invariant-loop-at
invariant-loop-at l = record {
  within : l.at ≤ length l.bytes;
  front : take l.at l.bytes ++ concat (through (is_line_of l.kind) (lines_of (drop l.at l.bytes)))
      ≡ concat (through (is_line_of l.kind) (lines_of l.bytes));
  back : past (is_line_of l.kind) (lines_of (drop l.at l.bytes)) ≡ past (is_line_of l.kind) (lines_of l.bytes);
}

abbrev pub decreases-loop-at : goal.decreases-loop-at
decreases-loop-at l = length l.bytes - l.at
