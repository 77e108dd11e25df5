use Rattle.std.proofs.Common.{◌≡◌, ◌≤◌, drop}
use Rattle.its_reader.proofs.Comments.{counted}
use Rattle.its_text.specs.Lexing.{closing_at}
use Rattle.its_reader.proofs.comment.comment_len.Given as goal

abbrev pub invariant-loop-i : goal.invariant-loop-i
invariant-loop-i l = record {
  few : l.depth ≤ l.i;
  left : closing_at l.bytes 0
      ≡ counted l.i (closing_at (drop l.i l.bytes) l.depth);
}
