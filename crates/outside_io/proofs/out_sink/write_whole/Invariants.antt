use Rattle.std.proofs.Common.{◌≤◌, ◌-◌, length, take}
use Rattle.std.specs.Io.KnownBytes.{Appends}
use Rattle.outside_io.proofs.out_sink.write_whole.Given as goal

-- this much of the piece was appended to what the writer has
abbrev pub invariant-loop-written : goal.invariant-loop-written
invariant-loop-written g l = record {
  within : l.written ≤ length l.piece;
  appends : Appends (g.W.Write.contents l.initial.writer) (g.W.Write.contents l.writer) (take l.written l.piece);
}

abbrev pub decreases-loop-written : goal.decreases-loop-written
decreases-loop-written g l = length l.piece - l.written
