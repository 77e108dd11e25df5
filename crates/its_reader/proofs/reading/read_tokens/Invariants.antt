use Rattle.std.proofs.Common.{◌≡◌, ◌+◌, ◌≤◌, length}
use Rattle.its_reader.specs.Faults.{maybe_fault}
use Rattle.its_reader.specs.Reading.{IsReading}
use Rattle.its_reader.specs.Views.{depth_of, tokens_in, listed}
use Rattle.its_reader.proofs.reading.read_tokens.Given as goal

abbrev pub invariant-loop-next : goal.invariant-loop-next
invariant-loop-next l = record {
  whole : l.lexer.at + length l.lexer.text.now ≡ length l.bytes;
  depth : depth_of l.lexer.mode ≤ l.lexer.at;
  reading : IsReading l.bytes l.stand.state l.stand.last (maybe_fault l.stand.best) l.draft
      (listed l.next (listed l.behind (tokens_in l.lexer)));
}

abbrev pub decreases-loop-next : goal.decreases-loop-next
decreases-loop-next l = length (listed l.next (listed l.behind (tokens_in l.lexer)))
