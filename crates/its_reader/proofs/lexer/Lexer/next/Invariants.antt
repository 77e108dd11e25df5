use Rattle.std.proofs.Common.{◌≡◌, ◌+◌, ◌≤◌, length}
use Rattle.its_reader.specs.Views.{depth_of, tokens_in}
use Rattle.its_reader.proofs.lexer.Lexer.next.Given as goal

abbrev pub invariant-loop-first : goal.invariant-loop-first
invariant-loop-first l = record {
  tokens : tokens_in l.self ≡ tokens_in l.initial.self;
  whole : l.self.at + length l.self.text.now ≡ l.initial.self.at + length l.initial.self.text.now;
  depth : depth_of l.self.mode ≤ l.self.at;
}

abbrev pub decreases-loop-first : goal.decreases-loop-first
decreases-loop-first l = length l.self.text.now
