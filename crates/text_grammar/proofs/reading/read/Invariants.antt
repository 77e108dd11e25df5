use Rattle.std.proofs.Common.{◌≡◌, [], length}
use Rattle.text_core.specs.Readers.{onto}
use Rattle.text_core.specs.Reading.{answer}
use Rattle.text_grammar.specs.Texts.{reader}
use Rattle.text_grammar.specs.Marks.{fault_of}
use Rattle.text_grammar.specs.Tabled.{IsTableOf}
use Rattle.text_grammar.proofs.ReadingLaws.{Decides}
use Rattle.text_grammar.proofs.reading.read.Given as goal

-- the text is the same, the table belongs to its grammar, and the current state decides the answer together with the
-- remaining tokens
abbrev pub invariant-loop-token : goal.invariant-loop-token
invariant-loop-token g l = record {
  same : g.X.Text.text_of l.text ≡ g.X.Text.text_of l.initial.text;
  tabled : IsTableOf l.tables (g.X.Text.text_of l.initial.text).grammar;
  decides : Decides (g.X.Text.text_of l.initial.text) l.len (answer (reader (g.X.Text.text_of l.initial.text)) l.len (g.L.Tokens.left l.initial.tokens))
      (g.X.Text.Knows l.text) (fault_of l.best) (onto l.expected.items []) (g.L.Tokens.left l.tokens);
}

abbrev pub decreases-loop-token : goal.decreases-loop-token
decreases-loop-token g l = length (g.L.Tokens.left l.tokens)
