use Rattle.std.proofs.Common.{◌≡◌, List, drop}
use Rattle.text_grammar.specs.Grammars.{Event}
use Rattle.text_grammar.specs.Texts.{did}
use Rattle.text_grammar.proofs.reading.do_all.Given as goal

-- doing the remaining marks from the current state gives the same result as doing all of them
abbrev pub invariant-loop-mark : goal.invariant-loop-mark
invariant-loop-mark g l = record {
  same : g.X.Text.text_of l.text ≡ g.X.Text.text_of l.initial.text;
  known : (es : List (Event _)) → g.X.Text.Knows l.initial.text es
      → (fs : List (Event _)) × g.X.Text.Knows l.text fs
      × (did fs (drop l.mark-index l.marks) ≡ did es l.marks);
}
