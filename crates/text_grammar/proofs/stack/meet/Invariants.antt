use Rattle.std.proofs.Common.{◌≡◌, [], length}
use Rattle.text_core.specs.Readers.{onto}
use Rattle.text_grammar.specs.Leads.{behind, lead}
use Rattle.text_grammar.specs.Tabled.{Remains, row_in}
use Rattle.text_grammar.proofs.stack.meet.Given as goal

-- the table is sound, and the lead of the remaining stack, after the marks so far, is that of the whole stack
abbrev pub invariant-loop-symbol : goal.invariant-loop-symbol
invariant-loop-symbol l = record {
  remains : Remains l.initial.tables l.tables;
  leads : behind l.marks.items (lead l.class (row_in l.initial.tables l.class) (onto l.expected.items []))
      ≡ behind l.initial.marks.items (lead l.class (row_in l.initial.tables l.class) (onto l.initial.expected.items []));
}

abbrev pub decreases-loop-symbol : goal.decreases-loop-symbol
decreases-loop-symbol l = length l.expected.items
