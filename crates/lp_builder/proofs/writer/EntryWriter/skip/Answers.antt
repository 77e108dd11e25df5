use Rattle.std.proofs.Common.{ℕ, ◌+◌, ap, sym, ◌∙◌, refl, List, ◌++◌}
use Rattle.std.specs.Prelude.{pos}
use Rattle.std.proofs.lemmas.List.{append-nil, length-replicate}
use Rattle.simplex_core.specs.declared.problem.Entry.{Entry}
use Rattle.lp_builder.proofs.Entries.{sparse-zeros}
use Rattle.lp_builder.proofs.writer.EntryWriter.skip.Goals as goal

pub returns : goal.returns
returns c =
    let old = c.args.self.now in
    record {
      row = refl;
      col = ap (λ (n : ℕ). old.col + n) (sym (length-replicate c.args.columns (pos 0)));
      entries = sym (ap (λ (es : List Entry). old.entries.items ++ es) (sparse-zeros old.row old.col c.args.columns) ∙ append-nil old.entries.items);
    }
