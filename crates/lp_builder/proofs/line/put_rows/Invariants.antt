use Rattle.std.proofs.Common.{◌≡◌, ◌+◌, map, take}
use Rattle.std.specs.Prelude.{neg_ℤ}
use Rattle.simplex_core.specs.linear_forms.Questions.{number}
use Rattle.poly_terms.specs.Views.{form_of}
use Rattle.lp_builder.specs.Entries.{Writes}
use Rattle.lp_builder.proofs.line.put_rows.Given as goal

-- the numbers of the rows so far are written
abbrev pub invariant-loop-row : goal.invariant-loop-row
invariant-loop-row l =
    Writes l.initial.writer l.writer (map (λ r. neg_ℤ (number l.line.unknowns l.line.number r)) (map form_of (take l.row-index l.rows))) × (l.writer.col ≡ l.initial.writer.col + l.row-index)
