-- The worked values of lines.
use Rattle.std.proofs.Common.{[], ◌∷◌, refl}
use Rattle.std.specs.Prelude.{codes}
use Rattle.text_core.specs.Faults.{breaks}
use Rattle.text_core.specs.Rows as row
use Rattle.text_core.specs.Lines.{In, Semicolon, InLine, lines}
use Rattle.text_core.specs.WorkedLines.{LinesAreWorkedOut, LinesAreRead, WorkedLines, HasFault, tokens}
use Rattle.text_core.proofs.FirstFaults.{answer_is, answers_all, one_tree_each, one_first_each, breaks_here}
use Rattle.text_core.proofs.LineLaws.{line_laws}

-- `1;12;,` breaks off at its comma, after two lines
later : HasFault (codes "1;12;,") row.Syntax 5
later = breaks
    (record { piece = Semicolon; at = 4; upto = 5 } ∷ record { piece = In (row.Number 12); at = 2; upto = 4 } ∷ record { piece = Semicolon; at = 1; upto = 2 }
    ∷ record { piece = In (row.Number 1); at = 0; upto = 1 } ∷ [])
    (record { piece = In row.Comma; at = 5; upto = 6 } ∷ []) (InLine (row.One 12 ∷ row.One 1 ∷ []) row.Begins) refl refl
    (breaks_here lines line_laws (Semicolon ∷ In (row.Number 12) ∷ Semicolon ∷ In (row.Number 1) ∷ []) (InLine (row.One 12 ∷ row.One 1 ∷ []) row.Begins) (In row.Comma) [] refl refl)
    refl

-- the worked values of the faults of texts of lines hold
worked : LinesAreWorkedOut
worked = record {
  two = answer_is lines line_laws 7 (tokens (codes "1, 2;3;"));
  nothing = answer_is lines line_laws 0 (tokens []);
  second_row = answer_is lines line_laws 6 (tokens (codes "1;12;,"));
  broken_later = later;
  too_many = answer_is lines line_laws 10 (tokens (codes "1;1,2,3,4;"));
  too_many_open = answer_is lines line_laws 9 (tokens (codes "1;1,2,3,4"));
  each_alone = answer_is lines line_laws 8 (tokens (codes "1,2;3,4;"));
  within_row = answer_is lines line_laws 5 (tokens (codes "1;1,,"));
  open_row = answer_is lines line_laws 3 (tokens (codes "1,;"));
  no_row = answer_is lines line_laws 3 (tokens (codes "1;;"));
  ends_early = answer_is lines line_laws 3 (tokens (codes "1;2"));
}

-- the reader of lines satisfies the laws
read : LinesAreRead
read = record { laws = line_laws; answers = answers_all lines line_laws; one_tree = one_tree_each lines line_laws; one_first = one_first_each lines line_laws }

pub worked_lines : WorkedLines
worked_lines = record { worked = worked; read = read }
