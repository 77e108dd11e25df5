-- The texts of lemmas and claims, and what they are read as.
use Rattle.std.proofs.Common.{refl}
use Rattle.std.specs.Fmt.{digits}
use Rattle.potential_writer.specs.Parts.{certificate_text, form_text, poly_text}
use Rattle.potential_writer.specs.Lemmas.{counts_text, functions_text, phase_steps_text, table_text}
use Rattle.potential_writer.specs.Claims.{side_text}
use Rattle.potential_writer.specs.Worked.{LinesAreWritten, LinesAreReadBack, WorkedTexts}

lines_written : LinesAreWritten
unfolding digits poly_text certificate_text functions_text table_text form_text counts_text phase_steps_text side_text
lines_written = record {
  nothing = refl;
  fall = refl;
  moves = refl;
  rows = refl;
  combined = refl;
  phases = refl;
  bounds = refl;
  each_claim = refl;
  absent = refl;
  at_symbol = refl;
}

lines_read_back : LinesAreReadBack
unfolding digits poly_text certificate_text functions_text table_text form_text counts_text phase_steps_text side_text
lines_read_back = record {
  fall = refl;
  moves = refl;
  rows = refl;
  combined = refl;
  phases = refl;
  bounds = refl;
  each_claim = refl;
}

pub worked_texts : WorkedTexts
worked_texts = record { written = lines_written; read_back = lines_read_back }
