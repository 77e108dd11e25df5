use Rattle.std.proofs.Common.{take}
use Rattle.std.specs.List.{All}
use Rattle.lp_builder.specs.poly_terms.declared.poly.Row.{Row}
use Rattle.lp_builder.specs.poly_terms.Views.{form_of}
use Rattle.lp_builder.specs.Descriptions.{IsWritable}
use Rattle.sample_questions.proofs.writable.are_rows_writable.Given as goal

-- the rows before this one can be written
abbrev pub invariant-loop-row : goal.invariant-loop-row
invariant-loop-row l = All (λ (r : Row). IsWritable l.unknowns (form_of r)) (take l.row-index l.rows)
