use Rattle.std.proofs.Common.{◌≡◌, take}
use Rattle.std.specs.Prelude.{map}
use Rattle.poly_terms.specs.Views.{form_of}
use Rattle.location_facts.proofs.copies.copied_rows.Given as goal

-- the rows so far are copied
abbrev pub invariant-loop-row : goal.invariant-loop-row
invariant-loop-row l = map form_of l.copies.items ≡ map form_of (take l.row-index l.rows)
