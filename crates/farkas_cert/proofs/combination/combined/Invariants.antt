use Rattle.std.proofs.Common.{◌≡◌, ◌*◌, ◌+◌, ◌≤◌, drop, map}
use Rattle.std.specs.Prelude.{◌+ℤ◌, unsigned_abs}
use Rattle.linear_forms.specs.Limits.{certificate_limit}
use Rattle.poly_terms.specs.Views.{form_of}
use Rattle.farkas_cert.specs.Columns.{number_in, combined_in}
use Rattle.farkas_cert.specs.Sizes.{column_size}
use Rattle.farkas_cert.proofs.combination.combined.Given as goal

-- the sum and the rest are the column's number; the sum is at most the greatest multiplier times the absolute values so
-- far
abbrev pub invariant-loop-i : goal.invariant-loop-i
invariant-loop-i l = record {
  sum : l.sum +ℤ combined_in l.column (drop l.i l.multipliers) (map form_of (drop l.i l.rows)) ≡ combined_in l.column l.multipliers (map form_of l.rows);
  size : unsigned_abs l.sum + certificate_limit * column_size (number_in l.column) (map form_of (drop l.i l.rows)) ≤ certificate_limit * column_size (number_in l.column) (map form_of l.rows);
}
