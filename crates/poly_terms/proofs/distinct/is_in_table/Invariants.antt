use Rattle.std.proofs.Common.{◌≡◌, drop}
use Rattle.poly_terms.specs.Distinct.{is_within_table}
use Rattle.poly_terms.specs.Keys.{number_of}
use Rattle.poly_terms.proofs.distinct.is_in_table.Given as goal

-- the remaining key fits the remaining table exactly if the whole key fits the whole table
abbrev pub invariant-loop : goal.invariant-loop
invariant-loop l = is_within_table (drop l.index l.table) (number_of l.rest) ≡ is_within_table l.table (number_of l.fn.key)
