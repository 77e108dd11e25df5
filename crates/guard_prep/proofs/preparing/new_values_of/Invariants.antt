use Rattle.std.proofs.Common.{◌≡◌, ◌++◌, ◌+◌, ◌≤◌, map, drop}
use Rattle.poly_terms.specs.Views.{poly_of, form_of}
use Rattle.guard_prep.specs.Prepared.{is_nonlinear, count_true, new_values_from}
use Rattle.guard_prep.proofs.preparing.new_values_of.Given as goal

-- the forms so far and those of the remaining places are all, and there is an unknown for each remaining nonlinear
-- place
abbrev pub invariant-loop-p : goal.invariant-loop-p
invariant-loop-p l = record {
  whole : map form_of l.new_values.items ++ new_values_from l.unknowns l.next (map poly_of (drop l.p-index l.polys)) ≡ new_values_from l.unknowns l.own (map poly_of l.polys);
  room : l.next + count_true (map is_nonlinear (map poly_of (drop l.p-index l.polys))) ≤ l.unknowns;
}
