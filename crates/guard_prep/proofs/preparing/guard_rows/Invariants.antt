use Rattle.std.proofs.Common.{◌≡◌, ◌++◌, map, drop}
use Rattle.poly_terms.specs.Views.{form_of}
use Rattle.its_model.specs.Views.{atom_of}
use Rattle.guard_prep.specs.Prepared.{rows_of_guard, all_tightened}
use Rattle.guard_prep.proofs.preparing.guard_rows.Given as goal

-- the rows so far and those of the remaining atoms are all
abbrev pub invariant-loop-atom : goal.invariant-loop-atom
invariant-loop-atom l =
    map form_of l.rows.items ++ all_tightened (rows_of_guard l.unknowns (map atom_of (drop l.atom-index l.atoms)))
    ≡ all_tightened (rows_of_guard l.unknowns (map atom_of l.atoms))
