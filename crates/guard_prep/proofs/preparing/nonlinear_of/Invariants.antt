use Rattle.std.proofs.Common.{◌≡◌, map, take}
use Rattle.poly_terms.specs.Views.{poly_of}
use Rattle.guard_prep.specs.Prepared.{is_nonlinear}
use Rattle.guard_prep.proofs.preparing.nonlinear_of.Given as goal

-- the flags are those of the polynomials so far
abbrev pub invariant-loop-p : goal.invariant-loop-p
invariant-loop-p l = l.nonlinear.items ≡ map is_nonlinear (map poly_of (take l.p-index l.polys))
