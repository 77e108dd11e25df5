use Rattle.std.proofs.Common.{◌≡◌, map, take}
use Rattle.poly_terms.specs.Expanding.{expanded}
use Rattle.poly_terms.specs.Views.{term_of, poly_of}
use Rattle.guard_prep.proofs.preparing.polys_of.Given as goal

-- the polynomials are those of the updates so far
abbrev pub invariant-loop-u : goal.invariant-loop-u
invariant-loop-u l = map poly_of l.polys.items ≡ map expanded (map term_of (take l.u-index l.updates))
