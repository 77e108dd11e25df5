use Rattle.poly_terms.specs.Views.{poly_of, form_of}
use Rattle.poly_terms.proofs.RowLaws.{IsFormOf}
use Rattle.poly_terms.proofs.poly.Poly.linear_part.Given as goal

-- the row is that of the monomials so far
abbrev pub invariant-loop-m : goal.invariant-loop-m
invariant-loop-m l = IsFormOf l.width (poly_of l.self) l.m-index (form_of l.row)
