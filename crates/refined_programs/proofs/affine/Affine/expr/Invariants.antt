use Rattle.std.proofs.Common.{◌≡◌, drop}
use Rattle.poly_terms.specs.Views.{term_of}
use Rattle.refined_programs.specs.Affine.{with_products, affine_term}
use Rattle.refined_programs.proofs.affine.Affine.expr.Given as goal

-- the sum so far and the products of the coefficients left are the form
abbrev pub invariant-loop-i : goal.invariant-loop-i
invariant-loop-i l =
    with_products (term_of l.sum) l.i (drop l.i l.self.coefs.items)
    ≡ affine_term l.self.coefs.items l.self.constant
