use Rattle.std.proofs.Common.{ℕ, sym, subst}
use Rattle.std.specs.Prelude.{Result}
use Rattle.model.specs.Polynomials.{Polynomial}
use Rattle.poly_terms.specs.declared.poly.Poly.{Poly}
use Rattle.poly_terms.specs.declared.poly_error.PolyError.{PolyError}
use Rattle.poly_terms.specs.Expanding.{power_of}
use Rattle.poly_terms.specs.Faults.{fault_in}
use Rattle.poly_terms.specs.Ordered.{IsOrdered}
use Rattle.poly_terms.specs.Powers.{faults_of_powers}
use Rattle.poly_terms.specs.Views.{poly_of}
use Rattle.poly_terms.specs.Answers.{Answers}
use Rattle.poly_terms.proofs.ScaleLaws.{product-one}
use Rattle.poly_terms.proofs.power.power.Goals as goal

-- a right result for the first power of a polynomial is right for the polynomial
first_power : (r : Result Poly PolyError) (p : Polynomial) → IsOrdered p → Answers r (fault_in p 1) p → Answers r (faults_of_powers p 1) (power_of p 1)
first_power r p h a = subst (λ (q : Polynomial). Answers r (fault_in q 1) q) (sym (product-one p h)) a

pub returns-then-exponent-eq1 : goal.returns-then-exponent-eq1
returns-then-exponent-eq1 c =
    subst (λ (n : ℕ). Answers c.limited.result (faults_of_powers (poly_of c.args.p) n) (power_of (poly_of c.args.p) n)) (sym c.if-exponent-eq1.true)
    (first_power c.limited.result (poly_of c.args.p) c.requires.ordered c.limited.ensures)
