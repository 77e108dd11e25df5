use Rattle.std.proofs.Common.{◌≤◌, ◌*◌, List, arith, subst}
use Rattle.model.specs.Limits.{degree_limit}
use Rattle.model.specs.Polynomials.{degree_of}
use Rattle.poly_terms.specs.declared.keyed.Keyed.{Keyed}
use Rattle.poly_terms.specs.Keys.{monomials_at}
use Rattle.poly_terms.proofs.KeyFormLaws.{degree-times-exponent}
use Rattle.poly_terms.proofs.key_form.degree_of_power.Goals as goal

pub returns-else-known-le-DEGREE_LIMIT : goal.returns-else-known-le-DEGREE_LIMIT
returns-else-known-le-DEGREE_LIMIT c = λ h l.
    let table = c.args.table.now in
    let m = c.list_degree.result in
    let low : m ≤ degree_limit → degree_of (monomials_at table c.args.base.now.terms.items) ≤ m =
    subst (λ (es : List Keyed). m ≤ degree_limit → degree_of (monomials_at table es) ≤ m) c.deref.ensures.value c.list_degree.ensures in
    let few : m * c.args.exponent ≤ degree_limit = omega (arith, c.saturating_mul.ensures, l) in
    omega (arith, degree-times-exponent (degree_of (monomials_at table c.args.base.now.terms.items)) m c.args.exponent low few, c.saturating_mul.ensures, l)
