use Rattle.std.proofs.Common.{◌≡◌, List, subst}
use Rattle.std.specs.Prelude.{IfOk}
use Rattle.poly_terms.specs.declared.poly.Monomial.{Monomial}
use Rattle.poly_terms.specs.Expanding.{product_of}
use Rattle.poly_terms.specs.Views.{monomials_of, poly_of}
use Rattle.poly_terms.proofs.KeyErrorLaws.{given-on}
use Rattle.poly_terms.proofs.key_product.product_by_keys.Goals as goal

pub returns : goal.returns
returns c =
    let whole = c.product_by_table.result in
    given-on (λ r. poly_of r ≡ product_of (poly_of c.args.p.now) (poly_of c.args.q.now)) whole c.unless_unfit.result c.unless_unfit.ensures
    (subst (λ (ns : List Monomial). IfOk whole (λ r. poly_of r ≡ product_of (poly_of c.args.p.now) (monomials_of ns))) c.deref-2.ensures.value
    (subst (λ (ms : List Monomial). IfOk whole (λ r. poly_of r ≡ product_of (monomials_of ms) (monomials_of c.deref-2.result.now))) c.deref.ensures.value
    c.product_by_table.ensures))
