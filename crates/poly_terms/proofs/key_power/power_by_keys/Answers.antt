use Rattle.std.proofs.Common.{List, subst}
use Rattle.std.specs.Prelude.{IfOk}
use Rattle.poly_terms.specs.declared.poly.Monomial.{Monomial}
use Rattle.poly_terms.specs.Powers.{IsPowerWithout}
use Rattle.poly_terms.specs.Views.{monomials_of, poly_of}
use Rattle.poly_terms.proofs.KeyErrorLaws.{given-on}
use Rattle.poly_terms.proofs.key_power.power_by_keys.Goals as goal

pub returns : goal.returns
returns c =
    let whole = c.power_by_table.result in
    given-on (λ p. IsPowerWithout (poly_of c.args.p.now) c.args.exponent (poly_of p)) whole c.unless_unfit.result c.unless_unfit.ensures
    (subst (λ (ms : List Monomial). IfOk whole (λ p. IsPowerWithout (monomials_of ms) c.args.exponent (poly_of p))) c.deref.ensures.value c.power_by_table.ensures)
