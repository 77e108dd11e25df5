use Rattle.std.proofs.Common.{arith, ap, sym, ◌∙◌, set, to_z, of_z}
use Rattle.poly_terms.specs.declared.poly.Monomial.{Monomial}
use Rattle.std.specs.Int.{w128}
use Rattle.std.proofs.lemmas.Int.{to_z-of_z}
use Rattle.std.proofs.lemmas.List.{map-set, get_or-map}
use Rattle.model.specs.Polynomials as plain
use Rattle.poly_terms.specs.Views.{monomial_of, monomials_of}
use Rattle.poly_terms.proofs.scale.set_coefficient.Goals as goal

pub returns : goal.returns
returns c = λ d.
    map-set monomial_of c.args.terms.now.items c.args.i (record { coef = to_z w128 (of_z w128 c.args.coef); vars = c.index_mut.result.now.vars })
    ∙ (λ j. set (monomials_of c.args.terms.now.items) c.args.i (record {
      coef = to_z-of_z w128 c.args.coef c.ranges.coef j;
      vars = (ap (λ (n : Monomial). n.vars.items) c.index_mut.ensures.value
          ∙ ap (λ (n : plain.Monomial). n.vars) (sym (get_or-map monomial_of c.args.terms.now.items c.args.i c.index_mut.result.now d (omega arith)))) j;
    }))
