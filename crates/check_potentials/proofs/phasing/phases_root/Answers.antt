use Rattle.std.proofs.Common.{rules, ◌≡◌, ℕ, ◌*◌, ◌∙◌, ap}
use Rattle.poly_terms.specs.Views.{monomials_of}
use Rattle.potential_nodes.specs.potentials.model.Polynomials.{Polynomial}
use Rattle.signed_bounds.specs.Bounds.{Signed, Constant, PositivePart, ProductOf, Root, NoParts, Part}
use Rattle.potential_types.specs.Views.{table_of}
use Rattle.check_potentials.specs.Grounds.{plain_ground}
use Rattle.check_potentials.proofs.PhaseTables.{if_ok_more, root_made}
use Rattle.check_potentials.proofs.phasing.phases_root.Goals as goal

pub returns : goal.returns
returns c =
    let wide : c.from.result ≡ c.args.den = search rules in
    if_ok_more c.root_of.result _ _ c.root_of.ensures (λ b is n are same.
    is ∙ (ap Root (c.in_ok-product.ensures
    ∙ (ap (λ (s : Signed). ProductOf (Part (Constant (2 * c.from.result)) (Part s NoParts))) c.part_of-positive.ensures
    ∙ (ap (λ (m : ℕ). ProductOf (Part (Constant (2 * m))
    (Part (PositivePart (monomials_of c.in_ok-terms.terms.items)) NoParts)))
    wide
    ∙ ap (λ (q : Polynomial). ProductOf (Part (Constant (2 * c.args.den)) (Part (PositivePart q) NoParts)))
    c.in_ok-terms.ensures)))
    ∙ root_made (plain_ground c.args.ground) n (table_of c.args.tables.now.second)
    (monomials_of c.form_at-second.result.now) c.args.den c.form_at-second.ensures are.second same))
