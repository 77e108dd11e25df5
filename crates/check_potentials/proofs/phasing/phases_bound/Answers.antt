use Rattle.std.proofs.Common.{◌∙◌, ap}
use Rattle.poly_terms.specs.Views.{monomials_of}
use Rattle.potential_nodes.specs.potentials.model.Polynomials.{Polynomial}
use Rattle.signed_bounds.specs.Bounds.{Signed, Constant, PositivePart, SumOf, ProductOf, NoParts, Part}
use Rattle.signed_bounds.specs.Views.{signed_of}
use Rattle.potential_types.specs.Views.{table_of}
use Rattle.check_potentials.specs.Grounds.{plain_ground}
use Rattle.check_potentials.proofs.PhaseTables.{if_ok_more, bound_made}
use Rattle.check_potentials.proofs.phasing.phases_bound.Goals as goal

pub returns : goal.returns
returns c =
    if_ok_more c.sum_of.result _ _ c.sum_of.ensures (λ b is n are same.
    is
    ∙ (ap (λ (t : Signed). SumOf (Part t (Part (signed_of c.in_ok-twice.twice)
    (Part (signed_of c.in_ok-root.root) NoParts))))
    c.number_bound-once.ensures
    ∙ (ap (λ (t : Signed). SumOf (Part (Constant c.args.den) (Part t (Part (signed_of c.in_ok-root.root) NoParts))))
    (c.in_ok-twice.ensures
    ∙ (ap (λ (s : Signed). ProductOf (Part (Constant 2) (Part s NoParts))) c.part_of-positive.ensures
    ∙ ap (λ (q : Polynomial). ProductOf (Part (Constant 2) (Part (PositivePart q) NoParts))) c.in_ok-terms.ensures))
    ∙ bound_made (plain_ground c.args.ground) n (table_of c.args.tables.now.first)
    (monomials_of c.form_at-first.result.now) (signed_of c.in_ok-root.root) c.args.den c.form_at-first.ensures are.first
    (c.in_ok-root.ensures n are same) same)))
