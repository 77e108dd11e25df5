use Rattle.std.proofs.Common.{◌↔◌, ◌-◌, length, map, ap, subst, sym, arith}
use Rattle.std.specs.Bool.{IsTrue}
use Rattle.std.specs.Int.{w64}
use Rattle.std.proofs.lemmas.Int.{fits_signed_from_abs, ints, to_z-of_z}
use Rattle.std.proofs.lemmas.Result.{IfOk-weaker}
use Rattle.poly_terms.specs.Views.{form_of}
use Rattle.poly_terms.specs.linear_forms.Certificates.{Implies}
use Rattle.cert_types.specs.Views.{side_bound_of}
use Rattle.cert_types.specs.cert_rules.AcceptsSizes.{side_bound_goal}
use Rattle.cert_types.specs.cert_rules.Nodes.{SideBound}
use Rattle.check_sizes.specs.SideBounds.{HasSideBoundNumbers, HasLinearNumbers, IsSideBoundOver, side_of}
use Rattle.check_sizes.proofs.SideBoundsOver.{new-suits, new-there}
use Rattle.check_sizes.proofs.side_bounds.accepts_side_bound.Goals as goal

pub implies_side_bound-requires-clause-value_small : goal.implies_side_bound-requires-clause-value_small
implies_side_bound-requires-clause-value_small c =
    (new-suits c.args.rows.now (c.args.place - 1) c.index-value.result.now c.requires.suits
    (omega (arith, c.requires.least, c.requires.most)) c.index-value.ensures).0

pub implies_side_bound-requires-clause-value_width : goal.implies_side_bound-requires-clause-value_width
implies_side_bound-requires-clause-value_width c =
    (new-suits c.args.rows.now (c.args.place - 1) c.index-value.result.now c.requires.suits
    (omega (arith, c.requires.least, c.requires.most)) c.index-value.ensures).1

pub returns-in-Linear : goal.returns-in-Linear
returns-in-Linear c =
    let m = c.args.rows.now in
    let side = side_of c.args.side in
    let here =
    new-there m.new_values.items (c.args.place - 1) c.index-value.result.now (omega (arith, c.requires.least, c.requires.most))
    c.index-value.ensures in
    let numbers : HasLinearNumbers (length m.rows.items) m.left c.in-Linear.den
    (record { coefs = c.in-Linear.coefs.items; constant = c.in-Linear.constant }) c.in-Linear.multipliers.items =
    subst (λ a. HasSideBoundNumbers (length m.rows.items) m.left (side_bound_of a)) c.in-Linear.is c.requires.numbers in
    let whole =
    to_z-of_z w64 c.in-Linear.constant
    (fits_signed_from_abs w64 c.in-Linear.constant (omega (arith, ints, numbers.limit.constant))) in
    IfOk-weaker c.implies_side_bound.result _ _
    (λ b h. subst (λ (a : SideBound). IsTrue b ↔ IsSideBoundOver m c.args.place side a) (sym (ap side_bound_of c.in-Linear.is))
    (subst (λ (T : Type 0). IsTrue b ↔ T)
    (λ i. Implies (map form_of m.rows.items) (c.deref-in-Linear.ensures.value i)
    (side_bound_goal side c.in-Linear.den (record { coefs = c.deref.ensures.value i; constant = whole i }) (sym here i))) h))
    c.implies_side_bound.ensures
