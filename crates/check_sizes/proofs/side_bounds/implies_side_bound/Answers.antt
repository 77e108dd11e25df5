use Rattle.std.proofs.Common.{◌↔◌, List, map, subst, sym, arith}
use Rattle.std.specs.Bool.{IsTrue}
use Rattle.farkas_cert.specs.Sizes.{AreSmall}
use Rattle.poly_terms.specs.Views.{form_of}
use Rattle.poly_terms.specs.declared.poly.Row.{Row}
use Rattle.poly_terms.specs.linear_forms.Certificates.{Implies}
use Rattle.cert_types.specs.cert_rules.AcceptsSizes.{side_bound_goal}
use Rattle.cert_context.proofs.FormColumns.{by-alike}
use Rattle.check_sizes.specs.SideBounds.{form_in, side_of}
use Rattle.check_sizes.proofs.side_bounds.implies_side_bound.Goals as goal

pub side_bound_row-requires-clause-den_small : goal.side_bound_row-requires-clause-den_small
side_bound_row-requires-clause-den_small c = c.requires.numbers.den_limit

pub side_bound_row-requires-clause-own_small : goal.side_bound_row-requires-clause-own_small
side_bound_row-requires-clause-own_small c = c.requires.numbers.limit

pub side_bound_row-requires-clause-own_width : goal.side_bound_row-requires-clause-own_width
side_bound_row-requires-clause-own_width c = omega (arith, c.requires.numbers.long, c.requires.suits.left)

pub implies-requires-clause-multipliers_small : goal.implies-requires-clause-multipliers_small
implies-requires-clause-multipliers_small c = c.requires.numbers.within

pub implies-requires-clause-rows_small : goal.implies-requires-clause-rows_small
implies-requires-clause-rows_small c =
    subst (λ (rs : List Row). AreSmall (map form_of rs)) (sym c.deref.ensures.value) c.requires.suits.small

pub returns : goal.returns
returns c =
    let side_bound = c.args.side_bound.now in
    let goal_form = side_bound_goal (side_of c.args.side) side_bound.den (form_in side_bound) (form_of c.args.value.now) in
    subst (λ (rs : List Row). IsTrue c.implies.result ↔ Implies (map form_of rs) side_bound.multipliers.now goal_form) c.deref.ensures.value
    (by-alike (map form_of c.deref.result.now) side_bound.multipliers.now (form_of c.in_ok-goal.goal) goal_form c.implies.result
    c.implies.ensures c.in_ok-goal.ensures)
