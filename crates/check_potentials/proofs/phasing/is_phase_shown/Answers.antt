use Rattle.std.proofs.Common.{◌∙◌, map, sym, ap, true}
use Rattle.poly_terms.specs.Views.{monomials_of}
use Rattle.potential_types.specs.Views.{move_of, payment_of, phase_move_of, table_of}
use Rattle.check_potentials.specs.Grounds.{plain_ground}
use Rattle.check_potentials.proofs.PhaseTables.{if_ok_more, phase_shown, phase_unshown}
use Rattle.check_potentials.proofs.phasing.is_phase_shown.Goals as goal

pub returns-then-not-is_shown : goal.returns-then-not-is_shown
returns-then-not-is_shown c = λ n are.
    phase_unshown (plain_ground c.args.ground) n (phase_move_of c.args.step.now) (table_of c.args.tables.now.first)
    (move_of c.in_ok-first.first) (monomials_of c.amount_of-amount.result.now)
    (map payment_of c.deref.result.now) are.first c.in_ok-first.ensures c.amount_of-amount.ensures
    (ap (map payment_of) c.deref.ensures.value ∙ are.payments) (sym c.if-not-is_shown.true ∙ c.in_ok-is_shown.ensures)

pub returns : goal.returns
returns c =
    if_ok_more c.is_move_shown-2.result _ _ c.is_move_shown-2.ensures (λ r h n are.
    phase_shown (plain_ground c.args.ground) n (phase_move_of c.args.step.now) (table_of c.args.tables.now.first)
    (table_of c.args.tables.now.second) (move_of c.in_ok-first.first) (move_of c.in_ok-second.second)
    (monomials_of c.amount_of-amount.result.now) (map payment_of c.deref.result.now) true r are.first
    are.second c.in_ok-first.ensures (c.in_ok-second.ensures n are.first
    (ap (map payment_of) c.deref-2.ensures.value ∙ are.payments)) c.amount_of-amount.ensures
    (ap (map payment_of) c.deref.ensures.value ∙ are.payments) (sym c.if-not-is_shown.false ∙ c.in_ok-is_shown.ensures)
    h)
