use Rattle.std.proofs.Common.{◌∙◌, map, ap}
use Rattle.poly_terms.specs.Views.{monomials_of}
use Rattle.potential_types.specs.Views.{payment_of, phase_move_of, summands_of, table_of}
use Rattle.check_potentials.specs.Grounds.{plain_ground}
use Rattle.check_potentials.proofs.PhaseTables.{second_made}
use Rattle.check_potentials.proofs.phases.second_move.Goals as goal

pub returns : goal.returns
returns c = λ n first payments.
    second_made (plain_ground c.args.ground) n (phase_move_of c.args.step.now) (table_of c.args.first.now)
    (map payment_of c.args.payments.now) (monomials_of c.in_ok-terms.terms.items)
    (summands_of c.in_ok-certificate.certificate.items) c.in_ok-terms.ensures
    (c.in_ok-certificate.ensures ∙ ap summands_of c.deref.ensures.value) first payments
