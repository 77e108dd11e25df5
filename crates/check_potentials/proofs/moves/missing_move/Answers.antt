use Rattle.std.proofs.Common.{ap, length, arith}
use Rattle.check_potentials.proofs.GroundLaws.{rules_few}
use Rattle.check_potentials.proofs.moves.missing_move.Goals as goal

pub missing_among-requires-clause-few : goal.missing_among-requires-clause-few
missing_among-requires-clause-few c =
    omega (arith, rules_few c.args.ground c.requires.prepared, ap length c.deref.ensures.value)

pub missing_among-requires-clause-all : goal.missing_among-requires-clause-all
missing_among-requires-clause-all c = omega (arith, c.requires.known.all, ap length c.deref.ensures.value)
