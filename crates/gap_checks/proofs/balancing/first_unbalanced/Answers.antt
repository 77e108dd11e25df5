use Rattle.std.proofs.Common.{arith}
use Rattle.its_model.specs.Views.{program_of}
use Rattle.cert_types.specs.AnswerViews.{gap_of}
use Rattle.gap_checks.proofs.GapFaults.{shape-short}
use Rattle.gap_checks.proofs.balancing.first_unbalanced.Goals as goal

pub first_in-requires-2-clause-room : goal.first_in-requires-2-clause-room
first_in-requires-2-clause-room c =
    omega (arith, shape-short (program_of c.args.p.now) c.requires.valid (gap_of c.args.g.now) c.requires.shape)

pub first_in-requires-2-clause-long : goal.first_in-requires-2-clause-long
first_in-requires-2-clause-long c =
    omega (arith, shape-short (program_of c.args.p.now) c.requires.valid (gap_of c.args.g.now) c.requires.shape)
