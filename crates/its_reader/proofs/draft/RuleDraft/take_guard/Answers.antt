use Rattle.std.proofs.Common.{ap}
use Rattle.expr_reader.specs.GuardParts.{piece_in}
use Rattle.its_reader.proofs.GuardLaws.{some_taken, none_taken}
use Rattle.its_reader.proofs.draft.RuleDraft.take_guard.Goals as goal

pub returns-in_ok-reached-in-Some-clause-takes : goal.returns-in_ok-reached-in-Some-clause-takes
returns-in_ok-reached-in-Some-clause-takes c = some_taken (piece_in c.args.piece) (ap piece_in c.in-Some.is)
    c.in_ok-reached-in-Some.ensures.takes

pub returns-in-None-clause-takes : goal.returns-in-None-clause-takes
returns-in-None-clause-takes c = none_taken (piece_in c.args.piece) (ap piece_in c.in-None.is)
