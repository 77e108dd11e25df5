use Rattle.std.proofs.Common.{◌+◌, ◌*◌, length, map, take}
use Rattle.cert_types.specs.Views.{proof_of}
use Rattle.cert_types.specs.cert_rules.Numbering.{nodes_of}
use Rattle.check_file.specs.Children.{nodes_in}
use Rattle.cert_context.specs.CheckContexts.{setting}
use Rattle.check_file.specs.Judging.{AreWhole}
use Rattle.check_file.proofs.judging.+judge.Given as goal

abbrev pub decreases-judge : goal.decreases-judge
decreases-judge l = 2 * length (nodes_of (proof_of l.proof.now))

abbrev pub decreases-judge_all : goal.decreases-judge_all
decreases-judge_all l = 2 * length (nodes_in (map proof_of l.proofs.now)) + 1

-- the parts before this one are accepted
abbrev pub invariant-judge_all-loop-proof : goal.invariant-judge_all-loop-proof
invariant-judge_all-loop-proof l =
    AreWhole (setting l.context) l.kept (map proof_of (take l.proof-index l.proofs)) l.before
    (record { uses = l.uses; count = l.count })
