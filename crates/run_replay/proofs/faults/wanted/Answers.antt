use Rattle.std.proofs.Common.{arith}
use Rattle.run_replay.proofs.RuleNumbers.{wanted_there}
use Rattle.run_replay.proofs.faults.wanted.Goals as goal

pub returns : goal.returns
returns c =
    wanted_there c.args.program.now c.args.rule c.index.result.now (omega (arith, c.if-rule-eq0.false))
    (omega (arith, c.if-len-rule.false, c.len.ensures, c.args.program.now.rules.ok.0)) c.index.ensures
