use Rattle.koat_cli.proofs.CallsAnswered.{calls_answered}
use Rattle.koat_cli.proofs.Determined.{determined}
use Rattle.koat_cli.proofs.law.calls_are_answered.Goals as goal

pub returns : goal.returns
returns c =
    let laws = c.texts_are_decided.ensures in calls_answered (determined laws.replays laws.proofs laws.checks)
