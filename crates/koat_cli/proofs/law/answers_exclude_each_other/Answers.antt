use Rattle.koat_cli.proofs.CallsAnswered.{answers_exclude}
use Rattle.koat_cli.proofs.Determined.{determined}
use Rattle.koat_cli.proofs.law.answers_exclude_each_other.Goals as goal

pub returns : goal.returns
returns c =
    let laws = c.texts_are_decided.ensures in answers_exclude (determined laws.replays laws.proofs laws.checks)
