use Rattle.koat_cli.proofs.Determined.{determined}
use Rattle.koat_cli.proofs.ProvenChecks.{proved_accepted}
use Rattle.koat_cli.proofs.law.what_is_proved_is_accepted.Goals as goal

pub returns : goal.returns
returns c =
    let laws = c.texts_are_decided.ensures in proved_accepted (determined laws.replays laws.proofs laws.checks)
