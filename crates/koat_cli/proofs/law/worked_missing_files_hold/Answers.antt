use Rattle.koat_cli.proofs.Determined.{determined}
use Rattle.koat_cli.proofs.WorkedMissingFiles.{files_read_in_order}
use Rattle.koat_cli.proofs.law.worked_missing_files_hold.Goals as goal

pub returns : goal.returns
returns c =
    let laws = c.texts_are_decided.ensures in files_read_in_order (determined laws.replays laws.proofs laws.checks)
