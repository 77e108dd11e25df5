use Rattle.koat_cli.proofs.WorkedReplayTexts.{replays_texts, tallies_bounded}
use Rattle.koat_cli.proofs.law.worked_replay_texts_hold.Goals as goal

pub returns : goal.returns
returns c = record { texts = replays_texts; bounds = tallies_bounded }
