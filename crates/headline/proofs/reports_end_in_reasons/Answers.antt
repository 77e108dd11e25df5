-- Each reason consists of such lines.
use Rattle.headline.proofs.Reasons.{end_in_reasons}
use Rattle.headline.proofs.reports_end_in_reasons.Goals as goal

pub returns : goal.returns
returns c = end_in_reasons
