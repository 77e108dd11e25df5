use Rattle.its_text.proofs.VerdictLaws.{only_verdict}
use Rattle.its_reader.proofs.LimitedRules.{said_valid}
use Rattle.its_reader.proofs.reading.read.Goals as goal

pub returns-clause-valid : goal.returns-clause-valid
returns-clause-valid c = said_valid c.args.bytes.now c.read_tokens.result c.read_tokens.ensures

pub returns-clause-only : goal.returns-clause-only
returns-clause-only c = only_verdict c.args.bytes.now
