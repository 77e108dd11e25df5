use Rattle.lp_text.proofs.LpParts.{lps_lawful}
use Rattle.lp_text.proofs.reading.parse.Goals as goal

pub read_bytes-requires-clause-lawful : goal.read_bytes-requires-clause-lawful
read_bytes-requires-clause-lawful c = lps_lawful
