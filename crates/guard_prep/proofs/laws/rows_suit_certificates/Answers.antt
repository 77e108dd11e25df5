use Rattle.guard_prep.proofs.CertificateSizes.{rows-suit-certificates}
use Rattle.guard_prep.proofs.laws.rows_suit_certificates.Goals as goal

pub returns : goal.returns
returns c = rows-suit-certificates
