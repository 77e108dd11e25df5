use Rattle.potential_nodes.proofs.CertificateLaws as lemmas
use Rattle.potential_nodes.proofs.certificates_of_products_hold.Goals as goal

pub returns : goal.returns
returns c = lemmas.certificates_hold
