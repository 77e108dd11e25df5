use Rattle.cert_rules.proofs.WorkedRefusals as lemmas
use Rattle.cert_rules.proofs.worked_refusals_hold.Goals as goal

pub returns : goal.returns
returns c = record { numbered = lemmas.nodes_numbered; lemmas = lemmas.lemmas_refused; files = lemmas.files_judged }
