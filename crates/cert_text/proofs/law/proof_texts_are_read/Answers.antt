-- The reader of proof files satisfies the laws of readers.
use Rattle.cert_text.proofs.Lawful.{proofs_read}
use Rattle.cert_text.proofs.law.proof_texts_are_read.Goals as goal

pub returns : goal.returns
returns c = proofs_read
