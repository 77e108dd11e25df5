use Rattle.proof_parts.proofs.CutLaws.{unique, whole}
use Rattle.proof_parts.proofs.law.parts_are_unique.Goals as goal

pub returns : goal.returns
returns c = record { one = unique; whole = whole }
