use Rattle.refinement_rows.proofs.WorkedGuards.{guards_are_refuted}
use Rattle.refinement_rows.proofs.CertifiedByHand.{sections_are_certified}
use Rattle.refinement_rows.proofs.certificates_are_as_worked_out.Goals as goal

pub returns : goal.returns
returns c = record { guards = guards_are_refuted; sections = sections_are_certified }
