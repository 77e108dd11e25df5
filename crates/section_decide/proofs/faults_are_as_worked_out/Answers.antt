use Rattle.section_decide.proofs.WorkedSections as lemmas
use Rattle.section_decide.proofs.faults_are_as_worked_out.Goals as goal

pub returns : goal.returns
returns c = record {
  accepted = lemmas.sections_are_judged;
  shapes = lemmas.shapes_are_refused;
  certificates = lemmas.certificates_are_refused;
  limits = lemmas.limits_are_met;
}
