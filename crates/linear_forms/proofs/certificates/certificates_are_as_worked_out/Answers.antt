use Rattle.linear_forms.proofs.CertificateValues.{values, points, certificates}
use Rattle.linear_forms.proofs.certificates.certificates_are_as_worked_out.Goals as goal

pub returns : goal.returns
returns c = record { values = values; points = points; certificates = certificates }
