use Rattle.linear_forms.proofs.CertificateLaws.{implied, implied_on_points, implied_along_rays, no_point}
use Rattle.linear_forms.proofs.certificates.certificates_hold.Goals as goal

pub returns : goal.returns
returns c = record { each = implied; on_points = implied_on_points; along_rays = implied_along_rays; no_point = no_point }
