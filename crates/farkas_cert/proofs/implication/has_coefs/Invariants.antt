use Rattle.std.proofs.Common.{◌≡◌, ℕ, ◌<◌, map}
use Rattle.linear_forms.specs.Forms.{at}
use Rattle.linear_forms.specs.Certificates.{combined_coef}
use Rattle.poly_terms.specs.Views.{form_of}
use Rattle.farkas_cert.proofs.implication.has_coefs.Given as goal

abbrev pub invariant-loop-unknown : goal.invariant-loop-unknown
invariant-loop-unknown l = (u : ℕ) → u < l.unknown → at l.coefs u ≡ combined_coef l.multipliers (map form_of l.rows) u
