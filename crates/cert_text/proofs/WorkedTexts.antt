-- The worked texts of small proof files hold.
use Rattle.std.proofs.Common.{refl}
use Rattle.std.specs.Fmt.{digits}
use Rattle.cert_text.specs.Texts.{text_of}
use Rattle.cert_text.specs.Worked.{TextsAreWorkedOut}

-- the worked texts hold
pub texts_worked_out : TextsAreWorkedOut
unfolding text_of digits
texts_worked_out = record {
  nothing_at_all = refl;
  loop = refl;
  empty = refl;
  unreached = refl;
  uses = refl;
  never = refl;
  poly = refl;
  form_of_two = refl;
  two_members = refl;
  sum = refl;
  exponent = refl;
  factor = refl;
  side_bound = refl;
  no_point = refl;
  never_run = refl;
  gaps = refl;
  gap_points = refl;
}
