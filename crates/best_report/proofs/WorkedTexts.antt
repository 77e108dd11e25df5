-- The texts of small reports are as they were worked out by hand.
use Rattle.std.proofs.Common.{refl}
use Rattle.std.specs.Fmt.{digits}
use Rattle.best_report.specs.Texts.{best_text}
use Rattle.best_report.specs.Worked.{TextsAreWorkedOut}

pub texts_worked_out : TextsAreWorkedOut
unfolding best_text digits
texts_worked_out = record {
  bounded = refl;
  untimed = refl;
  no_total = refl;
  summed = refl;
  no_cost = refl;
  order = refl;
  has_all = refl;
  lacks_time = refl;
  lacks_total = refl;
  lacks_cost = refl;
}
