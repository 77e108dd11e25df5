-- Proofs of the worked values of texts of both forms, and of small lasso files.
use Rattle.std.proofs.Common.{refl}
use Rattle.std.proofs.lemmas.Bool.{false≢true}
use Rattle.std.proofs.Common.{codes, sym, ◌∙◌}
use Rattle.std.specs.Fmt.{digits}
use Rattle.lasso_check.specs.WorkedChecks.{ChecksAreWorkedOut}
use Rattle.moving_check.specs.Worked.{MovingLassosAreFound}
use Rattle.lasso_forms.specs.Worked.{TextsAreOfForms, TurnsAreOfForms}
use Rattle.lasso_forms.proofs.FileTexts.{is_first, is_second}

pub texts_worked : TextsAreOfForms
unfolding digits
texts_worked = record {
  second = refl;
  first = refl;
  third = refl;
  short = refl;
  not_second = λ p l h. false≢true (is_second p (codes "koat-lasso 1\nstart\nloop\nstep 1\nend\n") l h);
  not_first = λ p l h. false≢true (sym (is_first p (codes "koat-lasso 2\nstart\nloop\nstep 1\nend\n") l h));
  too_few = refl;
  no_form = refl;
  run_file = refl;
}

pub turns_worked : ChecksAreWorkedOut → MovingLassosAreFound → TurnsAreOfForms
turns_worked checks moving = record {
  stays = checks.rounds.stays;
  stays_on = moving.stays;
  as_its_form = λ m h. h;
  grows = moving.grows;
  no_obstacle = λ m h. h.1;
  falls = checks.opens.falls;
  stops = (moving.falls, tt);
  bad = checks.bads.guard;
  bad_on = moving.fails;
}
