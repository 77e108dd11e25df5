-- Worked values: texts of both forms, and small lasso files whose turns can be repeated, or can't.
use Rattle.std.specs.Prelude.{◌≡◌, ◌∷◌, [], ℤ, pos, codes}
use Rattle.its_model.specs.model.Terms.{Variable}
use Rattle.its_model.specs.model.Programs.{Program}
use Rattle.its_model.specs.Steps.{AtomFails}
use Rattle.run_replay.specs.declared.kind.RunKind.TheVariants.{Syntax, ArityDiffers}
use Rattle.lassos.specs.Worked.{looping_by, plus_one, less_one}
use Rattle.moving_check.specs.affine_turns.Turns.{AtomStops}
use Rattle.lasso_check.specs.Lassos.{Lasso}
use Rattle.lasso_check.specs.Worked.{answer_to, refused}
use Rattle.lasso_check.specs.WorkedChecks.{along}
use Rattle.moving_check.specs.Findings.{Moving, Moves, StopsAt}
use Rattle.lasso_forms.specs.Files.{FirstForm, SecondForm}
use Rattle.lasso_forms.specs.Texts.{in_first_form, IsFileText}
use Rattle.lasso_forms.specs.Turns.{Back, On, IsEndlessTurn, StepIsBad, TurnIsOpen, TurnStops, HasObstacle}

pub record TextsAreOfForms : Type 0 where
  -- only the number of the second form is replaced, and only at its position
  pub second : in_first_form (codes "koat-lasso 2\nstart 2\n") ≡ codes "koat-lasso 1\nstart 2\n"
  pub first : in_first_form (codes "koat-lasso 1\nstart 2\n") ≡ codes "koat-lasso 1\nstart 2\n"
  pub third : in_first_form (codes "koat-lasso 3\n") ≡ codes "koat-lasso 3\n"
  pub short : in_first_form (codes "koat-run 1") ≡ codes "koat-run 1"
  -- a text has only one form
  pub not_second : (p : Program) (l : Lasso) → ¬ (IsFileText p (codes "koat-lasso 1\nstart\nloop\nstep 1\nend\n") (SecondForm l))
  pub not_first : (p : Program) (l : Lasso) → ¬ (IsFileText p (codes "koat-lasso 2\nstart\nloop\nstep 1\nend\n") (FirstForm l))
  -- both forms are refused at the same positions
  pub too_few : answer_to (in_first_form (codes "koat-lasso 2\nstart 1\n")) ≡ refused ArityDiffers 20
  pub no_form : answer_to (in_first_form (codes "koat-lasso 3\n")) ≡ refused Syntax 11
  pub run_file : answer_to (in_first_form (codes "koat-run 1\nstart 1 -2\nend\n")) ≡ refused Syntax 5

-- the lasso that enters the loop by rule 1 from this value of A, with a turn by rule 2
abbrev pub entering_at : ℤ → Lasso
entering_at z = along z (1 ∷ []) (2 ∷ [])

pub record TurnsAreOfForms : Type 0 where
  -- if A doesn't change, the turn leads back, and moves on by 0
  pub stays : IsEndlessTurn (looping_by (Variable 0)) (FirstForm (entering_at (pos 1)))
      (Back (record { rules = 2 ∷ []; cost = 1 }))
  pub stays_on : IsEndlessTurn (looping_by (Variable 0)) (SecondForm (entering_at (pos 1)))
      (On (record { differences = pos 0 ∷ []; rules = 2 ∷ []; cost = 1 }))
  pub as_its_form : (m : Moving) → ¬ (IsEndlessTurn (looping_by (Variable 0)) (FirstForm (entering_at (pos 1))) (On m))
  -- if A increases by 1, the turn moves on by 1, so there is no obstacle
  pub grows : IsEndlessTurn (looping_by plus_one) (SecondForm (entering_at (pos 1)))
      (On (record { differences = pos 1 ∷ []; rules = 2 ∷ []; cost = 1 }))
  pub no_obstacle : (m : Moving)
      → ¬ (HasObstacle (looping_by plus_one) (SecondForm (entering_at (pos 1))) (TurnStops (Moves m)))
  -- if A decreases, the turn leads to another value, and the test finds that its atom may cease to hold
  pub falls : HasObstacle (looping_by less_one) (FirstForm (entering_at (pos 3))) (TurnIsOpen 1)
  pub stops : HasObstacle (looping_by less_one) (SecondForm (entering_at (pos 3)))
      (TurnStops (StopsAt (record { number = 2; stop = AtomStops 1 })))
  -- a bad step is an obstacle in both forms
  pub bad : HasObstacle (looping_by (Variable 0)) (FirstForm (entering_at (pos 0)))
      (StepIsBad (record { number = 2; fault = AtomFails 1 }))
  pub bad_on : HasObstacle (looping_by plus_one) (SecondForm (entering_at (pos 0)))
      (StepIsBad (record { number = 2; fault = AtomFails 1 }))
