-- `lasso`: whether the turn of a lasso leads back, or is shown to move on, so that its rules occur without end.
use Rattle.std.specs.Prelude.{◌≡◌, ◌≤◌, ℕ, List}
use Rattle.std.specs.List.{All}
use Rattle.model.specs.Bounds.{Bound}
use Rattle.model.specs.Facts.{HoldsTime, HoldsTotal}
use Rattle.model.specs.Programs.{Program}
use Rattle.model.specs.Runs.{Config}
use Rattle.lassos.specs.Lassos.{Endless, GoesOnFor}
use Rattle.lasso_forms.specs.lasso_check.Checks.{Turn}
use Rattle.lasso_forms.specs.lasso_check.Lassos.{stem_back, turn_back}
use Rattle.lasso_forms.specs.moving_check.Findings.{Moving}
use Rattle.lasso_forms.specs.Files.{LassoFile, lasso_in}
use Rattle.lasso_forms.specs.Turns.{EndlessTurn, Back, On, rules_in, IsEndlessTurn, CanRepeat, Obstacle, HasObstacle}
use Rattle.call_plans.specs.declared.status.Status.TheVariants.{Done, NotARun}
use Rattle.call_plans.specs.Plans.{Cases, End, Case}
use Rattle.koat_cli.specs.LassoTexts.{turn_text, obstacle_text}
use Rattle.koat_cli.specs.Statements.{StatesOne}

-- the text has the rules of the turn, what it costs, and for a turn that moves on its differences; each of these rules
-- occurs without end, so no bound on its use holds; a turn that moves on does so by these differences; and if a turn
-- that leads back costs something, no bound on what all steps cost holds
pub record StatesTurn (program : Program) (file : LassoFile) (text : List ℕ) : Type 0 where
  pub turn : EndlessTurn
  pub is_turn : IsEndlessTurn program file turn
  pub endless : All (Endless program (lasso_in file).start) (rules_in turn)
  pub no_time : All (λ rule. (bound : Bound) → ¬ (HoldsTime program rule bound)) (rules_in turn)
  pub moves_on : (moving : Moving) → turn ≡ On moving
      → (at : Config) × GoesOnFor program (lasso_in file).start (stem_back (lasso_in file)) (turn_back (lasso_in file)) at
      moving.differences
  pub no_total : (back : Turn) → turn ≡ Back back → 1 ≤ back.cost → (bound : Bound) → ¬ (HoldsTotal program bound)
  pub result_is : text ≡ turn_text turn

-- there is something that prevents that the turn is repeated, or is shown to be: the first bad step, the place at which
-- the turn leads elsewhere, or why a turn isn't shown to move on
abbrev pub HasSomeObstacle : Program → LassoFile → Type 0
HasSomeObstacle program file = (obstacle : Obstacle) × HasObstacle program file obstacle

-- the text states what prevents it
abbrev pub StatesObstacle : Program → LassoFile → List ℕ → Type 0
StatesObstacle program file text = StatesOne (HasObstacle program file) obstacle_text text

-- the table of `lasso`: `Done` if the steps are a run within 128 bits and the turn leads back, or is shown to move on,
-- by the form of the file, with its rules and its cost; and `NotARun` if something prevents this, with what does
abbrev pub lasso_answers : Program → LassoFile → Cases
lasso_answers program file =
    Case Done (CanRepeat program file) (StatesTurn program file)
    (Case NotARun (HasSomeObstacle program file) (StatesObstacle program file) End)
