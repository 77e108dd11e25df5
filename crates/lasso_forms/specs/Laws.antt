-- Laws of lasso files and of turns that can be repeated.
use Rattle.std.specs.Prelude.{◌≡◌, ◌≤◌, ℕ, List, length}
use Rattle.std.specs.List.{All}
use Rattle.its_model.specs.model.Programs.{Program}
use Rattle.its_model.specs.model.Bounds.{Bound}
use Rattle.its_model.specs.model.Facts.{HoldsTime, HoldsTotal}
use Rattle.its_model.specs.model.Runs.{Config}
use Rattle.lassos.specs.Lassos.{Endless, GoesOnFor}
use Rattle.lasso_check.specs.text_grammar.text_core.Readers.{Fault}
use Rattle.run_replay.specs.declared.kind.RunKind.{RunKind}
use Rattle.lasso_check.specs.Lassos.{stem_back, turn_back}
use Rattle.lasso_check.specs.Checks.{Turn}
use Rattle.moving_check.specs.Findings.{Moving}
use Rattle.lasso_forms.specs.Files.{LassoFile, lasso_in}
use Rattle.lasso_forms.specs.Texts.{IsFileText, IsFirstFault}
use Rattle.lasso_forms.specs.Turns.{EndlessTurn, Back, On, rules_in, IsEndlessTurn, CanRepeat, Obstacle, HasObstacle}

-- bytes are the text of at most one lasso file of a program, or have at most one first fault, and not both
pub record FilesAreDecided : Type 0 where
  pub one : (p : Program) (bytes : List ℕ) (f g : LassoFile) → IsFileText p bytes f → IsFileText p bytes g → f ≡ g
  pub one_fault : (p : Program) (bytes : List ℕ) (x y : Fault RunKind) → IsFirstFault p bytes x → IsFirstFault p bytes y
      → x ≡ y
  pub apart : (p : Program) (bytes : List ℕ) (f : LassoFile) (x : Fault RunKind) → IsFileText p bytes f
      → ¬ (IsFirstFault p bytes x)

-- the turn of a lasso file can be repeated in at most one way, or has at most one obstacle, and not both
pub record TurnsAreDecided : Type 0 where
  pub one : (p : Program) (f : LassoFile) (t u : EndlessTurn) → IsEndlessTurn p f t → IsEndlessTurn p f u → t ≡ u
  pub repeats : (p : Program) (f : LassoFile) (t : EndlessTurn) → IsEndlessTurn p f t → CanRepeat p f
  pub one_obstacle : (p : Program) (f : LassoFile) (o q : Obstacle) → HasObstacle p f o → HasObstacle p f q → o ≡ q
  pub apart : (p : Program) (f : LassoFile) (o : Obstacle) → CanRepeat p f → ¬ (HasObstacle p f o)

-- Each rule of a turn that can be repeated occurs arbitrarily often, so that no runtime bound of it holds; some rule of
-- the turn is a rule of the program; a turn that moves on does so by its differences; and if a turn that leads back
-- costs something, no bound on the cost of all steps holds.
pub record EndlessTurnsHaveNoTime : Type 0 where
  pub endless : (p : Program) (f : LassoFile) (t : EndlessTurn) → IsEndlessTurn p f t
      → All (Endless p (lasso_in f).start) (rules_in t)
  pub no_time : (p : Program) (f : LassoFile) (t : EndlessTurn) → IsEndlessTurn p f t
      → All (λ rule. (bound : Bound) → ¬ (HoldsTime p rule bound)) (rules_in t)
  pub some_rule : (p : Program) (f : LassoFile) → CanRepeat p f
      → (rule : ℕ) × (1 ≤ rule) × (rule ≤ length p.rules) × ((bound : Bound) → ¬ (HoldsTime p rule bound))
  pub moves_on : (p : Program) (f : LassoFile) (m : Moving) → IsEndlessTurn p f (On m)
      → (at : Config) × GoesOnFor p (lasso_in f).start (stem_back (lasso_in f)) (turn_back (lasso_in f)) at m.differences
  pub no_total : (p : Program) (f : LassoFile) (t : Turn) → IsEndlessTurn p f (Back t) → 1 ≤ t.cost
      → (bound : Bound) → ¬ (HoldsTotal p bound)
