-- The laws of affine values, and of turns that pass the test of moving on.
use Rattle.std.specs.Prelude.{◌≡◌, ◌≤◌, ℕ, List, ◌++◌, length, ℤ, pos, None, Some}
use Rattle.its_model.specs.model.Terms.{Term, value}
use Rattle.its_model.specs.model.Programs.{Program}
use Rattle.its_model.specs.model.Runs.{Config, Step, IsRun}
use Rattle.lassos.specs.Lassos.{GoesOnFor}
use Rattle.affine_turns.specs.declared.affine.Affine.{Affine}
use Rattle.affine_turns.specs.Affine.{affine_of, after_turns, firsts, slopes, between}
use Rattle.affine_turns.specs.Turns.{affine_after, first_stop_along}
use Rattle.std.specs.Prelude.{map}

-- an expression that the test finds affine has that affine value in each turn
pub record AffineValuesAreRight : Type 0 where
  pub each : (t : Term) (env : List Affine) (a : Affine) → affine_of t env ≡ Some a
      → (n : ℕ) → value t (map (after_turns n) env) ≡ after_turns n a

-- If the stem leads to b and the turn from b to c with the same symbol, each step of the turn passes the test from the
-- affine values between b and c, and the test finds that the values after the turn have the slopes of those before it,
-- then the turn moves on by these slopes.
pub record SeenTurnsGoOn : Type 0 where
  pub each : (p : Program) (start : List ℤ) (stem turn : List Step) (b c : Config) → IsRun p start stem b
      → IsRun p start (turn ++ stem) c → 1 ≤ length turn → b.at ≡ c.at
      → first_stop_along p (between b.values c.values) turn ≡ None
      → slopes (affine_after p (between b.values c.values) turn) ≡ slopes (between b.values c.values)
      → GoesOnFor p start stem turn b (slopes (between b.values c.values))
