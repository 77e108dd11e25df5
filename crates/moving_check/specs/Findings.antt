-- The verdict on a lasso whose turn is meant to move on: its differences, its first bad step, or why it isn't shown to
-- keep leading on.
use Rattle.std.specs.Prelude.{◌≡◌, if◌then◌else◌, not, nat_eq, ◌+◌, ◌≤◌, ℕ, zero, suc, List, [], ◌∷◌, length, slice_index_or, ℤ, pos, ◌-ℤ◌, Option, Some, None}
use Rattle.std.specs.Ordering.{int_eq}
use Rattle.its_model.specs.model.Programs.{Program}
use Rattle.its_model.specs.model.Runs.{Config}
use Rattle.its_model.specs.model.Spending.{spent_all}
use Rattle.its_model.specs.poly_terms.Checked.{fits}
use Rattle.bound_expr.specs.Capped.{capped}
use Rattle.run_replay.specs.Replays.{RunsInRange, BadStep, IsFirstBadStep}
use Rattle.lasso_check.specs.Lassos.{Lasso, stem_back, turn_back, both_back}
use Rattle.lasso_check.specs.Checks.{rules_of_turn}
use Rattle.affine_turns.specs.declared.affine.Affine.{Affine}
use Rattle.affine_turns.specs.Affine.{within, with_both, slopes, between}
use Rattle.affine_turns.specs.Turns.{StopAt, affine_after, first_stop_along}

-- the result for a turn that moves on: by how much the value at each place changes in each turn, the rules of the turn,
-- and the cost of the first turn
pub record Moving : Type 0 where
  pub differences : List ℤ
  pub rules : List ℕ
  pub cost : ℕ

-- The finding for a lasso whose steps are all good: its turn moves on; it leads to another symbol; the difference of
-- the values at a place exceeds 128 bits; a step, counted through the stem and the turn, fails the test; or the value
-- at a place changes by another amount after the turn than before it.
pub data Finding : Type 0 where
  Moves : Moving → Finding
  LeavesSymbol : Finding
  PassesAt : ℕ → Finding
  StopsAt : StopAt → Finding
  ChangesAt : ℕ → Finding

-- the verdict on a lasso: its first bad step, or, if it has none, the finding
pub data Verdict : Type 0 where
  Bad : BadStep → Verdict
  Found : Finding → Verdict

-- the affine value with the i-th values before and after a turn, if 128 bits hold its slope
abbrev pub integer_at : List ℤ → List ℤ → ℕ → Option Affine
integer_at bs cs i =
    let first = slice_index_or bs i (pos 0) in
    with_both (Some first) (within (slice_index_or cs i first -ℤ first))

-- the first place whose slope exceeds 128 bits; the first of these places has the number n
abbrev pub first_wide : ℕ → List Affine → Option ℕ
first_wide n [] = None
first_wide n (a ∷ env) = if fits a.slope then first_wide (suc n) env else Some n

-- the first place whose slopes in the lists differ, or that only one of the lists has; the first of these places has
-- the number n
abbrev pub first_change : ℕ → List Affine → List Affine → Option ℕ
first_change n [] [] = None
first_change n [] (b ∷ behind) = Some n
first_change n (a ∷ env) [] = Some n
first_change n (a ∷ env) (b ∷ behind) = if int_eq a.slope b.slope then first_change (suc n) env behind else Some n

-- the finding at this place, if there is one, else another finding
abbrev pub at_place : Option ℕ → (ℕ → Finding) → Finding → Finding
at_place None found else_found = else_found
at_place (Some place) found else_found = found place

-- the finding that a step fails the test, numbered after so many earlier steps, if there is one, else another finding
abbrev pub at_stop : Option StopAt → ℕ → Finding → Finding
at_stop None before else_found = else_found
at_stop (Some s) before else_found = StopsAt (record { number = before + s.number; stop = s.stop })

-- the result for a turn that moves on from these values
abbrev pub moving_from : Program → Lasso → List ℤ → List Affine → Moving
moving_from p l values env = record {
  differences = slopes env;
  rules = rules_of_turn p l;
  cost = capped (spent_all p values (turn_back l));
}

-- the finding for a turn from these values, with these affine values at the places
abbrev pub found_of : Program → Lasso → List ℤ → List Affine → Finding
found_of p l values env =
    at_place (first_wide 1 env) PassesAt
    (at_stop (first_stop_along p env (turn_back l)) (length l.stem)
    (at_place (first_change 1 env (affine_after p env (turn_back l))) ChangesAt (Moves (moving_from p l values env))))

-- the finding if the stem leads to b and the turn from there to c
abbrev pub found_between : Program → Lasso → Config → Config → Finding
found_between p l b c =
    if nat_eq b.at c.at then found_of p l b.values (between b.values c.values) else LeavesSymbol

-- the stem is a run in range, and so are both parts, the turn has a step, and this is their finding
pub record IsFound (p : Program) (l : Lasso) (f : Finding) : Type 0 where
  pub before : Config
  pub behind : Config
  pub stem : RunsInRange p l.start (stem_back l) before
  pub whole : RunsInRange p l.start (both_back l) behind
  pub nonempty : 1 ≤ length l.turn
  pub found : found_between p l before behind ≡ f

-- the verdict on a lasso is right
abbrev pub HasVerdict : Program → Lasso → Verdict → Type 0
HasVerdict p l (Bad bad) = IsFirstBadStep p l.start (both_back l) bad
HasVerdict p l (Found f) = IsFound p l f
