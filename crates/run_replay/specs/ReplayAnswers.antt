-- Tallies and errors of the code as plain data, and the meaning of a replay's result.
use Rattle.std.specs.Prelude.{◌≡◌, ◌+◌, ◌<◌, ◌≤◌, ℕ, max, ℤ, pos, nat_abs, List, [], length, map, reverse, take, Result}
use Rattle.std.specs.Prelude.{slice_index, slice_index_or, slice_set, Option, Some, None, MatchResult, IfSome, ⊤}
use Rattle.std.specs.Prelude.{vec_capacity}
use Rattle.its_model.specs.model.Programs.{Program, arity_of}
use Rattle.its_model.specs.model.Runs.{Step}
use Rattle.its_model.specs.Steps.{OtherRule, AtomFails, PastRange, maximum_arity}
use Rattle.its_model.specs.Views.{config_of}
use Rattle.bound_expr.specs.Capped.{capped}
use Rattle.run_replay.specs.declared.replaying.Standing.{Standing}
use Rattle.run_replay.specs.declared.walk.Walk.{Walk}
use Rattle.run_replay.specs.declared.tally.Tally.{Tally}
use Rattle.run_replay.specs.declared.replaying_error.ReplayError.{ReplayError}
use Rattle.run_replay.specs.declared.replaying_error.ReplayError.TheVariants.{WrongRule, GuardFails, PassedRange}
use Rattle.run_replay.specs.declared.replaying_error.ReplayError.TheVariants.{Memory}
use Rattle.run_replay.specs.Runs.{Run}
use Rattle.run_replay.specs.Replays.{RunsInRange, IsRunInRange, BadStep, IsFirstBadStep, Sums, tally_along}

-- the greatest absolute values of a tally
abbrev pub sizes_in : Tally → List (List ℕ)
sizes_in t = map (λ row. row.items) t.greatest.items

-- a tally as plain data
abbrev pub sums_of : Tally → Sums
sums_of t = record {
  steps = t.steps;
  counts = t.counts.items;
  greatest = sizes_in t;
  costs = t.costs.items;
  spent = t.spent;
}

-- the bad step that an error contains; running out of memory contains none
abbrev pub bad_step_of : ReplayError → Option BadStep
bad_step_of (WrongRule step) = Some (record { number = step; fault = OtherRule })
bad_step_of (GuardFails step atom) = Some (record { number = step; fault = AtomFails atom })
bad_step_of (PassedRange step) = Some (record { number = step; fault = PastRange })
bad_step_of Memory = None

-- the steps of a run, last step first
abbrev pub last_first : Run → List Step
last_first r = reverse r.steps

-- the steps of the run are one of the program in range, and this is the tally along them
pub record IsReplay (p : Program) (r : Run) (t : Sums) : Type 0 where
  pub run : IsRunInRange p r.start (last_first r)
  pub tally : t ≡ tally_along p r.start (last_first r)

-- if an error contains a bad step, it is the first one of the run
abbrev pub Refuses : Program → Run → ReplayError → Type 0
Refuses p r e = IfSome (bad_step_of e) (λ bad. IsFirstBadStep p r.start (last_first r) bad)

-- a result is right: it is the tally along the run if that is in range, or exactly its first bad step, or memory ran
-- out
abbrev pub Replays : Program → Run → Result Tally ReplayError → Type 0
Replays p r result = MatchResult result (λ t. IsReplay p r (sums_of t)) (Refuses p r)

-- The new tally is the old one after one more step by the rule at a position, which leads to these values at this cost:
-- the step is counted, each number of the rule's row is replaced by the absolute value at its place if that is greater,
-- and the cost is added, up to 2^127, to the cost of the rule and to the cost of all rules.
pub record Notes (k : ℕ) (values : List ℤ) (cost : ℕ) (old new : Sums) : Type 0 where
  pub steps : new.steps ≡ old.steps + 1
  pub counts : new.counts ≡ slice_set old.counts k (slice_index old.counts k + 1)
  pub row : List ℕ
  pub greatest : new.greatest ≡ slice_set old.greatest k row
  pub places : length row ≡ length values
  pub raised : (i : ℕ) → i < length values → slice_index row i
      ≡ max (slice_index (slice_index_or old.greatest k []) i) (nat_abs (slice_index_or values i (pos 0)))
  pub costs : new.costs ≡ slice_set old.costs k (capped (slice_index old.costs k + cost))
  pub spent : new.spent ≡ capped (old.spent + cost)

-- a result is a tally, unless memory ran out
abbrev pub Tallies : Result Tally ReplayError → Type 0
Tallies result = MatchResult result (λ _. ⊤) (λ e. bad_step_of e ≡ None)

-- a result contains this bad step, unless memory ran out
abbrev pub RefusesWith : BadStep → Result Tally ReplayError → Type 0
RefusesWith bad result = MatchResult result (λ _. ⊥) (λ e. IfSome (bad_step_of e) (λ b. b ≡ bad))

-- the first steps of a run, last step first
abbrev pub first_steps : Run → ℕ → List Step
first_steps r n = reverse (take n r.steps)

-- a walk can continue in a program: its configuration has a value for each place of the symbol, and both configurations
-- have room for the values of any symbol
pub record CanWalk (p : Program) (w : Walk) : Type 0 where
  pub places : length w.here.values.items ≡ arity_of p w.here.at
  pub room : maximum_arity p.symbols ≤ vec_capacity w.here.values
  pub next_room : maximum_arity p.symbols ≤ vec_capacity w.next.values

-- a replay has taken the first n steps of a run: they are a run in range to its configuration, from which the walk can
-- continue, and its tally is that along them
pub record ReplayIsAfter (p : Program) (r : Run) (n : ℕ) (s : Standing) : Type 0 where
  pub runs : RunsInRange p r.start (first_steps r n) (config_of s.walk.here)
  pub walks : CanWalk p s.walk
  pub tally : sums_of s.tally ≡ tally_along p r.start (first_steps r n)
