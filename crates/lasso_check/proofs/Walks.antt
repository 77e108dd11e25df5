-- The steps of a lasso are taken one after the other.
use Rattle.std.proofs.Common.{◌≡◌, ℕ, zero, suc, ◌+◌, ◌≤◌, ◌<◌, List, [], ◌∷◌, ◌++◌, length, take, map, get_or, ℤ}
use Rattle.std.proofs.Common.{reverse, Some, None, Option, refl, sym, ◌∙◌, ap, subst, arith, length-append}
use Rattle.std.specs.Prelude.{IfSome}
use Rattle.std.proofs.lemmas.List.{length-map, get_or-map, take_all, get_or_append_left, get_or-append-add}
use Rattle.its_model.specs.declared.run.Step as code
use Rattle.its_model.specs.model.Programs.{Program}
use Rattle.its_model.specs.model.Runs.{Config, Step, IsStep, Begins}
use Rattle.its_model.specs.model.Spending.{cost, step_cost}
use Rattle.its_model.specs.Steps.{StepFault}
use Rattle.its_model.specs.Views.{config_of, step_of}
use Rattle.its_model.proofs.poly_terms.model.CostLaws.{stands_at}
use Rattle.run_replay.specs.declared.walk.Walk.{Walk}
use Rattle.run_replay.specs.Replays.{replay_fault, RunsInRange}
use Rattle.run_replay.specs.ReplayAnswers.{first_steps, CanWalk}
use Rattle.run_replay.proofs.ReplayFaults.{ReplayStepsHaveNoFault}
use Rattle.run_replay.proofs.ReplayRuns.{next_runs}
use Rattle.run_replay.proofs.ReplayStands.{first_more, bad_first}
use Rattle.lasso_check.specs.declared.file.Lasso as file
use Rattle.lasso_check.specs.declared.checking_error.LassoError.{LassoError}
use Rattle.lasso_check.specs.Lassos.{Lasso, stem_back, both_back, run_along}
use Rattle.lasso_check.specs.Checks.{Verdict, Round, Bad, OpenAt}
use Rattle.lasso_check.specs.CheckAnswers.{HasVerdict, IsBadStep, verdict_in, Refuses, RefusesStep, HasTaken}
use Rattle.lasso_check.specs.Views.{lasso_of}

-- the position of a step of the stem is the same in both parts together
pub stem_step : (l : file.Lasso) (i : ℕ) (x : code.Step) → i < length l.stem.items → x ≡ get_or l.stem.items i x
    → step_of x ≡ get_or (run_along (lasso_of l)).steps i (step_of x)
stem_step l i x low e =
    ap step_of e
    ∙ (sym (get_or-map step_of l.stem.items i x (step_of x) low)
    ∙ sym (get_or_append_left (map step_of l.stem.items) (map step_of l.turn.items) (step_of x) i
    (omega (arith, low, length-map l.stem.items step_of))))

-- the position of a step of the turn in both parts together is its own plus the length of the stem
pub turn_step : (l : file.Lasso) (i n : ℕ) (x : code.Step) → i < length l.turn.items → x ≡ get_or l.turn.items i x
    → n ≡ length l.stem.items + i → step_of x ≡ get_or (run_along (lasso_of l)).steps n (step_of x)
turn_step l i n x low e at =
    let position : length (map step_of l.stem.items) + i ≡ n = omega (arith, at, length-map l.stem.items step_of) in
    ap step_of e
    ∙ (sym (get_or-map step_of l.turn.items i x (step_of x) low)
    ∙ (sym (get_or-append-add (map step_of l.stem.items) (map step_of l.turn.items) i (step_of x))
    ∙ ap (λ (k : ℕ). get_or (run_along (lasso_of l)).steps k (step_of x)) position))

-- a step of the turn has its own position in the turn
pub own_step : (l : file.Lasso) (i : ℕ) (x : code.Step) → i < length l.turn.items → x ≡ get_or l.turn.items i x
    → step_of x ≡ get_or (map step_of l.turn.items) i (step_of x)
own_step l i x low e = ap step_of e ∙ sym (get_or-map step_of l.turn.items i x (step_of x) low)

-- the number of steps of both parts
pub both_length : (l : file.Lasso) → length (run_along (lasso_of l)).steps ≡ length l.stem.items + length l.turn.items
both_length l = omega (
  arith,
  length-append (map step_of l.stem.items) (map step_of l.turn.items),
  length-map l.stem.items step_of,
  length-map l.turn.items step_of,
)

-- a walk at its beginning has taken no step
pub taken_none : (p : Program) (l : Lasso) (w : Walk) → Begins p l.start (config_of w.here) → CanWalk p w → HasTaken p l 0 w
taken_none p l w begins walks = record { runs = record { run = begins; fit = tt }; walks = walks }

-- a walk that takes a good step has taken one more
pub taken_next : ReplayStepsHaveNoFault → (p : Program) (l : Lasso) (n : ℕ) (s : Step) (old new : Walk)
    → n < length (run_along l).steps → s ≡ get_or (run_along l).steps n s → HasTaken p l n old
    → IsStep p (config_of old.here) s (config_of new.here) → replay_fault p (config_of old.here) s ≡ None
    → CanWalk p new → HasTaken p l (n + 1) new
taken_next law p l n s old new low e h step none walks = record {
  runs = subst (λ (ss : List Step). RunsInRange p l.start ss (config_of new.here)) (sym (first_more (run_along l) n s low e))
      (next_runs law p l.start (first_steps (run_along l) n) (config_of old.here) s (config_of new.here) h.runs step none);
  walks = walks;
}

-- the cost of the steps that were taken, with one more step
pub taken_cost : (p : Program) (l : Lasso) (n charged : ℕ) (s : Step) (w : Walk) → HasTaken p l n w
    → charged ≡ cost p s.rule (w.here.values.items ++ s.free)
    → charged ≡ step_cost p l.start s (first_steps (run_along l) n)
taken_cost p l n charged s w h e =
    e ∙ ap (λ (v : List ℤ). cost p s.rule (v ++ s.free))
    (stands_at p l.start (first_steps (run_along l) n) (config_of w.here) h.runs.run)

-- a step with a fault is the first bad one
pub taken_bad : (p : Program) (l : Lasso) (n : ℕ) (s : Step) (w : Walk) (f : StepFault) (x : LassoError)
    → n < length (run_along l).steps → s ≡ get_or (run_along l).steps n s → HasTaken p l n w
    → replay_fault p (config_of w.here) s ≡ Some f
    → verdict_in x ≡ Some (Bad (record { number = n + 1; fault = f })) → RefusesStep p l x
taken_bad p l n s w f x low e h fault says =
    subst (λ (o : Option Verdict). IfSome o (IsBadStep p l)) (sym says)
    (bad_first p (run_along l) n s (config_of w.here) f low e h.runs fault)

-- an error that reports the first bad step is right
pub step_refused : (p : Program) (l : Lasso) (e : LassoError) → RefusesStep p l e → Refuses p l e
step_refused p l e = go (verdict_in e)
  where
    go : (o : Option Verdict) → IfSome o (IsBadStep p l) → IfSome o (HasVerdict p l)
    go None h = tt
    go (Some (Bad bad)) h = h
    go (Some (Round t)) h = absurd h
    go (Some (OpenAt place)) h = absurd h

-- the first steps, as many as the stem has, are the stem
take-append : (xs ys : List Step) → take (length xs) (xs ++ ys) ≡ xs
take-append [] ys = refl
take-append (x ∷ xs) ys = ap (λ (zs : List Step). x ∷ zs) (take-append xs ys)

pub stem_first : (l : Lasso) → first_steps (run_along l) (length l.stem) ≡ stem_back l
stem_first l = ap reverse (take-append l.stem l.turn)

-- the first steps, as many as both parts have, are both parts
pub both_first : (l : Lasso) → first_steps (run_along l) (length l.stem + length l.turn) ≡ both_back l
both_first l =
    ap reverse (take_all (length l.stem + length l.turn) (l.stem ++ l.turn) (omega (arith, length-append l.stem l.turn)))
