-- The result of a check of a turn is right: its finding, and its rules and cost.
use Rattle.std.proofs.Common.{◌≡◌, ◌≢◌, if◌then◌else◌, Bool, true, false, ℕ, ◌+◌, ◌≤◌, List, ◌++◌, length, ℤ, Option, Some, None}
use Rattle.std.specs.List.{filter, range_with_len}
use Rattle.std.proofs.Common.{map, refl, sym, ◌∙◌, ap, subst, arith, nat_eq}
use Rattle.std.proofs.lemmas.Bool.Decides.{eqb_tells, nat_tests}
use Rattle.std.proofs.lemmas.List.{reverse-append, take_all}
use Rattle.bound_expr.specs.Capped.{capped}
use Rattle.its_model.specs.model.Programs.{Program}
use Rattle.its_model.specs.model.Runs.{Config, Step, IsRun}
use Rattle.its_model.specs.model.Spending.{spent_all}
use Rattle.its_model.specs.Views.{config_of}
use Rattle.lassos.proofs.Turning.{spent_all-append}
use Rattle.lasso_check.specs.declared.turning.Turning.{Turning}
use Rattle.run_replay.specs.Replays.{RunsInRange, rule_numbers}
use Rattle.run_replay.specs.ReplayAnswers.{first_steps}
use Rattle.lasso_check.specs.Lassos.{Lasso, stem_back, turn_back, both_back, run_along}
use Rattle.lasso_check.specs.Checks.{is_used_in, rules_of_turn}
use Rattle.lasso_check.specs.CheckAnswers.{HasTurned}
use Rattle.lasso_check.proofs.Turns.{recorded_length, listed_rules}
use Rattle.lasso_check.proofs.Walks.{both_first}
use Rattle.affine_turns.specs.declared.affine.Affine.{Affine}
use Rattle.affine_turns.specs.Affine.{slopes, between}
use Rattle.affine_turns.specs.Turns.{StopAt, affine_after, first_stop_along}
use Rattle.moving_check.specs.Findings.{Moving, Finding, Moves, LeavesSymbol, PassesAt, ChangesAt, Found, first_wide}
use Rattle.moving_check.specs.Findings.{first_change, at_place, at_stop, moving_from, found_of, found_between}
use Rattle.moving_check.proofs.GoingOn.{turn_all}

-- equal numbers pass the test of equality
equal-tested : (m n : ℕ) → m ≡ n → nat_eq m n ≡ true
equal-tested m n e = grind (arith, nat_tests)

module _ (p : Program) (l : Lasso) (b c : Config) where
  -- the affine values between both configurations
  abbrev env : List Affine
  env = between b.values c.values

  -- the finding if all slopes fit 128 bits and all steps pass the test
  abbrev last : Finding
  last =
      at_place (first_change 1 env (affine_after p env (turn_back l))) ChangesAt (Moves (moving_from p l b.values env))

  here : b.at ≡ c.at → found_between p l b c ≡ found_of p l b.values env
  here same = ap (λ (t : Bool). if t then found_of p l b.values env else LeavesSymbol) (equal-tested b.at c.at same)

  -- the affine values between two lists that are the values of both configurations
  pub between_of : (bs cs : List ℤ) → bs ≡ b.values → cs ≡ c.values → between bs cs ≡ env
  between_of bs cs e f = ap (λ (xs : List ℤ). between xs cs) e ∙ ap (between b.values) f

  fitting : b.at ≡ c.at → first_wide 1 env ≡ None
      → found_between p l b c ≡ at_stop (first_stop_along p env (turn_back l)) (length l.stem) last
  fitting same none =
      here same
      ∙ ap (λ (o : Option ℕ). at_place o PassesAt (at_stop (first_stop_along p env (turn_back l)) (length l.stem) last)) none

  going : (es behind : List Affine) → b.at ≡ c.at → first_wide 1 env ≡ None → es ≡ env
      → first_stop_along p es (turn_back l) ≡ None → behind ≡ affine_after p es (turn_back l)
      → found_between p l b c ≡ at_place (first_change 1 es behind) ChangesAt (Moves (moving_from p l b.values es))
  going es behind same none is no_stop after =
      fitting same none
      ∙ (ap (λ (xs : List Affine). at_stop (first_stop_along p xs (turn_back l)) (length l.stem)
      (at_place (first_change 1 xs (affine_after p xs (turn_back l))) ChangesAt (Moves (moving_from p l b.values xs)))) (sym is)
      ∙ (ap (λ (o : Option StopAt). at_stop o (length l.stem) (at_place (first_change 1 es (affine_after p es (turn_back l))) ChangesAt
      (Moves (moving_from p l b.values es)))) no_stop
      ∙ ap (λ (xs : List Affine). at_place (first_change 1 es xs) ChangesAt (Moves (moving_from p l b.values es))) (sym after)))

  -- the finding of a turn that passes every test is that it moves on
  pub moves : (es behind : List Affine) (m : Moving) → b.at ≡ c.at → first_wide 1 env ≡ None → es ≡ env
      → first_stop_along p es (turn_back l) ≡ None → behind ≡ affine_after p es (turn_back l)
      → first_change 1 es behind ≡ None → m.differences ≡ slopes es → m.rules ≡ rules_of_turn p l
      → m.cost ≡ capped (spent_all p b.values (turn_back l)) → Found (Moves m) ≡ Found (found_between p l b c)
  moves es behind m same none is no_stop after change differences rules cost =
      let told : m ≡ moving_from p l b.values es =
      λ i. record { differences = differences i; rules = rules i; cost = cost i } in
      ap (λ (f : Finding). Found f) (ap (λ (n : Moving). Moves n) told
      ∙ sym (going es behind same none is no_stop after
      ∙ ap (λ (o : Option ℕ). at_place o ChangesAt (Moves (moving_from p l b.values es))) change))

-- the recorded cost of a turn is what its steps cost from where it begins
pub turn_cost : (p : Program) (l : Lasso) (b : Config) (n : ℕ) (t : Turning) → RunsInRange p l.start (stem_back l) b
    → HasTurned p l n t → n ≡ length l.turn → t.cost ≡ capped (spent_all p b.values (turn_back l))
turn_cost p l b n t stem h all =
    let both : first_steps (run_along l) (length l.stem + n) ≡ turn_back l ++ stem_back l =
    ap (λ (k : ℕ). first_steps (run_along l) (length l.stem + k)) all
    ∙ (both_first l ∙ reverse-append l.stem l.turn) in
    let whole = ap (spent_all p l.start) both in
    let charged : h.charged ≡ spent_all p b.values (turn_back l) =
    omega (arith, h.costs, whole, spent_all-append p l.start (turn_back l) (stem_back l) b stem.run) in
    h.cost ∙ ap capped charged

-- the rules listed from the record are those of the turn
pub turn_rules : (p : Program) (l : Lasso) (n : ℕ) (t : Turning) (used : List Bool) (rules : List ℕ) → used ≡ t.used.items
    → HasTurned p l n t → length l.turn ≤ n
    → ((f : ℕ → Bool) → used ≡ map f (range_with_len 1 (length used)) → rules ≡ filter f (range_with_len 1 (length used)))
    → rules ≡ rules_of_turn p l
turn_rules p l n t used rules same h all listed =
    listed_rules p l used rules (ap length same ∙ recorded_length p l n t h) listed
    (same ∙ (h.used ∙ ap (λ (ss : List Step). map (is_used_in ss) (rule_numbers p)) (turn_all l n all)))
