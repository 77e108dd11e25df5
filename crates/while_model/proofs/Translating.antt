-- Executions and runs of the translation correspond; what follows for bounds; and the free variable is no input.
use Rattle.std.proofs.Common.{ℕ, ◌≤◌, List, length, ℤ, refl, sym, ◌∙◌, ap, subst}
use Rattle.model.specs.Programs.{Name, Rule}
use Rattle.model.specs.Runs.{sizes_of_start}
use Rattle.model.specs.Bounds.{val}
use Rattle.model.specs.Costs.{HasCost, PlainTotalsAreLengths}
use Rattle.model.proofs.Cases.{some_none}
use Rattle.while_model.specs.Statements.{Statements}
use Rattle.while_model.specs.Executions.{EndsWith}
use Rattle.while_model.specs.Translation.{program_of}
use Rattle.while_model.specs.Laws.{ExecutionsAreRuns, TotalsBoundExecutions}
use Rattle.while_model.proofs.Routes.{execution_is_route, route_is_execution}
use Rattle.while_model.proofs.Runs.{rule_is_of, route_is_run, run_is_route}

-- Executions and runs correspond.
pub executions_are_runs : ExecutionsAreRuns
executions_are_runs = record {
  run = λ inputs program some start is n end (left, execution).
      let found = execution_is_route program some start n left end execution in
      let run = route_is_run inputs program some start is n found.0 end found.1 in
      (run.0, _, run.1, run.2, refl);
  execution = λ inputs program some start n end (steps, c, run, count, values).
      let found = run_is_route inputs program some start steps c run in
      let execution = route_is_execution program some start (length steps) found.0.point c.values found.0.route in (
        found.1,
        subst (λ (m : ℕ). EndsWith program start m end) count
            (subst (λ (v : List ℤ). EndsWith program start (length steps) v) values (execution.0, execution.1)),
      );
}

-- No rule of a translation has a cost annotation.
no_cost : (inputs : List Name) (program : Statements) (t : ℕ) → ¬ (HasCost (program_of inputs program) t)
no_cost inputs program t h =
    let found = rule_is_of inputs program t h.rule h.numbered in
    some_none h.cost (sym h.written ∙ sym (ap (λ (r : Rule). r.cost) found.2))

-- A bound on the total cost bounds the steps of each execution.
pub totals_bound_executions : PlainTotalsAreLengths → TotalsBoundExecutions
totals_bound_executions plain = record {
  each = λ inputs program some bound total start is n end ends.
      let p = program_of inputs program in
      let run = executions_are_runs.run inputs program some start is n end ends in
      let held = plain.bounds_length p bound (no_cost inputs program) total in
      subst (λ (m : ℕ). m ≤ val bound (sizes_of_start start)) run.3 (held.each start run.0 run.1 run.2);
}
