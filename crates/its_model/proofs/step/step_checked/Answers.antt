use Rattle.std.proofs.Common.{◌≡◌, ◌++◌, length, map, ap, sym, ◌∙◌, subst, arith}
use Rattle.std.specs.Prelude.{Some, None, Result, Ok, Err, MatchResult, IfOk}
use Rattle.poly_terms.specs.model.Terms.{value}
use Rattle.poly_terms.specs.model.Programs as plain
use Rattle.poly_terms.specs.model.Runs as runs
use Rattle.its_model.specs.declared.step_error.StepError.{StepError}
use Rattle.its_model.specs.StepAnswers.{fault_of}
use Rattle.its_model.specs.Steps.{rule_fault}
use Rattle.its_model.specs.Valid.{IsValidRule}
use Rattle.its_model.specs.Views.{rule_of, program_of, config_of}
use Rattle.std.proofs.lemmas.List.{length-map}
use Rattle.poly_terms.specs.Views.{term_of}
use Rattle.its_model.proofs.ListLaws.{mapped-all}
use Rattle.its_model.proofs.StepLaws.{step-taken, arity-at-most}
use Rattle.its_model.proofs.step.step_checked.Goals as goal

-- An answer without an error is a step.
ok_step : (p : plain.Program) (c d : runs.Config) (s : runs.Step) (r : plain.Rule) (x : Result (Unit {0}) StepError) → plain.rule_at p s.rule ≡ Some r
    → (c.at ≡ r.source → length c.values ≡ r.left)
    → MatchResult x (λ _. rule_fault r c s.free ≡ None) (λ e. rule_fault r c s.free ≡ Some (fault_of e))
    → IfOk x (λ _. d.at ≡ r.target) → IfOk x (λ _. d.values ≡ map (λ u. value u (c.values ++ s.free)) r.updates) → IfOk x (λ _. runs.IsStep p c s d)
ok_step p c d s r (Ok u) e l f a v = step-taken p c d s r e l f a v
ok_step p c d s r (Err x) e l f a v = tt

pub step_by-requires-clause-room : goal.step_by-requires-clause-room
step_by-requires-clause-room c =
    let p = program_of c.args.p.now in
    let valid = mapped-all (IsValidRule p) rule_of c.args.p.now.rules.items c.in-Some.i c.index.result.now c.requires.valid.rules c.in-Some.ensures.0 c.index.ensures in
    omega (arith, valid.places, length-map c.index.result.now.updates.items term_of, arity-at-most p.symbols c.index.result.now.target, c.requires.room)

pub returns-in-Some-clause-step : goal.returns-in-Some-clause-step
returns-in-Some-clause-step c =
    let p = program_of c.args.p.now in
    let now = config_of c.args.now.now in
    let rule = c.index.result.now in
    let valid = mapped-all (IsValidRule p) rule_of c.args.p.now.rules.items c.in-Some.i rule c.requires.valid.rules c.in-Some.ensures.0 c.index.ensures in
    let left : now.at ≡ rule.source → length now.values ≡ rule.left =
    λ e. c.requires.places ∙ (ap (plain.arity_of p) e ∙ sym valid.left) in
    let free = c.deref.ensures.value in
    subst (λ (s : runs.Step). IfOk c.step_by.result (λ _. runs.IsStep p now s (config_of c.step_by.new.next)))
    (λ i. record { rule = c.args.step.now.rule; free = free i })
    (ok_step p now (config_of c.step_by.new.next) (record { rule = c.args.step.now.rule; free = c.deref.result.now }) (rule_of rule) c.step_by.result
    (c.in-Some.ensures.1 rule c.index.ensures) left c.step_by.ensures.fault c.step_by.ensures.at c.step_by.ensures.values)
