use Rattle.std.proofs.Common.{◌≡◌, ℕ, ◌≤◌, ◌+◌, refl, sym, subst, arith, length}
use Rattle.std.proofs.lemmas.List.Elements.{All-get_or}
use Rattle.simplex_core.specs.linear_forms.RuleQuestions.{before_rule}
use Rattle.rule_questions.proofs.GoalForms.{Ascend, ascend-more, goal-pushed, are-parameters}
use Rattle.local_size.proofs.Problems.{goals-pushed}
use Rattle.local_size.proofs.problem.goals_of.Goals as goal

pub loop-parameter-preserved : goal.loop-parameter-preserved
loop-parameter-preserved c =
    let i = c.loop-parameter.parameter in
    let xs = c.args.places.now in
    let l = c.loop-parameter-test.true in
    let kept = c.loop-parameter.invariant.goals in
    let ascend = c.loop-parameter.invariant.listed in
    record {
      goals = goal-pushed before_rule xs i _ l c.loop-parameter.goals.items kept ascend c.push.new.self.items _
          c.in_ok-push.ensures.items refl c.in_ok-form.ensures;
      listed = subst (Ascend 0 (i + 1)) (sym c.in_ok-push.ensures.items)
          (ascend-more 0 i c.loop-parameter.goals.items _ refl ascend);
      writable = goals-pushed xs c.loop-parameter.goals.items c.push.new.self.items _ _
          c.loop-parameter.invariant.writable
          c.in_ok-push.ensures.items c.in_ok-form.ensures (λ n all. All-get_or (λ (k : ℕ). k ≤ n) xs i _ l all);
    }

pub returns-clause-listed : goal.returns-clause-listed
returns-clause-listed c =
    let e : c.loop-parameter.parameter ≡ length c.args.places.now =
    let l = c.loop-parameter-test.false in let m = c.loop-parameter.auto.parameter-end in omega (arith, l, m) in
    are-parameters (length c.args.places.now) c.loop-parameter.goals.items
    (subst (λ (n : ℕ). Ascend 0 n c.loop-parameter.goals.items) e c.loop-parameter.invariant.listed)
