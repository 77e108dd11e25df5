use Rattle.std.proofs.Common.{◌+◌, ◌<◌, ◌≤◌, ◌∙◌, sym, subst, refl, arith, length, []}
use Rattle.std.specs.List.{All}
use Rattle.std.proofs.lemmas.List.Elements.{All-append, All-cons, All-nil, All-get_or}
use Rattle.simplex_core.specs.linear_forms.Forms.{Form}
use Rattle.guard_prep.specs.Views.{prepared_of}
use Rattle.poly_terms.specs.Views.{form_of}
use Rattle.lp_builder.specs.declared.description.Goal.{Goal}
use Rattle.lp_builder.specs.Descriptions.{IsWritable}
use Rattle.rank_search.specs.declared.coefficients.Coefficient.{Coefficient}
use Rattle.rank_search.specs.Coefficients.{coefficient_of}
use Rattle.rank_search.specs.Goals.{goal_form, AreGoalsUpTo}
use Rattle.rule_questions.specs.ProgramQuestions.{forms_of}
use Rattle.rule_questions.proofs.GoalForms.{Ascend, ascend-more, ascend-wider, goal-pushed, goal-passed}
use Rattle.rank_search.proofs.Unconcerned.{unconcerned}
use Rattle.rule_questions.proofs.Sums.{difference-writable}
use Rattle.rank_search.proofs.goals.push_goals.Goals as goal
use Rattle.rank_search.proofs.goals.push_goals.Goals.{then-counts+in_ok-form+in_ok-push, else-counts}

pub loop-parameter-preserved : goal.loop-parameter-preserved
loop-parameter-preserved c =
    let r = forms_of c.args.source c.args.target (prepared_of c.args.prepared_rule.now) in
    let one = λ (x : Coefficient). goal_form c.args.part r (coefficient_of x) in
    let writable = λ (g : Goal). IsWritable c.args.prepared_rule.now.unknowns (form_of g.form) in
    let i = c.loop-parameter.parameter in
    let xs = c.args.coefficients.now in
    let l : i < length xs =
    let k = c.loop-parameter-test.true in let m = c.requires.below in omega (arith, k, m) in
    let done = c.loop-parameter.invariant in
    elim c.if-counts.branch [
      | then-counts+in_ok-form+in_ok-push w ↦
          subst (λ v. AreGoalsUpTo c.args.part r xs (i + 1) v.items) (sym w.goals-is)
          (record {
            forms = goal-pushed one xs i _ l c.loop-parameter.goals.items done.forms done.listed w.push.new.self.items _
                w.in_ok-push.ensures.items refl w.in_ok-form.ensures.same;
            listed = subst (Ascend 0 (i + 1)) (sym w.in_ok-push.ensures.items)
                (ascend-more 0 i c.loop-parameter.goals.items _ refl done.listed);
            writable = subst (All writable) (sym w.in_ok-push.ensures.items)
                (All-append writable c.loop-parameter.goals.items _ done.writable
                (All-cons writable _ []
                (difference-writable c.args.prepared_rule.now.unknowns _
                (subst (λ (f : Form). length f.coefs ≤ c.args.prepared_rule.now.unknowns)
                (sym w.in_ok-form.ensures.same)
                (All-get_or (λ (x : Coefficient). length (one x).coefs ≤ c.args.prepared_rule.now.unknowns) xs i _ l
                c.requires.fit)) w.in_ok-form.ensures.small) (All-nil writable)));
          })
      | else-counts w ↦
          subst (λ v. AreGoalsUpTo c.args.part r xs (i + 1) v.items) (sym w.goals-is)
          (record {
            forms = goal-passed one xs i _ l c.loop-parameter.goals.items done.forms done.listed
                (unconcerned c.args.part r _ (sym c.concerns-counts.ensures ∙ w.if-counts.false));
            listed = ascend-wider 0 i c.loop-parameter.goals.items done.listed;
            writable = done.writable;
          })
    ]
