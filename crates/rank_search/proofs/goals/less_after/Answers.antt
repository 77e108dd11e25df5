use Rattle.std.proofs.Common.{ap, sym, ◌∙◌, refl, arith}
use Rattle.std.proofs.lemmas.Result.{IfOk-weaker}
use Rattle.simplex_core.specs.linear_forms.Forms.{Form}
use Rattle.simplex_core.specs.linear_forms.Combinations.{form_sum}
use Rattle.simplex_core.specs.linear_forms.RuleQuestions.{opposite}
use Rattle.guard_prep.specs.Views.{prepared_of}
use Rattle.poly_terms.specs.Views.{form_of}
use Rattle.rule_questions.proofs.GoalForms.{after-listed, after-past}
use Rattle.rule_questions.proofs.Sums.{less-zero}
use Rattle.rank_search.proofs.goals.less_after.Goals as goal

pub returns-clause-same : goal.returns-clause-same
returns-clause-same c =
    IfOk-weaker c.difference-2.result _ _
    (λ row e. e ∙ ap (λ (g : Form). form_sum (form_of c.args.before) (opposite g))
    (after-listed c.args.target
    (prepared_of c.args.prepared_rule.now) c.args.prepared_rule.now.new_values.items refl c.args.c.symbol c.args.c.place
    c.index-after.result.now
    c.if-c-target.false c.if-c-eq0.false
    (omega (arith, c.len.ensures, c.args.prepared_rule.now.new_values.ok.0, c.if-position-len.false))
    c.index-after.ensures))
    c.difference-2.ensures.same

pub returns-then-position-len-clause-same : goal.returns-then-position-len-clause-same
returns-then-position-len-clause-same c =
    sym (less-zero (form_of c.args.before))
    ∙ ap (λ (g : Form). form_sum (form_of c.args.before) (opposite g))
    (after-past c.args.target
    (prepared_of c.args.prepared_rule.now) c.args.prepared_rule.now.new_values.items refl c.args.c.symbol c.args.c.place
    c.if-c-target.false c.if-c-eq0.false
    (omega (arith, c.len.ensures, c.args.prepared_rule.now.new_values.ok.0, c.if-position-len.true)))
