use Rattle.std.proofs.Common.{take, sym, subst, arith, rules}
use Rattle.std.proofs.lemmas.List.{take_all}
use Rattle.std.proofs.lemmas.List.Elements.{All-more, All-same}
use Rattle.lp_builder.specs.declared.description.Goal.{Goal}
use Rattle.lp_builder.specs.poly_terms.Views.{form_of}
use Rattle.lp_builder.specs.Descriptions.{IsWritable}
use Rattle.sample_questions.proofs.writable.are_goals_writable.Goals as goal

pub loop-goal-preserved : goal.loop-goal-preserved
loop-goal-preserved c =
    All-more (λ (r : Goal). IsWritable c.args.unknowns (form_of r.form)) c.args.goals.now c.loop-goal.goal-index c.goal-item.result c.loop-goal-test.true c.loop-goal.invariant
    (subst (λ (r : Goal). IsWritable c.args.unknowns (form_of r.form)) c.goal-item.is (c.is_writable.ensures (search rules)))

pub returns : goal.returns
returns c = λ e.
    All-same (λ (r : Goal). IsWritable c.args.unknowns (form_of r.form)) c.args.goals.now (take c.loop-goal.goal-index c.args.goals.now)
    (sym (take_all c.loop-goal.goal-index c.args.goals.now (omega arith))) c.loop-goal.invariant
