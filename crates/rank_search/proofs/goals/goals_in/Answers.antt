use Rattle.std.proofs.Common.{sym, subst, length}
use Rattle.guard_prep.specs.Views.{prepared_of}
use Rattle.rank_search.specs.Goals.{AreGoalsUpTo}
use Rattle.rule_questions.specs.ProgramQuestions.{forms_of}
use Rattle.rank_search.proofs.BlockGoals.{first-begun, second-begun, second-ended, forms-whole}
use Rattle.rule_questions.proofs.GoalForms.{are-parameters}
use Rattle.rank_search.proofs.goals.goals_in.Goals as goal

pub push_goals-requires-clause-before : goal.push_goals-requires-clause-before
push_goals-requires-clause-before c =
    let r = forms_of c.args.source c.args.target (prepared_of c.args.prepared_rule.now) in
    let cs = c.args.coefficients.now in
    subst (AreGoalsUpTo c.args.part r cs c.args.first.first) (sym c.new-goals.ensures.items)
    (first-begun c.args.part r cs c.args.first c.args.second c.requires.blocks)

pub push_goals-requires-2-clause-before : goal.push_goals-requires-2-clause-before
push_goals-requires-2-clause-before c =
    let r = forms_of c.args.source c.args.target (prepared_of c.args.prepared_rule.now) in
    second-begun c.args.part r c.args.coefficients.now c.args.first c.args.second c.requires.blocks
    c.block_behind-behind.result.first c.push_goals.new.goals.items c.block_behind-behind.ensures.first
    c.in_ok-push_goals.ensures

pub returns-clause-goals : goal.returns-clause-goals
returns-clause-goals c =
    let r = forms_of c.args.source c.args.target (prepared_of c.args.prepared_rule.now) in
    let cs = c.args.coefficients.now in
    let gs = c.push_goals-2.new.goals.items in
    forms-whole c.args.part r cs gs
    (second-ended c.args.part r cs c.args.first c.args.second c.requires.blocks c.block_behind-behind.result.first
    c.block_behind-behind.result.end gs c.block_behind-behind.ensures.first c.block_behind-behind.ensures.end
    c.in_ok-push_goals-2.ensures)

pub returns-clause-listed : goal.returns-clause-listed
returns-clause-listed c =
    let r = forms_of c.args.source c.args.target (prepared_of c.args.prepared_rule.now) in
    let cs = c.args.coefficients.now in
    let gs = c.push_goals-2.new.goals.items in
    are-parameters (length cs) gs
    (second-ended c.args.part r cs c.args.first c.args.second c.requires.blocks c.block_behind-behind.result.first
    c.block_behind-behind.result.end gs c.block_behind-behind.ensures.first c.block_behind-behind.ensures.end
    c.in_ok-push_goals-2.ensures).listed
