use Rattle.std.proofs.Common.{List, [], ◌∷◌, ◌++◌, take, sym, ◌∙◌, ap}
use Rattle.time_bounds.specs.declared.rule_statuses.RuleStatus.{RuleStatus}
use Rattle.time_bounds.specs.RuleStatuses.{rule_statuses_by}
use Rattle.time_bounds.proofs.RuleStatusLists.{rule_statuses-more}
use Rattle.time_bounds.proofs.rule_statuses.rule_statuses_of.Goals as goal

pub loop-position-preserved : goal.loop-position-preserved
loop-position-preserved c =
    c.in_ok-push.ensures.items
    ∙ (ap (λ (fs : List RuleStatus). fs ++ c.rule_status_by.result ∷ []) c.loop-position.invariant
    ∙ (ap (λ (f : RuleStatus). rule_statuses_by c.args.reached.now (take c.loop-position.position c.args.empties.now)
    (take c.loop-position.position c.args.rules.now) ++ f ∷ []) c.rule_status_by.ensures
    ∙ sym (rule_statuses-more c.args.reached.now c.args.empties.now c.args.rules.now c.loop-position.position c.index-empties-position.result
    c.index-rules-position.result c.requires.one_each c.loop-position-test.true c.index-empties-position.is c.index-rules-position.is)))
