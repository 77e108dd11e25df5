use Rattle.lasso_forms.proofs.EndlessTurns.{turns_untimed}
use Rattle.lasso_forms.proofs.law.endless_turns_have_no_time.Goals as goal

pub returns : goal.returns
returns c =
    turns_untimed c.listed_rules_are_endless.ensures c.moving_turns_are_endless.ensures c.lassos_are_endless.ensures.endless
    c.lassos_are_endless.ensures.no_time
