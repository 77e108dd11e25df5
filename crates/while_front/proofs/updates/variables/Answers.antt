use Rattle.std.proofs.Common.{◌∙◌}
use Rattle.while_model.specs.Translation.{variables}
use Rattle.poly_terms.specs.declared.expr.Expr.TheVariants.{Var}
use Rattle.while_front.proofs.UpdateLists.{terms_push, variables_push}
use Rattle.while_front.proofs.updates.variables.Goals as goal

pub loop-x-preserved : goal.loop-x-preserved
loop-x-preserved c =
    terms_push c.loop-x.updates.items c.push.new.self.items (Var c.loop-x.x) (variables c.loop-x.x)
    c.in_ok-push.ensures.items c.loop-x.invariant
    ∙ variables_push c.loop-x.x
