use Rattle.std.proofs.Common.{◌∙◌, ◌-◌, List, sym, subst, arith}
use Rattle.std.specs.Slice.{IsItemAt}
use Rattle.its_model.specs.Views.{rule_of}
use Rattle.poly_terms.specs.declared.expr.Expr.{Expr}
use Rattle.poly_terms.specs.Views.{term_of}
use Rattle.potential_types.proofs.LookupLaws.{item-numbered}
use Rattle.claims_check.proofs.VerdictLaws.{update-numbered}
use Rattle.claims_check.proofs.stating.update_of.Goals as goal

pub returns : goal.returns
returns c =
    item-numbered term_of c.args.rule.now.updates.items c.args.place c.get.result (omega arith)
    (subst (λ (es : List Expr). IsItemAt es (c.args.place - 1) c.get.result) c.deref.ensures.value c.get.ensures.lookup)
    ∙ sym (update-numbered (rule_of c.args.rule.now) c.args.place)
