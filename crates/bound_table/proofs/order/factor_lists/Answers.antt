use Rattle.std.proofs.Common.{sym, ◌∙◌}
use Rattle.bound_expr.specs.Views.{bounds_of}
use Rattle.bound_table.proofs.TotalOrder.{slice_cmp-compared}
use Rattle.bound_table.proofs.order.factor_lists.Goals as goal

pub returns : goal.returns
returns c =
    c.compare_all.ensures ∙ sym (slice_cmp-compared (bounds_of c.args.factors.now) (bounds_of c.args.others.now))
