use Rattle.std.proofs.Common.{◌≡◌, ◌∙◌, ap, sym, refl}
use Rattle.bound_expr.specs.Views.{bound_of}
use Rattle.bound_table.specs.RewriteResult.{Fits, answer_of, rewritten_within}
use Rattle.cert_types.proofs.cert_program.Small.{small-bounds}
use Rattle.size_nodes.proofs.sized.sized_where_small.Goals as goal

pub returns-in-Rewritten : goal.returns-in-Rewritten
returns-in-Rewritten c =
    let b = bound_of c.args.bound.now in
    let small : rewritten_within b ≡ Fits (bound_of c.in-Rewritten.small) =
    sym (ap answer_of (sym c.in-Rewritten.is) ∙ c.in_ok-small.ensures.outcome) in
    let k = (small-bounds.fits b (bound_of c.in-Rewritten.small)).0 small in
    (k.0, refl, k.1)

pub returns-in-Large : goal.returns-in-Large
returns-in-Large c =
    (small-bounds.large (bound_of c.args.bound.now) c.in-Large.nodes).0
    (sym (ap answer_of (sym c.in-Large.is) ∙ c.in_ok-small.ensures.outcome))
