use Rattle.std.proofs.Common.{map, ap, ◌∙◌}
use Rattle.model.specs.Bounds.{SumOf, ProductOf, Parts, NoParts, Part}
use Rattle.bound_expr.specs.Views.{bound_of}
use Rattle.bound_expr.proofs.Views.{bound_of-Prod}
use Rattle.cert_types.specs.Sizes.{joined}
use Rattle.size_nodes.specs.Growths.{growth_of, all_joined, addition_part}
use Rattle.size_nodes.proofs.JoinedParts.{one_pushed}
use Rattle.size_nodes.proofs.loop_bound.loop_bound.Goals as goal

pub returns : goal.returns
returns g c =
    let last = SumOf (Part (bound_of c.args.base)
    (all_joined (addition_part (g.K.Known.table c.args.known.now).time) (map growth_of c.args.growths.now))) in
    bound_of-Prod c.push.new.self ∙ ap ProductOf
    (one_pushed c.in_ok-factors.factors.items c.push.new.self.items c.in_ok-last.last last c.in_ok-push.ensures.items c.in_ok-last.ensures
    ∙ ap (λ (ps : Parts). joined ps (Part last NoParts)) c.in_ok-factors.ensures)
