use Rattle.std.proofs.Common.{◌≤◌, List, length, map, sym, ap, ◌∙◌, ◌++◌, arith}
use Rattle.std.proofs.lemmas.List.{drop_all, append-nil}
use Rattle.size_nodes.specs.declared.growth.Growth.{Growth}
use Rattle.size_nodes.specs.Growths.{growth_of, growing_rule_numbers}
use Rattle.size_nodes.proofs.growth.growing_rules.Goals as goal

pub returns : goal.returns
returns c =
    let end : length c.args.growths.now ≤ c.loop-growth.growth-index = omega (arith, c.loop-growth-test.false) in
    sym (append-nil c.loop-growth.rules.items)
    ∙ (ap (λ (gs : List Growth). c.loop-growth.rules.items ++ growing_rule_numbers (map growth_of gs))
    (sym (drop_all c.loop-growth.growth-index c.args.growths.now end)) ∙ c.loop-growth.invariant)
