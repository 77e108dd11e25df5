use Rattle.std.proofs.Common.{◌∙◌, ap, arith}
use Rattle.std.proofs.lemmas.Result.{IfOk-weaker}
use Rattle.guard_prep.specs.Prepared.{prepared}
use Rattle.cost_nodes.proofs.WrittenCosts.{rule-preparable}
use Rattle.cost_nodes.proofs.WrittenCosts.{first-rule, one-rule}
use Rattle.model.specs.Programs as plain
use Rattle.cost_nodes.proofs.costing.cost_rows.Goals as goal

pub rows-requires : goal.rows-requires
rows-requires c =
    let q = c.in_ok-q.q in
    let rules = ap (λ (x : plain.Program). x.rules) c.in_ok-q.ensures.program.program in
    rule-preparable q 0 c.index.result.now c.in_ok-q.ensures.valid (omega (arith, one-rule q.rules.items _ rules)) c.index.ensures

pub returns : goal.returns
returns c =
    let q = c.in_ok-q.q in
    let k = c.in_ok-q.ensures.program in
    let rules = ap (λ (x : plain.Program). x.rules) k.program in
    IfOk-weaker c.rows.result _ _
    (λ m h. record { costs = k.costs; same = h ∙ ap prepared (first-rule q.rules.items c.index.result.now _ rules c.index.ensures) })
    c.rows.ensures
