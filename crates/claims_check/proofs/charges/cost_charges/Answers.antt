use Rattle.std.proofs.Common.{◌+◌, ap, map, arith}
use Rattle.its_model.specs.Views.{rule_of}
use Rattle.program_claims.specs.Copies.{charge_by, cost_charges}
use Rattle.claims_check.proofs.ExpansionLaws.{cost-expands_at}
use Rattle.claims_check.proofs.PositionLaws.{costs-step, costs-done}
use Rattle.claims_check.proofs.charges.cost_charges.Goals as goal

pub cost_poly-requires : goal.cost_poly-requires
cost_poly-requires c =
    cost-expands_at c.args.program.now c.loop-i.i c.index.result.now c.requires (omega arith) c.index.ensures

pub loop-i-preserved : goal.loop-i-preserved
loop-i-preserved c =
    costs-step c.args.program.now.rules.items c.loop-i.i c.index.result.now c.loop-i.charges.items
    c.push.new.self.items _ (cost_charges 1 (map rule_of c.args.program.now.rules.items)) (omega arith) c.index.ensures
    c.in_ok-push.ensures.items (ap (λ q. charge_by q (c.loop-i.i + 1)) c.in_ok-form.ensures) c.loop-i.invariant

pub returns : goal.returns
returns c =
    costs-done c.args.program.now.rules.items c.loop-i.i c.loop-i.charges.items
    (cost_charges 1 (map rule_of c.args.program.now.rules.items)) (omega arith) c.loop-i.invariant
