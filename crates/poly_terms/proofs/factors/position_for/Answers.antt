use Rattle.std.proofs.Common.{arith}
use Rattle.poly_terms.proofs.PositionLaws.{inserted-at}
use Rattle.poly_terms.proofs.factors.position_for.Goals as goal

pub returns-then-w-v-clause-position : goal.returns-then-w-v-clause-position
returns-then-w-v-clause-position c =
    inserted-at c.args.vars.now c.loop-i.i c.args.v (omega arith) c.loop-i.invariant (λ l. omega arith)

pub returns-clause-position : goal.returns-clause-position
returns-clause-position c =
    inserted-at c.args.vars.now _ c.args.v (omega arith) (λ k l. c.loop-i.invariant k (omega arith)) (λ l. absurd (omega arith))
