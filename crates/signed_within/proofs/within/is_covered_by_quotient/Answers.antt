use Rattle.std.proofs.Common.{◌∙◌, sym, arith}
use Rattle.signed_within.specs.Views.{products_at}
use Rattle.signed_within.proofs.QuotientLoops.{quotient-step}
use Rattle.signed_within.proofs.within.is_covered_by_quotient.Goals as goal

pub loop-i-preserved : goal.loop-i-preserved
loop-i-preserved c =
    sym (quotient-step c.args.den (products_at c.args.ps.now) c.args.qs.now c.loop-i.i _ (omega arith)
    (sym c.if-is_covered.false ∙ c.in_ok-is_covered.ensures))
    ∙ c.loop-i.invariant

pub returns-then-is_covered : goal.returns-then-is_covered
returns-then-is_covered c =
    sym (quotient-step c.args.den (products_at c.args.ps.now) c.args.qs.now c.loop-i.i _ (omega arith)
    (sym c.if-is_covered.true ∙ c.in_ok-is_covered.ensures))
    ∙ c.loop-i.invariant
