use Rattle.bound_text.proofs.PrintingLaws.{factors_ended}
use Rattle.bound_text.proofs.printing.+write.Goals as goal

pub write_factors-returns : goal.write_factors-returns
write_factors-returns t c =
    factors_ended _ c.args.text.now.items c.loop-factor.text.items c.write_run.new.text.items _ _ c.args.factors.now c.loop-factor.factor-index c.write_run.result
    c.loop-factor-test.false c.loop-factor.invariant.0 c.write_run.ensures
