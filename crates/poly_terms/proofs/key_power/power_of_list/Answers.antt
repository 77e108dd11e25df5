use Rattle.poly_terms.proofs.UnpackingLaws.{next-power}
use Rattle.poly_terms.proofs.key_power.power_of_list.Goals as goal

pub loop-k-preserved : goal.loop-k-preserved
loop-k-preserved c =
    next-power c.args.table.now c.args.factor.now c.loop-k.so_far.items c.deref.result.now c.deref-in-loop-k.result.now c.in_ok-so_far-2.so_far.items c.loop-k.k
    c.loop-k.invariant c.deref.ensures.value c.deref-in-loop-k.ensures.value (c.is_modest.ensures c.if-not-is_modest.false) c.in_ok-so_far-2.ensures
