use Rattle.std.proofs.Common.{arith}
use Rattle.std.proofs.lemmas.Grind.{common_steps}
use Rattle.outside_io.proofs.KnownBytesLemmas.{Appends-more}
use Rattle.outside_io.proofs.out_sink.write_whole.Goals as goal

pub loop-written-preserved : goal.loop-written-preserved
loop-written-preserved g c = record {
  within = grind (arith, common_steps, c.in-Ok.ensures.bound);
  appends = Appends-more _ _ _ _ _ _ c.loop-written.invariant.appends c.in-Ok.ensures.bytes;
}
