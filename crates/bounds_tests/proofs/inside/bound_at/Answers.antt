use Rattle.bound_text.proofs.ReadingLaws.{settled_front}
use Rattle.bounds_tests.proofs.inside.bound_at.Goals as goal

pub loop-piece-preserved : goal.loop-piece-preserved
loop-piece-preserved c =
    settled_front _ c.take.new.self c.take.result c.in_default.field-0 c.in_default.is c.take.ensures
