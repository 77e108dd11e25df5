use Rattle.std.proofs.Common.{◌≡◌, length}
use Rattle.guard_prep.specs.Views.{prepared_of}
use Rattle.time_bounds.specs.Locals.{AreAnswersAt}
use Rattle.time_bounds.proofs.locals.live_locals.Given as goal

abbrev pub invariant-loop-position : goal.invariant-loop-position
invariant-loop-position l = record {
  long : length l.answers.items ≡ l.position;
  each : AreAnswersAt (prepared_of l.prepared_rule) l.rule l.cx.pivots l.empty 1 l.answers.items;
}
