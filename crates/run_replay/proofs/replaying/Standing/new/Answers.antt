use Rattle.std.proofs.Common.{List, ℤ, subst}
use Rattle.its_model.specs.model.Runs.{Begins}
use Rattle.its_model.specs.Views.{program_of, config_of}
use Rattle.run_replay.proofs.replaying.Standing.new.Goals as goal

pub returns : goal.returns
returns c = record {
  runs = record {
    run = subst (λ (start : List ℤ). Begins (program_of c.args.p.now) start (config_of c.in_ok-new.field-0.here)) c.deref.ensures.value
        c.in_ok-new.ensures.begins;
    fit = tt;
  };
  walks = c.in_ok-new.ensures.walks;
  tally = c.in_ok-new-2.ensures c.args.run.now.start.items;
}
