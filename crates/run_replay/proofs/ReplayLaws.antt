-- The laws of replays.
use Rattle.run_replay.specs.ReplayLaws.{ReplaysAreDecided}
use Rattle.run_replay.proofs.ReplayFaults.{ReplayStepsHaveNoFault}
use Rattle.run_replay.proofs.ReplayRuns.{none_bad, one_bad, some_comes}
use Rattle.run_replay.proofs.ReplayTallies.{greatest_is_most, greatest_is_reached}

-- all laws of replays, from the laws of single steps and of their costs
pub replays_decided : ReplayStepsHaveNoFault → ReplaysAreDecided
replays_decided law = record {
  none_bad = λ p start steps bad h k. none_bad law p start steps bad h k;
  one_bad = λ p start steps a b h k. one_bad law p start steps a b h k;
  some = λ p start steps valid places. some_comes law p start steps valid places;
  greatest = λ p start steps t i over h. record {
    most = greatest_is_most p start steps t i over;
    reached = greatest_is_reached p start steps t i over h.0 h.1.run;
  };
}
