use Rattle.std.proofs.Common.{◌≡◌, map}
use Rattle.bound_derivations.specs.Views.{derivations_of}
use Rattle.time_bounds.specs.TriedRules.{kept_in, derivations_in}
use Rattle.time_bounds.proofs.new_derivations.part_all.Given as goal

abbrev pub invariant-loop-tried : goal.invariant-loop-tried
invariant-loop-tried l = record {
  kept : l.asked.items ≡ map kept_in l.yielded;
  derivations : derivations_of l.derivations.items ≡ derivations_in 1 l.yielded;
}
