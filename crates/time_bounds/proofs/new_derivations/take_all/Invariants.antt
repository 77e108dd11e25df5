use Rattle.std.proofs.Common.{◌≡◌, ◌++◌}
use Rattle.its_model.specs.Views.{program_of}
use Rattle.bound_derivations.specs.Books.{AreDerivedBounds}
use Rattle.bound_derivations.specs.Views.{derivations_of}
use Rattle.time_bounds.proofs.new_derivations.take_all.Given as goal

abbrev pub invariant-loop-derivation : goal.invariant-loop-derivation
invariant-loop-derivation l = record {
  derivations : derivations_of l.derived.derivations.items ≡ derivations_of l.initial.derived.derivations.items ++ derivations_of l.yielded;
  derived : AreDerivedBounds (program_of l.cx.program.now) l.derived.table l.derived.derivations.items;
}
