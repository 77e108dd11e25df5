use Rattle.std.proofs.Common.{take}
use Rattle.bound_derivations.specs.Books.{AreDerivedBounds}
use Rattle.time_bounds.specs.Questions.{program_in}
use Rattle.time_bounds.specs.RoundsMade.{AreSizesMade}
use Rattle.time_bounds.proofs.sizing.try_components.Given as goal

abbrev pub invariant-loop-candidate : goal.invariant-loop-candidate
invariant-loop-candidate l = record {
  sizes : AreSizesMade l.cx (take l.candidate-index l.candidates) l.initial.derived.derivations.items l.derived.derivations.items l.attempts.items;
  derived : AreDerivedBounds (program_in l.cx) l.derived.table l.derived.derivations.items;
}
