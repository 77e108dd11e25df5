use Rattle.bound_derivations.specs.Books.{AreDerivedBounds}
use Rattle.bound_derivations.specs.Views.{derivations_of}
use Rattle.bound_fixpoint.specs.Derivations.{bounds_of}
use Rattle.bound_fixpoint.specs.Laws.{missing}
use Rattle.time_bounds.specs.Questions.{program_in}
use Rattle.time_bounds.specs.RoundsMade.{AreMade, AreKeptFor}
use Rattle.time_bounds.proofs.rounds.rounds.Given as goal

abbrev pub invariant-loop-kept : goal.invariant-loop-kept
invariant-loop-kept l = record {
  made : AreMade l.cx l.derived.derivations.items;
  kept : AreKeptFor l.cx l.candidates l.derived.derivations.items l.kept;
  derived : AreDerivedBounds (program_in l.cx) l.derived.table l.derived.derivations.items;
}

abbrev pub decreases-loop-kept : goal.decreases-loop-kept
decreases-loop-kept l = missing (program_in l.cx) (bounds_of (program_in l.cx) (derivations_of l.derived.derivations.items))
