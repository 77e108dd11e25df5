use Rattle.std.proofs.Common.{List, length}
use Rattle.its_model.specs.Views.{program_of}
use Rattle.location_facts.specs.declared.fact.LocFact.{LocFact}
use Rattle.location_facts.specs.Faults.{proofs_of}
use Rattle.location_facts.specs.Implied.{AreInOrder, AreProofsUnder}
use Rattle.location_facts.specs.Kept.{IsNext, EndsWith, AreKept}
use Rattle.location_facts.specs.Pointed.{ArePointed}
use Rattle.location_facts.proofs.rounds.facts.Given as goal

-- the list is in order, and the sequence from it ends with the facts that are kept; its next list has been found, and
-- marked rules have a point
abbrev pub invariant-loop-search : goal.invariant-loop-search
invariant-loop-search l = record {
  ordered : AreInOrder (program_of l.p) l.kept.items;
  ends : (end : List LocFact) → EndsWith (program_of l.p) l.pivots end l.kept.items
      → AreKept (program_of l.p) l.pivots end;
  next : IsNext (program_of l.p) l.pivots l.kept.items l.found.kept.items;
  proofs : AreProofsUnder (program_of l.p) l.kept.items l.found.kept.items (proofs_of l.found);
  points : ArePointed (program_of l.p) l.kept.items l.points.items;
}

abbrev pub decreases-loop-search : goal.decreases-loop-search
decreases-loop-search l = length l.kept.items
