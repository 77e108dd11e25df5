use Rattle.std.proofs.Common.{◌≡◌, ◌≤◌, ℕ, map, take}
use Rattle.std.specs.List.{All}
use Rattle.std.specs.Prelude.{Vec, slice_get}
use Rattle.std.specs.declared.alloc.Global.{Global}
use Rattle.its_model.specs.Views.{program_of}
use Rattle.location_facts.specs.declared.fact.FactProof.{FactProof}
use Rattle.location_facts.specs.Elements.{IsMeasured, AreElements}
use Rattle.location_facts.specs.Implied.{AreProofsUnder}
use Rattle.location_facts.specs.Kept.{IsImpliedByAll, HasThose}
use Rattle.location_facts.proofs.rounds.next_facts.Given as goal

-- the implied ones of the facts so far, with their proofs, and the points and rays that refute others
abbrev pub invariant-loop-i : goal.invariant-loop-i
invariant-loop-i l = record {
  next : HasThose (IsImpliedByAll (program_of l.search.program.now) l.search.pivots l.facts) (take l.i l.facts)
      l.kept.items;
  shown : AreProofsUnder (program_of l.search.program.now) l.facts l.kept.items
      (map (λ (v : Vec FactProof Global). v.items) l.proofs.items);
  earlier_proofs : (j : ℕ) → l.i ≤ j → slice_get l.earlier_proofs.items j ≡ slice_get l.fn.listed.proofs.items j;
  measured : All (IsMeasured (program_of l.search.program.now)) l.elements.items;
  elements : AreElements (program_of l.search.program.now) l.search.pivots l.facts l.elements.items;
}
