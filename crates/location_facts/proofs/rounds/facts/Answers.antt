use Rattle.std.proofs.Common.{arith, ◌∙◌, subst, sym, List, Bool}
use Rattle.its_model.specs.Views.{program_of}
use Rattle.location_facts.specs.declared.fact.LocFact.{LocFact}
use Rattle.location_facts.specs.Due.{AreDue, AreShownEarlier}
use Rattle.location_facts.specs.Faults.{proofs_of}
use Rattle.location_facts.specs.Implied.{AreInOrder, AreProofsUnder}
use Rattle.location_facts.specs.Kept.{IsImpliedByAll, IsNext, EndsWith, GoesOn}
use Rattle.location_facts.specs.Pointed.{ArePointed}
use Rattle.location_facts.proofs.DueRules.{all-due, shown-next}
use Rattle.location_facts.proofs.KeptLists.{those-most}
use Rattle.location_facts.proofs.NextFacts.{first-ordered, ends-here, proved-here}
use Rattle.location_facts.proofs.PointRules.{pointed-none, pointed-next}
use Rattle.location_facts.proofs.RoundSteps.{those-ascend}
use Rattle.location_facts.proofs.rounds.facts.Goals as goal

pub next_facts-requires-clause-ordered : goal.next_facts-requires-clause-ordered
next_facts-requires-clause-ordered c =
    first-ordered (program_of c.args.p.now) c.deref-2.result.now
    (c.deref-2.ensures.value ∙ c.in_ok-candidates.ensures {u = tt})

pub next_facts-requires-clause-shown : goal.next_facts-requires-clause-shown
next_facts-requires-clause-shown c =
    all-due (program_of c.args.p.now) c.args.pivots _ _ _ _
    (c.deref-3.ensures.value ∙ c.in_ok-all.ensures.items_if_clones_equal (λ y h. h))

pub next_facts-requires-clause-points : goal.next_facts-requires-clause-points
next_facts-requires-clause-points c =
    pointed-none (program_of c.args.p.now) c.deref-2.result.now _ c.in_ok-points.points.items
    (c.in_ok-points.ensures.items_if_clones_equal (λ y h. h))

pub loop-search-init : goal.loop-search-init
loop-search-init c =
    let p = program_of c.args.p.now in
    let same = c.deref-2.ensures.value in
    record {
      ordered = first-ordered p c.in_ok-candidates.candidates.items (c.in_ok-candidates.ensures {u = tt});
      ends = λ end h. subst (EndsWith p c.args.pivots end) (c.in_ok-candidates.ensures {u = tt}) h;
      next = subst (λ (fs : List LocFact). IsNext p c.args.pivots fs c.in_ok-found.found.kept.items) same
          c.in_ok-found.ensures.next;
      proofs = subst (λ (fs : List LocFact). AreProofsUnder p fs c.in_ok-found.found.kept.items
          (proofs_of c.in_ok-found.found)) same c.in_ok-found.ensures.proofs;
      points = subst (λ (fs : List LocFact). ArePointed p fs c.next_facts.new.points.items) same
          c.in_ok-found.ensures.points;
    }

pub next_facts-requires-in-loop-search-clause-ordered : goal.next_facts-requires-in-loop-search-clause-ordered
next_facts-requires-in-loop-search-clause-ordered c =
    subst (AreInOrder (program_of c.args.p.now)) (sym c.deref-in-loop-search-3.ensures.value)
    (those-ascend (IsImpliedByAll (program_of c.args.p.now) c.args.pivots c.loop-search.kept.items)
    (program_of c.args.p.now) 0 c.loop-search.kept.items c.loop-search.found.kept.items c.loop-search.invariant.next
    c.loop-search.invariant.ordered)

pub next_facts-requires-in-loop-search-clause-shown : goal.next_facts-requires-in-loop-search-clause-shown
next_facts-requires-in-loop-search-clause-shown c =
    let p = program_of c.args.p.now in
    let from-old = subst (λ (fs : List LocFact). AreDue p fs c.deref-in-loop-search-2.result.now c.in_ok-due.due.items)
    c.deref-in-loop-search.ensures.value (c.in_ok-due.ensures {u = tt}) in
    let is = subst (λ (fs : List LocFact). AreDue p c.loop-search.kept.items fs c.in_ok-due.due.items)
    c.deref-in-loop-search-2.ensures.value from-old in
    subst (λ (ds : List Bool). AreShownEarlier p c.args.pivots ds c.deref-in-loop-search-3.result.now
    (proofs_of c.loop-search.found)) (sym c.deref-in-loop-search-4.ensures.value)
    (subst (λ (fs : List LocFact). AreShownEarlier p c.args.pivots c.in_ok-due.due.items fs
    (proofs_of c.loop-search.found))
    (sym c.deref-in-loop-search-3.ensures.value)
    (shown-next p c.args.pivots c.loop-search.kept.items c.loop-search.found.kept.items (proofs_of c.loop-search.found)
    c.in_ok-due.due.items c.loop-search.invariant.next c.loop-search.invariant.proofs is))

pub next_facts-requires-in-loop-search-clause-points : goal.next_facts-requires-in-loop-search-clause-points
next_facts-requires-in-loop-search-clause-points c =
    subst (λ (fs : List LocFact). ArePointed (program_of c.args.p.now) fs c.loop-search.points.items)
    (sym c.deref-in-loop-search-3.ensures.value)
    (pointed-next (program_of c.args.p.now) c.args.pivots c.loop-search.kept.items c.loop-search.found.kept.items
    c.loop-search.points.items c.loop-search.invariant.next c.loop-search.invariant.points)

pub loop-search-preserved : goal.loop-search-preserved
loop-search-preserved c =
    let p = program_of c.args.p.now in
    let same = c.deref-in-loop-search-3.ensures.value in
    record {
      ordered = those-ascend (IsImpliedByAll p c.args.pivots c.loop-search.kept.items) p 0 c.loop-search.kept.items
          c.loop-search.found.kept.items c.loop-search.invariant.next c.loop-search.invariant.ordered;
      ends = λ end h. c.loop-search.invariant.ends end (GoesOn c.loop-search.invariant.next h);
      next = subst (λ (fs : List LocFact). IsNext p c.args.pivots fs c.in_ok-found-2.found.kept.items) same
          c.in_ok-found-2.ensures.next;
      proofs = subst (λ (fs : List LocFact). AreProofsUnder p fs c.in_ok-found-2.found.kept.items
          (proofs_of c.in_ok-found-2.found)) same c.in_ok-found-2.ensures.proofs;
      points = subst (λ (fs : List LocFact). ArePointed p fs c.next_facts-in-loop-search.new.points.items) same
          c.in_ok-found-2.ensures.points;
    }

pub returns-clause-kept : goal.returns-clause-kept
returns-clause-kept c =
    let most = those-most (IsImpliedByAll (program_of c.args.p.now) c.args.pivots c.loop-search.kept.items)
    c.loop-search.kept.items c.loop-search.found.kept.items c.loop-search.invariant.next in
    ends-here (program_of c.args.p.now) c.args.pivots c.loop-search.kept.items c.loop-search.found.kept.items
    c.loop-search.invariant.next (omega (arith, most)) c.loop-search.invariant.ends

pub returns-clause-proved : goal.returns-clause-proved
returns-clause-proved c =
    let most = those-most (IsImpliedByAll (program_of c.args.p.now) c.args.pivots c.loop-search.kept.items)
    c.loop-search.kept.items c.loop-search.found.kept.items c.loop-search.invariant.next in
    proved-here (program_of c.args.p.now) c.args.pivots c.loop-search.kept.items c.loop-search.found.kept.items
    (proofs_of c.loop-search.found) c.loop-search.invariant.next (omega (arith, most)) c.loop-search.invariant.ordered
    c.loop-search.invariant.proofs
