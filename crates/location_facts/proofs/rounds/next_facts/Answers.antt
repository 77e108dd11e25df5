use Rattle.std.proofs.Common.{arith, ◌∙◌, List, get_or, subst, sym}
use Rattle.std.specs.Prelude.{pos}
use Rattle.std.specs.List.{All}
use Rattle.std.proofs.lemmas.List.Elements.{All-append}
use Rattle.std.proofs.lemmas.Option.{slice_get-get_or}
use Rattle.its_model.specs.Views.{program_of}
use Rattle.location_facts.specs.declared.fact.FactProof.{FactProof}
use Rattle.location_facts.specs.declared.fact.LocFact.{LocFact}
use Rattle.location_facts.specs.Due.{AreUnder, IsShownEarlier, proofs_in, elements_in}
use Rattle.location_facts.specs.Elements.{IsMeasured, IsElement, AreElements}
use Rattle.location_facts.proofs.DueRules.{listed-same, rest-same}
use Rattle.location_facts.proofs.ElementRules.{begun-all}
use Rattle.location_facts.proofs.NextFacts.{next-pushed, shown-pushed}
use Rattle.location_facts.proofs.rounds.next_facts.Goals as goal

pub proofs_under-requires-clause-measured : goal.proofs_under-requires-clause-measured
proofs_under-requires-clause-measured c =
    subst (All (IsMeasured (program_of c.args.search.program.now)))
    (sym c.begin_symbol.ensures ∙ sym c.deref-in-loop-i.ensures.value)
    (begun-all (IsMeasured (program_of c.args.search.program.now)) _ c.loop-i.elements.items
    c.loop-i.invariant.measured)

pub loop-i-preserved : goal.loop-i-preserved
loop-i-preserved c =
    let p = program_of c.args.search.program.now in
    let pivots = c.args.search.pivots in
    let kept = c.args.listed.facts.now in
    let d : LocFact = record { symbol = 0; plus = 0; minus = 0; least = pos 0 } in
    let f : LocFact = get_or kept c.loop-i.i d in
    let there = slice_get-get_or kept c.loop-i.i d (omega arith) in
    let are = subst (AreUnder p pivots c.args.due.now kept) (sym c.deref.ensures.value)
    c.in_ok-rules_under_facts.ensures.rules in
    let measured = subst (All (IsMeasured p)) (sym c.begin_symbol.ensures)
    (begun-all (IsMeasured p) _ c.loop-i.elements.items c.loop-i.invariant.measured) in
    let elements = subst (AreElements p pivots kept) (sym c.begin_symbol.ensures)
    (begun-all (IsElement p pivots kept) _ c.loop-i.elements.items c.loop-i.invariant.elements) in
    let on = subst (AreElements p pivots kept) (sym c.deref-in-loop-i.ensures.value) elements in
    let stand = subst (λ (ps : List FactProof). IsShownEarlier p pivots c.args.due.now kept f ps)
    (sym (c.taken_proofs-before.ensures.taken ∙ listed-same c.loop-i.earlier_proofs.items c.args.listed.proofs.items
    c.loop-i.i
    (c.loop-i.invariant.earlier_proofs c.loop-i.i (omega arith)))) (c.requires.shown.each c.loop-i.i f there) in
    let verdict = c.in_ok-verdict.ensures.verdict c.args.due.now kept are on stand in
    let pushed = c.in_ok-push_verdict.ensures.facts in
    record {
      next = next-pushed p pivots kept c.loop-i.i d (omega arith) (proofs_in c.in_ok-verdict.verdict)
          c.loop-i.kept.items c.push_verdict.new.kept.items c.loop-i.proofs.items c.push_verdict.new.proofs.items
          c.loop-i.invariant.next verdict pushed;
      shown = shown-pushed p pivots kept c.loop-i.i d (omega arith) (proofs_in c.in_ok-verdict.verdict)
          c.loop-i.kept.items c.push_verdict.new.kept.items c.loop-i.proofs.items c.push_verdict.new.proofs.items
          c.loop-i.invariant.shown verdict pushed;
      earlier_proofs = rest-same c.loop-i.earlier_proofs.items c.taken_proofs-before.new.proofs.items
          c.args.listed.proofs.items
          c.loop-i.i
          c.loop-i.invariant.earlier_proofs c.taken_proofs-before.ensures.others;
      measured = subst (All (IsMeasured p)) (sym c.in_ok-push_verdict.ensures.elements)
          (All-append (IsMeasured p) c.begin_symbol.new.elements.items (elements_in c.in_ok-verdict.verdict) measured
          c.in_ok-verdict.ensures.measured);
      elements = subst (AreElements p pivots kept) (sym c.in_ok-push_verdict.ensures.elements)
          (All-append (IsElement p pivots kept) c.begin_symbol.new.elements.items (elements_in c.in_ok-verdict.verdict)
          elements (c.in_ok-verdict.ensures.elements c.args.due.now kept are stand));
    }
