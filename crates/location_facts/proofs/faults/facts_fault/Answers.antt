use Rattle.std.proofs.Common.{◌≡◌, arith, ◌∙◌, List, length, map, subst, sym}
use Rattle.std.specs.Prelude.{Vec}
use Rattle.std.specs.declared.alloc.Global.{Global}
use Rattle.std.specs.List.{All}
use Rattle.poly_terms.specs.declared.poly.Row.{Row}
use Rattle.poly_terms.specs.Views.{form_of}
use Rattle.its_model.specs.Views.{program_of}
use Rattle.farkas_cert.specs.Sizes.{AreSmall}
use Rattle.location_facts.specs.CombinedRows.{AreCombined, FindsWrong}
use Rattle.location_facts.specs.declared.fact.LocFact.{LocFact}
use Rattle.location_facts.specs.Faults.{proofs_of}
use Rattle.location_facts.proofs.CombinedLists.{rows-small}
use Rattle.location_facts.proofs.FaultSteps.{proofs-many}
use Rattle.location_facts.proofs.faults.facts_fault.Goals as goal

pub first_unshown-requires-clause-small : goal.first_unshown-requires-clause-small
first_unshown-requires-clause-small c =
    let one_each : length c.args.f.now.proofs.items ≡ length c.args.f.now.kept.items = omega arith in
    subst (All (λ (v : Vec Row Global). AreSmall (map form_of v.items))) (sym c.deref-in-None.ensures.value)
    (rows-small (program_of c.args.p.now) c.requires.valid c.args.f.now.kept.items (proofs_of c.args.f.now)
    (proofs-many c.args.f.now ∙ one_each)
    (subst (FindsWrong (program_of c.args.p.now) c.args.f.now.kept.items (proofs_of c.args.f.now)) c.in-None.is
    (c.in_ok-fact.ensures {u = tt})) c.in_ok-rows-in-None.rows.items
    (subst (λ (kept : List LocFact). AreCombined (program_of c.args.p.now) kept c.in_ok-rows-in-None.rows.items)
    c.deref.ensures.value (c.in_ok-rows-in-None.ensures {u = tt})))
