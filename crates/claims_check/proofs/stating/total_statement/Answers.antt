use Rattle.std.proofs.Common.{◌∙◌, List, Bor, map, sym, ap}
use Rattle.signed_bounds.specs.Bounds as plain
use Rattle.signed_bounds.specs.Views.{signed_of}
use Rattle.potential_nodes.specs.potentials.Sums as sums
use Rattle.potential_types.specs.declared.facts.Charge.{Charge}
use Rattle.potential_types.specs.declared.facts.SignedFact.{SignedFact}
use Rattle.potential_types.specs.Views.{charge_of, fact_view}
use Rattle.program_claims.specs.Claims.{Total}
use Rattle.program_claims.specs.Verdicts.{Verdict, verdict_map}
use Rattle.program_claims.specs.Sums.{charges_bound}
use Rattle.claim_types.specs.Views.{support_of}
use Rattle.claims_check.specs.Views.{evidence_of}
use Rattle.claims_check.proofs.StatementLaws.{mapped-accepted, mapped-refused}
use Rattle.claims_check.proofs.stating.total_statement.Goals as goal

pub returns-in-Ok : goal.returns-in-Ok
returns-in-Ok c =
    let e = evidence_of c.args.prepared.evidence in
    let support = support_of c.args.support.now in
    mapped-accepted Total
    (charges_bound (map fact_view c.known.result.facts.now) (map charge_of c.deref.result.now) support) _
    (signed_of c.in-Ok.bound)
    (ap (λ (v : Verdict plain.Signed). verdict_map Total v)
    (sym (ap (λ (fs : Bor (List SignedFact)). charges_bound (map fact_view fs.now)
    (map charge_of c.deref.result.now) support) c.known.ensures.facts
    ∙ (ap (λ (cs : List Charge). charges_bound e.facts (map charge_of cs) support) c.deref.ensures.value
    ∙ ap (λ (cs : List sums.Charge). charges_bound e.facts cs support) c.requires.tables.costs))))
    c.in-Ok.ensures

pub returns-in-Err : goal.returns-in-Err
returns-in-Err c =
    let e = evidence_of c.args.prepared.evidence in
    let support = support_of c.args.support.now in
    mapped-refused Total
    (charges_bound (map fact_view c.known.result.facts.now) (map charge_of c.deref.result.now) support) _ c.in-Err.fault
    (ap (λ (v : Verdict plain.Signed). verdict_map Total v)
    (sym (ap (λ (fs : Bor (List SignedFact)). charges_bound (map fact_view fs.now)
    (map charge_of c.deref.result.now) support) c.known.ensures.facts
    ∙ (ap (λ (cs : List Charge). charges_bound e.facts (map charge_of cs) support) c.deref.ensures.value
    ∙ ap (λ (cs : List sums.Charge). charges_bound e.facts cs support) c.requires.tables.costs))))
    c.in-Err.ensures
