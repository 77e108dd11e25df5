use Rattle.std.proofs.Common.{◌∙◌, ℕ, List, Bor, map, ap}
use Rattle.poly_terms.specs.Views.{poly_of}
use Rattle.signed_bounds.specs.Views.{signed_of}
use Rattle.potential_nodes.specs.potentials.Sums as sums
use Rattle.potential_types.specs.declared.facts.Charge.{Charge}
use Rattle.potential_types.specs.declared.facts.SignedFact.{SignedFact}
use Rattle.potential_types.specs.Views.{charge_of, fact_view}
use Rattle.program_claims.specs.Copies.{charge_each}
use Rattle.program_claims.specs.Sums.{charges_bound}
use Rattle.program_claims.specs.Acceptance.{copies_bound}
use Rattle.claim_types.specs.Views.{support_of}
use Rattle.claims_check.specs.Views.{evidence_of}
use Rattle.claims_check.proofs.StatementLaws.{answer-same}
use Rattle.claims_check.proofs.stating.copies_bound.Goals as goal

pub returns : goal.returns
returns c =
    let e = evidence_of c.args.prepared.evidence in
    let support = support_of c.args.support.now in
    let form = poly_of c.args.form.now in
    answer-same c.charges_bound.result signed_of
    (charges_bound (map fact_view c.known.result.facts.now) (map charge_of c.deref.result.now) support)
    (copies_bound e c.args.rule support form)
    (ap (λ (fs : Bor (List SignedFact)). charges_bound (map fact_view fs.now)
    (map charge_of c.deref.result.now) support) c.known.ensures.facts
    ∙ (ap (λ (cs : List Charge). charges_bound e.facts (map charge_of cs) support) c.deref.ensures.value
    ∙ (ap (λ (cs : List sums.Charge). charges_bound e.facts cs support) c.in_ok-charges.ensures
    ∙ ap (λ (ts : List ℕ). charges_bound e.facts (charge_each form ts) support) c.copies.ensures)))
    c.charges_bound.ensures
