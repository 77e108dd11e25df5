use Rattle.std.proofs.Common.{◌∙◌, ℕ, List, Bor, Some, map, ap}
use Rattle.poly_terms.specs.Views.{poly_of}
use Rattle.potential_types.specs.declared.facts.SignedFact.{SignedFact}
use Rattle.potential_types.specs.Views.{fact_view}
use Rattle.program_claims.specs.Heads.{are_heads_within, are_heads_there}
use Rattle.program_claims.specs.Verdicts.{ClaimReason}
use Rattle.claims_check.specs.Views.{evidence_of}
use Rattle.claims_check.specs.Places.{plain_place_claim}
use Rattle.claims_check.proofs.StatementLaws.{place-high, place-low}
use Rattle.claims_check.proofs.stating.place_refusal.Goals as goal

pub returns-then-is_high : goal.returns-then-is_high
returns-then-is_high c =
    let e = evidence_of c.args.prepared.evidence in
    let claim = plain_place_claim c.args.claim in
    let form = poly_of c.args.form.now in
    place-high e claim form c.in_ok-is_high.is_high
    (c.in_ok-is_high.ensures
    ∙ (ap (λ (fs : Bor (List SignedFact)). are_heads_within (map fact_view fs.now) form claim.place claim.bound
    c.copies-copies.result.now claim.numbers) c.known-facts.ensures.facts
    ∙ ap (λ (ts : List ℕ). are_heads_within e.facts form claim.place claim.bound ts claim.numbers)
    c.copies-copies.ensures))
    c.if-is_high.true

pub returns : goal.returns
returns c =
    let e = evidence_of c.args.prepared.evidence in
    let claim = plain_place_claim c.args.claim in
    let form = poly_of c.args.form.now in
    ap (λ (r : ClaimReason). Some r) c.reason_of_heads.ensures
    ∙ place-low e claim form c.in_ok-is_high.is_high c.are_heads_there.result
    (c.in_ok-is_high.ensures
    ∙ (ap (λ (fs : Bor (List SignedFact)). are_heads_within (map fact_view fs.now) form claim.place claim.bound
    c.copies-copies.result.now claim.numbers) c.known-facts.ensures.facts
    ∙ ap (λ (ts : List ℕ). are_heads_within e.facts form claim.place claim.bound ts claim.numbers)
    c.copies-copies.ensures))
    c.if-is_high.false
    (c.are_heads_there.ensures
    ∙ (ap (λ (fs : Bor (List SignedFact)). are_heads_there (map fact_view fs.now) form claim.place
    c.copies-copies.result.now claim.numbers) c.known-facts.ensures.facts
    ∙ ap (λ (ts : List ℕ). are_heads_there e.facts form claim.place ts claim.numbers) c.copies-copies.ensures))
