use Rattle.std.proofs.Common.{◌∙◌, sym, ap}
use Rattle.std.specs.Prelude.{option_map}
use Rattle.model.specs.Terms.{Negation}
use Rattle.poly_terms.specs.Views.{term_of}
use Rattle.poly_terms.specs.Expanding.{expanded}
use Rattle.its_model.specs.Views.{program_of}
use Rattle.signed_bounds.specs.Bounds as plain
use Rattle.program_claims.specs.Claims.{Below}
use Rattle.program_claims.specs.Verdicts.{Accepted, Refused, ClaimReason}
use Rattle.program_claims.specs.Acceptance.{below_stated}
use Rattle.claims_check.specs.Views.{evidence_of, reason_of}
use Rattle.claims_check.specs.Places.{plain_place_claim, place_reason}
use Rattle.claims_check.proofs.VerdictLaws.{place-accepted, place-refused}
use Rattle.claims_check.proofs.ExpansionLaws.{update-expands}
use Rattle.claims_check.proofs.StatementLaws.{update-there}
use Rattle.claims_check.proofs.stating.below_statement.Goals as goal

pub returns-in-None : goal.returns-in-None
returns-in-None c =
    let e = evidence_of c.args.prepared.evidence in
    let claim = plain_place_claim c.args.claim in
    ap (below_stated e claim.rule claim.place claim.numbers claim.bound) (sym c.in-None.ensures)
    ∙ ap (λ (r : ClaimReason). Refused r) (sym c.missing_update.ensures)

pub opposite_expansion-requires : goal.opposite_expansion-requires
opposite_expansion-requires c =
    update-expands (program_of c.args.prepared.evidence.program.now) c.args.claim.rule c.args.claim.place
    (term_of c.in-Some.update.now)
    c.requires.whole.program c.in-Some.ensures

pub place_refusal-requires-clause-there : goal.place_refusal-requires-clause-there
place_refusal-requires-clause-there c =
    update-there c.args.prepared.evidence.program.now c.args.claim.rule c.args.claim.place
    (term_of c.in-Some.update.now)
    c.in-Some.ensures

pub returns-in-None-refusal : goal.returns-in-None-refusal
returns-in-None-refusal c =
    let e = evidence_of c.args.prepared.evidence in
    let claim = plain_place_claim c.args.claim in
    let form = expanded (Negation (term_of c.in-Some.update.now)) in
    ap (below_stated e claim.rule claim.place claim.numbers claim.bound) (sym c.in-Some.ensures)
    ∙ (place-accepted e claim form (Below claim.rule claim.place claim.bound)
    (ap (place_reason e claim) (sym c.in_ok-form-in-Some.ensures)
    ∙ (sym c.in_ok-refusal-in-Some.ensures ∙ ap (option_map reason_of) c.in-None-refusal.is))
    ∙ ap (λ (b : plain.Signed). Accepted (Below claim.rule claim.place b))
    (sym c.in_ok-copied_bound-in-None-refusal.ensures))

pub returns : goal.returns
returns c =
    let e = evidence_of c.args.prepared.evidence in
    let claim = plain_place_claim c.args.claim in
    let form = expanded (Negation (term_of c.in-Some.update.now)) in
    ap (below_stated e claim.rule claim.place claim.numbers claim.bound) (sym c.in-Some.ensures)
    ∙ place-refused e claim form (Below claim.rule claim.place claim.bound) (reason_of c.in-Some-refusal.reason)
    (ap (place_reason e claim) (sym c.in_ok-form-in-Some.ensures)
    ∙ (sym c.in_ok-refusal-in-Some.ensures ∙ ap (option_map reason_of) c.in-Some-refusal.is))
