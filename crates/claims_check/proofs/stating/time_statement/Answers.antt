use Rattle.std.proofs.Common.{◌∙◌, sym, ap}
use Rattle.model.specs.Polynomials.{Polynomial}
use Rattle.poly_terms.specs.Views.{poly_of}
use Rattle.signed_bounds.specs.Views.{signed_of}
use Rattle.its_model.specs.Views.{rule_of}
use Rattle.program_claims.specs.Claims.{Time}
use Rattle.program_claims.specs.Verdicts.{verdict_map}
use Rattle.program_claims.specs.Acceptance.{time_stated, copies_bound}
use Rattle.claim_types.specs.Views.{support_of}
use Rattle.claims_check.specs.Views.{evidence_of}
use Rattle.claims_check.proofs.StatementLaws.{mapped-accepted, mapped-refused, rule-there}
use Rattle.claims_check.proofs.stating.time_statement.Goals as goal

pub returns-in-None : goal.returns-in-None
returns-in-None c =
    ap (time_stated (evidence_of c.args.prepared.evidence) c.args.rule (support_of c.args.support.now))
    (sym c.in-None.ensures)

pub copies_bound-requires-clause-there : goal.copies_bound-requires-clause-there
copies_bound-requires-clause-there c =
    rule-there c.args.prepared.evidence.program.now c.args.rule (rule_of c.in-Some.field-0.now) c.in-Some.ensures

pub returns-in-Ok : goal.returns-in-Ok
returns-in-Ok c =
    let e = evidence_of c.args.prepared.evidence in
    let support = support_of c.args.support.now in
    let t = c.args.rule in
    mapped-accepted (Time t) (copies_bound e t support (poly_of c.in_ok-form-in-Some.form)) _ (signed_of c.in-Ok.bound)
    (ap (time_stated e t support) (sym c.in-Some.ensures)
    ∙ ap (λ (q : Polynomial). verdict_map (Time t) (copies_bound e t support q)) (sym c.in_ok-form-in-Some.ensures))
    c.in-Ok.ensures

pub returns : goal.returns
returns c =
    let e = evidence_of c.args.prepared.evidence in
    let support = support_of c.args.support.now in
    let t = c.args.rule in
    mapped-refused (Time t) (copies_bound e t support (poly_of c.in_ok-form-in-Some.form)) _ c.in-Err.fault
    (ap (time_stated e t support) (sym c.in-Some.ensures)
    ∙ ap (λ (q : Polynomial). verdict_map (Time t) (copies_bound e t support q)) (sym c.in_ok-form-in-Some.ensures))
    c.in-Err.ensures
