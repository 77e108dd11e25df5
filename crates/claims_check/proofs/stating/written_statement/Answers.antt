use Rattle.std.proofs.Common.{◌∙◌, Option, sym, ap}
use Rattle.std.specs.Prelude.{option_map}
use Rattle.model.specs.Polynomials.{Polynomial}
use Rattle.poly_terms.specs.declared.expr.Expr.{Expr}
use Rattle.poly_terms.specs.Views.{poly_of, term_of}
use Rattle.signed_bounds.specs.Views.{signed_of}
use Rattle.program_claims.specs.Claims.{Cost}
use Rattle.program_claims.specs.Verdicts.{verdict_map}
use Rattle.program_claims.specs.Acceptance.{written_stated, copies_bound}
use Rattle.claim_types.specs.Views.{support_of}
use Rattle.claims_check.specs.Views.{evidence_of}
use Rattle.claims_check.proofs.StatementLaws.{mapped-accepted, mapped-refused}
use Rattle.claims_check.proofs.stating.written_statement.Goals as goal

pub returns-in-Ok : goal.returns-in-Ok
returns-in-Ok c =
    let e = evidence_of c.args.prepared.evidence in
    let support = support_of c.args.support.now in
    let t = c.args.rule in
    mapped-accepted (Cost t) (copies_bound e t support (poly_of c.in_ok-form-in-Some.form))
    (written_stated e t support (option_map term_of c.args.cost.now)) (signed_of c.in-Ok.bound)
    (ap (λ (o : Option Expr). written_stated e t support (option_map term_of o)) c.in-Some.is
    ∙ ap (λ (q : Polynomial). verdict_map (Cost t) (copies_bound e t support q)) (sym c.in_ok-form-in-Some.ensures))
    c.in-Ok.ensures

pub returns : goal.returns
returns c =
    let e = evidence_of c.args.prepared.evidence in
    let support = support_of c.args.support.now in
    let t = c.args.rule in
    mapped-refused (Cost t) (copies_bound e t support (poly_of c.in_ok-form-in-Some.form))
    (written_stated e t support (option_map term_of c.args.cost.now)) c.in-Err.fault
    (ap (λ (o : Option Expr). written_stated e t support (option_map term_of o)) c.in-Some.is
    ∙ ap (λ (q : Polynomial). verdict_map (Cost t) (copies_bound e t support q)) (sym c.in_ok-form-in-Some.ensures))
    c.in-Err.ensures
