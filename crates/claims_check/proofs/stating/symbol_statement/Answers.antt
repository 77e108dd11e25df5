use Rattle.std.proofs.Common.{◌∙◌, ap, sym}
use Rattle.model.specs.Terms.{Term}
use Rattle.poly_terms.specs.Views.{term_of}
use Rattle.program_claims.specs.Claims.{AtSymbol}
use Rattle.program_claims.specs.Verdicts.{Accepted}
use Rattle.program_claims.specs.SymbolFacts.{has_copy, have_facts_below}
use Rattle.claims_check.specs.Views.{evidence_of}
use Rattle.claims_check.proofs.StatementLaws.{symbol-absent, symbol-unmet, symbol-met}
use Rattle.claims_check.proofs.stating.symbol_statement.Goals as goal

pub returns-then-not-has_copy : goal.returns-then-not-has_copy
returns-then-not-has_copy c =
    let copies = (evidence_of c.args.prepared.evidence).copies in
    symbol-absent c.args.symbol (term_of c.args.f.now) copies c.has_copy.result
    (c.has_copy.ensures ∙ ap (has_copy c.args.symbol) c.symbol_copies-copies.ensures) c.if-not-has_copy.true

pub returns-in_ok-copied_expr : goal.returns-in_ok-copied_expr
returns-in_ok-copied_expr c =
    let copies = (evidence_of c.args.prepared.evidence).copies in
    let f = term_of c.args.f.now in
    symbol-met c.args.symbol f copies c.has_copy.result c.in_ok-is_met.is_met
    (c.has_copy.ensures ∙ ap (has_copy c.args.symbol) c.symbol_copies-copies.ensures) c.if-not-has_copy.false
    (c.in_ok-is_met.ensures ∙ ap (have_facts_below c.args.symbol f) c.symbol_copies-copies.ensures) c.if-is_met.true
    ∙ ap (λ (t : Term). Accepted (AtSymbol c.args.symbol t)) (sym c.in_ok-copied_expr.ensures)

pub returns-else-is_met : goal.returns-else-is_met
returns-else-is_met c =
    let copies = (evidence_of c.args.prepared.evidence).copies in
    let f = term_of c.args.f.now in
    symbol-unmet c.args.symbol f copies c.has_copy.result c.in_ok-is_met.is_met
    (c.has_copy.ensures ∙ ap (has_copy c.args.symbol) c.symbol_copies-copies.ensures) c.if-not-has_copy.false
    (c.in_ok-is_met.ensures ∙ ap (have_facts_below c.args.symbol f) c.symbol_copies-copies.ensures) c.if-is_met.false
