use Rattle.std.proofs.Common.{sym, ap}
use Rattle.std.specs.Prelude.{option_map}
use Rattle.poly_terms.specs.Views.{term_of}
use Rattle.its_model.specs.Views.{program_of, rule_of}
use Rattle.program_claims.specs.Acceptance.{cost_stated, written_stated}
use Rattle.claim_types.specs.Views.{support_of}
use Rattle.claims_check.specs.Views.{evidence_of, stated_of}
use Rattle.claims_check.proofs.ExpansionLaws.{cost-expands_of}
use Rattle.claims_check.proofs.StatementLaws.{answer-same, rule-there}
use Rattle.claims_check.proofs.stating.cost_statement.Goals as goal

pub returns-in-None : goal.returns-in-None
returns-in-None c =
    ap (cost_stated (evidence_of c.args.prepared.evidence) c.args.rule (support_of c.args.support.now))
    (sym c.in-None.ensures)

pub written_statement-requires-clause-there : goal.written_statement-requires-clause-there
written_statement-requires-clause-there c =
    rule-there c.args.prepared.evidence.program.now c.args.rule (rule_of c.in-Some.found.now) c.in-Some.ensures

pub written_statement-requires-clause-expands : goal.written_statement-requires-clause-expands
written_statement-requires-clause-expands c =
    cost-expands_of (program_of c.args.prepared.evidence.program.now) c.args.rule (rule_of c.in-Some.found.now)
    c.requires.whole.program c.in-Some.ensures

pub returns-in-Some : goal.returns-in-Some
returns-in-Some c =
    let e = evidence_of c.args.prepared.evidence in
    let support = support_of c.args.support.now in
    answer-same c.written_statement.result stated_of
    (written_stated e c.args.rule support (option_map term_of c.in-Some.found.now.cost)) _
    (ap (cost_stated e c.args.rule support) c.in-Some.ensures) c.written_statement.ensures
