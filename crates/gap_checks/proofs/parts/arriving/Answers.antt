use Rattle.std.proofs.Common.{sym, ◌∙◌, ap}
use Rattle.std.proofs.lemmas.Int.{to_z-of_z}
use mir.Syntax.{w128}
use Rattle.farkas_cert.specs.linear_forms.Forms.{Form}
use Rattle.its_model.specs.Views.{program_of}
use Rattle.cert_types.specs.cert_program.RankedSets.{forms_at}
use Rattle.cert_types.specs.cert_rules.GapChecks.{value_at}
use Rattle.cert_types.specs.AnswerViews.{scaled_of}
use Rattle.gap_checks.specs.GapTests.{forms_by}
use Rattle.gap_checks.proofs.Balances.{arrives, after-same}
use Rattle.gap_checks.proofs.GapFaults.{forms-alike}
use Rattle.gap_checks.proofs.parts.arriving.Goals as goal

pub returns-then-target-symbol-clause-value : goal.returns-then-target-symbol-clause-value
returns-then-target-symbol-clause-value c =
    let p = program_of c.args.rules.now.program.now in
    let z = scaled_of c.args.z.now in
    let prepared = after-same (forms_at p c.args.rule) (forms_by c.args.rules.now.prepared_rules.now c.args.rule) c.args.place
    (forms-alike p c.args.rules.now.prepared_rules.now c.requires.rows c.args.rule).new_values in
    to_z-of_z w128 c.new_value.result (record { sfits = c.new_value.type_inv })
    ∙ (c.new_value.ensures.value
    ∙ (ap (λ (f : Form). value_at f z) (sym prepared)
    ∙ arrives p c.args.rule c.requires.rule c.args.symbol c.args.place z c.in-Some.target c.in-Some.ensures c.if-target-symbol.true))
