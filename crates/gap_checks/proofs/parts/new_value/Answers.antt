use Rattle.std.proofs.Common.{◌-◌, ◌∙◌, ap, arith}
use Rattle.std.proofs.lemmas.Int.{to_z-of_z}
use mir.Syntax.{w128}
use Rattle.farkas_cert.specs.linear_forms.Forms.{Form}
use Rattle.cert_types.specs.cert_rules.GapChecks.{value_at}
use Rattle.cert_types.specs.AnswerViews.{scaled_of}
use Rattle.gap_checks.proofs.GapValues.{new-is, new-small, row-read}
use Rattle.gap_checks.proofs.parts.new_value.Goals as goal

pub row_value-requires-clause-numbers : goal.row_value-requires-clause-numbers
row_value-requires-clause-numbers c =
    let found = c.in-Some-get.ensures.lookup in
    let at = row-read c.in-Some.prepared_rule.now (c.args.place - 1) c.deref.result.now c.in-Some-get.row.now c.deref.ensures.value found.0 found.1 in
    new-small c.args.prepared_rules.now c.args.rule c.args.place c.in-Some.prepared_rule.now c.in-Some-get.row.now c.in-Some.ensures at.0 at.1 c.requires.new_values

pub returns-in-Some-get-clause-value : goal.returns-in-Some-get-clause-value
returns-in-Some-get-clause-value c =
    let found = c.in-Some-get.ensures.lookup in
    let at = row-read c.in-Some.prepared_rule.now (c.args.place - 1) c.deref.result.now c.in-Some-get.row.now c.deref.ensures.value found.0 found.1 in
    to_z-of_z w128 c.row_value.result (record { sfits = c.row_value.type_inv })
    ∙ (c.row_value.ensures.value
    ∙ ap (λ (f : Form). value_at f (scaled_of c.args.z.now))
    (new-is c.args.prepared_rules.now c.args.rule c.args.place c.in-Some.prepared_rule.now c.in-Some-get.row.now c.in-Some.ensures at.0 at.1 (omega (arith, c.if-place-eq0.false))))
