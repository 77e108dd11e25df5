use Rattle.std.proofs.Common.{◌-◌, sym}
use Rattle.std.proofs.lemmas.Bool.{ltb-true}
use Rattle.poly_terms.specs.Views.{form_of}
use Rattle.location_facts.proofs.RowForms.{after_found}
use Rattle.location_facts.proofs.ShownRules.{read}
use Rattle.location_facts.proofs.rows.value_after.Goals as goal

pub returns-in_ok-copy-in-Some-clause-same : goal.returns-in_ok-copy-in-Some-clause-same
returns-in_ok-copy-in-Some-clause-same c =
    let found = c.in-Some.ensures.lookup in
    after_found (form_of c.in_ok-copy-in-Some.copy) c.args.new_values.now c.args.place c.in-Some.row.now
    c.if-place-eq0.false
    (read c.args.new_values.now (c.args.place - 1) c.in-Some.row.now (ltb-true _ _ (sym found.0)) found.1)
    (c.in_ok-copy-in-Some.ensures {u = tt})
