-- The prepared rows of a rule, as plain data.
use Rattle.std.specs.Prelude.{map}
use Rattle.poly_terms.specs.Views.{poly_of, form_of}
use Rattle.guard_prep.specs.declared.rule_rows.RuleRows.{RuleRows}
use Rattle.guard_prep.specs.Prepared.{Prepared}

-- the rows of a rule as plain data
abbrev pub prepared_of : RuleRows → Prepared
prepared_of m = record {
  left = m.left;
  unknowns = m.unknowns;
  rows = map form_of m.rows.items;
  new_values = map form_of m.new_values.items;
  nonlinear = m.nonlinear.items;
  polys = map poly_of m.polys.items;
}
