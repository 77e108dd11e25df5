use Rattle.std.proofs.Common.{List, [], ◌∷◌, ◌++◌, length, ap, arith, ◌∙◌}
use Rattle.simplex_core.proofs.linear_forms.SolutionLaws.{length-map}
use Rattle.lp_builder.specs.poly_terms.declared.poly.Row.{Row}
use Rattle.lp_builder.specs.poly_terms.Views.{form_of}
use Rattle.sample_questions.proofs.parts.problem_of.Goals as goal

pub loop-part-preserved : goal.loop-part-preserved
loop-part-preserved c =
    let inv = c.loop-part.invariant in
    let added = c.in_ok-add_group.ensures in
    let rows = inv.rows in
    let columns = inv.columns in
    let many = length-map form_of c.deref.result.now in
    let same = ap (λ (xs : List Row). length xs) c.deref.ensures.value in
    let long = c.len.ensures in
    record {
      ready = added.ready;
      held = (inv.held.0 ++ (_ ∷ []), added.holds inv.held.0 inv.held.1);
      parameters = added.parameters ∙ inv.parameters;
      rows = omega (arith, rows, added.rows);
      columns = omega (arith, columns, added.columns, many, same, long);
      few_rows = let l = c.if-rows.false in omega (arith, l);
      few_columns = let l = c.if-columns.false in omega (arith, l);
    }
