use Rattle.std.proofs.Common.{◌≤◌, arith, sym, ◌∙◌, length, subst}
use Rattle.std.specs.Prelude.{ℤ, neg_ℤ}
use Rattle.std.specs.Int.{w128}
use Rattle.std.proofs.lemmas.Int.{to_z-of_z}
use Rattle.simplex_core.specs.linear_forms.Forms.{Form}
use Rattle.simplex_core.specs.linear_forms.Questions.{number}
use Rattle.poly_terms.specs.declared.poly.Row.{Row}
use Rattle.poly_terms.specs.Views.{form_of}
use Rattle.lp_builder.specs.Descriptions.{IsWritable}
use Rattle.lp_builder.proofs.Pieces.{rows-step, rows-end}
use Rattle.lp_builder.proofs.line.put_rows.Goals as goal

pub loop-row-preserved : goal.loop-row-preserved
loop-row-preserved c =
    let f : Form → ℤ = λ r. neg_ℤ (number c.args.line.unknowns c.args.line.number r) in
    let w = c.in_ok-put.ensures in (
      rows-step _ _ _ f c.args.rows.now c.loop-row.row-index c.row-item.result _ c.loop-row.invariant.0 w (to_z-of_z w128 c.less.result (record { sfits = c.less.type_inv }) ∙ c.less.ensures) c.loop-row-test.true c.row-item.is,
      omega (arith, w.col, c.loop-row.invariant.1),
    )

pub returns : goal.returns
returns c =
    let f : Form → ℤ = λ r. neg_ℤ (number c.args.line.unknowns c.args.line.number r) in
    let past : length c.args.rows.now ≤ c.loop-row.row-index = omega (arith, c.loop-row-test.false) in (
      rows-end _ _ f c.args.rows.now c.loop-row.row-index past c.loop-row.invariant.0,
      omega (arith, c.loop-row.invariant.1, c.loop-row-test.false, c.loop-row.auto.row-index-end),
    )

pub less-requires : goal.less-requires
less-requires c =
    subst (λ (r : Row). IsWritable c.args.line.unknowns (form_of r)) (sym c.row-item.is) (c.requires.writable c.loop-row.row-index c.row-item.result c.loop-row-test.true)
