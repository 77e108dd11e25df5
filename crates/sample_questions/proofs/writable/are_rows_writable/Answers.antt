use Rattle.std.proofs.Common.{take, sym, subst, arith, rules}
use Rattle.std.proofs.lemmas.List.{take_all}
use Rattle.std.proofs.lemmas.List.Elements.{All-more, All-same}
use Rattle.lp_builder.specs.poly_terms.declared.poly.Row.{Row}
use Rattle.lp_builder.specs.poly_terms.Views.{form_of}
use Rattle.lp_builder.specs.Descriptions.{IsWritable}
use Rattle.sample_questions.proofs.writable.are_rows_writable.Goals as goal

pub loop-row-preserved : goal.loop-row-preserved
loop-row-preserved c =
    All-more (λ (r : Row). IsWritable c.args.unknowns (form_of r)) c.args.rows.now c.loop-row.row-index c.row-item.result c.loop-row-test.true c.loop-row.invariant
    (subst (λ (r : Row). IsWritable c.args.unknowns (form_of r)) c.row-item.is (c.is_writable.ensures (search rules)))

pub returns : goal.returns
returns c = λ e.
    All-same (λ (r : Row). IsWritable c.args.unknowns (form_of r)) c.args.rows.now (take c.loop-row.row-index c.args.rows.now)
    (sym (take_all c.loop-row.row-index c.args.rows.now (omega arith))) c.loop-row.invariant
