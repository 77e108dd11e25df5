use Rattle.std.proofs.Common.{arith, ◌∙◌, ap, List}
use Rattle.std.specs.Prelude.{ℤ, pos, ◌≤ℤ◌}
use Rattle.std.proofs.lemmas.Int.{ints}
use Rattle.linear_forms.specs.Forms.{Form, form_value}
use Rattle.poly_terms.specs.Views.{form_of}
use Rattle.farkas_cert.specs.Scales.{numbers_at, numerators_of}
use Rattle.farkas_cert.specs.Sizes.{HasRowNumbers}
use Rattle.farkas_cert.proofs.RowLists.{form-at, forms-more}
use Rattle.farkas_cert.proofs.scaled.on_rows.Goals as goal

pub value-requires-clause-numbers : goal.value-requires-clause-numbers
value-requires-clause-numbers c = form-at HasRowNumbers c.args.rows.now c.loop-row.row-index c.row-item.result c.loop-row-test.true c.row-item.is c.requires.numbers

pub returns-then-value-lt0 : goal.returns-then-value-lt0
returns-then-value-lt0 c =
    (λ e. absurd (cc), λ h. absurd (low (form-at (λ (f : Form). pos 0 ≤ℤ form_value f (numerators_of c.args.at.now) (pos c.args.at.now.den)) c.args.rows.now c.loop-row.row-index c.row-item.result c.loop-row-test.true c.row-item.is h.each)))
  where
    low : pos 0 ≤ℤ form_value (form_of c.row-item.result) (numerators_of c.args.at.now) (pos c.args.at.now.den) → ⊥
    low h =
        let value = c.value.ensures.value ∙ ap (λ (xs : List ℤ). form_value (form_of c.row-item.result) (numbers_at xs) (pos c.args.at.now.den)) c.deref.ensures.value in
        omega (arith, ints, value)

pub loop-row-preserved : goal.loop-row-preserved
loop-row-preserved c =
    let value = c.value.ensures.value ∙ ap (λ (xs : List ℤ). form_value (form_of c.row-item.result) (numbers_at xs) (pos c.args.at.now.den)) c.deref.ensures.value in
    record {
      each = forms-more (λ (f : Form). pos 0 ≤ℤ form_value f (numerators_of c.args.at.now) (pos c.args.at.now.den)) c.args.rows.now c.loop-row.row-index c.row-item.result c.loop-row-test.true c.row-item.is c.loop-row.invariant.each (omega (arith, ints, value));
    }
