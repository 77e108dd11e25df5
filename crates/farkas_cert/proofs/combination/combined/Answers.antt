use Rattle.std.proofs.Common.{◌≡◌, ◌+◌, ◌*◌, ◌<◌, ◌≤◌, map, drop, length, ap, arith, get_or, sym, ◌∙◌, to_z}
use Rattle.std.specs.Prelude.{ℤ, pos, ◌+ℤ◌, ◌*ℤ◌, unsigned_abs}
use Rattle.std.specs.Int.{w128}
use Rattle.std.proofs.lemmas.Int.{to_z-of_z}
use Rattle.linear_forms.specs.Limits.{certificate_limit}
use Rattle.poly_terms.specs.Views.{form_of}
use Rattle.farkas_cert.specs.Columns.{number_in, combined_in}
use Rattle.farkas_cert.proofs.Products.{read_sum, sum-le, moved, all_done, one_ends}
use Rattle.farkas_cert.proofs.Columns.{left-next, left-end, size-next}
use Rattle.farkas_cert.proofs.combination.combined.Goals as goal

pub product-sum-requires-clause-number_small : goal.product-sum-requires-clause-number_small
product-sum-requires-clause-number_small c =
    let column = c.args.column in
    let r = c.index-rows-i.result in
    let number = to_z-of_z w128 c.number.result (record { sfits = c.number.type_inv }) ∙ c.number.ensures in
    let left = size-next column c.args.rows.now c.loop-i.i r (omega arith) c.index-rows-i.is in
    omega (arith, ap unsigned_abs number, c.loop-i.invariant.size, c.requires.column_small)

pub loop-i-preserved : goal.loop-i-preserved
loop-i-preserved c =
    let ms = c.args.multipliers.now in
    let rows = c.args.rows.now in
    let column = c.args.column in
    let i = c.loop-i.i in
    let r = c.index-rows-i.result in
    let in_ms : i < length ms = omega arith in
    let in_rows : i < length rows = omega arith in
    let number = to_z-of_z w128 c.number.result (record { sfits = c.number.type_inv }) ∙ c.number.ensures in
    let term : c.product-sum.result ≡ pos (get_or ms i 0) *ℤ number_in column (form_of r) = c.product-sum.ensures.value ∙ ap (λ (x : ℤ). pos (get_or ms i 0) *ℤ x) number in
    let s = to_z w128 c.loop-i.sum-bits in
    let size : unsigned_abs c.product-sum.result ≤ certificate_limit * unsigned_abs (number_in column (form_of r)) = omega (arith, c.product-sum.ensures.size, ap unsigned_abs number) in
    let left = size-next column rows i r in_rows c.index-rows-i.is in
    let sum = read_sum s c.product-sum.result (record { sfits = c.product-sum.type_inv }) (omega (arith, c.loop-i.invariant.size, c.requires.column_small)) in
    record {
      sum = moved s c.product-sum.result _ _ _ _ sum c.loop-i.invariant.sum (left-next column ms rows i r in_ms in_rows c.index-rows-i.is ∙ ap (λ (x : ℤ). x +ℤ combined_in column (drop (i + 1) ms) (map form_of (drop (i + 1) rows))) (sym term));
      size = omega (arith, ap unsigned_abs sum, sum-le s c.product-sum.result, c.loop-i.invariant.size);
    }

pub returns : goal.returns
returns c =
    let ms = c.args.multipliers.now in
    let rows = c.args.rows.now in
    let i = c.loop-i.i in
    all_done (to_z w128 c.loop-i.sum-bits) _ _ c.loop-i.invariant.sum (left-end c.args.column ms rows i (one_ends i (length ms) (length rows) (omega arith)))
