use Rattle.std.proofs.Common.{◌+◌, ◌*◌, ◌^◌, ◌<◌, ◌≤◌, drop, length, ap, arith, get_or, sym, ◌∙◌, to_z}
use Rattle.std.specs.Prelude.{ℤ, pos, ◌+ℤ◌, unsigned_abs}
use Rattle.std.specs.Int.{w128}
use Rattle.std.proofs.lemmas.List.Elements.{All-get_or}
use Rattle.linear_forms.specs.Limits.{point_limit}
use Rattle.farkas_cert.specs.Sizes.{row_limit}
use Rattle.farkas_cert.proofs.Products.{read_sum, read_term, sum-le, moved, all_done, one_ends}
use Rattle.farkas_cert.proofs.Sums.{zip_dot, zip_dot-next, zip_dot-end, zip_dot-list_dot}
use Rattle.farkas_cert.proofs.scaled.dot.Goals as goal

pub loop-i-preserved : goal.loop-i-preserved
loop-i-preserved c =
    let xs = c.args.coefs.now in
    let ys = c.args.parts.now in
    let i = c.loop-i.i in
    let in_xs : i < length xs = omega arith in
    let in_ys : i < length ys = omega arith in
    let a = get_or xs i (pos 0) in
    let b = get_or ys i (pos 0) in
    let small_a : unsigned_abs a < row_limit = All-get_or (λ (x : ℤ). unsigned_abs x < row_limit) xs i (pos 0) in_xs c.requires.numbers in
    let small_b : unsigned_abs b ≤ point_limit = All-get_or (λ (x : ℤ). unsigned_abs x ≤ point_limit) ys i (pos 0) in_ys c.requires.parts_small in
    let term = read_term c.product-sum.result a b c.from.result small_a small_b c.from.ensures c.product-sum.ensures.value in
    let s = to_z w128 c.loop-i.sum-bits in
    let bounded : unsigned_abs s + unsigned_abs c.product-sum.result ≤ (i + 1) * 2 ^ 108 = omega (arith, c.loop-i.invariant.size, c.product-sum.ensures.size) in
    let sum = read_sum s c.product-sum.result (record { sfits = c.product-sum.type_inv }) (omega (arith, c.requires.unknowns)) in
    record {
      sum = moved s c.product-sum.result _ _ _ _ sum c.loop-i.invariant.sum (zip_dot-next xs ys i in_xs in_ys ∙ ap (λ (x : ℤ). x +ℤ zip_dot (drop (i + 1) xs) (drop (i + 1) ys)) (sym term));
      size = omega (arith, ap unsigned_abs sum, sum-le s c.product-sum.result);
    }

pub returns-clause-value : goal.returns-clause-value
returns-clause-value c =
    let xs = c.args.coefs.now in
    let ys = c.args.parts.now in
    let i = c.loop-i.i in
    all_done (to_z w128 c.loop-i.sum-bits) _ _ c.loop-i.invariant.sum (zip_dot-end xs ys i (one_ends i (length xs) (length ys) (omega arith))) ∙ zip_dot-list_dot xs ys
