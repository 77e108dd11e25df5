use Rattle.std.proofs.Common.{◌≡◌, ◌+◌, ◌*◌, ◌^◌, ◌<◌, ◌≤◌, drop, length, map, ap, arith, get_or, sym, ◌∙◌, to_z, of_z}
use Rattle.std.specs.Prelude.{ℤ, pos, ◌+ℤ◌, ◌*ℤ◌, unsigned_abs, nat_abs}
use Rattle.std.specs.Int.{w128}
use Rattle.std.proofs.lemmas.Int.{to_z-of_z}
use Rattle.std.proofs.lemmas.List.Elements.{All-get_or}
use Rattle.poly_terms.specs.linear_forms.Limits.{certificate_limit}
use Rattle.poly_terms.specs.Views.{form_of}
use Rattle.cert_types.specs.cert_rules.Limits.{IsInLimit}
use Rattle.farkas_cert.proofs.Products.{read_sum, sum-le, moved, all_done, one_ends}
use Rattle.farkas_cert.proofs.Sums.{zip_dot, zip_dot-next, zip_dot-end, zip_dot-list_dot}
use Rattle.cert_context.specs.Columns.{number_in}
use Rattle.cert_context.proofs.FormColumns.{coef-read}
use Rattle.check_ranks.proofs.GoalForms.{row-number, row-small, new_values-length}
use Rattle.check_ranks.proofs.goals.combined.Goals as goal

pub product-sum-requires-clause-number_small : goal.product-sum-requires-clause-number_small
product-sum-requires-clause-number_small c =
    let r = c.index-new_values-i.result in
    let number = to_z-of_z w128 c.number.result (record { sfits = c.number.type_inv }) ∙ c.number.ensures in
    omega (arith, ap unsigned_abs number, row-small c.args.column c.args.new_values.now c.loop-i.i r (omega arith) c.index-new_values-i.is c.requires.new_values)

pub loop-i-preserved : goal.loop-i-preserved
loop-i-preserved c =
    let column = c.args.column in
    let new_values = c.args.new_values.now in
    let xs = map (number_in column) (map form_of new_values) in
    let ys = c.args.coefs.now in
    let i = c.loop-i.i in
    let r = c.index-new_values-i.result in
    let in_new_values : i < length new_values = omega arith in
    let in_xs : i < length xs = omega (arith, new_values-length column new_values) in
    let in_ys : i < length ys = omega arith in
    let b = get_or ys i (pos 0) in
    let number = to_z-of_z w128 c.number.result (record { sfits = c.number.type_inv }) ∙ c.number.ensures in
    let small_b : nat_abs b ≤ certificate_limit = All-get_or (λ (x : ℤ). IsInLimit (nat_abs x)) ys i (pos 0) in_ys c.requires.coefs in
    let coef = coef-read b c.from.result small_b c.from.ensures in
    let term : c.product-sum.result ≡ get_or xs i (pos 0) *ℤ b =
    c.product-sum.ensures.value
    ∙ (ap (λ (x : ℤ). x *ℤ to_z w128 (of_z w128 c.from.result)) number
    ∙ (ap (λ (x : ℤ). number_in column (form_of r) *ℤ x) coef
    ∙ ap (λ (x : ℤ). x *ℤ b) (sym (row-number column new_values i r (pos 0) in_new_values c.index-new_values-i.is)))) in
    let s = to_z w128 c.loop-i.sum-bits in
    let bounded : unsigned_abs s + unsigned_abs c.product-sum.result ≤ (i + 1) * 2 ^ 119 = omega (arith, c.loop-i.invariant.size, c.product-sum.ensures.size) in
    let sum = read_sum s c.product-sum.result (record { sfits = c.product-sum.type_inv }) (omega (arith, bounded, in_new_values, c.requires.few)) in
    record {
      sum = moved s c.product-sum.result _ _ _ _ sum c.loop-i.invariant.sum
          (zip_dot-next xs ys i in_xs in_ys ∙ ap (λ (x : ℤ). x +ℤ zip_dot (drop (i + 1) xs) (drop (i + 1) ys)) (sym term));
      size = omega (arith, ap unsigned_abs sum, sum-le s c.product-sum.result, bounded);
    }

pub returns-clause-value : goal.returns-clause-value
returns-clause-value c =
    let xs = map (number_in c.args.column) (map form_of c.args.new_values.now) in
    let ys = c.args.coefs.now in
    let i = c.loop-i.i in
    all_done (to_z w128 c.loop-i.sum-bits) _ _ c.loop-i.invariant.sum (zip_dot-end xs ys i (one_ends i (length xs) (length ys) (omega (arith, new_values-length c.args.column c.args.new_values.now))))
    ∙ zip_dot-list_dot xs ys
