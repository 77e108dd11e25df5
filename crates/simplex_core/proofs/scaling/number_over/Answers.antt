use Rattle.std.proofs.Common.{rules, ◌≡◌, ℕ, ◌<◌, ◌≤◌, ◌/◌, pos, ◌*ℤ◌, unsigned_abs, subst, sym, ap, ◌∙◌, to_z, of_z}
use Rattle.std.specs.Int.{w64}
use Rattle.std.proofs.lemmas.Int.{unsigned_abs-mul}
use Rattle.simplex_core.proofs.Scalings.{times-positive, number-passes, number-within, number-is}
use Rattle.simplex_core.proofs.scaling.number_over.Goals as goal

pub nonzero_div-from : goal.nonzero_div-from
nonzero_div-from c =
    let size : c.unsigned_abs.result ≡ unsigned_abs c.args.number.den = search rules in
    subst (λ (d : ℕ). 0 < c.args.den / d) (sym size) (times-positive c.args.number c.args.den c.requires.positive c.requires.divides)

pub returns-then-unsigned_abs-from : goal.returns-then-unsigned_abs-from
returns-then-unsigned_abs-from c =
    let size : c.unsigned_abs.result ≡ unsigned_abs c.args.number.den = search rules in
    let num : c.unsigned_abs-2.result ≡ unsigned_abs c.args.number.num = search rules in
    number-passes c.args.number c.args.den c.args.limit c.requires.positive c.requires.divides
    (subst (λ (n : ℕ). c.args.limit / (c.args.den / unsigned_abs c.args.number.den) < n) num
    (subst (λ (d : ℕ). c.args.limit / (c.args.den / d) < c.unsigned_abs-2.result) size
    (subst (λ (l : ℕ). l / (c.args.den / c.unsigned_abs.result) < c.unsigned_abs-2.result) c.from.ensures c.if-unsigned_abs-from.true)))

pub returns : goal.returns
returns c =
    let size : c.unsigned_abs.result ≡ unsigned_abs c.args.number.den = search rules in
    let num : c.unsigned_abs-2.result ≡ unsigned_abs c.args.number.num = search rules in
    let plain : to_z w64 (of_z w64 c.narrow_product.result) ≡ c.narrow_product.result = search rules in
    let is : c.narrow_product.result ≡ c.args.number.num *ℤ pos (c.args.den / c.unsigned_abs.result) = search rules in
    let product = is ∙ ap (λ (d : ℕ). c.args.number.num *ℤ pos (c.args.den / d)) size in
    let small = number-within c.args.number c.args.den c.args.limit
    (subst (λ (n : ℕ). n ≤ c.args.limit / (c.args.den / unsigned_abs c.args.number.den)) num
    (subst (λ (d : ℕ). c.unsigned_abs-2.result ≤ c.args.limit / (c.args.den / d)) size
    (subst (λ (l : ℕ). c.unsigned_abs-2.result ≤ l / (c.args.den / c.unsigned_abs.result)) c.from.ensures c.if-unsigned_abs-from.false))) in (
      number-is c.args.number c.args.den _ c.requires.divides (plain ∙ product),
      subst (λ (m : ℕ). m ≤ c.args.limit) (sym (ap unsigned_abs (plain ∙ product) ∙ unsigned_abs-mul c.args.number.num (pos (c.args.den / unsigned_abs c.args.number.den)))) small,
    )
