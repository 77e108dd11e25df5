use Rattle.std.proofs.Common.{◌≡◌, ℕ, ◌≤◌, ◌⊎◌, inl, inr, List, length, take, get_or, ap, sym, ◌∙◌, subst, arith}
use Rattle.std.specs.Prelude.{ℤ, pos, nat_abs}
use Rattle.std.specs.Int.{IsGcd, w128}
use Rattle.std.specs.List.{AllByRecursion}
use Rattle.std.proofs.lemmas.Bool.{cases_eq}
use Rattle.std.proofs.lemmas.List.{take_more, take_all}
use Rattle.std.proofs.lemmas.Int.{to_z_pos, to_z-of_z, fits_signed_from_abs}
use Rattle.poly_terms.specs.model.Limits.{coefficient_limit}
use Rattle.poly_terms.specs.linear_forms.Sizes.{total_size}
use Rattle.guard_prep.proofs.DivisorLaws.{IsDivisorOf, divisor-more, divisor-is, divisor-small, divisor-none-left}
use Rattle.guard_prep.proofs.DivisorLaws.{all-at}
use Rattle.guard_prep.proofs.tighten.common_divisor.Goals as goal

-- the divisor of the coefficients before the end is that of all
whole : (xs : List ℤ) (i g : ℕ) → length xs ≤ i → IsDivisorOf g (take i xs) → IsDivisorOf g xs
whole xs i g l h = subst (IsDivisorOf g) (take_all i xs l) h

-- the divisor of small coefficients is small
small : (xs : List ℤ) (g : ℕ) → AllByRecursion (λ a. nat_abs a ≤ coefficient_limit) xs → IsDivisorOf g xs → g ≤ coefficient_limit
small xs g b h = split (cases_eq (total_size xs) 0)
  where
    split : (total_size xs ≡ 0) ⊎ (total_size xs ≡ 0 → ⊥) → g ≤ coefficient_limit
    split (inl e) = omega (arith, divisor-none-left xs g e h)
    split (inr e) = divisor-small g coefficient_limit xs b (omega (arith, e)) h.divides

pub loop-a-preserved : goal.loop-a-preserved
loop-a-preserved c =
    let xs = c.args.coefs.now in
    let i = c.loop-a.a-index in
    let here = get_or xs i (pos 0) in
    let small = all-at (λ a. nat_abs a ≤ coefficient_limit) xs i (pos 0) c.requires c.loop-a-test.true in
    let size = c.unsigned_abs.ensures.value ∙ ap nat_abs (to_z-of_z w128 here (fits_signed_from_abs w128 here (omega (arith, small)))) in
    subst (IsDivisorOf c.greatest_common_divisor-divisor.result) (sym (take_more xs i (pos 0) c.loop-a-test.true))
    (divisor-more c.loop-a.divisor c.greatest_common_divisor-divisor.result (take i xs) here c.loop-a.invariant
    (subst (λ (n : ℕ). IsGcd c.loop-a.divisor n c.greatest_common_divisor-divisor.result) size c.greatest_common_divisor-divisor.ensures))

pub overflow_cast-result : goal.overflow_cast-result
overflow_cast-result c =
    let g = whole c.args.coefs.now c.loop-a.a-index c.loop-a.divisor c.loop-a-test.false c.loop-a.invariant in
    record { sfits = omega (arith, small c.args.coefs.now c.loop-a.divisor c.requires g) }

pub returns : goal.returns
returns c =
    let g = whole c.args.coefs.now c.loop-a.a-index c.loop-a.divisor c.loop-a-test.false c.loop-a.invariant in
    to_z_pos w128 c.loop-a.divisor (omega (arith, small c.args.coefs.now c.loop-a.divisor c.requires g)) ∙ ap pos (sym (divisor-is c.loop-a.divisor c.args.coefs.now g))
