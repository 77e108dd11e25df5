use Rattle.std.proofs.Common.{◌≡◌, ℕ, ◌<◌, ◌≤◌, Bool, true, false, ◌||◌, nat_lt, ap, sym, ◌∙◌, arith}
use Rattle.std.specs.Prelude.{nat_abs}
use Rattle.std.proofs.lemmas.Int.{ints}
use Rattle.std.proofs.lemmas.Bool.Decides.{nat_tests}
use Rattle.model.specs.Limits.{coefficient_limit}
use Rattle.poly_terms.specs.Faults.{has_large}
use Rattle.poly_terms.proofs.LoopLaws.{monomials-from}
use Rattle.poly_terms.proofs.limits.has_large_coefficient.Goals as goal

-- if the first coefficient is large, the test is true
large_first : (z : ℕ) (b : Bool) → coefficient_limit < z → (nat_lt coefficient_limit z || b) ≡ true
large_first z b h = ap (λ (t : Bool). t || b) (let e : nat_lt coefficient_limit z ≡ true = grind (arith, nat_tests) in e)

-- if the first coefficient is small, the others decide
small_first : (z : ℕ) (b : Bool) → z ≤ coefficient_limit → (nat_lt coefficient_limit z || b) ≡ b
small_first z b h = ap (λ (t : Bool). t || b) (let e : nat_lt coefficient_limit z ≡ false = grind (arith, nat_tests) in e)

pub returns-then-is_large : goal.returns-then-is_large
returns-then-is_large c =
    let rest = monomials-from c.args.terms.now c.loop-m.m-index c.m-item.result c.loop-m-test.true c.m-item.is in
    let size : coefficient_limit < nat_abs c.m-item.result.coef = omega (arith, ints, c.is_large.ensures.yes c.if-is_large.true) in
    sym (sym c.loop-m.invariant ∙ (ap has_large rest ∙ large_first _ _ size))

pub loop-m-preserved : goal.loop-m-preserved
loop-m-preserved c =
    let rest = monomials-from c.args.terms.now c.loop-m.m-index c.m-item.result c.loop-m-test.true c.m-item.is in
    let size : nat_abs c.m-item.result.coef ≤ coefficient_limit = omega (arith, ints, c.is_large.ensures.no c.if-is_large.false) in
    sym (small_first _ _ size) ∙ (sym (ap has_large rest) ∙ c.loop-m.invariant)
