use Rattle.std.proofs.Common.{◌≡◌, ◌+◌, ℕ, suc, ap, sym, ◌∙◌, subst, arith}
use Rattle.model.specs.Polynomials.{Polynomial}
use Rattle.poly_terms.specs.Expanding.{product_of, power_of}
use Rattle.poly_terms.specs.Faults.{fault_in}
use Rattle.poly_terms.specs.Ordered.{IsSmall}
use Rattle.poly_terms.specs.Views.{poly_of}
use Rattle.poly_terms.specs.Answers.{Says}
use Rattle.poly_terms.proofs.FaultLaws.{says-powers, powers-next, last-none, small-from_none}
use Rattle.poly_terms.proofs.power.product_of_factors.Goals as goal

pub multiplied_out-requires-clause-left : goal.multiplied_out-requires-clause-left
multiplied_out-requires-clause-left c =
    let p = poly_of c.args.p.now in
    subst IsSmall (sym c.loop-k.invariant.power) (small-from_none (power_of p c.loop-k.k) c.loop-k.k (last-none p c.loop-k.k c.loop-k.invariant.none))

pub returns-in-Err : goal.returns-in-Err
returns-in-Err c =
    let p = poly_of c.args.p.now in
    let k = c.loop-k.k in
    says-powers c.in-Err.error p (k + 1) c.args.exponent (omega arith)
    (subst (Says c.in-Err.error) (sym (powers-next p k c.loop-k.invariant.none ∙ next p k))
    (subst (λ (q : Polynomial). Says c.in-Err.error (fault_in (product_of q p) (k + 1))) c.loop-k.invariant.power c.in-Err.ensures))
  where
    next : (p : Polynomial) (k : ℕ) → fault_in (power_of p (k + 1)) (k + 1) ≡ fault_in (product_of (power_of p k) p) (k + 1)
    next p k = ap (λ (n : ℕ). fault_in (power_of p n) (k + 1)) (let e : k + 1 ≡ suc k = omega arith in e)
