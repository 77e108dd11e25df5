-- Numbers as operands, replaced by the limit plus one if they are over the limit.
use Rattle.std.proofs.Common.{◌≡◌, ℕ, ◌+◌, min, ap, ◌∙◌, arith}
use Rattle.std.specs.Prelude.{pos}
use Rattle.model.specs.Limits.{degree_limit, coefficient_limit}
use Rattle.model.specs.Terms.{Literal}
use Rattle.expr_text.specs.TermGrammarStates.{Operand, Wanted, BaseRead, CaretRead, ExponentRead, with_number}

-- a limit applied twice has the effect of one; a lesser limit after a greater one has its own effect
again : (n : ℕ) → min (min n (coefficient_limit + 1)) (coefficient_limit + 1) ≡ min n (coefficient_limit + 1)
again n = omega arith

less : (n : ℕ) → min (min n (coefficient_limit + 1)) (degree_limit + 1) ≡ min n (degree_limit + 1)
less n = omega arith

-- limiting a number by the limit on coefficients first doesn't change the operand that it gives, also as an exponent
pub capped : (operand : Operand) (n m : ℕ) → m ≡ min n (coefficient_limit + 1)
    → with_number operand m ≡ with_number operand n
capped operand n m e = ap (with_number operand) e ∙ go operand
  where
    go : (operand : Operand) → with_number operand (min n (coefficient_limit + 1)) ≡ with_number operand n
    go Wanted = ap (λ (k : ℕ). BaseRead (Literal (pos k))) (again n)
    go (BaseRead t) = ap (λ (k : ℕ). BaseRead (Literal (pos k))) (again n)
    go (ExponentRead t m) = ap (λ (k : ℕ). BaseRead (Literal (pos k))) (again n)
    go (CaretRead t) = ap (λ (k : ℕ). ExponentRead t k) (less n)
