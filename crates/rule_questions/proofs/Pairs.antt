-- The columns of a parameter.
use Rattle.std.proofs.Common.{◌≡◌, ℕ, suc, ◌+◌, ◌*◌, ap, arith, sym, ◌∙◌}
use Rattle.std.specs.Prelude.{ℤ, ◌-ℤ◌}
use Rattle.poly_terms.specs.linear_forms.Questions.{double}
use Rattle.poly_terms.specs.linear_forms.QuestionLaws.{parameters_of}
pub use Rattle.lp_builder.proofs.Built.{double-is}

-- a parameter is its plus column less its minus column
pub parameter-value : (x : ℕ → ℤ) (n plus : ℕ) (a b : ℤ) → plus ≡ 2 * n → a ≡ x plus → b ≡ x (plus + 1) → a -ℤ b
    ≡ parameters_of x n
parameter-value x n plus a b e f g =
    ap (λ (z : ℤ). z -ℤ b) (f ∙ ap x (e ∙ sym (double-is n)))
    ∙ ap (λ (z : ℤ). x (double n) -ℤ z)
    (g ∙ ap x (let d = double-is n in let h : plus + 1 ≡ suc (double n) = omega (arith, e, d) in h))
