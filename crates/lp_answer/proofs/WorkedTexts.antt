-- The worked values of texts of answers hold.
use Rattle.std.proofs.Common.{◌≡◌, ℕ, List, [], ◌∷◌, ◌++◌, ap, ◌∙◌, refl}
use Rattle.std.specs.Prelude.{ℤ, pos, codes}
use Rattle.std.specs.Fmt.{decimal, digits}
use Rattle.frac128.specs.Zero.{zero, zero-num, zero-den}
use Rattle.lp_answer.specs.Texts.{fraction_text, value_line, value_lines}
use Rattle.lp_answer.specs.Worked.{AnswersAreWorkedOut}

-- the line of a value that is 0
zero-line : (letter : List ℕ) (i : ℕ)
    → value_line letter i zero
    ≡ letter ++ (decimal i ++ (codes " = " ++ (fraction_text (pos 0) (pos 1) ++ codes "\n")))
zero-line letter i =
    ap (λ (z : ℤ). letter ++ (decimal i ++ (codes " = " ++ (fraction_text z zero.den ++ codes "\n")))) zero-num
    ∙ ap (λ (z : ℤ). letter ++ (decimal i ++ (codes " = " ++ (fraction_text (pos 0) z ++ codes "\n")))) zero-den

two-zeros : value_lines (codes "x") 0 (zero ∷ zero ∷ []) ≡ codes "x0 = 0\nx1 = 0\n"
unfolding digits
two-zeros =
    ap (λ (ls : List ℕ). ls ++ (value_line (codes "x") 1 zero ++ [])) (zero-line (codes "x") 0)
    ∙ ap (λ (ls : List ℕ). codes "x0 = 0\n" ++ (ls ++ [])) (zero-line (codes "x") 1)

later-zero : value_lines (codes "y") 10 (zero ∷ []) ≡ codes "y10 = 0\n"
unfolding digits
later-zero = ap (λ (ls : List ℕ). ls ++ []) (zero-line (codes "y") 10)

pub answers_worked : AnswersAreWorkedOut
unfolding digits
answers_worked = record {
  whole = refl;
  below = refl;
  half = refl;
  less = refl;
  over_one = λ e. cc;
  values = two-zeros;
  later = later-zero;
  none = refl;
  optimal = refl;
  infeasible = refl;
  range = refl;
  many = refl;
  wide = refl;
  syntax = refl;
  large = refl;
  limit = refl;
}
