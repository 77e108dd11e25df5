-- A linear program has one answer.
use Rattle.std.proofs.Common.{◌≡◌, ℕ, zero, suc, ◌+◌, ap, arith, refl, sym, ◌∙◌, ◌⊎◌, inl, inr, List, [], ◌∷◌, ◌++◌}
use Rattle.std.proofs.Common.{Some, None}
use Rattle.std.specs.Prelude.{ℤ, Ok, Err, codes}
use Rattle.std.specs.Fmt.{decimal}
use Rattle.simplex_core.specs.linear_forms.LinearProgram.{LinearProgram}
use Rattle.simplex_core.specs.declared.problem.Solved.{Solved}
use Rattle.simplex_core.specs.declared.problem.Solved.TheVariants.{Optimal, Infeasible}
use Rattle.simplex_core.specs.Agreement.{AreSameFractions, IsSameEnd}
use Rattle.bland_end.specs.declared.whole.WholeError.{WholeError}
use Rattle.bland_end.specs.declared.whole.WholeError.TheVariants.{Range, Wide, TooMany, Memory}
use Rattle.bland_end.specs.Whole.{IsWholeEnd, IsWantOfMemory}
use Rattle.bland_end.proofs.OneEnd.{whole_ends-same}
use Rattle.frac128.specs.declared.frac.Frac.{Frac}
use Rattle.lp_answer.specs.Texts.{fraction_text, value_line, value_lines, end_line, end_text, stop_text}
use Rattle.lp_answer.specs.Answers.{HasEnd, HasNoEnd, IsEndText, IsStopText, LpAnswersAreOne}

-- fractions with the same numerators and denominators have the same line
line-same : (letter : List ℕ) (i : ℕ) (f g : Frac) → (f.num ≡ g.num) × (f.den ≡ g.den)
    → value_line letter i f ≡ value_line letter i g
line-same letter i f g (e, d) =
    ap (λ (z : ℤ). letter ++ (decimal i ++ (codes " = " ++ (fraction_text z f.den ++ codes "\n")))) e
    ∙ ap (λ (z : ℤ). letter ++ (decimal i ++ (codes " = " ++ (fraction_text g.num z ++ codes "\n")))) d

-- lists of fractions with the same numerators and denominators have the same lines
lines-same : (letter : List ℕ) (i : ℕ) (fs gs : List Frac) → AreSameFractions fs gs
    → value_lines letter i fs ≡ value_lines letter i gs
lines-same letter i [] [] h = refl
lines-same letter i [] (g ∷ gs) h = let l = h.lengths in absurd (omega (arith, l))
lines-same letter i (f ∷ fs) [] h = let l = h.lengths in absurd (omega (arith, l))
lines-same letter i (f ∷ fs) (g ∷ gs) h =
    ap (λ (ls : List ℕ). ls ++ value_lines letter (i + 1) fs) (line-same letter i f g (h.each 0 f g refl refl))
    ∙ ap (λ (ls : List ℕ). value_line letter i g ++ ls)
    (lines-same letter (i + 1) fs gs (record {
      lengths = (let l = h.lengths in omega (arith, l));
      each = λ k a b d e. h.each (suc k) a b d e;
    }))

-- the same ends have the same text
text-same : (s t : Solved) → IsSameEnd s t → end_text s ≡ end_text t
text-same (Optimal at basis k) (Optimal at' basis' k') h =
    ap (λ (n : ℕ). end_line (codes "optimal") n ++ value_lines (codes "x") 0 at.items) h.2
    ∙ ap (λ (ls : List ℕ). end_line (codes "optimal") k' ++ ls) (lines-same (codes "x") 0 at.items at'.items h.0)
text-same (Optimal at basis k) (Infeasible dual k') h = absurd h
text-same (Infeasible dual k) (Optimal at basis k') h = absurd h
text-same (Infeasible dual k) (Infeasible dual' k') h =
    ap (λ (n : ℕ). end_line (codes "infeasible") n ++ value_lines (codes "y") 0 dual.items) h.1
    ∙ ap (λ (ls : List ℕ). end_line (codes "infeasible") k' ++ ls)
    (lines-same (codes "y") 0 dual.items dual'.items h.0)

-- running out of memory has no text
memory-has_no_text : (e : WholeError) (x : List ℕ) → IsWantOfMemory e → stop_text e ≡ Some x → ⊥
memory-has_no_text (Range k) x m h = m
memory-has_no_text (Wide n) x m h = m
memory-has_no_text TooMany x m h = m
memory-has_no_text Memory x m h = cc

-- one reason has one text
reason-same : (d e : WholeError) (x y : List ℕ) → (d ≡ e) ⊎ (IsWantOfMemory d ⊎ IsWantOfMemory e)
    → stop_text d ≡ Some x → stop_text e ≡ Some y → x ≡ y
reason-same d e x y (inl same) h g = some-same (sym h ∙ (ap stop_text same ∙ g))
  where
    some-same : Some x ≡ Some y → x ≡ y
    some-same f = cc
reason-same d e x y (inr (inl m)) h g = absurd (memory-has_no_text d x m h)
reason-same d e x y (inr (inr m)) h g = absurd (memory-has_no_text e y m g)

-- if the text is that of a reason, the reason is one of two
reason-is : (p : LinearProgram) (e : WholeError) (x : List ℕ) → IsWholeEnd p (Err e) → stop_text e ≡ Some x → HasNoEnd p
reason-is p (Range k) x h g = inl (k, h)
reason-is p (Wide n) x h g = cc
reason-is p TooMany x h g = inr h
reason-is p Memory x h g = cc

-- a program whose sequence has an end has no such reason
end-or_none : (p : LinearProgram) → HasEnd p → ¬ HasNoEnd p
end-or_none p (s, h) (inl (k, g)) = whole_ends-same p (Ok s) (Err (Range k)) h g
end-or_none p (s, h) (inr g) = whole_ends-same p (Ok s) (Err TooMany) h g

pub one_answer : LpAnswersAreOne
one_answer = record {
  one_end = λ p x y a b.
      a.result_is
      ∙ (text-same a.end b.end (whole_ends-same p (Ok a.end) (Ok b.end) a.reached b.reached) ∙ sym b.result_is);
  one_stop = λ p x y a b.
      reason-same a.reason b.reason x y (whole_ends-same p (Err a.reason) (Err b.reason) a.stopped b.stopped) a.result_is
      b.result_is;
  end_text_only_at_end = λ p x a. (a.end, a.reached);
  stop_text_only_without_end = λ p x a. reason-is p a.reason x a.stopped a.result_is;
  apart = end-or_none;
}
