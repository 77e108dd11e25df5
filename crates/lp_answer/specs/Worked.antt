-- Worked values of texts of answers, on both sides.
use Rattle.std.specs.Prelude.{◌≡◌, ◌≢◌, pos, negsuc, Some, None, [], ◌∷◌, codes}
use Rattle.bland_end.specs.declared.whole.WholeError.TheVariants.{Range, Wide, TooMany}
use Rattle.frac128.specs.Zero.{zero}
use Rattle.lp_text.specs.declared.kind.LpKind.TheVariants.{Syntax, NumberTooLarge, Limit}
use Rattle.lp_answer.specs.Texts.{fraction_text, value_lines, end_line, stop_text, refusal_text}

pub record AnswersAreWorkedOut : Type 0 where
  -- integers are printed without a denominator, and a sign comes before the numerator
  pub whole : fraction_text (pos 3) (pos 1) ≡ codes "3"
  pub below : fraction_text (negsuc 6) (pos 1) ≡ codes "-7"
  pub half : fraction_text (pos 1) (pos 2) ≡ codes "1/2"
  pub less : fraction_text (negsuc 6) (pos 12) ≡ codes "-7/12"
  pub over_one : fraction_text (pos 3) (pos 1) ≢ codes "3/1"
  -- values are numbered from 0, each on a line of its own
  pub values : value_lines (codes "x") 0 (zero ∷ zero ∷ []) ≡ codes "x0 = 0\nx1 = 0\n"
  pub later : value_lines (codes "y") 10 (zero ∷ []) ≡ codes "y10 = 0\n"
  pub none : value_lines (codes "y") 0 [] ≡ []
  -- the first lines of ends, and the texts of why they aren't reached
  pub optimal : end_line (codes "optimal") 1 ≡ codes "optimal after 1 pivots\n"
  pub infeasible : end_line (codes "infeasible") 0 ≡ codes "infeasible after 0 pivots\n"
  pub range : stop_text (Range 12) ≡ Some (codes "range at pivot 12\n")
  pub many : stop_text TooMany ≡ Some (codes "too many bases\n")
  pub wide : stop_text (Wide 40000000001) ≡ None
  -- the texts of refusals
  pub syntax : refusal_text (record { kind = Syntax; at = 0 }) ≡ codes "program refused at 0: Syntax\n"
  pub large : refusal_text (record { kind = NumberTooLarge; at = 23 })
      ≡ codes "program refused at 23: NumberTooLarge\n"
  pub limit : refusal_text (record { kind = Limit; at = 15 }) ≡ codes "program refused at 15: Limit\n"
