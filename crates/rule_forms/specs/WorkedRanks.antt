-- Worked values of functions that rank a rule, of their weights, and of sets that none ranks.
use Rattle.std.specs.Prelude.{◌≡◌, nat_eq, if◌then◌else◌, [], ◌∷◌, pos, negsuc}
use Rattle.linear_forms.specs.Forms.{Form}
use Rattle.linear_forms.specs.QuestionValues.{falling_set, shut_set, sliding_set}
use Rattle.rule_forms.specs.Ranking.{Function, Ranks, Fits, NoRank, size_of, height_of, WeighsNoMore}
use Rattle.rule_forms.specs.Worked.{line_form}

-- the same form a*A + b at each symbol
abbrev pub everywhere : Form → Function
everywhere f s = f

-- the function 2*A + 5 at the first symbol, and 7*A + 9 at the others
abbrev pub uneven : Function
uneven s = if nat_eq s 0 then line_form (pos 2) (pos 5) else line_form (pos 7) (pos 9)

-- of the rules f(A) -> g(A) and g(A) -> g(A - 1) :|: A >= 1, the second is ranked by A, and by 2*A over 2; it isn't
-- ranked by A over 2, which decreases by less than 1, nor by a constant, nor by -A, nor by A - 1, which isn't at least
-- 1 before the rule
pub record RanksAreWorkedOut : Type 0 where
  pub argument : Ranks falling_set (everywhere (line_form (pos 1) (pos 0))) 1
  pub doubled : Ranks falling_set (everywhere (line_form (pos 2) (pos 0))) 2
  pub too_much : ¬ (Ranks falling_set (everywhere (line_form (pos 1) (pos 0))) 2)
  pub number : ¬ (Ranks falling_set (everywhere (line_form (pos 0) (pos 3))) 1)
  pub negated : ¬ (Ranks falling_set (everywhere (line_form (negsuc 0) (pos 0))) 1)
  pub floor_missed : ¬ (Ranks falling_set (everywhere (line_form (pos 1) (negsuc 0))) 1)

-- a function may use A if it isn't shut, but not if it is, and never a second place, which g doesn't have
pub record FitsAreWorkedOut : Type 0 where
  pub unshut : Fits falling_set (everywhere (line_form (pos 1) (pos 0)))
  pub shut : ¬ (Fits shut_set (everywhere (line_form (pos 1) (pos 0))))
  pub number : Fits shut_set (everywhere (line_form (pos 0) (pos 3)))
  pub second_place : ¬ (Fits falling_set (everywhere (record { coefs = pos 0 ∷ pos 1 ∷ []; constant = pos 0 })))

-- a function is weighed only at the entered symbols; A weighs no more than 2*A, and 2*A over 2 no more than A; 2*A
-- weighs more than A, and A + 1 weighs more than A
pub record RankWeightsAreWorkedOut : Type 0 where
  pub size : size_of falling_set uneven ≡ 2
  pub height : height_of falling_set uneven ≡ 5
  pub less : WeighsNoMore falling_set (everywhere (line_form (pos 1) (pos 0))) 1
      (everywhere (line_form (pos 2) (pos 0))) 1
  pub scaled : WeighsNoMore falling_set (everywhere (line_form (pos 2) (pos 0))) 2
      (everywhere (line_form (pos 1) (pos 0))) 1
  pub more : ¬ (WeighsNoMore falling_set (everywhere (line_form (pos 2) (pos 0))) 1
      (everywhere (line_form (pos 1) (pos 0))) 1)
  pub higher : ¬ (WeighsNoMore falling_set (everywhere (line_form (pos 1) (pos 1))) 1
      (everywhere (line_form (pos 1) (pos 0))) 1)

-- if A is shut, no function ranks the second rule; none ranks g(A, B) -> g(A + B, B - 1) :|: A >= 1; and some function
-- ranks the first set
pub record NoRanksAreWorkedOut : Type 0 where
  pub shut : NoRank shut_set
  pub sliding : NoRank sliding_set
  pub falling : ¬ (NoRank falling_set)

-- all worked values of ranking
pub record RankingIsWorkedOut : Type 0 where
  pub ranks : RanksAreWorkedOut
  pub fits : FitsAreWorkedOut
  pub weights : RankWeightsAreWorkedOut
  pub none : NoRanksAreWorkedOut
