-- Worked values of gaps at their limits, of wrong shapes, and with shut places, and of which of two faults is reported.
use Rattle.std.specs.Prelude.{ℕ, ◌+◌, ◌-◌, ◌^◌, [], ◌∷◌, pos, negsuc}
use Rattle.cert_rules.specs.Gaps.{SymbolPlace}
use Rattle.cert_rules.specs.GapChecks.{GapHolds, WrongShape, FloorOff, NotKept, Unbalanced, gap_checks}
use Rattle.cert_rules.specs.Reasons.{IsFirstAmong}
use Rattle.cert_rules.specs.WorkedGaps.{FailsAlone, turning, turning_forms, guessed, guessed_forms, pairs}
use Rattle.cert_rules.specs.WorkedGaps.{pairs_forms, scaled, one, nowhere, gap_with, gap_over, gap_of_one, place_of_l}

-- place i of a symbol
abbrev pub place_of : ℕ → ℕ → SymbolPlace
place_of symbol place = record { symbol = symbol; place = place }

-- denominators and numerators are accepted up to the limit, and refused past it, in every position
pub record GapLimitsAreJudged : Type 0 where
  pub dens_at_the_limit : GapHolds turning turning_forms (gap_of_one [] (pos 1) (2 ^ 45) (pos 0) 0 (pos 1) (2 ^ 45))
  pub negative_at_the_limit : GapHolds turning turning_forms (gap_of_one [] (negsuc (2 ^ 45 - 1)) 1 (pos 0) 0 (pos 1) 1)
  pub floor_at_the_limit :
      GapHolds guessed guessed_forms (gap_of_one place_of_l (pos 1) 1 (pos (2 ^ 45)) 0 (pos 1) 1)
  pub negative_past :
      FailsAlone (gap_checks turning turning_forms (gap_of_one [] (negsuc (2 ^ 45)) 1 (pos 0) 0 (pos 1) 1)) WrongShape
  pub den_past :
      FailsAlone (gap_checks turning turning_forms (gap_of_one [] (pos 1) (2 ^ 45 + 1) (pos 0) 0 (pos 1) 1)) WrongShape
  pub kept_past :
      FailsAlone (gap_checks turning turning_forms (gap_of_one [] (pos 1) 1 (pos 0) 0 (pos (2 ^ 45 + 1)) 1)) WrongShape
  pub kept_den_past :
      FailsAlone (gap_checks turning turning_forms (gap_of_one [] (pos 1) 1 (pos 0) 0 (pos 1) (2 ^ 45 + 1))) WrongShape
  pub floor_past :
      FailsAlone (gap_checks guessed guessed_forms (gap_of_one place_of_l (pos 1) 1 (pos (2 ^ 45 + 1)) 0 (pos 1) 1))
      WrongShape

-- a rule twice in the set, or one that isn't there; a move or a kept point too many; a part too many in a move, the
-- floor or a kept point; a set that descends, or has rule 0; and no move or no kept point: each is a wrong shape
pub record GapShapesAreJudged : Type 0 where
  pub rule_twice :
      FailsAlone
      (gap_checks turning turning_forms (gap_with 2 (2 ∷ 2 ∷ []) [] (one ∷ one ∷ []) nowhere (one ∷ one ∷ [])))
      WrongShape
  pub no_such_rule :
      FailsAlone
      (gap_checks turning turning_forms (gap_with 2 (2 ∷ 3 ∷ []) [] (one ∷ one ∷ []) nowhere (one ∷ one ∷ [])))
      WrongShape
  pub move_too_many :
      FailsAlone (gap_checks turning turning_forms (gap_with 2 (2 ∷ []) [] (one ∷ one ∷ []) nowhere (one ∷ [])))
      WrongShape
  pub kept_too_many :
      FailsAlone (gap_checks turning turning_forms (gap_with 2 (2 ∷ []) [] (one ∷ []) nowhere (one ∷ one ∷ [])))
      WrongShape
  pub part_of_move :
      FailsAlone (gap_checks turning turning_forms (gap_over 2 [] (scaled (pos 1 ∷ pos 0 ∷ []) 1) nowhere one))
      WrongShape
  pub part_of_floor :
      FailsAlone (gap_checks turning turning_forms (gap_over 2 [] one (scaled (pos 0 ∷ pos 0 ∷ []) 0) one)) WrongShape
  pub part_of_kept :
      FailsAlone (gap_checks turning turning_forms (gap_over 2 [] one nowhere (scaled (pos 1 ∷ pos 0 ∷ []) 1)))
      WrongShape
  pub descending :
      IsFirstAmong
      (gap_checks turning turning_forms (gap_with 2 (2 ∷ 1 ∷ []) [] (one ∷ one ∷ []) nowhere (one ∷ one ∷ [])))
      WrongShape
  pub rule_0 :
      IsFirstAmong
      (gap_checks turning turning_forms (gap_with 2 (0 ∷ 2 ∷ []) [] (one ∷ one ∷ []) nowhere (one ∷ one ∷ [])))
      WrongShape
  pub no_move :
      IsFirstAmong (gap_checks turning turning_forms (gap_with 2 (2 ∷ []) [] [] nowhere (one ∷ []))) WrongShape
  pub no_kept :
      IsFirstAmong (gap_checks turning turning_forms (gap_with 2 (2 ∷ []) [] (one ∷ []) nowhere [])) WrongShape

-- of two faults the earlier check's is reported: the shape before the floor and the rest, the floor before a kept
-- point, a kept point before a balance, and a balance before the check that something is lost
pub record GapFaultsComeInOrder : Type 0 where
  pub shape_first :
      IsFirstAmong
      (gap_checks guessed guessed_forms (gap_of_one place_of_l (negsuc (2 ^ 45)) 1 (pos 1) 0 (pos 1) 1)) WrongShape
  pub floor_before_kept :
      IsFirstAmong (gap_checks guessed guessed_forms (gap_of_one place_of_l (pos 1) 1 (negsuc 0) 0 (pos 0) 1)) FloorOff
  pub kept_before_balance :
      IsFirstAmong (gap_checks turning turning_forms (gap_of_one [] (pos 1) 1 (pos 1) 0 (pos 1) 0)) (NotKept 2)
  pub balance_before_loss :
      IsFirstAmong (gap_checks turning turning_forms (gap_of_one [] (pos 0) 0 (pos 1) 0 (pos 1) 1)) (Unbalanced 1 1)

-- the list of shut places is unrestricted: a place may occur twice in it, or be one of a symbol at which the set has no
-- rule. A place is shut at its own symbol alone; other places of the symbol aren't, and a constant never is
pub record ShutPlacesAreJudged : Type 0 where
  pub shut_twice :
      GapHolds guessed guessed_forms
      (gap_of_one (place_of 1 1 ∷ place_of 1 1 ∷ []) (pos 1) 1 (pos 1) 0 (pos 1) 1)
  pub shut_outside : GapHolds turning turning_forms (gap_of_one (place_of 2 1 ∷ []) (pos 1) 1 (pos 0) 0 (pos 1) 1)
  pub shut_elsewhere :
      FailsAlone (gap_checks guessed guessed_forms (gap_of_one (place_of 0 1 ∷ []) (pos 1) 1 (pos 1) 0 (pos 1) 1))
      (Unbalanced 1 1)
  pub constant_stays :
      FailsAlone (gap_checks turning turning_forms (gap_of_one (place_of 1 0 ∷ []) (pos 1) 1 (pos 0) 1 (pos 1) 1))
      (Unbalanced 1 0)
  pub second_of_two :
      GapHolds pairs pairs_forms
      (gap_over 2 (place_of 1 2 ∷ []) (scaled (pos 1 ∷ pos 1 ∷ []) 1) (scaled (pos 1 ∷ pos 0 ∷ []) 0)
      (scaled (pos 1 ∷ pos 1 ∷ []) 1))
  pub first_of_two :
      FailsAlone
      (gap_checks pairs pairs_forms
      (gap_over 2 (place_of 1 1 ∷ []) (scaled (pos 1 ∷ pos 1 ∷ []) 1) (scaled (pos 1 ∷ pos 0 ∷ []) 0)
      (scaled (pos 1 ∷ pos 1 ∷ []) 1)))
      (Unbalanced 1 2)
