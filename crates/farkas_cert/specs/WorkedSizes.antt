-- Worked values of the bounds on numbers, at the limits and on both sides.
use Rattle.std.specs.Prelude.{◌+◌, ◌-◌, ◌^◌, [], ◌∷◌, ℤ, pos, negsuc}
use Rattle.linear_forms.specs.Forms.{Form}
use Rattle.farkas_cert.specs.Sizes.{AreWithinLimit, AreSmall, HasRowNumbers, AreParts}

-- a form in one unknown, by its coefficient and its constant
abbrev pub line : ℤ → ℤ → Form
line a c = record { coefs = a ∷ []; constant = c }

-- multipliers up to 2^56 are permitted, parts up to 2^45 in absolute value, and numbers of a row up to 2^63 - 1 in
-- absolute value
pub record LimitsAreWorkedOut : Type 0 where
  pub multiplier : AreWithinLimit ((2 ^ 56) ∷ 0 ∷ [])
  pub large_multiplier : ¬ (AreWithinLimit (0 ∷ (2 ^ 56 + 1) ∷ []))
  pub part : AreParts (pos (2 ^ 45) ∷ negsuc (2 ^ 45 - 1) ∷ [])
  pub large_part : ¬ (AreParts (pos 0 ∷ negsuc (2 ^ 45) ∷ []))
  pub number : HasRowNumbers (line (pos (2 ^ 63 - 1)) (negsuc (2 ^ 63 - 2)))
  pub large_number : ¬ (HasRowNumbers (line (pos (2 ^ 63)) (pos 0)))
  pub large_constant : ¬ (HasRowNumbers (line (pos 0) (negsuc (2 ^ 63 - 1))))

-- a column may have one number of 2^70 + 2^10, or two of opposite signs whose absolute values add up to it; one more in
-- a column, or among the constants, is too much
pub record ColumnsAreWorkedOut : Type 0 where
  pub one : AreSmall (line (pos (2 ^ 70 + 2 ^ 10)) (pos 0) ∷ [])
  pub two : AreSmall (line (pos (2 ^ 70)) (pos 3) ∷ line (negsuc (2 ^ 10 - 1)) (negsuc 4) ∷ [])
  pub large_column : ¬ (AreSmall (line (pos (2 ^ 70)) (pos 0) ∷ line (negsuc (2 ^ 10)) (pos 0) ∷ []))
  pub large_constants : ¬ (AreSmall (line (pos 0) (pos (2 ^ 70)) ∷ line (pos 0) (negsuc (2 ^ 10)) ∷ []))

-- All worked values of this file.
pub record SizesAreWorkedOut : Type 0 where
  pub limits : LimitsAreWorkedOut
  pub columns : ColumnsAreWorkedOut
