-- The text of a bound.
use Rattle.std.specs.Prelude.{◌≡◌, ℕ, ◌^◌, ◌<◌, ◌≤◌, List, length, ⊤}
use Rattle.text_core.specs.model.Programs.{Name}
use Rattle.text_core.specs.model.Bounds.{Bound, Constant, Input, SumOf, ProductOf, MaximumOf, PowerOf, Parts, NoParts}
use Rattle.text_core.specs.model.Bounds.{Part}
use Rattle.bound_expr.specs.Measure.{node_count, depth_of}
use Rattle.bound_expr.specs.Substitution.{ReadsBelow}
use Rattle.bound_expr.specs.Tidy.{IsTidy}
use Rattle.text_core.specs.Names.{AreNames}
use Rattle.bound_text.specs.Pieces.{bytes_of}
use Rattle.bound_text.specs.Writing.{pieces_of}
use Rattle.bound_expr.specs.Limits.{too_large_base, depth_limit, node_limit}

-- the text of a bound over variables with these names
abbrev pub text_of : List Name → Bound → List ℕ
text_of names b = bytes_of names (pieces_of b)

-- the bytes are the text of a tidy bound over these variables
pub record IsText (names : List Name) (bytes : List ℕ) (b : Bound) : Type 0 where
  pub text : text_of names b ≡ bytes
  pub tidy : IsTidy b
  pub listed : ReadsBelow (length names) b

-- all bases of the bound are below 2^64
abbrev mutual
  pub HasShortBases : Bound → Type 0
  HasShortBases (Constant c) = ⊤
  HasShortBases (Input i) = ⊤
  HasShortBases (SumOf bs) = HaveShortBases bs
  HasShortBases (ProductOf bs) = HaveShortBases bs
  HasShortBases (MaximumOf bs) = HaveShortBases bs
  HasShortBases (PowerOf c e) = (c < too_large_base) × HasShortBases e

  pub HaveShortBases : Parts → Type 0
  HaveShortBases NoParts = ⊤
  HaveShortBases (Part b bs) = HasShortBases b × HaveShortBases bs

-- a bound within the limits: at most 200 levels and 4,096 nodes, and bases below 2^64
pub record IsWithin (b : Bound) : Type 0 where
  pub levels : depth_of b ≤ depth_limit
  pub nodes : node_count b ≤ node_limit
  pub bases : HasShortBases b

-- the bytes are the text of a tidy bound within the limits
pub record IsTextWithin (names : List Name) (bytes : List ℕ) (b : Bound) : Type 0 where
  pub spells : IsText names bytes b
  pub within : IsWithin b

-- the numbers of a bound fit the types that hold them: bases are below 2^64, and nodes fewer than 2^127
pub record FitsTypes (b : Bound) : Type 0 where
  pub bases : HasShortBases b
  pub nodes : node_count b < 2 ^ 127

-- over variables whose names are names and all differ, a text denotes one bound at most, however deep and large
pub record OneBound : Type 0 where
  pub each : (names : List Name) → AreNames names → (bytes : List ℕ) (a b : Bound) → IsText names bytes a → FitsTypes a
      → IsText names bytes b → FitsTypes b → a ≡ b
