-- How the parts of a text follow each other. The text of a part is defined together with the rest that follows it.
use Rattle.std.specs.Prelude.{ℕ, zero, suc, ◌+◌, Bool, true, false, List, [], ◌∷◌, ◌++◌, map, ℤ, pos, negsuc, codes}
use Rattle.std.specs.Int.Digits.{digits_of}

-- the decimal numeral of a number, without leading zeros
abbrev pub numeral : ℕ → List ℕ
numeral zero = codes "0"
numeral (suc n) = map (λ d. 48 + d) (digits_of 10 (suc n))

-- an integer: a sign if it is negative, and its digits
abbrev pub integer_then : ℤ → List ℕ → List ℕ
integer_then (pos n) rest = numeral n ++ rest
integer_then (negsuc n) rest = codes "-" ++ (numeral (suc n) ++ rest)

-- a text, in brackets if the test is true
abbrev pub bracketed_then : Bool → (List ℕ → List ℕ) → List ℕ → List ℕ
bracketed_then true text rest = codes "(" ++ text (codes ")" ++ rest)
bracketed_then false text rest = text rest

module _ {X : Type 0} where
  -- the texts of the items, one after the other
  abbrev pub each_then : (X → List ℕ → List ℕ) → List X → List ℕ → List ℕ
  each_then text [] rest = rest
  each_then text (x ∷ xs) rest = text x (each_then text xs rest)

  -- the text of an item, with these bytes before it
  abbrev pub arrow_by : List ℕ → (X → List ℕ → List ℕ) → X → List ℕ → List ℕ
  arrow_by before text x rest = before ++ text x rest

  -- the texts of the items, with a separator between each two
  abbrev pub joined_then : List ℕ → (X → List ℕ → List ℕ) → List X → List ℕ → List ℕ
  joined_then separator text [] rest = rest
  joined_then separator text (x ∷ xs) rest = text x (each_then (arrow_by separator text) xs rest)
