-- The text of a linear program, and which linear programs have a text that is accepted.
use Rattle.std.specs.Prelude.{◌≡◌, ℕ, ◌≤◌, ℤ, pos, unsigned_abs, List, [], ◌∷◌, ◌++◌, codes, length, ⊤}
use Rattle.std.specs.Fmt.{decimal, signed_decimal}
use Rattle.lp_text.specs.Lps.{Row, Lp, number_limit, size_limit}

-- costs, each after a blank, up to the line feed
abbrev pub costs_text : List ℕ → List ℕ
costs_text [] = 10 ∷ []
costs_text (c ∷ cs) = 32 ∷ (decimal c ++ costs_text cs)

-- the numbers of a row, each followed by a blank, then `=`, the right side and the line feed
abbrev pub numbers_text : List ℤ → ℤ → List ℕ
numbers_text [] right = codes "= " ++ (signed_decimal right ++ 10 ∷ [])
numbers_text (z ∷ zs) right = signed_decimal z ++ 32 ∷ numbers_text zs right

-- rows, each on a line, and the last line
abbrev pub rows_text : List Row → List ℕ
rows_text [] = codes "end" ++ 10 ∷ []
rows_text (r ∷ rs) = codes "row " ++ (numbers_text r.numbers r.right ++ rows_text rs)

-- the text of a linear program
abbrev pub text_of : Lp → List ℕ
text_of p =
    codes "koat-lp 1"
    ++ 10
    ∷ (codes "cols "
    ++ (signed_decimal p.columns
    ++ 10 ∷ (codes "first" ++ (costs_text p.first ++ (codes "second" ++ (costs_text p.second ++ rows_text p.rows))))))

-- each cost is within the limit
abbrev pub AreCosts : List ℕ → Type 0
AreCosts [] = ⊤
AreCosts (c ∷ cs) = (c ≤ number_limit) × AreCosts cs

-- each number is within the limit in absolute value
abbrev pub AreNumbers : List ℤ → Type 0
AreNumbers [] = ⊤
AreNumbers (z ∷ zs) = (unsigned_abs z ≤ number_limit) × AreNumbers zs

-- a row has a number for each of n columns, and its numbers are within the limit
pub record IsRowOf (n : ℕ) (r : Row) : Type 0 where
  pub count : length r.numbers ≡ n
  pub numbers : AreNumbers r.numbers
  pub right : unsigned_abs r.right ≤ number_limit

-- each row has a number for each of n columns, and its numbers are within the limit
abbrev pub AreRowsOf : ℕ → List Row → Type 0
AreRowsOf n [] = ⊤
AreRowsOf n (r ∷ rs) = IsRowOf n r × AreRowsOf n rs

-- a linear program is within the limits: it has 1 to 64 columns, a first and a second cost and a number in each row for
-- each of them, at most 64 rows, and numbers of at most 2^31-1 in absolute value
pub record IsWithin (p : Lp) : Type 0 where
  pub columns : ℕ
  pub counted : p.columns ≡ pos columns
  pub some : 1 ≤ columns
  pub few : columns ≤ size_limit
  pub first : length p.first ≡ columns
  pub first_costs : AreCosts p.first
  pub second : length p.second ≡ columns
  pub second_costs : AreCosts p.second
  pub rows : AreRowsOf columns p.rows
  pub few_rows : length p.rows ≤ size_limit

-- the bytes are the text of a linear program within the limits
pub record IsTextWithin (bytes : List ℕ) (p : Lp) : Type 0 where
  pub text : text_of p ≡ bytes
  pub within : IsWithin p
