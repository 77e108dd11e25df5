-- The first line of a file of the third form.
use Rattle.std.specs.Prelude.{ℕ, suc, Bool, false, ◌&&◌, ◌==◌, not, if◌then◌else◌, List, [], ◌∷◌, codes, drop}
use Rattle.std.specs.Char.{is_ascii_digit}

-- the first line, with the line feed that ends it
abbrev pub first_line : List ℕ
first_line = codes "koat-proof 3\n"

-- the number of its bytes
abbrev pub first_line_len : ℕ
first_line_len = 13

-- how many first bytes two texts have in common
abbrev pub agreeing : List ℕ → List ℕ → ℕ
agreeing [] others = 0
agreeing (b ∷ bytes) [] = 0
agreeing (b ∷ bytes) (c ∷ others) = if b == c then suc (agreeing bytes others) else 0

-- whether a text begins with a digit
abbrev pub begins_with_digit : List ℕ → Bool
begins_with_digit [] = false
begins_with_digit (b ∷ bytes) = is_ascii_digit b

-- whether a file is one of the third form, whatever is behind the number of the form
abbrev pub begins_third_form : List ℕ → Bool
begins_third_form bytes =
    (agreeing bytes (codes "koat-proof 3") == 12) && not (begins_with_digit (drop 12 bytes))
