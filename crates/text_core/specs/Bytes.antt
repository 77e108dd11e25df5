-- White space, and rows of digits.
use Rattle.std.specs.Prelude.{ℕ, min, Bool, false, ◌||◌, ◌&&◌, ◌==◌, nat_lt, List, [], ◌∷◌, length}
use Rattle.std.specs.Str.Parse.{digits_value}

-- white space: a space, a tab, a carriage return or a line feed
abbrev pub is_white_space : ℕ → Bool
is_white_space b = (b == 32) || (b == 9) || (b == 13) || (b == 10)

-- the bytes begin with this one
abbrev pub begins_with : ℕ → List ℕ → Bool
begins_with c [] = false
begins_with c (b ∷ bytes) = b == c

-- digits have a zero before another digit
abbrev pub has_leading_zero : List ℕ → Bool
has_leading_zero digits = begins_with 48 digits && nat_lt 1 (length digits)

-- the number that digits write, or the limit if that is greater
abbrev pub value_up_to : ℕ → List ℕ → ℕ
value_up_to limit digits = min (digits_value 10 digits) limit
