-- Numbers that are written as words.
use Rattle.std.specs.Prelude.{◌≡◌, ◌≢◌, ℕ, ◌≤◌, false, [], IsTrue}
use Rattle.std.specs.List.{list_all}
use Rattle.std.specs.Char.{is_ascii_digit}
use Rattle.std.specs.Str.Parse.{digits_value}
use Rattle.text_core.specs.Bytes.{has_leading_zero}
use Rattle.command_line.specs.Lines.{Word}

-- the word is the decimal numeral of the number: one digit or more, no zero before another digit; and the number is at
-- most the limit
pub record IsNumber (limit : ℕ) (word : Word) (n : ℕ) : Type 0 where
  pub some : word ≢ []
  pub digits : IsTrue (list_all is_ascii_digit word)
  pub plain : has_leading_zero word ≡ false
  pub value : digits_value 10 word ≡ n
  pub in_range : n ≤ limit
