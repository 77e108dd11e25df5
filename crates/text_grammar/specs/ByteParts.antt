-- The values of texts in bytes: values, natural numbers, and those of the text's own nonterminals.
use Rattle.std.specs.Prelude.{◌≡◌, ℕ, zero, suc, ◌≤◌, ◌-◌, ℤ, List, [], ◌∷◌}
use Rattle.std.specs.Str.Parse.{AllDigits, digits_value_after}
use Rattle.text_grammar.specs.Grammars.{alternatives}
use Rattle.text_grammar.specs.Parts.{Part, Puts, AllMake}
use Rattle.text_grammar.specs.ByteTexts.{Numbered, Value, Natural, Signed, Line, says, values_parts, ByteText, only}
use Rattle.text_grammar.specs.ByteTexts.{fold_of, numbers_of, grammar_of}

-- digits
pub record Digits : Type 0 where
  pub bytes : List ℕ
  pub digits : AllDigits 10 bytes

-- digits without a leading zero
pub record Plain : Type 0 where
  pub first : ℕ
  pub others : List ℕ
  pub low : 48 ≤ first
  pub high : first ≤ 57
  pub digits : AllDigits 10 others
  pub lead : first ≡ 48 → others ≡ []

-- the digits of a number from 1 on, without a leading zero
pub record Positive : Type 0 where
  pub plain : Plain
  pub some : 49 ≤ plain.first

-- the number that digits without a leading zero write
abbrev pub number_of : Plain → ℕ
number_of v = digits_value_after 10 (v.first - 48) v.others

module _ (W : ℕ → Type 0) (own : (n : ℕ) → W n → List (Part ℕ Numbered)) where
  -- the values of the nonterminals: of the text; of numbers, lines of values and the rest of such a line, and signed
  -- numbers; and of the text's other nonterminals
  abbrev pub ValueOf : ℕ → Type 0
  ValueOf zero = W 0
  ValueOf (suc zero) = ℤ
  ValueOf (suc (suc zero)) = ℕ
  ValueOf (suc (suc (suc zero))) = Plain
  ValueOf (suc (suc (suc (suc zero)))) = Positive
  ValueOf (suc (suc (suc (suc (suc zero))))) = Digits
  ValueOf (suc (suc (suc (suc (suc (suc zero)))))) = List ℤ
  ValueOf (suc (suc (suc (suc (suc (suc (suc zero))))))) = List ℤ
  ValueOf (suc (suc (suc (suc (suc (suc (suc (suc zero)))))))) = ℤ
  ValueOf (suc (suc (suc (suc (suc (suc (suc (suc (suc n))))))))) = W (suc n)

  abbrev pub parts_of : (n : ℕ) → ValueOf n → List (Part ℕ Numbered)
  parts_of zero w = own 0 w
  parts_of (suc zero) z = Puts (Value z) ∷ []
  parts_of (suc (suc zero)) n = Puts (Natural n) ∷ []
  parts_of (suc (suc (suc zero))) v = says (v.first ∷ v.others) []
  parts_of (suc (suc (suc (suc zero)))) v = says (v.plain.first ∷ v.plain.others) []
  parts_of (suc (suc (suc (suc (suc zero))))) d = says d.bytes []
  parts_of (suc (suc (suc (suc (suc (suc zero)))))) vs = Puts (Line vs) ∷ []
  parts_of (suc (suc (suc (suc (suc (suc (suc zero))))))) vs = values_parts vs
  parts_of (suc (suc (suc (suc (suc (suc (suc (suc zero)))))))) z = Puts (Signed z) ∷ []
  parts_of (suc (suc (suc (suc (suc (suc (suc (suc (suc n))))))))) w = own (suc n) w

module _ {S T K : Type 0} (x : ByteText S T K) (W : ℕ → Type 0) (own : (n : ℕ) → W n → List (Part ℕ Numbered)) where
  -- the alternatives of the text's own nonterminals give values of these
  pub record OwnAreMade : Type 0 where
    pub text : AllMake (fold_of x) (numbers_of x) (grammar_of x) (only x.letters) (ValueOf W own) (parts_of W own) 0
        (alternatives x.rules 0)
    pub others : (n : ℕ) → AllMake (fold_of x) (numbers_of x) (grammar_of x) (only x.letters) (ValueOf W own)
        (parts_of W own) (suc (suc (suc (suc (suc (suc (suc (suc (suc n)))))))))
        (alternatives x.rules (suc (suc (suc (suc (suc (suc (suc (suc (suc n))))))))))
