-- Numbers of at most 64 digits, and lines of such values, are separable from the text after them: no two are spelled
-- alike.
use Rattle.std.proofs.Common.{◌≡◌, ℕ, suc, ◌^◌, ◌<◌, true, false, List, [], ◌∷◌, ◌++◌, length, refl, ap, sym, subst}
use Rattle.std.proofs.Common.{◌∙◌, append_assoc, arith}
use Rattle.std.specs.Prelude.{ℤ, pos, negsuc, unsigned_abs, ⊤}
use Rattle.std.specs.Char.{is_ascii_digit}
use Rattle.std.specs.Fmt.{decimal, signed_decimal}
use Rattle.std.specs.Str.Parse.{AllDigits, digits_value}
use Rattle.std.proofs.lemmas.Fmt.{decimal_is_IsNumeral_wide}
use Rattle.text_grammar.specs.ByteTexts.{line_text, AreShort}
use Rattle.text_grammar.proofs.Numerals.{digit_range, is_digit}

-- bytes whose first isn't a digit, or no bytes
abbrev pub Ends : List ℕ → Type 0
Ends [] = ⊤
Ends (b ∷ bs) = is_ascii_digit b ≡ false

-- no byte is both a digit and not a digit
digit_ends : (b : ℕ) → is_ascii_digit b ≡ true → is_ascii_digit b ≡ false → ⊥
digit_ends b d e = cc

-- digits are separable from a text whose first byte isn't a digit
digits_apart : (cs bs xs ys : List ℕ) → AllDigits 10 cs → AllDigits 10 bs → Ends xs → Ends ys → cs ++ xs ≡ bs ++ ys
    → (cs ≡ bs) × (xs ≡ ys)
digits_apart [] [] xs ys all every h k e = (refl, e)
digits_apart [] (b ∷ bs) xs ys all every h k e =
    let r = digit_range b every.0 in absurd (digit_ends b (is_digit b r.0 r.1) (subst Ends e h))
digits_apart (a ∷ cs) [] xs ys all every h k e =
    let r = digit_range a all.0 in absurd (digit_ends a (is_digit a r.0 r.1) (subst Ends (sym e) k))
digits_apart (a ∷ cs) (b ∷ bs) xs ys all every h k e =
    let same : a ≡ b = cc in
    let rest : cs ++ xs ≡ bs ++ ys = cc in
    let w = digits_apart cs bs xs ys all.1 every.1 h k rest in
    (ap (λ (d : ℕ). d ∷ cs) same ∙ ap (λ (ds : List ℕ). b ∷ ds) w.0, w.1)

-- equal decimals of at most 64 digits denote the same number
digits_same : (m n : ℕ) → m < 10 ^ 64 → n < 10 ^ 64 → decimal m ≡ decimal n → m ≡ n
digits_same m n l k e =
    sym (decimal_is_IsNumeral_wide m l).1 ∙ ap (digits_value 10) e ∙ (decimal_is_IsNumeral_wide n k).1

-- if two decimals of at most 64 digits with the texts that end them are equal, the numbers are equal, and so are the
-- texts after them
pub decimal_apart : (m n : ℕ) (xs ys : List ℕ) → m < 10 ^ 64 → n < 10 ^ 64 → Ends xs → Ends ys
    → decimal m ++ xs ≡ decimal n ++ ys → (m ≡ n) × (xs ≡ ys)
decimal_apart m n xs ys l k h i e =
    let a = decimal_is_IsNumeral_wide m l in
    let b = decimal_is_IsNumeral_wide n k in
    let w = digits_apart (decimal m) (decimal n) xs ys a.0.1 b.0.1 h i e in
    (digits_same m n l k w.0, w.1)

-- no decimal begins with `-`
no_minus : (ds xs zs : List ℕ) → 0 < length ds → AllDigits 10 ds → ds ++ xs ≡ 45 ∷ zs → ⊥
no_minus [] xs zs l all e = omega (arith, l)
no_minus (d ∷ ds) xs zs l all e =
    let r = digit_range d all.0 in let same : d ≡ 45 = cc in let k = r.0 in omega (arith, k, same)

-- if two values with the texts that end them are equal, the values are equal, and so are the texts after them
pub value_apart : (v w : ℤ) (xs ys : List ℕ) → unsigned_abs v < 10 ^ 64 → unsigned_abs w < 10 ^ 64 → Ends xs → Ends ys
    → signed_decimal v ++ xs ≡ signed_decimal w ++ ys → (v ≡ w) × (xs ≡ ys)
value_apart (pos m) (pos n) xs ys l k h i e =
    let a = decimal_apart m n xs ys l k h i e in (ap (λ (c : ℕ). pos c) a.0, a.1)
value_apart (pos m) (negsuc n) xs ys l k h i e =
    let a = decimal_is_IsNumeral_wide m l in absurd (no_minus (decimal m) xs (decimal (suc n) ++ ys) a.0.0 a.0.1 e)
value_apart (negsuc m) (pos n) xs ys l k h i e =
    let a = decimal_is_IsNumeral_wide n k in absurd (no_minus (decimal n) ys (decimal (suc m) ++ xs) a.0.0 a.0.1 (sym e))
value_apart (negsuc m) (negsuc n) xs ys l k h i e =
    let rest : decimal (suc m) ++ xs ≡ decimal (suc n) ++ ys = cc in
    let a = decimal_apart (suc m) (suc n) xs ys l k h i rest in
    let same : m ≡ n = (let f = a.0 in omega (arith, f)) in
    (ap (λ (c : ℕ). negsuc c) same, a.1)

-- the first byte of a line of values isn't a digit
pub line_ends : (vs : List ℤ) (xs : List ℕ) → Ends (line_text vs ++ xs)
line_ends [] xs = refl
line_ends (v ∷ vs) xs = refl

-- lines of values are separable from the text after them
pub line_apart : (vs ws : List ℤ) (xs ys : List ℕ) → AreShort vs → AreShort ws
    → line_text vs ++ xs ≡ line_text ws ++ ys → (vs ≡ ws) × (xs ≡ ys)
line_apart [] [] xs ys l k e = let rest : xs ≡ ys = cc in (refl, rest)
line_apart [] (w ∷ ws) xs ys l k e = let same : ◌≡◌ {A = ℕ} 10 32 = cc in absurd (omega (arith, same))
line_apart (v ∷ vs) [] xs ys l k e = let same : ◌≡◌ {A = ℕ} 32 10 = cc in absurd (omega (arith, same))
line_apart (v ∷ vs) (w ∷ ws) xs ys l k e =
    let rest : (signed_decimal v ++ line_text vs) ++ xs ≡ (signed_decimal w ++ line_text ws) ++ ys = cc in
    let one =
    value_apart v w (line_text vs ++ xs) (line_text ws ++ ys) l.0 k.0 (line_ends vs xs) (line_ends ws ys)
    (sym (append_assoc (signed_decimal v) (line_text vs) xs) ∙ rest
    ∙ append_assoc (signed_decimal w) (line_text ws) ys) in
    let others = line_apart vs ws xs ys l.1 k.1 one.1 in
    (ap (λ (u : ℤ). u ∷ vs) one.0 ∙ ap (λ (us : List ℤ). w ∷ us) others.0, others.1)
