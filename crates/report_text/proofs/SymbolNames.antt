-- The places of symbols are determined by their texts: the symbols' names differ, and a place's number follows the last
-- dot.
use Rattle.std.proofs.Common.{◌≡◌, ℕ, zero, suc, ◌<◌, true, List, [], ◌∷◌, ◌++◌, length, map, get_or, drop, slice_get}
use Rattle.std.proofs.Common.{slice_index_or, codes, decimal, refl, sym, ◌∙◌, ap, subst, append_assoc, arith}
use Rattle.std.specs.List.{list_all, AllByRecursion}
use Rattle.std.specs.Char.{is_ascii_digit}
use Rattle.std.proofs.lemmas.Bool.{and_parts}
use Rattle.std.proofs.lemmas.Bool.Decides.{nat_tests}
use Rattle.std.proofs.lemmas.Fmt.{decimal_injective}
use Rattle.std.proofs.lemmas.List.{length-map}
use Rattle.std.proofs.lemmas.List.Folds.{list_all-append}
use Rattle.model.specs.Programs.{Name, Symbol}
use Rattle.its_model.specs.text_core.Names.{begins_name, continues_name, IsName, AreNames, AreDistinct, position_of}
use Rattle.its_model.proofs.text_core.PositionLaws.{listed_name, position_at}
use Rattle.its_model.specs.Valid.{IsValidSymbol}
use Rattle.cert_types.specs.cert_rules.Gaps.{SymbolPlace}
use Rattle.report_text.specs.Reasons.{name_in, shut_line}
use Rattle.report_text.specs.Printable.{IsPrintablePlace}
use Rattle.report_text.proofs.DistinguishedTexts.{Determines, Any, same_front, after_word}
use Rattle.report_text.proofs.Digits.{is_plain, all_weaker, all_digits, all_plain}

-- the names of symbols
abbrev pub names_of : List Symbol → List Name
names_of symbols = map (λ s. s.name) symbols

-- names in order without repetition are names of which each two differ
pub are_names : (names : List Name) → AllByRecursion IsName names → AreDistinct names → AreNames names
are_names [] are differ = tt
are_names (n ∷ names) are differ = (are.0, differ.0, are_names names are.1 differ.1)

-- valid symbols have names
pub valid_names : (symbols : List Symbol) → AllByRecursion IsValidSymbol symbols → AllByRecursion IsName (names_of symbols)
valid_names [] are = tt
valid_names (s ∷ symbols) are = (are.0.name, valid_names symbols are.1)

-- no byte of a name is a line feed
byte_plain : (c : ℕ) → continues_name c ≡ true → is_plain c ≡ true
byte_plain c h = grind (arith, nat_tests)

-- the first byte of a name is no line feed
first_plain : (c : ℕ) → begins_name c ≡ true → is_plain c ≡ true
first_plain c h = byte_plain c (rw h refl)

-- a name contains no line end
pub name_plain : (w : Name) → IsName w → list_all is_plain w ≡ true
name_plain [] is = absurd is
name_plain (c ∷ w) is = rw (first_plain c is.0, all_weaker continues_name is_plain byte_plain w is.1) refl

-- two plain texts are plain together
pub both_plain : (xs ys : List ℕ) → list_all is_plain xs ≡ true → list_all is_plain ys ≡ true → list_all is_plain (xs ++ ys) ≡ true
both_plain xs ys p q = list_all-append is_plain xs ys ∙ rw (p, q) refl

-- digits have no dot
no_dot : (xs ys : List ℕ) → list_all is_ascii_digit (xs ++ 46 ∷ ys) ≡ true → ⊥
no_dot [] ys h = cc
no_dot (c ∷ xs) ys h = no_dot xs ys (and_parts (is_ascii_digit c) (list_all is_ascii_digit (xs ++ 46 ∷ ys)) h).1

-- the position of the last dot is unique
last_dot : (xs ys ds es : List ℕ) → list_all is_ascii_digit ds ≡ true → list_all is_ascii_digit es ≡ true → xs ++ 46 ∷ ds ≡ ys ++ 46 ∷ es → (xs ≡ ys) × (ds ≡ es)
last_dot [] [] ds es p q e = (refl, ap (drop 1) e)
last_dot [] (c ∷ ys) ds es p q e = absurd (no_dot ys es (subst (λ (w : List ℕ). list_all is_ascii_digit w ≡ true) (ap (drop 1) e) p))
last_dot (c ∷ xs) [] ds es p q e = absurd (no_dot xs ds (subst (λ (w : List ℕ). list_all is_ascii_digit w ≡ true) (sym (ap (drop 1) e)) q))
last_dot (c ∷ xs) (d ∷ ys) ds es p q e =
    let r = last_dot xs ys ds es p q (ap (drop 1) e) in
    (λ i. ap (λ (w : List ℕ). get_or w 0 0) e i ∷ r.0 i, r.1)

-- the name of a symbol is the listed one
name_same : (symbols : List Symbol) (i : ℕ) → name_in (slice_get symbols i) ≡ slice_index_or (names_of symbols) i []
name_same [] zero = refl
name_same [] (suc i) = refl
name_same (s ∷ symbols) zero = refl
name_same (s ∷ symbols) (suc i) = name_same symbols i

module _ (symbols : List Symbol) (are : AreNames (names_of symbols)) where
  -- the name of the symbol
  abbrev name : SymbolPlace → List ℕ
  name s = name_in (slice_get symbols s.symbol)

  -- the text in the line of a shut place
  abbrev body : SymbolPlace → List ℕ
  body s = name s ++ 46 ∷ decimal s.place

  -- the symbol of the place has a name
  listed : (s : SymbolPlace) → IsPrintablePlace (length symbols) s → s.symbol < length (names_of symbols)
  listed s p = let few = p.symbol in let same = length-map symbols (λ (x : Symbol). x.name) in omega (arith, few, same)

  -- the name and the number are within one line
  body_plain : (s : SymbolPlace) → IsPrintablePlace (length symbols) s → list_all is_plain (body s) ≡ true
  body_plain s p =
      both_plain (name s) (46 ∷ decimal s.place)
      (ap (list_all is_plain) (name_same symbols s.symbol) ∙ name_plain (slice_index_or (names_of symbols) s.symbol []) (listed_name (names_of symbols) s.symbol are (listed s p)))
      (all_plain s.place)

  -- the line of a shut place has this text
  line_body : (s : SymbolPlace) → shut_line symbols s ≡ codes "  shut " ++ (body s ++ codes "\n")
  line_body s = ap (λ (w : List ℕ). codes "  shut " ++ w) (sym (append_assoc (name s) (46 ∷ decimal s.place) (codes "\n")))

  -- places with one name have one symbol
  symbol_same : (x y : SymbolPlace) → IsPrintablePlace (length symbols) x → IsPrintablePlace (length symbols) y → name x ≡ name y → x.symbol ≡ y.symbol
  symbol_same x y p q e =
      sym (position_at (names_of symbols) x.symbol are (listed x p))
      ∙ (ap (λ (w : Name). position_of w (names_of symbols)) (sym (name_same symbols x.symbol) ∙ (e ∙ name_same symbols y.symbol))
      ∙ position_at (names_of symbols) y.symbol are (listed y q))

  -- a shut place is determined by its line
  pub shut_determined : Determines (IsPrintablePlace (length symbols)) (shut_line symbols) Any
  shut_determined = record {
    each = λ x y u v p q s t e.
        let lines : (body x ++ codes "\n") ++ u ≡ (body y ++ codes "\n") ++ v =
        after_word (codes "  shut ") (body x ++ codes "\n") (body y ++ codes "\n") u v
        (ap (λ (w : List ℕ). w ++ u) (sym (line_body x)) ∙ (e ∙ ap (λ (w : List ℕ). w ++ v) (line_body y))) in
        let r = same_front is_plain (body x) (body y) (codes "\n" ++ u) (codes "\n" ++ v) (body_plain x p) (body_plain y q) refl refl
        (sym (append_assoc (body x) (codes "\n") u) ∙ (lines ∙ append_assoc (body y) (codes "\n") v)) in
        let l = last_dot (name x) (name y) (decimal x.place) (decimal y.place) (all_digits x.place) (all_digits y.place) r.0 in
        let a = symbol_same x y p q l.0 in
        let b = decimal_injective x.place y.place p.place q.place l.1 in
        (λ i. record { symbol = a i; place = b i }, ap (drop 1) r.1);
  }
