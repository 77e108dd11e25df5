-- The bytes that a place of a symbol, or the first word, was cut from.
use Rattle.std.proofs.Common.{◌≡◌, ℕ, zero, suc, ◌-◌, ◌<◌, ◌^◌, Bool, true, false, cond, ◌&&◌, List, [], ◌∷◌}
use Rattle.std.proofs.Common.{◌++◌, length, length-append, take, drop, Option, Some, None, refl, ap, sym, ◌∙◌, arith}
use Rattle.std.proofs.Common.{inl, inr}
use Rattle.std.specs.Prelude.{◌==◌, ◌⊎◌, nat_le, not, codes}
use Rattle.std.specs.List.{list_all}
use Rattle.std.specs.Fmt.{decimal}
use Rattle.std.specs.Char.{is_ascii_digit}
use Rattle.std.specs.Str.Parse.{digits_value}
use Rattle.std.proofs.Math.Seq.{take-append_seam}
use Rattle.std.proofs.lemmas.Bool.{and_parts}
use Rattle.std.proofs.lemmas.Bool.Decides.{nat_tests}
use Rattle.its_model.specs.model.Programs.{Name as NameBytes}
use Rattle.bound_text.proofs.Numerals.{numeral_of}
use Rattle.text_grammar.specs.text_core.Names.{begins_name, continues_name, is_same}
use Rattle.text_grammar.specs.text_core.Prefixes.{prefix}
use Rattle.text_grammar.specs.text_core.Bytes.{has_leading_zero, value_up_to}
use Rattle.text_grammar.specs.text_core.Tokens.{Lexeme}
use Rattle.text_core.proofs.PrefixLaws.{drop-prefix, prefix-rest}
use Rattle.text_core.proofs.NameLaws.{same_equal}
use Rattle.cert_lexer.specs.declared.piece.Behind.TheVariants as behind
use Rattle.cert_lexer.specs.declared.piece.Mode.TheVariants as mode
use Rattle.cert_lexer.specs.declared.piece.Piece.{Piece}
use Rattle.cert_lexer.specs.declared.piece.Piece.TheVariants.{First, Place}
use Rattle.cert_lexer.specs.Lexing.{behind_dot, behind_last_dot, goes_on, is_first, lexeme, lexeme_in, place_in, place_lexeme}
use Rattle.cert_lexer.specs.Lexing.{plain_lexeme, symbol_of}
use Rattle.cert_lexer.proofs.CutBack.{plain_no_first, plain_no_place}

-- a run of bytes is the bytes before its last dot, the dot, and the bytes after it
before_dot : (o : Option (List ℕ)) (run after : List ℕ) → behind_last_dot o run ≡ Some after
    → ((front : List ℕ) × (run ≡ front ++ 46 ∷ after)) ⊎ (o ≡ Some after)
before_dot o [] after h = inr h
before_dot o (b ∷ run) after h =
    go (b == 46) refl (before_dot (cond (b == 46) (Some run) o) run after h)
  where
    go : (v : Bool) → (b == 46) ≡ v
        → (((front : List ℕ) × (run ≡ front ++ 46 ∷ after)) ⊎ (cond v (Some run) o ≡ Some after))
        → ((front : List ℕ) × (b ∷ run ≡ front ++ 46 ∷ after)) ⊎ (o ≡ Some after)
    go v e (inl (front, s)) = inl (b ∷ front, ap (λ (xs : List ℕ). b ∷ xs) s)
    go true e (inr s) =
        let same : run ≡ after = cc in
        let dot : b ≡ 46 = grind (arith, nat_tests) in
        inl ([], ap (λ (c : ℕ). c ∷ run) dot ∙ ap (λ (xs : List ℕ). 46 ∷ xs) same)
    go false e (inr s) = inr s

-- the run of bytes is the name of a symbol, a dot and a number
pub record IsPlaceText (symbols : List NameBytes) (symbol n : ℕ) (run : List ℕ) : Type 0 where
  pub front : List ℕ
  pub run_is : run ≡ front ++ 46 ∷ decimal n
  pub found : symbol_of symbols front ≡ symbol

-- digits that denote a number below 2^127 write that number
number_text : (after : List ℕ) (n : ℕ) → n < 2 ^ 127 → list_all is_ascii_digit after ≡ true
    → behind_dot after ≡ behind.Number n → decimal n ≡ after
number_text [] n small all h = cc
number_text (b ∷ bytes) n small all h = go (has_leading_zero (b ∷ bytes)) refl h
  where
    go : (v : Bool) → has_leading_zero (b ∷ bytes) ≡ v
        → cond v behind.LeadingZero (behind.Number (value_up_to (2 ^ 127) (b ∷ bytes))) ≡ behind.Number n
        → decimal n ≡ b ∷ bytes
    go true e h = cc
    go false e h =
        let t = and_parts (is_ascii_digit b) (list_all is_ascii_digit bytes) all in
        let m : value_up_to (2 ^ 127) (b ∷ bytes) ≡ n = cc in
        let same : digits_value 10 (b ∷ bytes) ≡ n = omega (arith, m, small) in
        let low : digits_value 10 (b ∷ bytes) < 10 ^ 64 = omega (arith, same, small) in
        ap decimal (sym same) ∙ numeral_of b bytes t.0 t.1 e low

-- a place with a number below 2^127 is written as its symbol's name, a dot and the number
pub place_written : (symbols : List NameBytes) (run : List ℕ) (symbol n : ℕ) → n < 2 ^ 127
    → place_in symbols run (behind_last_dot None run) ≡ Place symbol (behind.Number n) → IsPlaceText symbols symbol n run
place_written symbols run symbol n small h = go (behind_last_dot None run) refl h
  where
    go : (o : Option (List ℕ)) → behind_last_dot None run ≡ o → place_in symbols run o ≡ Place symbol (behind.Number n)
        → IsPlaceText symbols symbol n run
    go None e h = cc
    go (Some after) e h = digits (list_all is_ascii_digit after) refl h (before_dot None run after e)
      where
        digits : (v : Bool) → list_all is_ascii_digit after ≡ v
            → cond v (Place (symbol_of symbols (take (length run - length after - 1) run)) (behind_dot after))
            (Place (symbol_of symbols run) behind.NoNumber) ≡ Place symbol (behind.Number n)
            → (((front : List ℕ) × (run ≡ front ++ 46 ∷ after)) ⊎ (None ≡ Some after)) → IsPlaceText symbols symbol n run
        digits false f h w = cc
        digits true f h (inr w) = cc
        digits true f h (inl (front, s)) =
            let number : behind_dot after ≡ behind.Number n = cc in
            let found : symbol_of symbols (take (length run - length after - 1) run) ≡ symbol = cc in
            let long = ap length s in
            let both = length-append front (46 ∷ after) in
            let count : length run - length after - 1 ≡ length front = omega (arith, long, both) in
            let taken : take (length run - length after - 1) run ≡ front =
            ap (λ (k : ℕ). take k run) count ∙ ap (λ (xs : List ℕ). take (length front) xs) s
            ∙ take-append_seam front (46 ∷ after) in
            record {
              front = front;
              run_is = s ∙ ap (λ (xs : List ℕ). front ++ 46 ∷ xs) (sym (number_text after n small f number));
              found = ap (symbol_of symbols) (sym taken) ∙ found;
            }

-- a place is cut from the longest name that the bytes begin with
pub place_back : (symbols names : List NameBytes) (b : ℕ) (bytes : List ℕ) (symbol n some : ℕ) → n < 2 ^ 127
    → lexeme_in symbols names mode.InShut b bytes ≡ record { piece = Some (Place symbol (behind.Number n)); len = suc some }
    → IsPlaceText symbols symbol n (b ∷ prefix continues_name bytes)
    × (b ∷ bytes ≡ (b ∷ prefix continues_name bytes) ++ drop some bytes)
place_back symbols names b bytes symbol n some small h = go (begins_name b) h
  where
    go : (v : Bool) → cond v (place_lexeme symbols (b ∷ prefix continues_name bytes)) (plain_lexeme symbols b bytes)
        ≡ record { piece = Some (Place symbol (behind.Number n)); len = suc some }
        → IsPlaceText symbols symbol n (b ∷ prefix continues_name bytes)
        × (b ∷ bytes ≡ (b ∷ prefix continues_name bytes) ++ drop some bytes)
    go false e = absurd (plain_no_place symbols b bytes symbol (behind.Number n) some e)
    go true e =
        let p = ap (λ (k : Lexeme (Option Piece)). k.piece) e in
        let l = ap (λ (k : Lexeme (Option Piece)). k.len) e in
        let long : length (prefix continues_name bytes) ≡ some = omega (arith, l) in
        let is : place_in symbols (b ∷ prefix continues_name bytes) (behind_last_dot None (b ∷ prefix continues_name bytes))
        ≡ Place symbol (behind.Number n) = cc in (
          place_written symbols (b ∷ prefix continues_name bytes) symbol n small is,
          ap (λ (xs : List ℕ). b ∷ xs) (sym (prefix-rest continues_name bytes)
              ∙ ap (λ (xs : List ℕ). prefix continues_name bytes ++ xs) (sym (drop-prefix continues_name bytes)
              ∙ ap (λ (k : ℕ). drop k bytes) long)),
        )

-- a prefix of a list and the rest make the list
taken_and_rest : (n : ℕ) (bytes : List ℕ) → take n bytes ++ drop n bytes ≡ bytes
taken_and_rest zero bytes = refl
taken_and_rest (suc n) [] = refl
taken_and_rest (suc n) (b ∷ bytes) = ap (λ (bs : List ℕ). b ∷ bs) (taken_and_rest n bytes)

-- the first word is cut from its bytes
pub first_back : (symbols names : List NameBytes) (b : ℕ) (bytes : List ℕ) (some : ℕ)
    → lexeme_in symbols names mode.Beginning b bytes ≡ record { piece = Some First; len = suc some }
    → b ∷ bytes ≡ codes "koat-proof" ++ drop some bytes
first_back symbols names b bytes some h = go (is_first (b ∷ bytes)) refl h
  where
    go : (v : Bool) → is_first (b ∷ bytes) ≡ v
        → cond v (lexeme First 10) (plain_lexeme symbols b bytes) ≡ record { piece = Some First; len = suc some }
        → b ∷ bytes ≡ codes "koat-proof" ++ drop some bytes
    go false f e = absurd (plain_no_first symbols b bytes some e)
    go true f e =
        let l = ap (λ (k : Lexeme (Option Piece)). k.len) e in
        let nine : some ≡ 9 = omega (arith, l) in
        let t = and_parts (nat_le 10 (length (b ∷ bytes)) && is_same (take 10 (b ∷ bytes)) (codes "koat-proof"))
        (not (goes_on (drop 10 (b ∷ bytes)))) f in
        let u = and_parts (nat_le 10 (length (b ∷ bytes))) (is_same (take 10 (b ∷ bytes)) (codes "koat-proof")) t.0 in
        sym (taken_and_rest 10 (b ∷ bytes))
        ∙ ap (λ (xs : List ℕ). xs ++ drop 10 (b ∷ bytes)) (same_equal (take 10 (b ∷ bytes)) (codes "koat-proof") u.1)
        ∙ ap (λ (k : ℕ). codes "koat-proof" ++ drop k bytes) (sym nine)
