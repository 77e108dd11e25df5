-- The names among the tokens of a text are names.
use Rattle.std.proofs.Common.{◌≡◌, ℕ, zero, suc, ◌+◌, ◌-◌, Bool, true, false, cond, List, [], ◌∷◌, length, take, drop}
use Rattle.std.proofs.Common.{Option, Some, None, refl, ap, sym, subst, ◌∙◌, arith}
use Rattle.std.specs.Prelude.{◌==◌, nat_lt}
use Rattle.std.proofs.lemmas.Bool.{true≢false}
use Rattle.std.specs.Char.{is_ascii_digit}
use Rattle.text_core.proofs.PrefixLaws.{take-prefix, all_prefix}
use Rattle.text_grammar.specs.text_core.Names.{begins_name, continues_name, IsName}
use Rattle.text_grammar.specs.text_core.Bytes.{is_white_space, begins_with}
use Rattle.text_grammar.specs.text_core.Prefixes.{prefix}
use Rattle.text_grammar.specs.text_core.Tokens.{Token, Lexeme, pieces, tokens_in, token_then}
use Rattle.text_grammar.specs.declared.token_stream.OneMode.TheVariants.{Plain}
use Rattle.text_grammar.specs.Marks.{lexer_of}
use Rattle.while_text.specs.declared.piece.Piece.{Piece}
use Rattle.while_text.specs.declared.piece.Sort.{Sort}
use Rattle.while_text.specs.declared.piece.Sort.TheVariants as sorts
use Rattle.while_text.specs.Drafts.{bytes_of}
use Rattle.while_text.specs.Faults.{is_name}
use Rattle.while_text.specs.Lexing.{lexeme, lexeme_at, sort_at, pair_or, single_at, sign_at, name_at, number_at, piece_in, tokens}
use Rattle.while_text.proofs.SilentReading.{AllPieces}

-- The bytes of a token of a text that is a name are a name.
abbrev pub IsPieceOf : List ℕ → Piece → Type 0
IsPieceOf text p = p.sort ≡ sorts.Name → IsName (bytes_of text p)

-- Whether the sort at the beginning of bytes is that of a name.
abbrev names_one : Option Sort → Bool
names_one None = false
names_one (Some sort) = is_name sort

-- A choice between two sorts that are no names is no name.
no_name : (v : Bool) (a b : Sort) → is_name a ≡ false → is_name b ≡ false → is_name (cond v a b) ≡ false
no_name true a b h k = h
no_name false a b h k = k

no_lexeme : (v : Bool) (a b : Lexeme (Option Sort)) → names_one a.piece ≡ false → names_one b.piece ≡ false
    → names_one (cond v a b).piece ≡ false
no_lexeme true a b h k = h
no_lexeme false a b h k = k

-- A sign is no name.
single_none : (b : ℕ) → is_name (single_at b) ≡ false
single_none b =
    no_name (b == 63) _ _ refl (no_name (b == 59) _ _ refl (no_name (b == 44) _ _ refl (no_name (b == 40) _ _ refl (no_name (b == 41) _ _ refl (no_name (b == 123) _ _ refl (no_name (b == 125) _ _ refl (no_name (b == 43) _ _ refl (no_name (b == 45) _ _ refl (no_name (b == 42) _ _ refl (no_name (b == 94) _ _ refl (no_name (nat_lt 127 b) _ _ refl refl)))))))))))

pair_none : (second : ℕ) (two one : Sort) (bytes : List ℕ) → is_name two ≡ false → is_name one ≡ false
    → names_one (pair_or second two one bytes).piece ≡ false
pair_none second two one bytes h k = no_lexeme (begins_with second bytes) (lexeme two 2) (lexeme one 1) h k

sign_none : (b : ℕ) (bytes : List ℕ) → names_one (sign_at b bytes).piece ≡ false
sign_none b bytes =
    no_lexeme (b == 58) _ _ (pair_none 61 sorts.Becomes sorts.Wrong bytes refl refl)
    (no_lexeme (b == 38) _ _ (pair_none 38 sorts.Joint sorts.Wrong bytes refl refl)
    (no_lexeme (b == 47) _ _ (pair_none 92 sorts.Joint sorts.Wrong bytes refl refl)
    (no_lexeme (b == 62) _ _ (pair_none 61 sorts.AtLeast sorts.MoreThan bytes refl refl)
    (no_lexeme (b == 60) _ _ (pair_none 61 sorts.AtMost sorts.LessThan bytes refl refl)
    (no_lexeme (b == 61) _ _ (pair_none 61 sorts.Equal sorts.Equal bytes refl refl) (single_none b))))))

-- A token at the beginning of bytes that begins with a letter of names has the bytes of a name.
name_named : (b : ℕ) (bytes : List ℕ) → begins_name b ≡ true → IsName (take (name_at b bytes).len (b ∷ bytes))
name_named b bytes h = subst IsName (sym (ap (λ (xs : List ℕ). b ∷ xs) (take-prefix continues_name bytes)))
    (h, all_prefix continues_name bytes)

-- A name by its sort, at the beginning of bytes, has the bytes of a name; white space has no sort.
abbrev white : Lexeme (Option Sort)
white = record { piece = None; len = 1 }

sort_named : (b : ℕ) (bytes : List ℕ) → (sort_at b bytes).piece ≡ Some sorts.Name
    → IsName (take (sort_at b bytes).len (b ∷ bytes))
sort_named b bytes = go (is_white_space b) (begins_name b) (is_ascii_digit b) refl
  where
    chosen : Bool → Bool → Bool → Lexeme (Option Sort)
    chosen u v w = cond u white (cond v (name_at b bytes) (cond w (number_at b bytes) (sign_at b bytes)))

    go : (u v w : Bool) → begins_name b ≡ v → (chosen u v w).piece ≡ Some sorts.Name
        → IsName (take (chosen u v w).len (b ∷ bytes))
    go true v w k e = absurd (true≢false (sym (ap names_one e)))
    go false true w k e = name_named b bytes k
    go false false true k e = absurd (true≢false (sym (ap names_one e)))
    go false false false k e = absurd (true≢false (sym (ap names_one e) ∙ sign_none b bytes))

-- After one more byte is dropped, the rest is the rest without its first byte.
pub drop_next : (k : ℕ) (text rest : List ℕ) (b : ℕ) → b ∷ rest ≡ drop k text → rest ≡ drop (k + 1) text
drop_next zero [] rest b e = cc
drop_next zero (x ∷ text) rest b e = tails e
  where
    tails : b ∷ rest ≡ x ∷ text → rest ≡ text
    tails d = cc
drop_next (suc k) [] rest b e = cc
drop_next (suc k) (x ∷ text) rest b e =
    drop_next k text rest b e ∙ ap (λ (j : ℕ). drop j (x ∷ text)) (let q : suc (k + 1) ≡ suc k + 1 = omega arith in q)

module _ (text : List ℕ) where
  -- The token at a position of the text, if it is a name, has the bytes of a name.
  piece_named : (k b : ℕ) (rest : List ℕ) (sort : Sort) → b ∷ rest ≡ drop k text
      → k + length (b ∷ rest) ≡ length text → (sort_at b rest).piece ≡ Some sort → (p : Piece)
      → piece_in (length text) (b ∷ rest) (sort_at b rest) (Some sort) ≡ Some p → IsPieceOf text p
  piece_named k b rest sort e n h p q named =
      let s = some_piece q in
      subst IsName (sym (ap (λ (x : Piece). bytes_of text x) (sym s) ∙ place))
      (sort_named b rest (h ∙ ap Some (ap (λ (x : Piece). x.sort) s ∙ named)))
    where
      some_piece : {x : Piece} → Some x ≡ Some p → x ≡ p
      some_piece d = cc

      at : length text - length (b ∷ rest) ≡ k
      at = omega (arith, n)

      place : take (sort_at b rest).len (drop (length text - length (b ∷ rest)) text) ≡ take (sort_at b rest).len (b ∷ rest)
      place = ap (λ (j : ℕ). take (sort_at b rest).len (drop j text)) at
          ∙ ap (λ (xs : List ℕ). take (sort_at b rest).len xs) (sym e)

  all_named : (k skip : ℕ) (rest : List ℕ) → rest ≡ drop k text → k + length rest ≡ length text
      → AllPieces (IsPieceOf text) (pieces (tokens_in (lexer_of (lexeme_at (length text))) Plain k skip rest))
  all_named k skip [] e n = tt
  all_named k (suc skip) (b ∷ rest) e n =
      all_named (k + 1) skip rest (drop_next k text rest b e) (omega (arith, n))
  all_named k zero (b ∷ rest) e n =
      go (sort_at b rest).piece refl
      (all_named (k + 1) ((sort_at b rest).len - 1) rest (drop_next k text rest b e) (omega (arith, n)))
    where
      go : (o : Option Sort) → (sort_at b rest).piece ≡ o
          → AllPieces (IsPieceOf text) (pieces (tokens_in (lexer_of (lexeme_at (length text))) Plain (k + 1)
          ((sort_at b rest).len - 1) rest))
          → AllPieces (IsPieceOf text) (pieces (token_then k (sort_at b rest).len
          (piece_in (length text) (b ∷ rest) (sort_at b rest) o)
          (tokens_in (lexer_of (lexeme_at (length text))) Plain (k + 1) ((sort_at b rest).len - 1) rest)))
      go None h later = later
      go (Some sort) h later = (piece_named k b rest sort e n h _ refl, later)

  -- The names among the tokens of a text are names.
  pub tokens_named : AllPieces (IsPieceOf text) (pieces (tokens text))
  tokens_named = all_named 0 0 text refl (omega arith)
