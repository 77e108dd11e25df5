-- Properties of the tokens of a text: a number is the one that its digits write, and each token has the right follower.
use Rattle.std.proofs.Common.{◌≡◌, ℕ, zero, suc, ◌+◌, ◌-◌, ◌<◌, Bool, true, false, cond, ◌||◌, List, [], ◌∷◌, ◌++◌}
use Rattle.std.proofs.Common.{length, take, drop, Option, Some, None, refl, ap, sym, subst, ◌∙◌, arith}
use Rattle.std.specs.Prelude.{◌==◌, nat_lt, codes, IsTrue, ⊤}
use Rattle.std.specs.List.{list_all}
use Rattle.std.specs.Char.{is_ascii_digit}
use Rattle.std.proofs.lemmas.Bool.{eqb-true}
use Rattle.text_core.proofs.PrefixLaws.{take-prefix, all_prefix}
use Rattle.text_grammar.specs.text_core.Names.{begins_name, continues_name, is_same}
use Rattle.text_grammar.specs.text_core.Bytes.{is_white_space, begins_with, value_up_to}
use Rattle.text_grammar.specs.text_core.Prefixes.{prefix}
use Rattle.text_grammar.specs.text_core.Tokens.{Token, Lexeme, pieces, tokens_in, token_then}
use Rattle.text_grammar.specs.declared.token_stream.OneMode.TheVariants.{Plain}
use Rattle.text_grammar.specs.Marks.{lexer_of}
use Rattle.while_text.specs.model.Limits.{coefficient_limit}
use Rattle.while_text.specs.declared.piece.Piece.{Piece}
use Rattle.while_text.specs.declared.piece.Sort.{Sort}
use Rattle.while_text.specs.declared.piece.Sort.TheVariants as sorts
use Rattle.while_text.specs.declared.piece.Follower.{Follower}
use Rattle.while_text.specs.declared.piece.Follower.TheVariants as followers
use Rattle.while_text.specs.Drafts.{bytes_of}
use Rattle.while_text.specs.Lexing.{lexeme, lexeme_at, sort_at, word_sort, pair_or, single_at, sign_at, name_at}
use Rattle.while_text.specs.Lexing.{number_at, piece_in, follower_in, follower_of, tokens}
use Rattle.while_text.specs.Within.{sort_fits}
use Rattle.while_text.proofs.PieceNames.{drop_next}
use Rattle.while_laws.specs.Values.{follower_by}

-- The number of a token is the one that its digits write, up to the limit on coefficients.
abbrev pub IsCounted : Sort → List ℕ → Type 0
IsCounted (sorts.Number n) bytes =
    (n ≡ value_up_to (coefficient_limit + 1) bytes) × IsTrue (list_all is_ascii_digit bytes)
IsCounted _ bytes = ⊤

-- All numbers of the tokens are those that their digits write, and each token has the right follower.
abbrev pub IsChain : List ℕ → List Piece → Type 0
IsChain text [] = ⊤
IsChain text (p ∷ []) = IsCounted p.sort (bytes_of text p)
IsChain text (p ∷ q ∷ ps) =
    IsCounted p.sort (bytes_of text p) × (p.follower ≡ follower_by q.sort) × IsChain text (q ∷ ps)

-- The tail of a chain is a chain.
pub chain_tail : (text : List ℕ) (p : Piece) (ps : List Piece) → IsChain text (p ∷ ps) → IsChain text ps
chain_tail text p [] h = tt
chain_tail text p (q ∷ ps) h = h.2

pub chain_behind : (text : List ℕ) (before ps : List Piece) → IsChain text (before ++ ps) → IsChain text ps
chain_behind text [] ps h = h
chain_behind text (p ∷ before) ps h = chain_behind text before ps (chain_tail text p (before ++ ps) h)

-- A predicate that holds of two values holds of a choice between them.
choose : {X : Type 0} (P : X → Type 0) (v : Bool) (a b : X) → P a → P b → P (cond v a b)
choose P true a b h k = h
choose P false a b h k = k

-- The predicate holds of the sort of a lexeme, if it is a token.
abbrev SortedIn : (Sort → Type 0) → Option Sort → Type 0
SortedIn P None = ⊤
SortedIn P (Some sort) = P sort

abbrev Sorted : (Sort → Type 0) → Lexeme (Option Sort) → Type 0
Sorted P l = SortedIn P l.piece

-- The byte is no operator.
record IsNoOperator (b : ℕ) : Type 0 where
  pub plus : (b == 43) ≡ false
  pub minus : (b == 45) ≡ false
  pub times : (b == 42) ≡ false
  pub caret : (b == 94) ≡ false

-- A predicate that holds of keywords and of names holds of each word.
word_has : (P : Sort → Type 0) (name : List ℕ) → P sorts.Input → P sorts.Skip → P sorts.While → P sorts.If
    → P sorts.Else → P sorts.Truth → P sorts.Name → P (word_sort name)
word_has P name input skip loop branch other truth word =
    choose P (is_same name (codes "input")) _ _ input (choose P (is_same name (codes "skip")) _ _ skip
    (choose P (is_same name (codes "while")) _ _ loop (choose P (is_same name (codes "if")) _ _ branch
    (choose P (is_same name (codes "else")) _ _ other
    (choose P (is_same name (codes "TRUE") || is_same name (codes "true")) _ _ truth word)))))

-- A word, and any token but an operator, continues no expression.
abbrev IsPlain : Sort → Type 0
IsPlain sort = follower_by sort ≡ followers.Other

word_plain : (name : List ℕ) → IsPlain (word_sort name)
word_plain name = word_has IsPlain name refl refl refl refl refl refl refl

single_plain : (b : ℕ) → IsNoOperator b → IsPlain (single_at b)
single_plain b h =
    choose IsPlain (b == 63) _ _ refl (choose IsPlain (b == 59) _ _ refl (choose IsPlain (b == 44) _ _ refl
    (choose IsPlain (b == 40) _ _ refl (choose IsPlain (b == 41) _ _ refl (choose IsPlain (b == 123) _ _ refl
    (choose IsPlain (b == 125) _ _ refl (rw (h.plus, h.minus, h.times, h.caret)
    (choose IsPlain (nat_lt 127 b) _ _ refl refl))))))))

-- A predicate that holds of the signs of two bytes and of the lexeme of each other byte holds of each sign.
sign_has : (P : Sort → Type 0) (b : ℕ) (bytes : List ℕ) → P sorts.Becomes → P sorts.Wrong → P sorts.Joint
    → P sorts.AtLeast → P sorts.MoreThan → P sorts.AtMost → P sorts.LessThan → P sorts.Equal → P (single_at b)
    → Sorted P (sign_at b bytes)
sign_has P b bytes becomes wrong joint at_least more_than at_most less_than equal single =
    choose (Sorted P) (b == 58) _ _ (pair 61 sorts.Becomes sorts.Wrong becomes wrong)
    (choose (Sorted P) (b == 38) _ _ (pair 38 sorts.Joint sorts.Wrong joint wrong)
    (choose (Sorted P) (b == 47) _ _ (pair 92 sorts.Joint sorts.Wrong joint wrong)
    (choose (Sorted P) (b == 62) _ _ (pair 61 sorts.AtLeast sorts.MoreThan at_least more_than)
    (choose (Sorted P) (b == 60) _ _ (pair 61 sorts.AtMost sorts.LessThan at_most less_than)
    (choose (Sorted P) (b == 61) _ _ (pair 61 sorts.Equal sorts.Equal equal equal) single)))))
  where
    pair : (second : ℕ) (two one : Sort) → P two → P one → Sorted P (pair_or second two one bytes)
    pair second two one h k = choose (Sorted P) (begins_with second bytes) (lexeme two 2) (lexeme one 1) h k

abbrev white : Lexeme (Option Sort)
white = record { piece = None; len = 1 }

sort_plain : (b : ℕ) (bytes : List ℕ) → IsNoOperator b → Sorted IsPlain (sort_at b bytes)
sort_plain b bytes h =
    choose (Sorted IsPlain) (is_white_space b) white _ tt
    (choose (Sorted IsPlain) (begins_name b) (name_at b bytes) _ (word_plain (b ∷ prefix continues_name bytes))
    (choose (Sorted IsPlain) (is_ascii_digit b) (number_at b bytes) (sign_at b bytes) refl
    (sign_has IsPlain b bytes refl refl refl refl refl refl refl refl (single_plain b h))))

-- How a token that begins with this byte continues an expression.
abbrev Continues : ℕ → Sort → Type 0
Continues b sort = follower_in b ≡ follower_by sort

continues : (b : ℕ) (bytes : List ℕ) → Sorted (Continues b) (sort_at b bytes)
continues b bytes = go (b == 43) (b == 45) (b == 42) (b == 94) refl refl refl refl
  where
    at : (c : ℕ) → (b == c) ≡ true → Sorted (Continues c) (sort_at c bytes) → Sorted (Continues b) (sort_at b bytes)
    at c e h = subst (λ (x : ℕ). Sorted (Continues x) (sort_at x bytes)) (sym (eqb-true b c e)) h

    other : (o : Option Sort) → follower_in b ≡ followers.Other → SortedIn IsPlain o → SortedIn (Continues b) o
    other None e h = tt
    other (Some sort) e h = e ∙ sym h

    go : (u v w x : Bool) → (b == 43) ≡ u → (b == 45) ≡ v → (b == 42) ≡ w → (b == 94) ≡ x
        → Sorted (Continues b) (sort_at b bytes)
    go true v w x p q r s = at 43 p refl
    go false true w x p q r s = at 45 q refl
    go false false true x p q r s = at 42 r refl
    go false false false true p q r s = at 94 s refl
    go false false false false p q r s =
        other (sort_at b bytes).piece (rw (p, q, r, s) refl)
        (sort_plain b bytes (record { plus = p; minus = q; times = r; caret = s }))

-- A lexeme that is no white space is a token.
abbrev IsThere : Lexeme (Option Sort) → Type 0
IsThere l = (sort : Sort) × (l.piece ≡ Some sort)

sign_there : (b : ℕ) (bytes : List ℕ) → IsThere (sign_at b bytes)
sign_there b bytes =
    choose IsThere (b == 58) _ _ (pair 61 sorts.Becomes sorts.Wrong)
    (choose IsThere (b == 38) _ _ (pair 38 sorts.Joint sorts.Wrong)
    (choose IsThere (b == 47) _ _ (pair 92 sorts.Joint sorts.Wrong)
    (choose IsThere (b == 62) _ _ (pair 61 sorts.AtLeast sorts.MoreThan)
    (choose IsThere (b == 60) _ _ (pair 61 sorts.AtMost sorts.LessThan)
    (choose IsThere (b == 61) _ _ (pair 61 sorts.Equal sorts.Equal) (single_at b, refl))))))
  where
    pair : (second : ℕ) (two one : Sort) → IsThere (pair_or second two one bytes)
    pair second two one = choose IsThere (begins_with second bytes) (lexeme two 2) (lexeme one 1) (two, refl) (one, refl)

sort_there : (b : ℕ) (bytes : List ℕ) → is_white_space b ≡ false → IsThere (sort_at b bytes)
sort_there b bytes h =
    subst (λ (v : Bool). IsThere (cond v white
    (cond (begins_name b) (name_at b bytes) (cond (is_ascii_digit b) (number_at b bytes) (sign_at b bytes))))) (sym h)
    (choose IsThere (begins_name b) (name_at b bytes) _ (word_sort (b ∷ prefix continues_name bytes), refl)
    (choose IsThere (is_ascii_digit b) (number_at b bytes) (sign_at b bytes)
    (sorts.Number (value_up_to (coefficient_limit + 1) (b ∷ prefix is_ascii_digit bytes)), refl) (sign_there b bytes)))

-- The number at the beginning of bytes is the one that its digits write.
number_counted : (b : ℕ) (bytes : List ℕ) → is_ascii_digit b ≡ true
    → IsCounted (sorts.Number (value_up_to (coefficient_limit + 1) (b ∷ prefix is_ascii_digit bytes)))
    (take (number_at b bytes).len (b ∷ bytes))
number_counted b bytes d =
    subst (IsCounted (sorts.Number (value_up_to (coefficient_limit + 1) (b ∷ prefix is_ascii_digit bytes))))
    (sym (ap (λ (xs : List ℕ). b ∷ xs) (take-prefix is_ascii_digit bytes)))
    (refl, rw d (all_prefix is_ascii_digit bytes))

-- The sort is no number.
abbrev IsFree : Sort → Type 0
IsFree sort = (bytes : List ℕ) → IsCounted sort bytes

word_free : (name : List ℕ) → IsFree (word_sort name)
word_free name =
    word_has IsFree name (λ xs. tt) (λ xs. tt) (λ xs. tt) (λ xs. tt) (λ xs. tt) (λ xs. tt) (λ xs. tt)

single_free : (b : ℕ) → IsFree (single_at b)
single_free b =
    choose IsFree (b == 63) _ _ (λ xs. tt) (choose IsFree (b == 59) _ _ (λ xs. tt)
    (choose IsFree (b == 44) _ _ (λ xs. tt) (choose IsFree (b == 40) _ _ (λ xs. tt)
    (choose IsFree (b == 41) _ _ (λ xs. tt) (choose IsFree (b == 123) _ _ (λ xs. tt)
    (choose IsFree (b == 125) _ _ (λ xs. tt) (choose IsFree (b == 43) _ _ (λ xs. tt)
    (choose IsFree (b == 45) _ _ (λ xs. tt) (choose IsFree (b == 42) _ _ (λ xs. tt)
    (choose IsFree (b == 94) _ _ (λ xs. tt)
    (choose IsFree (nat_lt 127 b) _ _ (λ xs. tt) (λ xs. tt))))))))))))

sort_counted : (b : ℕ) (bytes : List ℕ) (sort : Sort) → (sort_at b bytes).piece ≡ Some sort
    → IsCounted sort (take (sort_at b bytes).len (b ∷ bytes))
sort_counted b bytes sort = go (is_white_space b) (begins_name b) (is_ascii_digit b) refl
  where
    chosen : Bool → Bool → Bool → Lexeme (Option Sort)
    chosen u v w = cond u white (cond v (name_at b bytes) (cond w (number_at b bytes) (sign_at b bytes)))

    free : (o : Option Sort) (len : ℕ) → SortedIn IsFree o → o ≡ Some sort → IsCounted sort (take len (b ∷ bytes))
    free None len h e = cc
    free (Some s) len h e = subst (λ (x : Sort). IsCounted x (take len (b ∷ bytes))) (same e) (h (take len (b ∷ bytes)))
      where
        same : Some s ≡ Some sort → s ≡ sort
        same d = cc

    number : {s : Sort} → Some s ≡ Some sort → s ≡ sort
    number d = cc

    go : (u v w : Bool) → is_ascii_digit b ≡ w → (chosen u v w).piece ≡ Some sort
        → IsCounted sort (take (chosen u v w).len (b ∷ bytes))
    go true v w k e = free None 1 tt e
    go false true w k e =
        free (name_at b bytes).piece (name_at b bytes).len (word_free (b ∷ prefix continues_name bytes)) e
    go false false true k e =
        subst (λ (x : Sort). IsCounted x (take (number_at b bytes).len (b ∷ bytes))) (number e)
        (number_counted b bytes k)
    go false false false k e =
        free (sign_at b bytes).piece (sign_at b bytes).len
        (sign_has IsFree b bytes (λ xs. tt) (λ xs. tt) (λ xs. tt) (λ xs. tt) (λ xs. tt) (λ xs. tt) (λ xs. tt) (λ xs. tt)
        (single_free b)) e

-- Dropping the first byte and then n - 1 more drops n bytes.
drop_behind : (n b : ℕ) (bytes : List ℕ) → 0 < n → drop n (b ∷ bytes) ≡ drop (n - 1) bytes
drop_behind zero b bytes h = absurd (omega (arith, h))
drop_behind (suc n) b bytes h = ap (λ (k : ℕ). drop k bytes) (let e : n ≡ suc n - 1 = omega arith in e)

-- The first token of the rest has this follower.
abbrev FirstIs : Follower → List (Token Piece) → Type 0
FirstIs f [] = ⊤
FirstIs f (t ∷ ts) = f ≡ follower_by t.piece.sort

module _ (text : List ℕ) where
  -- The tokens of the rest of the text.
  abbrev left : ℕ → ℕ → List ℕ → List (Token Piece)
  left k skip rest = tokens_in (lexer_of (lexeme_at (length text))) Plain k skip rest

  first_is : (k skip : ℕ) (rest : List ℕ) → FirstIs (follower_of (drop skip rest)) (left k skip rest)
  first_is k skip [] = tt
  first_is k (suc skip) (b ∷ rest) = first_is (k + 1) skip rest
  first_is k zero (b ∷ rest) = go (is_white_space b) refl (first_is (k + 1) 0 rest)
    where
      token : Option Sort → List (Token Piece)
      token o = token_then k (sort_at b rest).len (piece_in (length text) (b ∷ rest) (sort_at b rest) o)
          (left (k + 1) ((sort_at b rest).len - 1) rest)

      there : IsThere (sort_at b rest) → FirstIs (follower_in b) (token (sort_at b rest).piece)
      there (sort, e) =
          subst (λ (o : Option Sort). FirstIs (follower_in b) (token o)) (sym e)
          (subst (λ (o : Option Sort). SortedIn (Continues b) o) e (continues b rest))

      blank : (v : Bool) → is_white_space b ≡ v → v ≡ true → sort_at b rest ≡ white
      blank v e f = ap (λ (u : Bool). cond u white
          (cond (begins_name b) (name_at b rest) (cond (is_ascii_digit b) (number_at b rest) (sign_at b rest)))) (e ∙ f)

      go : (v : Bool) → is_white_space b ≡ v → FirstIs (follower_of rest) (left (k + 1) 0 rest)
          → FirstIs (cond v (follower_of rest) (follower_in b)) (token (sort_at b rest).piece)
      go true w later =
          subst (λ (l : Lexeme (Option Sort)). FirstIs (follower_of rest)
          (token_then k l.len (piece_in (length text) (b ∷ rest) l l.piece) (left (k + 1) (l.len - 1) rest)))
          (sym (blank true w refl)) later
      go false w later = there (sort_there b rest w)

  -- The number of each token is the one that its digits write.
  piece_counted : (k b : ℕ) (rest : List ℕ) (sort : Sort) → b ∷ rest ≡ drop k text
      → k + length (b ∷ rest) ≡ length text → (sort_at b rest).piece ≡ Some sort
      → IsCounted sort (take (sort_at b rest).len (drop (length text - length (b ∷ rest)) text))
  piece_counted k b rest sort e n h = subst (IsCounted sort) (sym place) (sort_counted b rest sort h)
    where
      at : length text - length (b ∷ rest) ≡ k
      at = omega (arith, n)

      place : take (sort_at b rest).len (drop (length text - length (b ∷ rest)) text) ≡ take (sort_at b rest).len (b ∷ rest)
      place = ap (λ (j : ℕ). take (sort_at b rest).len (drop j text)) at
          ∙ ap (λ (xs : List ℕ). take (sort_at b rest).len xs) (sym e)

  -- A token with the right follower, before a chain, forms a chain.
  chain_then : (p : Piece) (ts : List (Token Piece)) → IsCounted p.sort (bytes_of text p) → FirstIs p.follower ts
      → IsChain text (pieces ts) → IsChain text (p ∷ pieces ts)
  chain_then p [] c f h = c
  chain_then p (t ∷ ts) c f h = (c, f, h)

  all_chained : (k skip : ℕ) (rest : List ℕ) → rest ≡ drop k text → k + length rest ≡ length text
      → IsChain text (pieces (left k skip rest))
  all_chained k skip [] e n = tt
  all_chained k (suc skip) (b ∷ rest) e n =
      all_chained (k + 1) skip rest (drop_next k text rest b e) (omega (arith, n))
  all_chained k zero (b ∷ rest) e n =
      go (sort_at b rest).piece refl
      (all_chained (k + 1) ((sort_at b rest).len - 1) rest (drop_next k text rest b e) (omega (arith, n)))
    where
      more : List (Token Piece)
      more = left (k + 1) ((sort_at b rest).len - 1) rest

      knows : FirstIs (follower_of (drop (sort_at b rest).len (b ∷ rest))) more
      knows = subst (λ (xs : List ℕ). FirstIs (follower_of xs) more)
          (sym (drop_behind (sort_at b rest).len b rest (sort_fits b rest).0))
          (first_is (k + 1) ((sort_at b rest).len - 1) rest)

      go : (o : Option Sort) → (sort_at b rest).piece ≡ o → IsChain text (pieces more)
          → IsChain text (pieces (token_then k (sort_at b rest).len
          (piece_in (length text) (b ∷ rest) (sort_at b rest) o) more))
      go None h later = later
      go (Some sort) h later = chain_then _ more (piece_counted k b rest sort e n h) knows later

  -- The tokens of a text form a chain.
  pub tokens_chained : IsChain text (pieces (tokens text))
  tokens_chained = all_chained 0 0 text refl (omega arith)
