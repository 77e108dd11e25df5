-- The first token of a text, and the tokens after it.
use Rattle.std.proofs.Common.{◌≡◌, ℕ, zero, suc, ◌+◌, ◌-◌, ◌≤◌, ◌<◌, Bool, true, false, List, [], ◌∷◌, length, take}
use Rattle.std.proofs.Common.{drop, Option, Some, None, refl, ap, sym, ◌∙◌, arith, length-drop}
use Rattle.std.specs.Prelude.{codes, if◌then◌else◌}
use Rattle.text_core.specs.Names.{is_same}
use Rattle.text_core.specs.Tokens.{Lexeme, token_then, tokens_in}
use Rattle.text_core.proofs.Lexing.{tokens_in-first}
use Rattle.its_text.specs.expr_text.Pieces as inner
use Rattle.its_text.specs.Pieces.{Piece, In}
use Rattle.its_text.specs.Lexing.{Mode, Outside, AtKeyword, Within, InComment, behind_keyword, mode_behind, lexeme_in}
use Rattle.its_text.specs.Lexing.{lexer, closing_at, closing_by, bracket_sort_of, BracketSort, Opening, Closing}
use Rattle.its_text.specs.Lexing.{Neither, one_more}
use Rattle.its_text.proofs.LexingLaws.{lexes_within}
use Rattle.its_reader.specs.declared.mode.Mode as code
use Rattle.its_reader.specs.declared.mode.Mode.TheVariants as modes
use Rattle.its_reader.specs.Views.{mode_of, depth_of}

-- a lexeme has a byte at least, and is in the text
pub taken_within : (mode : Mode) (b : ℕ) (others text : List ℕ) (l : Lexeme (Option Piece)) → text ≡ b ∷ others
    → l ≡ lexeme_in mode b others → (0 < l.len) × (l.len ≤ length text)
taken_within mode b others text l e is =
    let w = (lexes_within mode).each b others in
    let n : l.len ≡ (lexeme_in mode b others).len = ap (λ (m : Lexeme (Option Piece)). m.len) is in
    let k : length text ≡ length (b ∷ others) = ap length e in
    let p = w.0 in let q = w.1 in
    (omega (arith, n, p), omega (arith, n, k, q))

-- the tokens of a text are that of its first lexeme, and those of the remaining text
pub taken_first : (mode behind : Mode) (at b : ℕ) (others text rest : List ℕ) (l : Lexeme (Option Piece))
    → text ≡ b ∷ others → l ≡ lexeme_in mode b others → behind ≡ mode_behind mode l.piece → rest ≡ drop l.len text
    → tokens_in lexer mode at 0 text ≡ token_then at l.len l.piece (tokens_in lexer behind (at + l.len) 0 rest)
taken_first mode behind at b others text rest l e is mode_is rests =
    tokens_in-first lexer mode at text others rest b l e is (taken_within mode b others text l e is).0 rests
    ∙ ap (λ (m : Mode). token_then at l.len l.piece (tokens_in lexer m (at + l.len) 0 rest)) (sym mode_is)

-- taking as many elements as a list has gives the list
whole : (xs : List ℕ) → take (length xs) xs ≡ xs
whole [] = refl
whole (x ∷ xs) = ap (λ ys. x ∷ ys) (whole xs)

-- the rest of a list after this many elements
pub all_left : (n : ℕ) (xs : List ℕ) → take (length xs - n) (drop n xs) ≡ drop n xs
all_left n xs = ap (λ k. take k (drop n xs)) (sym (length-drop n xs)) ∙ whole (drop n xs)

-- a comment has at least one byte, and no more than there are
pub record ClosesWithin (o : Option ℕ) (n : ℕ) : Type 0 where
  pub each : (len : ℕ) → o ≡ Some len → (0 < len) × (len ≤ n)

-- the bytes up to the bracket that closes a comment are at least one, and no more than there are
pub closing_within : (bytes : List ℕ) (depth : ℕ) → ClosesWithin (closing_at bytes depth) (length bytes)
closing_within [] depth = record { each = λ len e. cc }
closing_within (b ∷ bytes) depth = go (bracket_sort_of b) depth (λ d. closing_within bytes d)
  where
    more : (o : Option ℕ) → ClosesWithin o (length bytes) → ClosesWithin (one_more o) (length (b ∷ bytes))
    more None h = record { each = λ len e. cc }
    more (Some n) h = record {
      each = λ len e. let k = h.each n refl in let same : suc n ≡ len = cc in
          (let p = k.0 in omega (arith, p, same), let p = k.1 in omega (arith, p, same));
    }

    go : (bracket_sort : BracketSort) (depth : ℕ) → ((d : ℕ) → ClosesWithin (closing_at bytes d) (length bytes))
        → ClosesWithin (closing_by bracket_sort (closing_at bytes) depth) (length (b ∷ bytes))
    go Opening depth ih = more (closing_at bytes (suc depth)) (ih (suc depth))
    go Closing zero ih = record {
      each = λ len e. let same : 1 ≡ len = cc in
          (omega (arith, same), omega (arith, same));
    }
    go Closing (suc depth) ih = more (closing_at bytes depth) (ih depth)
    go Neither depth ih = more (closing_at bytes depth) (ih depth)

-- how many brackets are open in a mode
abbrev pub depth_in : Mode → ℕ
depth_in Outside = 0
depth_in AtKeyword = 0
depth_in (Within depth) = depth
depth_in InComment = 0

keyword_depth : (name : List ℕ) → depth_in (behind_keyword name) ≡ 0
keyword_depth name = go (is_same name (codes "COMMENT"))
  where
    go : (v : Bool) → depth_in (if v then InComment else Within 0) ≡ 0
    go true = refl
    go false = refl

depth_behind : (mode : Mode) (o : Option Piece) → depth_in (mode_behind mode o) ≤ depth_in mode + 1
depth_behind mode None = omega arith
depth_behind Outside (Some (In inner.Open)) = omega arith
depth_behind Outside (Some (In _)) = omega arith
depth_behind Outside (Some _) = omega arith
depth_behind AtKeyword (Some (In (inner.Word name))) = let e = keyword_depth name in omega (arith, e)
depth_behind AtKeyword (Some (In inner.Open)) = omega arith
depth_behind AtKeyword (Some (In inner.Close)) = omega arith
depth_behind AtKeyword (Some (In _)) = omega arith
depth_behind AtKeyword (Some _) = omega arith
depth_behind (Within depth) (Some (In inner.Open)) = omega arith
depth_behind (Within zero) (Some (In inner.Close)) = omega arith
depth_behind (Within (suc depth)) (Some (In inner.Close)) = omega arith
depth_behind (Within zero) (Some (In _)) = omega arith
depth_behind (Within (suc depth)) (Some (In _)) = omega arith
depth_behind (Within zero) (Some _) = omega arith
depth_behind (Within (suc depth)) (Some _) = omega arith
depth_behind InComment (Some p) = omega arith

depth_is : (m : code.Mode) → depth_of m ≡ depth_in (mode_of m)
depth_is modes.Outside = refl
depth_is modes.AtKeyword = refl
depth_is (modes.Within depth) = refl
depth_is modes.InComment = refl

-- after a piece at most one bracket more is open
pub behind_depth : (old new : code.Mode) (o : Option Piece) → mode_of new ≡ mode_behind (mode_of old) o
    → depth_of new ≤ depth_of old + 1
behind_depth old new o e =
    let a = depth_is old in let b = depth_is new in let k : depth_in (mode_of new)
    ≡ depth_in (mode_behind (mode_of old) o) = ap depth_in e in let h = depth_behind (mode_of old) o in
    omega (arith, a, b, k, h)
