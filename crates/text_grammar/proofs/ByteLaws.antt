-- A text in bytes is lawful if its grammar can be parsed and different kinds have different numbers.
use Rattle.std.proofs.Common.{◌≡◌, ℕ, zero, suc, ◌+◌, ◌-◌, ◌<◌, ◌≤◌, Bool, true, false, cond, List, [], ◌∷◌, ◌++◌, length}
use Rattle.std.proofs.Common.{refl, ap, sym, subst, ◌∙◌, arith, inl, inr, Option, Some, None}
use Rattle.std.specs.Prelude.{◌==◌, slice_get}
use Rattle.std.specs.Char.{is_ascii_digit}
use Rattle.std.proofs.lemmas.Bool.{eqb-true}
use Rattle.text_core.specs.Tokens.{pieces, tokens_in, AreInOrder}
use Rattle.text_core.specs.Readers.{Fault}
use Rattle.text_core.specs.Faults.{Among}
use Rattle.text_core.proofs.Lexing.{in_order_in}
use Rattle.text_grammar.specs.declared.token_stream.OneMode.TheVariants.{Plain}
use Rattle.text_grammar.specs.Sounding.{is_readable}
use Rattle.text_grammar.specs.Texts.{IsLawful}
use Rattle.text_grammar.specs.Folds.{refusals, state}
use Rattle.text_grammar.specs.ByteTexts.{ByteText, Spelling, Numeral, bytes_lexer, bytes_within, tokens, position_of}
use Rattle.text_grammar.specs.ByteTexts.{class_of, only, byte_or, one_more, with_byte, fresh, fold_of}
use Rattle.text_grammar.specs.ByteTexts.{done_mark, grammar_of, texts_of, signed}
use Rattle.text_grammar.specs.declared.numeral.NumberContext.TheVariants.{Words, Natural as InNatural, Signed as InSigned}
use Rattle.text_grammar.specs.declared.numeral.NumberContext.TheVariants.{Line as InLine}
use Rattle.text_grammar.proofs.Readable.{readable_if}
use Rattle.text_grammar.specs.Parts.{IsOnly}

-- the pieces of a text are its bytes
pub pieces_bytes : (bytes : List ℕ) → pieces (tokens bytes) ≡ bytes
pieces_bytes bytes = go bytes 0
  where
    go : (bytes : List ℕ) (at : ℕ) → pieces (tokens_in bytes_lexer Plain at 0 bytes) ≡ bytes
    go [] at = refl
    go (b ∷ bytes) at = ap (λ (cs : List ℕ). b ∷ cs) (go bytes (at + 1))

-- the tokens of bytes are in order of position
pub tokens_in_order : (bytes : List ℕ) → AreInOrder 0 (tokens bytes) (length bytes)
tokens_in_order bytes =
    let o = in_order_in bytes_lexer bytes_within bytes Plain 0 0 (omega arith) in
    subst (AreInOrder 0 (tokens bytes)) (let e : 0 + length bytes ≡ length bytes =
    omega arith in e) (subst (λ (n : ℕ). AreInOrder n (tokens bytes) (0 + length bytes))
    (let e : 0 + 0 ≡ 0 = omega arith in e) o)

-- the byte at another byte's position among the letters is that byte
placed : (cs : List ℕ) (q p : ℕ) → slice_get cs (position_of cs q) ≡ Some p → q ≡ p
placed [] q p e = cc
placed (c ∷ cs) q p e = go (q == c) refl e (placed cs q p)
  where
    go : (v : Bool) → (q == c) ≡ v → slice_get (c ∷ cs) (cond v 0 (suc (position_of cs q))) ≡ Some p
        → (slice_get cs (position_of cs q) ≡ Some p → q ≡ p) → q ≡ p
    go true k e ih = let same : c ≡ p = cc in eqb-true q c k ∙ same
    go false k e ih = ih e

-- the position of a byte among the letters is at most their number
position_most : (cs : List ℕ) (b : ℕ) → position_of cs b ≤ length cs
position_most [] b = omega arith
position_most (c ∷ cs) b = go (b == c) (position_most cs b)
  where
    go : (v : Bool) → position_of cs b ≤ length cs → cond v 0 (suc (position_of cs b)) ≤ length (c ∷ cs)
    go true h = omega arith
    go false h = omega (arith, h)

-- a list has an element only below its length
get_below : (cs : List ℕ) (k p : ℕ) → slice_get cs k ≡ Some p → k < length cs
get_below [] k p e = cc
get_below (c ∷ cs) zero p e = omega arith
get_below (c ∷ cs) (suc k) p e = let h = get_below cs k p e in omega (arith, h)

module _ (letters : List ℕ) where
  -- each byte has one of the classes
  classed : (b : ℕ) → class_of letters b < 7 + length letters
  classed b = go (b == 48) (b == 49) (is_ascii_digit b) (b == 45) (b == 32) (b == 10) (position_most letters b)
    where
      go : (u v w y z f : Bool) → position_of letters b ≤ length letters
          → cond u 0 (cond v 1 (cond w 2 (cond y 3 (cond z 4 (cond f 5
          (suc (suc (suc (suc (suc (suc (position_of letters b)))))))))))) < 7 + length letters
      go true v w y z f h = omega arith
      go false true w y z f h = omega arith
      go false false true y z f h = omega arith
      go false false false true z f h = omega arith
      go false false false false true f h = omega arith
      go false false false false false true h = omega arith
      go false false false false false false h = omega (arith, h)

  -- a byte in a class with only one byte is that byte
  only_one : (q p : ℕ) → only letters (class_of letters q) ≡ Some p → q ≡ p
  only_one q p e =
      go (q == 48) (q == 49) (is_ascii_digit q) (q == 45) (q == 32) (q == 10) refl refl refl refl refl e
    where
      some : (b : ℕ) → Some b ≡ Some p → b ≡ p
      some b e = cc

      go : (u v w y z f : Bool) → (q == 48) ≡ u → (q == 49) ≡ v → (q == 45) ≡ y → (q == 32) ≡ z → (q == 10) ≡ f
          → only letters (cond u 0 (cond v 1 (cond w 2 (cond y 3 (cond z 4 (cond f 5
          (suc (suc (suc (suc (suc (suc (position_of letters q)))))))))))))
          ≡ Some p → q ≡ p
      go true v w y z f a b c d k e = eqb-true q 48 a ∙ some 48 e
      go false true w y z f a b c d k e = eqb-true q 49 b ∙ some 49 e
      go false false true y z f a b c d k e = cc
      go false false false true z f a b c d k e = eqb-true q 45 c ∙ some 45 e
      go false false false false true f a b c d k e = eqb-true q 32 d ∙ some 32 e
      go false false false false false true a b c d k e = eqb-true q 10 k ∙ some 10 e
      go false false false false false false a b c d k e = placed letters q p e

  -- a class with only one byte is one of the classes
  only_below : (c p : ℕ) → only letters c ≡ Some p → c < 7 + length letters
  only_below zero p e = omega arith
  only_below (suc zero) p e = omega arith
  only_below (suc (suc zero)) p e = omega arith
  only_below (suc (suc (suc zero))) p e = omega arith
  only_below (suc (suc (suc (suc zero)))) p e = omega arith
  only_below (suc (suc (suc (suc (suc zero))))) p e = omega arith
  only_below (suc (suc (suc (suc (suc (suc k)))))) p e = let h = get_below letters k p e in omega (arith, h)

-- a refusal at a position is at this position
refused_at : {K : Type 0} (o : Option K) (at : ℕ) (y : Fault K) → Among y (refusals o at) → y.at ≡ at
refused_at None at y a = absurd a
refused_at {K} (Some kind) at y (inl e) = ap (λ (z : Fault K). z.at) e
refused_at (Some kind) at y (inr a) = absurd a

module _ {S T K : Type 0} (x : ByteText S T K) where
  -- a mark doesn't increase the number of bytes read of a number
  spelled_done : (m : ℕ) (s : Spelling S) → (done_mark x m s).numeral.spelled ≤ s.numeral.spelled
  spelled_done m s =
      go (m == 0) (m == 1) (m == 2) (m == 3) (m == 4) (m == 5) (m == 6) (m == 7) _ _ _ _ (omega arith)
    where
      go : (t u v w y z p q : Bool) (a b c d : S) → s.numeral.spelled ≤ s.numeral.spelled
          → (cond t (record s { numeral = fresh })
          (cond u (record s { numeral = fresh; values = s.values ++ signed s.numeral ∷ [] })
          (cond v (record s { own = a; numeral = fresh; within = Words })
          (cond w (record s { numeral = fresh; within = InNatural })
          (cond y (record s { numeral = fresh; within = InLine; values = [] })
          (cond z (record { own = b; numeral = fresh; within = Words; values = [] })
          (cond p (record s { numeral = fresh; within = InSigned })
          (cond q (record s { own = d; numeral = fresh; within = Words })
          (record s { own = c }))))))))).numeral.spelled
          ≤ s.numeral.spelled
      go true u v w y z p q a b c d h = omega arith
      go false true v w y z p q a b c d h = omega arith
      go false false true w y z p q a b c d h = omega arith
      go false false false true y z p q a b c d h = omega arith
      go false false false false true z p q a b c d h = omega arith
      go false false false false false true p q a b c d h = omega arith
      go false false false false false false true q a b c d h = omega arith
      go false false false false false false false true a b c d h = omega arith
      go false false false false false false false false a b c d h = h

  -- a byte increases the number of bytes read of a number by at most one
  spelled_read : (b : ℕ) (m : Numeral) → (with_byte b m).spelled ≤ m.spelled + 1
  spelled_read b m = go (is_ascii_digit b) (b == 45) _
    where
      go : (u v : Bool) (n : ℕ) → (cond u (record m { number = n; spelled = one_more m.spelled })
          (cond v (record m { negative = true; spelled = one_more m.spelled }) fresh)).spelled ≤ m.spelled + 1
      go true v n = omega arith
      go false true n = omega arith
      go false false n = omega arith

  -- texts in bytes are lawful
  pub bytes_lawful : is_readable (grammar_of x) ≡ true → ((a b : K) → x.number a ≡ x.number b → a ≡ b)
      → IsLawful (texts_of x)
  bytes_lawful readable differ = record {
    readable = readable;
    classed = classed x.letters;
    differ = differ;
    floor_next = λ es at. omega arith;
    floor_shown =
        λ es t y a. let e = refused_at _ _ y a in behind (is_ascii_digit t.piece) t.at
        (state (fold_of x) es).numeral.spelled y.at e;
    floor_did = λ es m at. let e = spelled_done m (state (fold_of x) es) in omega (arith, e);
    floor_read =
        λ es t at some behind. let e = spelled_read t.piece (state (fold_of x) es).numeral in omega
        (arith, e, some, behind);
  }
    where
      behind : (v : Bool) (at k y : ℕ) → y ≡ cond v (at - k) at → at - k ≤ y
      behind true at k y e = omega (arith, e)
      behind false at k y e = omega (arith, e)

  -- each class that contains only one byte contains exactly that byte
  pub bytes_only : is_readable (grammar_of x) ≡ true → IsOnly (grammar_of x) (only x.letters)
  bytes_only readable = record {
    one = λ c p q e k. only_one x.letters q p (ap (only x.letters) k ∙ e);
    its =
        λ c p e. ap (class_of x.letters) (sym (ap (byte_or (cond (c == 2) 50 0)) e)) ∙
        (readable_if (grammar_of x) readable).sampled c (only_below x.letters c p e);
  }
