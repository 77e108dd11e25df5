-- Numbers, rules and their lists that were read along bytes are spelled by them.
use Rattle.std.proofs.Common.{◌≡◌, ℕ, zero, suc, ◌+◌, ◌-◌, ◌<◌, ◌≤◌, ◌^◌, min, Bool, true, false, cond, List, [], ◌∷◌, ◌++◌}
use Rattle.std.proofs.Common.{length, take, drop, map, Option, Some, None, refl, ap, sym, subst, ◌∙◌, arith, inl, inr, append-nil}
use Rattle.std.proofs.Common.{append_assoc}
use Rattle.std.specs.Prelude.{ℤ, pos, negsuc, neg_ℤ, nat_abs, nat_lt, ◌==◌, not, is_some, codes}
use Rattle.std.specs.List.{AllByRecursion, list_all}
use Rattle.std.specs.Char.{is_ascii_digit}
use Rattle.std.specs.Fmt.{decimal, signed_decimal}
use Rattle.std.proofs.lemmas.Bool.{ltb-false as lt_false}
use Rattle.std.proofs.lemmas.Bool.Decides.{nat_tests}
use Rattle.its_model.specs.model.Programs.{Program, Rule, rule_at}
use Rattle.cert_types.specs.cert_rules.AcceptsPlain.{IsRule}
use Rattle.text_grammar.specs.text_core.Choices.{when}
use Rattle.text_grammar.specs.text_core.Names.{begins_name, continues_name}
use Rattle.text_grammar.specs.text_core.Prefixes.{prefix}
use Rattle.text_grammar.specs.text_core.Tokens.{Lexeme}
use Rattle.text_grammar.specs.declared.symbol.Symbol.{Symbol}
use Rattle.text_grammar.specs.declared.symbol.Symbol.TheVariants as item
use Rattle.cert_lexer.specs.declared.kind.ProofKind.{ProofKind}
use Rattle.cert_lexer.specs.declared.kind.ProofKind.TheVariants as kind
use Rattle.cert_lexer.specs.declared.piece.Behind.{Behind}
use Rattle.cert_lexer.specs.declared.piece.Behind.TheVariants as behind
use Rattle.cert_lexer.specs.declared.piece.Sign.TheVariants as sign
use Rattle.cert_lexer.specs.declared.piece.Mode.{Mode}
use Rattle.cert_lexer.specs.declared.piece.Mode.TheVariants as mode
use Rattle.cert_lexer.specs.declared.piece.Piece.{Piece}
use Rattle.cert_lexer.specs.declared.piece.Piece.TheVariants.{Number, Sign as ASign, Place}
use Rattle.cert_lexer.specs.Grammar.{class_of, class_of_number}
use Rattle.cert_lexer.specs.Lexing.{behind_dot, behind_last_dot, lexer_of, mode_with, place_in, place_lexeme, plain_lexeme}
use Rattle.cert_lexer.specs.Lexing.{symbol_names, symbol_of}
use Rattle.cert_lexer.proofs.PieceClasses.{class_number}
use Rattle.cert_lexer.proofs.CutBack.{plain_number}
use Rattle.cert_text.specs.declared.phase.Next.TheVariants as next
use Rattle.cert_text.specs.NumberFaults.{fault_of_piece, or_else}
use Rattle.cert_text.specs.Reading.{moved}
use Rattle.cert_text.specs.Lists.{each_before, each_behind, listed, numbers_text, ending_in}
use Rattle.cert_text.specs.Remembered.{Draft, State, in_32, in_64}
use Rattle.cert_text.proofs.Along.{Along, Bytes, Then, flatten}
use Rattle.cert_text.proofs.Back.{less, made_back, mark_back, mode_to, on, read_back, shorter, sign_back, turned_to}
use Rattle.cert_text.proofs.Cutting.{Within, Bare, Shut, mode_in}
use Rattle.cert_text.proofs.Listing.{list_then, next_then, same_32, same_63, same_64, small_number, word_then, words_then}
use Rattle.cert_text.proofs.States.{Base, Last, Sure, limit_of, limit_most, now, rule_low, st}

-- if there is no first of two kinds, there is neither
pub or_none : (a b : Option ProofKind) → or_else a b ≡ None → (a ≡ None) × (b ≡ None)
or_none None b h = (refl, h)
or_none (Some k) b h = cc

-- if a test gives no kind, it fails
pub when_none : (v : Bool) (k : ProofKind) → when v k ≡ None → v ≡ false
when_none true k h = cc
when_none false k h = refl

pub not_none : (v : Bool) (k : ProofKind) → when (not v) k ≡ None → v ≡ true
not_none true k h = refl
not_none false k h = cc

-- a number that isn't reported as too large is within the limit
pub none_small : (limit n : ℕ) → when (nat_lt limit n) kind.NumberTooLarge ≡ None → n ≤ limit
none_small limit n h = lt_false limit n (when_none (nat_lt limit n) kind.NumberTooLarge h)

-- the number of a rule that isn't reported is that of a rule
pub rule_there : (p : Program) (r : ℕ) → when (not (is_some (rule_at p r))) kind.BadReference ≡ None → IsRule p r
rule_there p r h = go (rule_at p r) refl (not_none (is_some (rule_at p r)) kind.BadReference h)
  where
    go : (o : Option Rule) → rule_at p r ≡ o → is_some o ≡ true → IsRule p r
    go None e k = cc
    go (Some x) e k = record { rule = x; numbered = e }

-- a number below 2^127 was cut from its digits
number_cut : (p : Program) (x : Within) (b : ℕ) (bytes : List ℕ) (n some : ℕ) → n < 2 ^ 127
    → (lexer_of p).lexeme_in (mode_in x) b bytes ≡ record { piece = Some (Number n); len = suc some }
    → b ∷ bytes ≡ decimal n ++ drop some bytes
number_cut p Bare b bytes n some small h = plain_number (symbol_names p) b bytes n some small h
number_cut p Shut b bytes n some small h = go (begins_name b) h
  where
    digits : (v : Bool) (i : ℕ) (d : Behind) (j : ℕ)
        → Some (cond v (Place i d) (Place j behind.NoNumber)) ≡ Some (Number n) → ⊥
    digits true i d j e = cc
    digits false i d j e = cc

    no_place : (o : Option (List ℕ)) (run : List ℕ) → Some (place_in (symbol_names p) run o) ≡ Some (Number n) → ⊥
    no_place None run e = cc
    no_place (Some after) run e =
        digits (list_all is_ascii_digit after) (symbol_of (symbol_names p) (take (length run - length after - 1) run))
        (behind_dot after) (symbol_of (symbol_names p) run) e

    go : (v : Bool) → cond v (place_lexeme (symbol_names p) (b ∷ prefix continues_name bytes))
        (plain_lexeme (symbol_names p) b bytes) ≡ record { piece = Some (Number n); len = suc some }
        → b ∷ bytes ≡ decimal n ++ drop some bytes
    go true e =
        absurd (no_place (behind_last_dot None (b ∷ prefix continues_name bytes)) (b ∷ prefix continues_name bytes)
        (ap (λ (l : Lexeme (Option Piece)). l.piece) e))
    go false e = plain_number (symbol_names p) b bytes n some small e

-- the mode after a number is that before it
number_mode : (x : Within) (n : ℕ) → mode_with (mode_in x) (Number n) ≡ mode_in x
number_mode Bare n = refl
number_mode Shut n = refl

-- the closing bracket of a list ends the mode of shut places
close_mode : (x : Within) → mode_with (mode_in x) (ASign sign.CloseSquare) ≡ mode.Plain
close_mode Bare = refl
close_mode Shut = refl

pub blank_mode : (x : Within) → mode_with (mode_in x) (ASign sign.Blank) ≡ mode_in x
blank_mode Bare = refl
blank_mode Shut = refl

open_mode : (x : Within) → mode_with (mode_in x) (ASign sign.OpenSquare) ≡ mode_in x
open_mode Bare = refl
open_mode Shut = refl

-- numbers of the classes from 29 on aren't 0
some_number : (n : ℕ) → 29 ≤ class_of_number n → 1 ≤ n
some_number zero h = absurd (omega (arith, h))
some_number (suc n) h = omega arith

module _ {p : Program} {ss : List Symbol} {s : State} {whole : List ℕ} {Q : State → Type 0} {R : Type 0} (x : Within)
    (small : (n : ℕ) → fault_of_piece p s (Number n) ≡ None → n < 2 ^ 127) where
  -- a number of this class that was read is spelled by its digits
  class_back : (c : ℕ) → Along p (item.Piece (class_of_number c) ∷ ss) s (mode_in x) whole Q
      → ((n : ℕ) (rest : List ℕ) → fault_of_piece p s (Number n) ≡ None → class_of_number n ≡ class_of_number c
      → whole ≡ decimal n ++ rest
      → Along p ss (record s { number = n; coming = next.Nothing }) (mode_in x) rest Q → R) → R
  class_back c a k = read_back (class_of_number c) a (λ q rest is none cut more.
      let f = class_number q c is in
      let none' : fault_of_piece p s (Number f.0) ≡ None = subst (λ (y : Piece). fault_of_piece p s y ≡ None) f.1 none in
      let b = number_cut p x cut.first cut.others f.0 cut.some (small f.0 none')
      (cut.cut ∙ ap (λ (y : Piece). record { piece = Some y; len = suc cut.some }) f.1) in
      k f.0 rest none' f.2 (cut.begins ∙ b ∙ ap (λ (bs : List ℕ). decimal f.0 ++ bs) cut.behind)
      (mode_to (number_mode x f.0)
      (subst (λ (y : Piece). Along p ss (moved p y s) (mode_with (mode_in x) y) rest Q) f.1 more)))

  -- a number that was read, any or one from 1 on, is spelled by its digits
  pub number_back : Along p (item.Made 8 ∷ ss) s (mode_in x) whole Q
      → ((n : ℕ) (rest : List ℕ) → fault_of_piece p s (Number n) ≡ None → whole ≡ decimal n ++ rest
      → Along p ss (record s { number = n; coming = next.Nothing }) (mode_in x) rest Q → R) → R
  number_back a k =
      made_back 8 ((item.Piece 28 ∷ []) ∷ (item.Piece 29 ∷ []) ∷ (item.Piece 30 ∷ []) ∷ (item.Piece 31 ∷ []) ∷ []) refl a (
        (λ y. class_back 0 y (λ n rest none is e z. k n rest none e z)),
        (
          (λ y. class_back 1 y (λ n rest none is e z. k n rest none e z)),
          (
            (λ y. class_back 2 y (λ n rest none is e z. k n rest none e z)),
            ((λ y. class_back 3 y (λ n rest none is e z. k n rest none e z)), tt),
          ),
        ),
      )

  pub positive_back : Along p (item.Made 20 ∷ ss) s (mode_in x) whole Q
      → ((n : ℕ) (rest : List ℕ) → 1 ≤ n → fault_of_piece p s (Number n) ≡ None → whole ≡ decimal n ++ rest
      → Along p ss (record s { number = n; coming = next.Nothing }) (mode_in x) rest Q → R) → R
  positive_back a k =
      made_back 20 ((item.Piece 29 ∷ []) ∷ (item.Piece 30 ∷ []) ∷ (item.Piece 31 ∷ []) ∷ []) refl a (
        (λ y. class_back 1 y (λ n rest none is e z. k n rest (some_number n (omega (arith, is))) none e z)),
        (
          (λ y. class_back 2 y (λ n rest none is e z. k n rest (some_number n (omega (arith, is))) none e z)),
          ((λ y. class_back 3 y (λ n rest none is e z. k n rest (some_number n (omega (arith, is))) none e z)), tt),
        ),
      )

-- the number of a rule, within the limit, is unchanged by capping
rule_small : (p : Program) (b : Base) (n : ℕ) → or_else (when (nat_lt (limit_of b) n) kind.NumberTooLarge)
    (when (not (is_some (rule_at p n))) kind.BadReference) ≡ None → n < 2 ^ 127
rule_small p b n h =
    let f = or_none (when (nat_lt (limit_of b) n) kind.NumberTooLarge) (when (not (is_some (rule_at p n))) kind.BadReference) h in
    let m = limit_most b in
    let k = none_small (limit_of b) n f.0 in
    omega (arith, m, k)

pub number_small : (b : Base) (n : ℕ) → when (nat_lt (limit_of b) n) kind.NumberTooLarge ≡ None → n < 2 ^ 127
number_small b n h = let m = limit_most b in let k = none_small (limit_of b) n h in omega (arith, m, k)

module _ {p : Program} {ss : List Symbol} {whole : List ℕ} {Q : State → Type 0} {R : Type 0} (b : Base) (l : Last) (d : Draft)
  where
    -- the number of a rule that was read is spelled by its digits
    pub rule_back : Sure p → Along p (item.Made 9 ∷ ss) (st b l d) mode.Plain whole Q
        → ((r : ℕ) (rest : List ℕ) → IsRule p r → whole ≡ decimal r ++ rest
        → Along p ss (st b (record l { number = r }) (record d { rule = r })) mode.Plain rest Q → R) → R
    rule_back sure a k =
        made_back 9 ((item.Mark 19 ∷ item.Made 8 ∷ item.Mark 20 ∷ []) ∷ []) refl a (
          (λ x. number_back Bare (λ n h. rule_small p b n h) (mark_back 19 x) (λ r rest none e y.
              let f = or_none (when (nat_lt (limit_of b) r) kind.NumberTooLarge)
              (when (not (is_some (rule_at p r))) kind.BadReference) none in
              let is = rule_there p r f.1 in
              let low = rule_low p r sure is in
              k r rest is e
              (turned_to (ap (λ (n : ℕ). st b (record l { number = r }) (record d { rule = n })) (same_32 r (omega (arith, low))))
              (mark_back 20 y)))),
          tt,
        )

    -- the number of a rule in a set that was read is spelled by its digits
    pub set_rule_back : Sure p → Along p (item.Made 13 ∷ ss) (st b l d) mode.Plain whole Q
        → ((r : ℕ) (rest : List ℕ) → IsRule p r → whole ≡ decimal r ++ rest
        → Along p ss (st b (record l { number = r }) (record d { set = d.set ++ r ∷ [] })) mode.Plain rest Q → R) → R
    set_rule_back sure a k =
        made_back 13 ((item.Mark 19 ∷ item.Made 8 ∷ item.Mark 21 ∷ []) ∷ []) refl a (
          (λ x. number_back Bare (λ n h. rule_small p b n h) (mark_back 19 x) (λ r rest none e y.
              let f = or_none (when (nat_lt (limit_of b) r) kind.NumberTooLarge)
              (when (not (is_some (rule_at p r))) kind.BadReference) none in
              let is = rule_there p r f.1 in
              let low = rule_low p r sure is in
              k r rest is e
              (turned_to (ap (λ (n : ℕ). st b (record l { number = r }) (record d { set = d.set ++ n ∷ [] }))
              (same_32 r (omega (arith, low)))) (mark_back 21 y)))),
          tt,
        )

    -- a denominator that was read is spelled by its digits
    pub plain_back : Along p (item.Made 10 ∷ ss) (st b l d) mode.Plain whole Q
        → ((n : ℕ) (rest : List ℕ) → n ≤ limit_of b → whole ≡ decimal n ++ rest
        → Along p ss (st b (record l { number = n }) (record d { den = n })) mode.Plain rest Q → R) → R
    plain_back a k =
        made_back 10 ((item.Mark 22 ∷ item.Made 8 ∷ item.Mark 23 ∷ []) ∷ []) refl a (
          (λ x. number_back Bare (λ n h. number_small b n h) (mark_back 22 x) (λ n rest none e y.
              let small = none_small (limit_of b) n none in
              k n rest small e
              (turned_to (ap (λ (m : ℕ). st b (record l { number = n }) (record d { den = m })) (same_64 b n small))
              (mark_back 23 y)))),
          tt,
        )

    -- a natural number in a list that was read is spelled by its digits
    pub list_number_back : Along p (item.Made 17 ∷ ss) (st b l d) mode.Plain whole Q
        → ((n : ℕ) (rest : List ℕ) → n ≤ limit_of b → whole ≡ decimal n ++ rest
        → Along p ss (st b (record l { number = n }) (record d { numbers = d.numbers ++ n ∷ [] })) mode.Plain rest Q → R) → R
    list_number_back a k =
        made_back 17 ((item.Mark 22 ∷ item.Made 8 ∷ item.Mark 25 ∷ []) ∷ []) refl a (
          (λ x. number_back Bare (λ n h. number_small b n h) (mark_back 22 x) (λ n rest none e y.
              let small = none_small (limit_of b) n none in
              k n rest small e
              (turned_to (ap (λ (m : ℕ). st b (record l { number = n }) (record d { numbers = d.numbers ++ m ∷ [] }))
              (same_64 b n small)) (mark_back 25 y)))),
          tt,
        )

    -- a number that may have a sign that was read is spelled by the bytes
    pub integer_back : (x : Within) → Along p (item.Made 19 ∷ ss) (st b l d) (mode_in x) whole Q
        → ((z : ℤ) (n : ℕ) (v : Bool) (rest : List ℕ) → nat_abs z ≤ limit_of b → whole ≡ signed_decimal z ++ rest
        → Along p ss (st b (now l n v) (record d { integers = d.integers ++ z ∷ [] })) (mode_in x) rest Q → R) → R
    integer_back x a k =
        made_back 19 ((item.Mark 26 ∷ item.Made 8 ∷ item.Mark 27 ∷ []) ∷
        (item.Mark 26 ∷ item.Piece 42 ∷ item.Made 20 ∷ item.Mark 27 ∷ []) ∷ []) refl a (
          (λ y. number_back x (λ n h. number_small b n h) (mark_back 26 y) (λ n rest none e z.
              let small = none_small (limit_of b) n none in
              k (pos n) n false rest small e
              (turned_to (ap (λ (j : ℕ). st b (record l { number = n; negative = false })
              (record d { integers = d.integers ++ pos j ∷ [] })) (same_63 b n small)) (mark_back 27 z)))),
          (
            (λ y. sign_back sign.Minus (mark_back 26 y) (λ r1 e1 z.
                positive_back x (λ n h. number_small b n h) (mode_to (minus_mode x) z) (λ n rest some none e w.
                signed n some rest (none_small (limit_of b) n none) (on (codes "-") e1 e) (mark_back 27 w)))),
            tt,
          ),
        )
      where
        minus_mode : (x : Within) → mode_with (mode_in x) (ASign sign.Minus) ≡ mode_in x
        minus_mode Bare = refl
        minus_mode Shut = refl

        signed : (n : ℕ) → 1 ≤ n → (rest : List ℕ) → n ≤ limit_of b → whole ≡ 45 ∷ (decimal n ++ rest)
            → Along p ss (st b (record l { number = n; negative = true })
            (record d { integers = d.integers ++ neg_ℤ (pos (min n (2 ^ 63 - 1))) ∷ [] })) (mode_in x) rest Q → R
        signed zero some rest small e y = absurd (omega (arith, some))
        signed (suc n) some rest small e y =
            k (negsuc n) (suc n) true rest small e
            (turned_to (ap (λ (j : ℕ). st b (record l { number = suc n; negative = true })
            (record d { integers = d.integers ++ neg_ℤ (pos j) ∷ [] })) (same_63 b (suc n) small)) y)

module _ {p : Program} {ss : List Symbol} {Q : State → Type 0} {R : Type 0} (sure : Sure p) (b : Base) where
  -- the further rules of a set that were read are spelled by the bytes
  more_rules_back : (f : ℕ) {whole : List ℕ} → length whole < f → (l : Last) (d : Draft)
      → Along p (item.Made 14 ∷ ss) (st b l d) mode.Plain whole Q
      → ((rs : List ℕ) (m : Last) (rest : List ℕ) → AllByRecursion (IsRule p) rs
      → whole ≡ each_behind (codes " ") (map decimal rs) ++ (93 ∷ rest)
      → Along p ss (st b m (record d { set = d.set ++ rs })) mode.Plain rest Q → R) → R
  more_rules_back zero few l d a k = absurd (omega (arith, few))
  more_rules_back (suc f) few l d a k =
      made_back 14 ((item.Piece 35 ∷ []) ∷ (item.Piece 32 ∷ item.Made 13 ∷ item.Made 14 ∷ []) ∷ []) refl a (
        (λ x. sign_back sign.CloseSquare x (λ rest e y. k [] l rest tt e
            (turned_to (ap (λ (rs : List ℕ). st b l (record d { set = rs })) (sym (append-nil d.set))) y))),
        (
          (λ x. sign_back sign.Blank x (λ r1 e1 y. set_rule_back b l d sure y (λ r r2 is e2 z.
              let one = less 32 e1 in let two = shorter (decimal r) r2 e2 in
              more_rules_back f (omega (arith, few, one, two)) (record l { number = r }) (record d { set = d.set ++ r ∷ [] }) z
              (λ rs m rest all e w. k (r ∷ rs) m rest (is, all)
              (on (codes " ") e1 (on (decimal r) e2 e) ∙ sym (word_then (decimal r) (map decimal rs) (93 ∷ rest)))
              (turned_to (ap (λ (ns : List ℕ). st b m (record d { set = ns })) (append_assoc d.set (r ∷ []) rs)) w))))),
          tt,
        ),
      )

  -- a set of rules that was read is spelled by the bytes
  pub rules_back : {whole : List ℕ} (l : Last) (d : Draft) → Along p (item.Made 11 ∷ ss) (st b l d) mode.Plain whole Q
      → ((rs : List ℕ) (m : Last) (rest : List ℕ) → AllByRecursion (IsRule p) rs → whole ≡ numbers_text rs ++ rest
      → Along p ss (st b m (record d { set = d.set ++ rs })) mode.Plain rest Q → R) → R
  rules_back l d a k =
      made_back 11 ((item.Piece 34 ∷ item.Made 12 ∷ []) ∷ []) refl a (
        (λ x. sign_back sign.OpenSquare x (λ r1 e1 y.
            made_back 12 ((item.Piece 35 ∷ []) ∷ (item.Made 13 ∷ item.Made 14 ∷ []) ∷ []) refl y (
              (λ z. sign_back sign.CloseSquare z (λ rest e w. k [] l rest tt (on (codes "[") e1 e)
                  (turned_to (ap (λ (rs : List ℕ). st b l (record d { set = rs })) (sym (append-nil d.set))) w))),
              (
                (λ z. set_rule_back b l d sure z (λ r r2 is e2 w.
                    more_rules_back (suc (length r2)) (omega arith) (record l { number = r })
                    (record d { set = d.set ++ r ∷ [] }) w
                    (λ rs m rest all e v. k (r ∷ rs) m rest (is, all)
                    (on (codes "[") e1 (on (decimal r) e2 e ∙ sym (words_then (decimal r) (map decimal rs) rest)))
                    (turned_to (ap (λ (ns : List ℕ). st b m (record d { set = ns })) (append_assoc d.set (r ∷ []) rs)) v)))),
                tt,
              ),
            ))),
        tt,
      )

module _ {p : Program} {ss : List Symbol} {Q : State → Type 0} {R : Type 0} (b : Base) where
  -- the further numbers of a list that were read are spelled by the bytes
  more_numbers_back : (f : ℕ) {whole : List ℕ} → length whole < f → (l : Last) (d : Draft)
      → Along p (item.Made 18 ∷ ss) (st b l d) mode.Plain whole Q
      → ((ns : List ℕ) (m : Last) (rest : List ℕ) → AllByRecursion (λ n. n ≤ limit_of b) ns
      → whole ≡ each_behind (codes " ") (map decimal ns) ++ (93 ∷ rest)
      → Along p ss (st b m (record d { numbers = d.numbers ++ ns })) mode.Plain rest Q → R) → R
  more_numbers_back zero few l d a k = absurd (omega (arith, few))
  more_numbers_back (suc f) few l d a k =
      made_back 18 ((item.Piece 35 ∷ []) ∷ (item.Piece 32 ∷ item.Made 17 ∷ item.Made 18 ∷ []) ∷ []) refl a (
        (λ x. sign_back sign.CloseSquare x (λ rest e y. k [] l rest tt e
            (turned_to (ap (λ (ns : List ℕ). st b l (record d { numbers = ns })) (sym (append-nil d.numbers))) y))),
        (
          (λ x. sign_back sign.Blank x (λ r1 e1 y. list_number_back b l d y (λ n r2 is e2 z.
              let one = less 32 e1 in let two = shorter (decimal n) r2 e2 in
              more_numbers_back f (omega (arith, few, one, two)) (record l { number = n })
              (record d { numbers = d.numbers ++ n ∷ [] }) z
              (λ ns m rest all e w. k (n ∷ ns) m rest (is, all)
              (on (codes " ") e1 (on (decimal n) e2 e) ∙ sym (word_then (decimal n) (map decimal ns) (93 ∷ rest)))
              (turned_to (ap (λ (ks : List ℕ). st b m (record d { numbers = ks })) (append_assoc d.numbers (n ∷ []) ns)) w))))),
          tt,
        ),
      )

  -- a list of natural numbers that was read is spelled by the bytes
  pub numbers_back : {whole : List ℕ} (l : Last) (d : Draft) → Along p (item.Made 15 ∷ ss) (st b l d) mode.Plain whole Q
      → ((ns : List ℕ) (m : Last) (rest : List ℕ) → AllByRecursion (λ n. n ≤ limit_of b) ns → whole ≡ numbers_text ns ++ rest
      → Along p ss (st b m (record d { numbers = ns; integers = [] })) mode.Plain rest Q → R) → R
  numbers_back l d a k =
      made_back 15 ((item.Piece 34 ∷ item.Mark 24 ∷ item.Made 16 ∷ []) ∷ []) refl a (
        (λ x. sign_back sign.OpenSquare x (λ r1 e1 y.
            made_back 16 ((item.Piece 35 ∷ []) ∷ (item.Made 17 ∷ item.Made 18 ∷ []) ∷ []) refl (mark_back 24 y) (
              (λ z. sign_back sign.CloseSquare z (λ rest e w. k [] l rest tt (on (codes "[") e1 e) w)),
              (
                (λ z. list_number_back b l (record d { numbers = []; integers = [] }) z (λ n r2 is e2 w.
                    more_numbers_back (suc (length r2)) (omega arith) (record l { number = n })
                    (record d { numbers = n ∷ []; integers = [] }) w
                    (λ ns m rest all e v. k (n ∷ ns) m rest (is, all)
                    (on (codes "[") e1 (on (decimal n) e2 e ∙ sym (words_then (decimal n) (map decimal ns) rest))) v))),
                tt,
              ),
            ))),
        tt,
      )

  -- the further integers that were read, with the bracket that closes their list, are spelled by the bytes
  more_integers_back : (f : ℕ) {whole : List ℕ} → length whole < f → (x : Within) (l : Last) (d : Draft)
      → Along p (item.Made 19 ∷ item.Made 22 ∷ ss) (st b l d) (mode_in x) whole Q
      → ((zs : List ℤ) (z : ℤ) (n : ℕ) (v : Bool) (rest : List ℕ) → AllByRecursion (λ y. nat_abs y ≤ limit_of b) zs
      → nat_abs z ≤ limit_of b → whole ≡ each_before zs ++ (signed_decimal z ++ (93 ∷ rest))
      → Along p ss (st b (now l n v) (record d { integers = d.integers ++ (zs ++ z ∷ []) })) mode.Plain rest Q → R) → R
  more_integers_back zero few x l d a k = absurd (omega (arith, few))
  more_integers_back (suc f) few x l d a k =
      integer_back b l d x a (λ z n v r1 small e1 y.
      made_back 22 ((item.Piece 35 ∷ []) ∷ (item.Piece 32 ∷ item.Made 19 ∷ item.Made 22 ∷ []) ∷ []) refl y (
        (λ w. sign_back sign.CloseSquare w (λ rest e u. k [] z n v rest tt small (on (signed_decimal z) e1 e)
            (mode_to (close_mode x) u))),
        (
          (λ w. sign_back sign.Blank w (λ r2 e2 u.
              let one = shorter (signed_decimal z) r1 e1 in let two = less 32 e2 in
              more_integers_back f (omega (arith, few, one, two)) x (now l n v) (record d { integers = d.integers ++ z ∷ [] })
              (mode_to (blank_mode x) u)
              (λ zs y' j i rest all least e t. k (z ∷ zs) y' j i rest (small, all) least
              (on (signed_decimal z) e1 (on (codes " ") e2 e)
              ∙ sym (append_assoc (signed_decimal z) (32 ∷ each_before zs) (signed_decimal y' ++ (93 ∷ rest))))
              (turned_to (ap (λ (ks : List ℤ). st b (now l j i) (record d { integers = ks }))
              (append_assoc d.integers (z ∷ []) (zs ++ y' ∷ []))) t)))),
          tt,
        ),
      ))

  -- a list of coefficients and a constant that was read is spelled by the bytes
  pub integers_back : {whole : List ℕ} (x : Within) (l : Last) (d : Draft)
      → Along p (item.Made 21 ∷ ss) (st b l d) (mode_in x) whole Q
      → ((zs : List ℤ) (z : ℤ) (n : ℕ) (v : Bool) (rest : List ℕ) → AllByRecursion (λ y. nat_abs y ≤ limit_of b) zs
      → nat_abs z ≤ limit_of b → whole ≡ ending_in zs (signed_decimal z) ++ rest
      → Along p ss (st b (now l n v) (record d { numbers = []; integers = zs ++ z ∷ [] })) mode.Plain rest Q → R) → R
  integers_back x l d a k =
      made_back 21 ((item.Piece 34 ∷ item.Mark 24 ∷ item.Made 19 ∷ item.Made 22 ∷ []) ∷ []) refl a (
        (λ y. sign_back sign.OpenSquare y (λ r1 e1 z.
            more_integers_back (suc (length r1)) (omega arith) x l (record d { numbers = []; integers = [] })
            (mark_back 24 (mode_to (open_mode x) z))
            (λ zs w n v rest all small e u. k zs w n v rest all small
            (on (codes "[") e1 (e ∙ sym (flatten (Then (Then (Bytes (each_before zs)) (Bytes (signed_decimal w)))
            (Bytes (codes "]"))) rest))) u))),
        tt,
      )
