-- Nodes with all of their premises that were read along bytes are spelled by them.
use Rattle.std.proofs.Common.{◌≡◌, ℕ, zero, suc, ◌+◌, ◌-◌, ◌<◌, ◌≤◌, ◌^◌, min, Bool, true, false, List, [], ◌∷◌, ◌++◌, length}
use Rattle.std.proofs.Common.{length-append, map, None, refl, ap, sym, subst, ◌∙◌, arith, inl, inr, append-nil, append_assoc}
use Rattle.std.specs.Prelude.{nat_lt, nat_le, ◌||◌, ◌&&◌, not, codes}
use Rattle.std.specs.List.{AllByRecursion}
use Rattle.std.specs.Fmt.{decimal}
use Rattle.std.proofs.lemmas.Bool.{and_parts, leb-true, ltb-false as lt_false}
use Rattle.std.proofs.lemmas.Bool.Decides.{nat_tests}
use Rattle.its_model.specs.model.Programs.{Program}
use Rattle.its_model.specs.model.Bounds.{Constant}
use Rattle.its_model.proofs.ListLaws.{all-to}
use Rattle.bound_text.specs.Texts.{text_of as text_of_bound}
use Rattle.cert_types.specs.Views.{uses_of}
use Rattle.cert_types.specs.cert_rules.AcceptsPlain.{IsRule}
use Rattle.cert_types.specs.cert_rules.Limits.{AreInLimit}
use Rattle.cert_types.specs.cert_rules.Nodes.{Proof, Cite, Start, Empty, Unreached, Never, Rank, Spread, Cycle, RankNode}
use Rattle.cert_types.specs.cert_rules.Nodes.{Weaken, CostBound, Proofs, NoProof, AndProof}
use Rattle.text_grammar.specs.text_core.Choices.{when}
use Rattle.text_grammar.specs.declared.symbol.Symbol.{Symbol}
use Rattle.text_grammar.specs.declared.symbol.Symbol.TheVariants as item
use Rattle.cert_lexer.specs.declared.kind.ProofKind.TheVariants as kind
use Rattle.cert_lexer.specs.declared.piece.Word.{Word}
use Rattle.cert_lexer.specs.declared.piece.Word.TheVariants as word
use Rattle.cert_lexer.specs.declared.piece.Sign.TheVariants as sign
use Rattle.cert_lexer.specs.declared.piece.Mode.{Mode}
use Rattle.cert_lexer.specs.declared.piece.Mode.TheVariants as mode
use Rattle.cert_lexer.specs.declared.piece.Piece.TheVariants.{Name, Sign as ASign}
use Rattle.cert_lexer.specs.Grammar.{class_of_word}
use Rattle.cert_lexer.specs.Lexing.{mode_with}
use Rattle.cert_lexer.proofs.CutBack.{bytes_of_word}
use Rattle.cert_text.specs.declared.phase.Next.TheVariants as next
use Rattle.cert_text.specs.NumberFaults.{is_cost, or_else}
use Rattle.cert_text.specs.Lists.{listed, numbers_text}
use Rattle.cert_text.specs.Remembered.{Draft, Inside, State, in_64, no_draft}
use Rattle.cert_text.specs.Spelled.{AreProofsWithin, IsProofWithin, IsMemberWithin, IsSymbolFormWithin}
use Rattle.cert_text.specs.Texts.{cost_by_text, form_text, has_cost, have_cost, member_text, more_uses_text, node_text, rank_text}
use Rattle.cert_text.specs.Texts.{uses_text}
use Rattle.cert_text.proofs.Along.{Along, Bytes, Then, flatten}
use Rattle.cert_text.proofs.Back.{less, made_back, mark_back, mode_to, on, shorter, sign_back, turned_to, word_back}
use Rattle.cert_text.proofs.BoundsBack.{Ends, bound_back, ends_mark, ends_piece}
use Rattle.cert_text.proofs.Cutting.{Bare}
use Rattle.cert_text.proofs.Listing.{same_32}
use Rattle.cert_text.proofs.ListsBack.{not_none, number_back, numbers_back, or_none, plain_back, rule_back, rules_back}
use Rattle.cert_text.proofs.ListsBack.{when_none}
use Rattle.cert_text.proofs.MembersBack.{by_back, member_back, members_back}
use Rattle.cert_text.proofs.NodeTexts.{deeper, ended, list_in, or_assoc, or_false, or_true, paid, uses_same}
use Rattle.cert_text.proofs.PartsBack.{forms_back, in_limit, moves_back, numbers_within}
use Rattle.cert_text.proofs.States.{Base, Last, Sure, limit_of, st}

-- how a node ended: with a bracket, a bound, or another piece
pub data Ended : Type 0 where
  AtPlain : Ended
  AtClosed : Ended
  AtBound : ℕ → Ended

abbrev pub mode_of : Ended → Mode
mode_of AtPlain = mode.Plain
mode_of AtClosed = mode.Closed
mode_of (AtBound depth) = mode.InBound depth 0

-- the mode after a node, at a line feed
pub feed_mode : (k : Ended) → mode_with (mode_of k) (ASign sign.LineFeed) ≡ mode.Plain
feed_mode AtPlain = refl
feed_mode AtClosed = refl
feed_mode (AtBound depth) = refl

semicolon_mode : (k : Ended) → mode_with (mode_of k) (ASign sign.Semicolon) ≡ mode.Plain
semicolon_mode AtPlain = refl
semicolon_mode AtClosed = refl
semicolon_mode (AtBound depth) = refl

brace_mode : (k : Ended) → mode_with (mode_of k) (ASign sign.CloseBrace) ≡ mode.Plain
brace_mode AtPlain = refl
brace_mode AtClosed = refl
brace_mode (AtBound depth) = refl

bracket_mode : (k : Ended) → mode_with (mode_of k) (ASign sign.Close) ≡ mode.Closed
bracket_mode AtPlain = refl
bracket_mode AtClosed = refl
bracket_mode (AtBound depth) = refl

-- a result from either of two tests that pass, if their disjunction passes
either : {X : Type 0} (a b : Bool) → (a ≡ true → X) → (b ≡ true → X) → (a || b) ≡ true → X
either true b f g h = f refl
either false b f g h = g h

-- a number without a fault is that of an earlier lemma
lemma_there : (limit count n : ℕ)
    → or_else (when (nat_lt limit n) kind.NumberTooLarge) (when (not (nat_lt 0 n && nat_le n count)) kind.BadReference)
    ≡ None → (1 ≤ n) × (n ≤ count)
lemma_there limit count n h =
    let f = or_none (when (nat_lt limit n) kind.NumberTooLarge)
    (when (not (nat_lt 0 n && nat_le n count)) kind.BadReference) h in
    let t = and_parts (nat_lt 0 n) (nat_le n count) (not_none (nat_lt 0 n && nat_le n count) kind.BadReference f.1) in
    let some = t.0 in
    ((let l : 1 ≤ n = grind (arith, nat_tests) in l), leb-true n count t.1)

-- a node on costs has no fault only under version 2
priced_so : (v : Bool) → (true && not v) ≡ false → v ≡ true
priced_so true h = refl
priced_so false h = cc

module _ {p : Program} {ss : List Symbol} {whole : List ℕ} {Q : State → Type 0} {R : Type 0} (b : Base) (l : Last) (d : Draft)
  where
    -- a node that was read begins with its word, at a level that isn't too deep
    begin_back : (w : Word) → ¬ (w ≡ word.Other)
        → Along p (item.Mark 4 ∷ item.Piece (class_of_word w) ∷ ss) (st b l d) mode.Plain whole Q
        → ((symbol : ℕ) (rest : List ℕ) → suc b.levels ≤ 64 → (is_cost w && not b.priced) ≡ false
        → whole ≡ bytes_of_word w ++ rest
        → Along p ss (st (deeper b) (record l { symbol = symbol }) no_draft) (mode_with mode.Plain (Name w symbol)) rest Q → R)
        → R
    begin_back w proper a k = word_back w proper (λ c cs. refl) (mark_back 4 a) (λ symbol rest none e x.
        let f = or_none (when (is_cost w && not b.priced) kind.Syntax) (when (nat_lt 64 (in_64 (b.levels + 1))) kind.TooDeep) none in
        let low = lt_false 64 (in_64 (b.levels + 1)) (when_none (nat_lt 64 (in_64 (b.levels + 1))) kind.TooDeep f.1) in
        let level : suc b.levels ≤ 64 = omega (arith, low) in
        let same : in_64 (b.levels + 1) ≡ suc b.levels = omega (arith, level) in
        k symbol rest level (when_none (is_cost w && not b.priced) kind.Syntax f.0) e
        (turned_to (ap (λ (n : ℕ). st (record b { levels = n }) (record l { symbol = symbol }) no_draft) same) x))

-- no piece of a bound follows premises
ends_more : {p : Program} {ss : List Symbol} {Q : State → Type 0} → Ends p (item.Made 7 ∷ ss) Q
ends_more s m whole first others q len last e f a =
    made_back 7 ((item.Piece 37 ∷ []) ∷ (item.Piece 40 ∷ item.Piece 32 ∷ item.Made 4 ∷ item.Mark 17 ∷ item.Made 7 ∷ []) ∷ [])
    refl a (
      (λ x. ends_piece 37 (λ k. absurd (omega (arith, k))) s m whole first others q len last e f x),
      ((λ x. ends_piece 40 (λ k. absurd (omega (arith, k))) s m whole first others q len last e f x), tt),
    )

-- the properties of a node that was read
abbrev pub NodeRead : Program → List Symbol → (State → Type 0) → Type 0 → Base → List ℕ → Type 0
NodeRead p ss Q R b whole =
    (v : Proof) (m : Last) (g : Draft) (k : Ended) (rest : List ℕ) → IsProofWithin p (length b.lemmas) (suc b.levels) v
    → (has_cost v ≡ true → b.priced ≡ true) → m.node ≡ v → whole ≡ node_text p v ++ rest
    → Along p ss (st (paid b (b.paid || has_cost v)) m g) (mode_of k) rest Q → R

-- the text of a ranking node, part by part
abbrev RankFlat : Program → RankNode → List ℕ → List ℕ
RankFlat p n rest =
    codes "rank " ++ (decimal n.rule ++ (codes " set " ++ (numbers_text n.set ++ (codes " den " ++ (decimal n.den
    ++ (codes " forms " ++ (listed (map (form_text p) n.forms) ++ (codes " moves " ++ (listed (map numbers_text n.moves)
    ++ (codes " floor " ++ (numbers_text n.floor ++ rest)))))))))))

rank_flat : (p : Program) (n : RankNode) (rest : List ℕ) → rank_text p n ++ rest ≡ RankFlat p n rest
rank_flat p n rest =
    flatten (Then (Then (Bytes (codes "rank ")) (Then (Bytes (decimal n.rule)) (Then (Bytes (codes " set "))
    (Then (Bytes (numbers_text n.set)) (Then (Bytes (codes " den ")) (Bytes (decimal n.den)))))))
    (Then (Bytes (codes " forms ")) (Then (Bytes (listed (map (form_text p) n.forms))) (Then (Bytes (codes " moves "))
    (Then (Bytes (listed (map numbers_text n.moves))) (Then (Bytes (codes " floor ")) (Bytes (numbers_text n.floor)))))))) rest

rank_few : {whole : List ℕ} (p : Program) (f : ℕ) (n : RankNode) (rest : List ℕ) → length whole < suc f
    → whole ≡ RankFlat p n rest → length rest < f
rank_few {whole} p f n rest few e =
    let long = ap length (e ∙ sym (rank_flat p n rest)) in
    let both = length-append (rank_text p n) rest in
    let some : 1 ≤ length (rank_text p n) = omega arith in
    omega (arith, few, long, both, some)

module _ {p : Program} {Q : State → Type 0} {R : Type 0} (sure : Sure p) where
  mutual
    -- a node that was read is spelled by the bytes, and within the limits
    pub node_back : (f : ℕ) {ss : List Symbol} {whole : List ℕ} → length whole < f → (b : Base) (l : Last) (d : Draft)
        → b.in_gap ≡ false → length b.lemmas ≤ 100000 → Ends p ss Q
        → Along p (item.Made 4 ∷ ss) (st b l d) mode.Plain whole Q → NodeRead p ss Q R b whole → R
    node_back zero few b l d outside small ends a k = absurd (omega (arith, few))
    node_back (suc f) few b l d outside small ends a k =
        made_back 4 (
        (item.Mark 4 ∷ item.Piece 4 ∷ item.Piece 32 ∷ item.Mark 5 ∷ item.Made 8 ∷ item.Mark 6 ∷ []) ∷
        (item.Mark 4 ∷ item.Piece 5 ∷ item.Mark 7 ∷ []) ∷
        (item.Mark 4 ∷ item.Piece 6 ∷ item.Piece 32 ∷ item.Made 9 ∷ item.Piece 32 ∷ item.Made 15 ∷ item.Mark 8 ∷ []) ∷
        (item.Mark 4 ∷ item.Piece 7 ∷ item.Piece 32 ∷ item.Made 9 ∷ item.Made 5 ∷ item.Mark 9 ∷ []) ∷
        (item.Mark 4 ∷ item.Piece 8 ∷ item.Piece 32 ∷ item.Piece 38 ∷ item.Made 4 ∷ item.Piece 39 ∷ item.Mark 10 ∷ []) ∷
        (item.Mark 4 ∷ item.Piece 9 ∷ item.Piece 32 ∷ item.Made 9 ∷ item.Piece 32 ∷ item.Piece 15 ∷ item.Piece 32 ∷
        item.Made 11 ∷ item.Piece 32 ∷ item.Piece 16 ∷ item.Piece 32 ∷ item.Made 10 ∷ item.Piece 32 ∷ item.Piece 17 ∷
        item.Piece 32 ∷ item.Made 23 ∷ item.Piece 32 ∷ item.Piece 18 ∷ item.Piece 32 ∷ item.Made 26 ∷ item.Piece 32 ∷
        item.Piece 19 ∷ item.Piece 32 ∷ item.Made 15 ∷ item.Made 5 ∷ item.Mark 11 ∷ []) ∷
        (item.Mark 4 ∷ item.Piece 10 ∷ item.Piece 32 ∷ item.Made 28 ∷ item.Made 5 ∷ item.Mark 12 ∷ []) ∷
        (item.Mark 4 ∷ item.Piece 11 ∷ item.Piece 32 ∷ item.Piece 34 ∷ item.Made 28 ∷ item.Made 29 ∷ item.Made 5 ∷
        item.Mark 13 ∷ []) ∷
        (item.Mark 4 ∷ item.Piece 12 ∷ item.Piece 32 ∷ item.Piece 38 ∷ item.Made 4 ∷ item.Piece 39 ∷ item.Piece 32 ∷
        item.Piece 24 ∷ item.Piece 32 ∷ item.Piece 44 ∷ item.Made 40 ∷ item.Mark 14 ∷ []) ∷
        (item.Mark 4 ∷ item.Piece 13 ∷ item.Piece 32 ∷ item.Made 9 ∷ item.Piece 32 ∷ item.Made 31 ∷ item.Made 5 ∷
        item.Mark 15 ∷ []) ∷ []) refl a (
          -- cite
          (λ x. begin_back b l d word.Cite (λ e. cc) x (λ s r1 level free e1 y. sign_back sign.Blank y (λ r2 e2 z.
              number_back Bare (λ n h. let t = lemma_there (limit_of b) (length b.lemmas) n h in let u = t.1 in
              omega (arith, u, small))
              (mark_back 5 z) (λ n rest none e3 w.
              let t = lemma_there (limit_of b) (length b.lemmas) n none in
              let u = t.1 in
              let low : n < 2 ^ 32 = omega (arith, u, small) in
              k (Cite n) (record l { symbol = s; number = n; node = Cite n; bound = Constant 0 }) no_draft AtPlain rest
              (level, t) (λ c. cc) refl (on (codes "cite ") (on (codes "cite") e1 e2) e3 ∙ sym (append_assoc (codes "cite ") (decimal n) rest))
              (turned_to
              (ap (λ (j : ℕ). st (record b { levels = suc b.levels - 1 })
              (record l { symbol = s; number = n; node = Cite j; bound = Constant 0 }) no_draft) (same_32 n low)
              ∙ ended b b.paid (b.paid || false) (record l { symbol = s; number = n }) (Cite n) (or_false b.paid))
              (mark_back 6 w)))))),
          -- start
          (
            (λ x. begin_back b l d word.Start (λ e. cc) x (λ s rest level free e1 y.
                k Start (record l { symbol = s; node = Start; bound = Constant 0 }) no_draft AtPlain rest (level, tt) (λ c. cc) refl
                e1 (turned_to (ended b b.paid (b.paid || false) (record l { symbol = s }) Start (or_false b.paid))
                (mark_back 7 y)))),
            -- empty
            (
              (λ x. begin_back b l d word.Empty (λ e. cc) x (λ s r1 level free e1 y. sign_back sign.Blank y (λ r2 e2 z.
                  rule_back (deeper b) (record l { symbol = s }) no_draft sure z (λ r r3 is e3 w.
                  sign_back sign.Blank w (λ r4 e4 u.
                  numbers_back (deeper b) (record l { symbol = s; number = r }) (record no_draft { rule = r }) u
                  (λ ms m rest all e5 t.
                  k (Empty r ms) (record m { node = Empty r ms; bound = Constant 0 }) no_draft AtPlain rest
                  (level, (is, numbers_within (deeper b) outside ms all)) (λ c. cc) refl
                  (on (codes "empty ") (on (codes "empty") e1 e2) (on (decimal r) e3 (on (codes " ") e4 e5))
                  ∙ sym (flatten (Then (Bytes (codes "empty ")) (Then (Bytes (decimal r)) (Then (Bytes (codes " "))
                  (Bytes (numbers_text ms))))) rest))
                  (turned_to (ended b b.paid (b.paid || false) m (Empty r ms) (or_false b.paid)) (mark_back 8 t)))))))),
              -- unreached
              (
                (λ x. begin_back b l d word.Unreached (λ e. cc) x (λ s r1 level free e1 y. sign_back sign.Blank y (λ r2 e2 z.
                    rule_back (deeper b) (record l { symbol = s }) no_draft sure z (λ r r3 is e3 w.
                    let one = shorter (codes "unreached") r1 e1 in let two = less 32 e2 in let three = shorter (decimal r) r3 e3 in
                    uses_back f (omega (arith, few, one, two, three)) (deeper b) (record l { symbol = s; number = r })
                    (record no_draft { rule = r }) outside small w (λ us m rest within priced e4 u.
                    k (Unreached r us) (record m { node = Unreached r us; bound = Constant 0 }) no_draft AtPlain rest
                    ((level, is), within) priced refl
                    (on (codes "unreached ") (on (codes "unreached") e1 e2) (on (decimal r) e3 e4)
                    ∙ sym (flatten (Then (Bytes (codes "unreached ")) (Then (Bytes (decimal r)) (Bytes (uses_text p us)))) rest))
                    (turned_to
                    (ap (λ (ws : Proofs). st (record (paid b (b.paid || have_cost us)) { levels = suc b.levels - 1 })
                    (record m { node = Unreached r ws; bound = Constant 0 }) no_draft) (uses_same us)
                    ∙ ended b (b.paid || have_cost us) (b.paid || have_cost us) m (Unreached r us) refl) (mark_back 9 u))))))),
                -- never
                (
                  (λ x. begin_back b l d word.Never (λ e. cc) x (λ s r1 level free e1 y. sign_back sign.Blank y (λ r2 e2 z.
                      sign_back sign.Open z (λ r3 e3 w.
                      let one = shorter (codes "never") r1 e1 in let two = less 32 e2 in let three = less 40 e3 in
                      node_back f (omega (arith, few, one, two, three)) (deeper b) (record l { symbol = s }) no_draft outside small
                      (ends_piece 39 (λ k. absurd (omega (arith, k)))) w (λ child m g j r4 within priced is e4 u.
                      sign_back sign.Close u (λ rest e5 t.
                      k (Never child) (record m { node = Never child; bound = Constant 0 }) no_draft AtClosed rest
                      ((level, tt), within) priced refl
                      (on (codes "never (") (on (codes "never") e1 (on (codes " ") e2 e3)) (on (node_text p child) e4 e5)
                      ∙ sym (flatten (Then (Bytes (codes "never (")) (Then (Bytes (node_text p child)) (Bytes (codes ")")))) rest))
                      (turned_to
                      (ap (λ (w : Proof). st (record (paid b (b.paid || has_cost child)) { levels = suc b.levels - 1 })
                      (record m { node = Never w; bound = Constant 0 }) no_draft) is
                      ∙ ended b (b.paid || has_cost child) (b.paid || has_cost child) m (Never child) refl)
                      (mark_back 10 (mode_to (bracket_mode j) t))))))))),
                  -- rank
                  (
                    (λ x. begin_back b l d word.Rank (λ e. cc) x (λ s r1 level free e1 y. sign_back sign.Blank y (λ r2 e2 z.
                        rule_back (deeper b) (record l { symbol = s }) no_draft sure z (λ r r3 is e3 w3. sign_back sign.Blank w3 (λ r4 e4 w4.
                        word_back word.Set (λ e. cc) (λ c cs. refl) w4 (λ s5 r5 n5 e5 w5. sign_back sign.Blank w5 (λ r6 e6 w6.
                        rules_back sure (deeper b) (record l { symbol = s5; number = r }) (record no_draft { rule = r }) w6
                        (λ rs m7 r7 all e7 w7. sign_back sign.Blank w7 (λ r8 e8 w8.
                        word_back word.Den (λ e. cc) (λ c cs. refl) w8 (λ s9 r9 n9 e9 w9. sign_back sign.Blank w9 (λ r10 e10 w10.
                        plain_back (deeper b) (record m7 { symbol = s9 }) (record no_draft { rule = r; set = rs }) w10
                        (λ den r11 low e11 w11. sign_back sign.Blank w11 (λ r12 e12 w12.
                        word_back word.Forms (λ e. cc) (λ c cs. refl) w12 (λ s13 r13 n13 e13 w13. sign_back sign.Blank w13 (λ r14 e14 w14.
                        forms_back sure (deeper b) outside (record m7 { symbol = s13; number = den })
                        (record no_draft { rule = r; set = rs; den = den }) w14
                        (λ fs m15 r15 some_form forms_all e15 w15. sign_back sign.Blank w15 (λ r16 e16 w16.
                        word_back word.Moves (λ e. cc) (λ c cs. refl) w16 (λ s17 r17 n17 e17 w17. sign_back sign.Blank w17 (λ r18 e18 w18.
                        moves_back sure (deeper b) outside (record m15 { symbol = s17 })
                        (record no_draft { rule = r; set = rs; den = den; forms = fs }) w18
                        (λ nss m19 r19 some_move moves_all e19 w19. sign_back sign.Blank w19 (λ r20 e20 w20.
                        word_back word.Floor (λ e. cc) (λ c cs. refl) w20 (λ s21 r21 n21 e21 w21. sign_back sign.Blank w21 (λ r22 e22 w22.
                        numbers_back (deeper b) (record m19 { symbol = s21 })
                        (record no_draft { rule = r; set = rs; den = den; forms = fs; moves = nss }) w22
                        (λ floor m23 r23 floor_all e23 w23.
                        let n : RankNode = record { rule = r; set = rs; den = den; forms = fs; moves = nss; floor = floor } in
                        let text = on (codes "rank ") (on (codes "rank") e1 e2) (on (decimal r) e3 (on (codes " set ") (on (codes " ") e4
                        (on (codes "set") e5 e6)) (on (numbers_text rs) e7 (on (codes " den ") (on (codes " ") e8 (on (codes "den") e9 e10))
                        (on (decimal den) e11 (on (codes " forms ") (on (codes " ") e12 (on (codes "forms") e13 e14))
                        (on (listed (map (form_text p) fs)) e15 (on (codes " moves ") (on (codes " ") e16 (on (codes "moves") e17 e18))
                        (on (listed (map numbers_text nss)) e19 (on (codes " floor ") (on (codes " ") e20 (on (codes "floor") e21 e22))
                        e23)))))))))) in
                        uses_back f (rank_few p f n r23 few text) (deeper b) m23
                        (record no_draft { rule = r; set = rs; den = den; forms = fs; moves = nss; numbers = floor }) outside small w23
                        (λ us m24 rest within priced e24 w24.
                        k (Rank n us) (record m24 { node = Rank n us; bound = Constant 0 }) no_draft AtPlain rest (
                          (
                            level,
                            record {
                              rule = is;
                              set = all-to (IsRule p) rs all;
                              den = subst (λ (j : ℕ). den ≤ j) (in_limit (deeper b) outside) low;
                              some_form = some_form;
                              forms = all-to (IsSymbolFormWithin p) fs forms_all;
                              some_move = some_move;
                              moves = all-to AreInLimit nss moves_all;
                              floor = numbers_within (deeper b) outside floor floor_all;
                            },
                          ),
                          within,
                        ) priced refl
                        (text ∙ sym (rank_flat p n r23) ∙ ap (λ (bs : List ℕ). rank_text p n ++ bs) e24
                        ∙ sym (append_assoc (rank_text p n) (uses_text p us) rest))
                        (turned_to
                        (ap (λ (ws : Proofs). st (record (paid b (b.paid || have_cost us)) { levels = suc b.levels - 1 })
                        (record m24 { node = Rank n ws; bound = Constant 0 }) no_draft) (uses_same us)
                        ∙ ended b (b.paid || have_cost us) (b.paid || have_cost us) m24 (Rank n us) refl)
                        (mark_back 11 w24))))))))))))))))))))))))))),
                    -- spread
                    (
                      (λ x. begin_back b l d word.Spread (λ e. cc) x (λ s r1 level free e1 y. sign_back sign.Blank y (λ r2 e2 z.
                          member_back sure (deeper b) outside (record l { symbol = s })
                          (record { den = 0; numbers = []; integers = []; form = no_draft.form }) 0 no_draft.result_variable no_draft z
                          (λ v m g r3 is e3 w.
                          let one = shorter (codes "spread") r1 e1 in let two = less 32 e2 in let three = shorter (member_text v) r3 e3 in
                          uses_back f (omega (arith, few, one, two, three)) (deeper b) m _ outside small w (λ us m4 rest within priced e4 u.
                          k (Spread v us) (record m4 { node = Spread v us; bound = Constant 0 }) no_draft AtPlain rest
                          ((level, is), within) priced refl
                          (on (codes "spread ") (on (codes "spread") e1 e2) (on (member_text v) e3 e4)
                          ∙ sym (flatten (Then (Bytes (codes "spread ")) (Then (Bytes (member_text v)) (Bytes (uses_text p us)))) rest))
                          (turned_to
                          (ap (λ (ws : Proofs). st (record (paid b (b.paid || have_cost us)) { levels = suc b.levels - 1 })
                          (record m4 { node = Spread v ws; bound = Constant 0 }) no_draft) (uses_same us)
                          ∙ ended b (b.paid || have_cost us) (b.paid || have_cost us) m4 (Spread v us) refl) (mark_back 12 u))))))),
                      -- cycle
                      (
                        (λ x. begin_back b l d word.Cycle (λ e. cc) x (λ s r1 level free e1 y. sign_back sign.Blank y (λ r2 e2 z.
                            members_back sure (deeper b) outside (record l { symbol = s })
                            (record { den = 0; numbers = []; integers = []; form = no_draft.form }) 0 no_draft.result_variable no_draft z
                            (λ ms m g j sq r3 some all e3 w.
                            let one = shorter (codes "cycle") r1 e1 in let two = less 32 e2 in
                            let three = shorter (listed (map member_text ms)) r3 e3 in
                            uses_back f (omega (arith, few, one, two, three)) (deeper b) m _ outside small w (λ us m4 rest within priced e4 u.
                            k (Cycle ms us) (record m4 { node = Cycle ms us; bound = Constant 0 }) no_draft AtPlain rest
                            ((level, (some, all-to (IsMemberWithin p) ms all)), within) priced refl
                            (on (codes "cycle ") (on (codes "cycle") e1 e2) (on (listed (map member_text ms)) e3 e4)
                            ∙ sym (flatten (Then (Bytes (codes "cycle ")) (Then (Bytes (listed (map member_text ms))) (Bytes (uses_text p us))))
                            rest))
                            (turned_to
                            (ap (λ (ws : Proofs). st (record (paid b (b.paid || have_cost us)) { levels = suc b.levels - 1 })
                            (record m4 { node = Cycle ms ws; bound = Constant 0 }) no_draft) (uses_same us)
                            ∙ ended b (b.paid || have_cost us) (b.paid || have_cost us) m4 (Cycle ms us) refl) (mark_back 13 u))))))),
                        -- weaken
                        (
                          (λ x. begin_back b l d word.Weaken (λ e. cc) x (λ s r1 level free e1 y. sign_back sign.Blank y (λ r2 e2 z.
                              sign_back sign.Open z (λ r3 e3 w.
                              let one = shorter (codes "weaken") r1 e1 in let two = less 32 e2 in let three = less 40 e3 in
                              node_back f (omega (arith, few, one, two, three)) (deeper b) (record l { symbol = s }) no_draft outside small
                              (ends_piece 39 (λ k. absurd (omega (arith, k)))) w (λ child m g j r4 within priced is e4 u.
                              sign_back sign.Close u (λ r5 e5 t. sign_back sign.Blank (mode_to (bracket_mode j) t) (λ r6 e6 o.
                              word_back word.To (λ e. cc) (λ c cs. refl) o (λ s2 r7 none e7 i. sign_back sign.Blank i (λ r8 e8 aa.
                              bound_back sure (paid (deeper b) (b.paid || has_cost child)) (record m { symbol = s2 }) g (ends_mark 14 ends) aa
                              (λ v behind rest is_bound e9 bb.
                              k (Weaken child v) (record m { symbol = s2; node = Weaken child v; bound = Constant 0 }) no_draft (AtBound behind)
                              rest ((level, is_bound), within) priced refl
                              (on (codes "weaken (") (on (codes "weaken") e1 (on (codes " ") e2 e3)) (on (node_text p child) e4
                              (on (codes ") to ") (on (codes ")") e5 (on (codes " ") e6 (on (codes "to") e7 e8))) e9))
                              ∙ sym (flatten (Then (Bytes (codes "weaken (")) (Then (Bytes (node_text p child)) (Then (Bytes (codes ") to "))
                              (Bytes (text_of_bound p.start_names v))))) rest))
                              (turned_to
                              (ap (λ (u : Proof). st (record (paid b (b.paid || has_cost child)) { levels = suc b.levels - 1 })
                              (record m { symbol = s2; node = Weaken u v; bound = Constant 0 }) no_draft) is
                              ∙ ended b (b.paid || has_cost child) (b.paid || has_cost child) (record m { symbol = s2 }) (Weaken child v) refl)
                              (mark_back 14 bb)))))))))))),
                          -- cost
                          (
                            (λ x. begin_back b l d word.Cost (λ e. cc) x (λ s r1 level free e1 y. sign_back sign.Blank y (λ r2 e2 z.
                                rule_back (deeper b) (record l { symbol = s }) no_draft sure z (λ r r3 is e3 w. sign_back sign.Blank w (λ r4 e4 u.
                                by_back sure (deeper b) outside (record l { symbol = s; number = r }) r u (λ v m g r5 fine e5 t.
                                let one = shorter (codes "cost") r1 e1 in let two = less 32 e2 in let three = shorter (decimal r) r3 e3 in
                                let four = less 32 e4 in let five = shorter (cost_by_text v) r5 e5 in
                                uses_back f (omega (arith, few, one, two, three, four, five)) (deeper b) m _ outside small t
                                (λ us m4 rest within priced e6 o.
                                k (CostBound (record { rule = r; by = v }) us)
                                (record m4 { node = CostBound (record { rule = r; by = v }) us; bound = Constant 0 }) no_draft AtPlain rest
                                ((level, (is, fine)), within) (λ c. priced_so b.priced free) refl
                                (on (codes "cost ") (on (codes "cost") e1 e2) (on (decimal r) e3 (on (codes " ") e4 (on (cost_by_text v) e5 e6)))
                                ∙ sym (flatten (Then (Bytes (codes "cost ")) (Then (Bytes (decimal r)) (Then (Bytes (codes " "))
                                (Then (Bytes (cost_by_text v)) (Bytes (uses_text p us)))))) rest))
                                (turned_to
                                (ap (λ (ws : Proofs). st (record (paid b true) { levels = suc b.levels - 1 })
                                (record m4 { node = CostBound (record { rule = r; by = v }) ws; bound = Constant 0 }) no_draft) (uses_same us)
                                ∙ ended b true (b.paid || true) m4 (CostBound (record { rule = r; by = v }) us) (or_true b.paid))
                                (mark_back 15 o))))))))),
                            tt,
                          ),
                        ),
                      ),
                    ),
                  ),
                ),
              ),
            ),
          ),
        )

    -- the premises of a node that were read are spelled by the bytes
    uses_back : (f : ℕ) {ss : List Symbol} {whole : List ℕ} → length whole < f → (b : Base) (l : Last) (d : Draft)
        → b.in_gap ≡ false → length b.lemmas ≤ 100000 → Along p (item.Made 5 ∷ ss) (st b l d) mode.Plain whole Q
        → ((us : Proofs) (m : Last) (rest : List ℕ) → AreProofsWithin p (length b.lemmas) (suc b.levels) us
        → (have_cost us ≡ true → b.priced ≡ true) → whole ≡ uses_text p us ++ rest
        → Along p ss (st (paid b (b.paid || have_cost us)) m (record d { uses = list_in us })) mode.Plain rest Q → R) → R
    uses_back zero few b l d outside small a k = absurd (omega (arith, few))
    uses_back (suc f) few b l d outside small a k =
        made_back 5 ((item.Piece 32 ∷ item.Piece 14 ∷ item.Piece 32 ∷ item.Piece 36 ∷ item.Mark 16 ∷ item.Made 6 ∷
        item.Mark 18 ∷ []) ∷ []) refl a (
          (λ x. sign_back sign.Blank x (λ r1 e1 y. word_back word.Uses (λ e. cc) (λ c cs. refl) y (λ s r2 none e2 z.
              sign_back sign.Blank z (λ r3 e3 w. sign_back sign.OpenBrace w (λ r4 e4 u.
              made_back 6 ((item.Piece 37 ∷ []) ∷ (item.Made 4 ∷ item.Mark 17 ∷ item.Made 7 ∷ []) ∷ []) refl (mark_back 16 u) (
                (λ t. sign_back sign.CloseBrace t (λ rest e5 o.
                    k NoProof (record l { symbol = s }) rest tt (λ c. cc)
                    (on (codes " ") e1 (on (codes "uses") e2 (on (codes " ") e3 (on (codes "{") e4 e5))))
                    (turned_to (ap (λ (v : Bool). st (paid b v) (record l { symbol = s }) (record d { uses = [] }))
                    (or_false b.paid)) (mark_back 18 o)))),
                (
                  (λ t.
                      let one = less 32 e1 in let two = shorter (codes "uses") r2 e2 in let three = less 32 e3 in
                      let four = less 123 e4 in
                      node_back f (omega (arith, few, one, two, three, four)) (record b { outer = Inside d b.used b.outer; used = [] })
                      (record l { symbol = s }) no_draft outside small (ends_mark 17 ends_more) t
                      (λ v m g j r5 within priced is e5 o.
                      let five = shorter (node_text p v) r5 e5 in
                      more_uses_back f (omega (arith, few, one, two, three, four, five)) b (record m { node = Start }) g j d (v ∷ [])
                      (b.paid || has_cost v) outside small
                      (turned_to (ap (λ (w : Proof). st (record (paid b (b.paid || has_cost v)) {
                        outer = Inside d b.used b.outer;
                        used = w ∷ [];
                      }) (record m { node = Start }) g) is) (mark_back 17 o))
                      (λ us n rest all costs e6 i.
                      k (AndProof v us) n rest (within, all) (either (has_cost v) (have_cost us) priced costs)
                      (on (codes " uses {") (on (codes " ") e1 (on (codes "uses") e2 (on (codes " ") e3 e4)))
                      (on (node_text p v) e5 e6)
                      ∙ sym (flatten (Then (Bytes (codes " uses {")) (Then (Bytes (node_text p v))
                      (Then (Bytes (more_uses_text p us)) (Bytes (codes "}"))))) rest))
                      (turned_to (ap (λ (w : Bool). st (paid b w) n (record d { uses = v ∷ list_in us }))
                      (or_assoc b.paid (has_cost v) (have_cost us))) i)))),
                  tt,
                ),
              )))))),
          tt,
        )

    -- the premises that are left, once read, are spelled by the bytes
    more_uses_back : (f : ℕ) {ss : List Symbol} {whole : List ℕ} → length whole < f → (b : Base) (l : Last) (g : Draft)
        (j : Ended) (d : Draft) (xs : List Proof) (q : Bool) → b.in_gap ≡ false → length b.lemmas ≤ 100000
        → Along p (item.Made 7 ∷ item.Mark 18 ∷ ss) (st (record (paid b q) { outer = Inside d b.used b.outer; used = xs }) l g)
        (mode_of j) whole Q
        → ((us : Proofs) (m : Last) (rest : List ℕ) → AreProofsWithin p (length b.lemmas) (suc b.levels) us
        → (have_cost us ≡ true → b.priced ≡ true) → whole ≡ more_uses_text p us ++ (125 ∷ rest)
        → Along p ss (st (paid b (q || have_cost us)) m (record d { uses = xs ++ list_in us })) mode.Plain rest Q → R) → R
    more_uses_back zero few b l g j d xs q outside small a k = absurd (omega (arith, few))
    more_uses_back (suc f) few b l g j d xs q outside small a k =
        made_back 7 ((item.Piece 37 ∷ []) ∷ (item.Piece 40 ∷ item.Piece 32 ∷ item.Made 4 ∷ item.Mark 17 ∷ item.Made 7 ∷ []) ∷ [])
        refl a (
          (λ x. sign_back sign.CloseBrace x (λ rest e y.
              k NoProof l rest tt (λ c. cc) e
              (turned_to (ap (λ (v : Bool). st (paid b v) l (record d { uses = xs })) (or_false q)
              ∙ ap (λ (ys : List Proof). st (paid b (q || false)) l (record d { uses = ys })) (sym (append-nil xs)))
              (mark_back 18 (mode_to (brace_mode j) y))))),
          (
            (λ x. sign_back sign.Semicolon x (λ r1 e1 y. sign_back sign.Blank (mode_to (semicolon_mode j) y) (λ r2 e2 z.
                let one = less 59 e1 in let two = less 32 e2 in
                node_back f (omega (arith, few, one, two)) (record (paid b q) { outer = Inside d b.used b.outer; used = xs }) l g
                outside small (ends_mark 17 ends_more) z (λ v m h i r3 within priced is e3 w.
                let three = shorter (node_text p v) r3 e3 in
                more_uses_back f (omega (arith, few, one, two, three)) b (record m { node = Start }) h i d (xs ++ v ∷ [])
                (q || has_cost v) outside small
                (turned_to (ap (λ (u : Proof). st (record (paid b (q || has_cost v)) {
                  outer = Inside d b.used b.outer;
                  used = xs ++ u ∷ [];
                }) (record m { node = Start }) h) is) (mark_back 17 w))
                (λ us n rest all costs e4 u.
                k (AndProof v us) n rest (within, all) (either (has_cost v) (have_cost us) priced costs)
                (on (codes "; ") (on (codes ";") e1 e2) (on (node_text p v) e3 e4)
                ∙ sym (flatten (Then (Bytes (codes "; ")) (Then (Bytes (node_text p v)) (Bytes (more_uses_text p us)))) (125 ∷ rest)))
                (turned_to (ap (λ (w : Bool). st (paid b w) n (record d { uses = (xs ++ v ∷ []) ++ list_in us }))
                (or_assoc q (has_cost v) (have_cost us))
                ∙ ap (λ (ys : List Proof). st (paid b (q || (has_cost v || have_cost us))) n (record d { uses = ys }))
                (append_assoc xs (v ∷ []) (list_in us))) u)))))),
            tt,
          ),
        )
