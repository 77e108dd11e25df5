-- Bytes that were read as a proof file are the text of a file within the limits.
use Rattle.std.proofs.Common.{◌≡◌, ℕ, zero, suc, ◌+◌, ◌-◌, ◌<◌, ◌≤◌, ◌^◌, Bool, true, false, cond, List, [], ◌∷◌, ◌++◌, length}
use Rattle.std.proofs.Common.{map, drop, Option, Some, None, refl, ap, sym, subst, ◌∙◌, arith, inl, inr, append-nil}
use Rattle.std.proofs.Common.{append_assoc, length-append}
use Rattle.std.specs.Prelude.{Result, Ok, Err, IfOk, is_some, nat_le, not, ◌&&◌, ◌||◌, ◌==◌, codes}
use Rattle.std.specs.List.{AllByRecursion}
use Rattle.std.specs.Fmt.{decimal}
use Rattle.std.specs.Char.{is_ascii_digit}
use Rattle.std.proofs.lemmas.Fmt.{decimal_digit}
use Rattle.std.proofs.lemmas.Bool.{leb-false as le_false}
use Rattle.std.proofs.lemmas.Bool.Decides.{nat_tests}
use Rattle.its_model.specs.model.Programs.{Program}
use Rattle.its_model.specs.model.Bounds.{Constant}
use Rattle.its_model.proofs.ListLaws.{all-to}
use Rattle.bound_text.specs.Lexing as bounds
use Rattle.cert_types.specs.AnswerViews.{file_of}
use Rattle.cert_types.specs.declared.file.ProofFile as code_file
use Rattle.cert_types.specs.cert_rules.AcceptsPlain.{IsRule}
use Rattle.cert_types.specs.cert_rules.Gaps.{Gap, ProofFile, ScaledPoint}
use Rattle.cert_types.specs.cert_rules.Nodes.{Proof, Start}
use Rattle.text_grammar.specs.text_core.Choices.{when}
use Rattle.text_grammar.specs.text_core.Names.{begins_name, continues_name}
use Rattle.text_grammar.specs.text_core.Prefixes.{prefix}
use Rattle.text_grammar.specs.text_core.Reading.{Answer, Parsed, Refused, answer}
use Rattle.text_grammar.specs.text_core.Tokens.{Lexeme, Token, pieces, token_then, tokens_in}
use Rattle.text_grammar.specs.declared.symbol.Symbol.{Symbol}
use Rattle.text_grammar.specs.declared.symbol.Symbol.TheVariants as item
use Rattle.text_grammar.specs.Folds.{after, Passes}
use Rattle.text_grammar.specs.Grammars.{Event, Read, Did}
use Rattle.text_grammar.specs.Results.{AgreesWith}
use Rattle.text_grammar.specs.Texts.{reader}
use Rattle.text_grammar.proofs.FoldLaws.{derived_reads, silent_passes, state_after}
use Rattle.text_grammar.proofs.SilenceLaws.{parsed_where_silent}
use Rattle.cert_lexer.specs.declared.kind.ProofKind.{ProofKind}
use Rattle.cert_lexer.specs.declared.kind.ProofKind.TheVariants as kind
use Rattle.cert_lexer.specs.declared.piece.Word.TheVariants as word
use Rattle.cert_lexer.specs.declared.piece.Sign.TheVariants as sign
use Rattle.cert_lexer.specs.declared.piece.Mode.{Mode}
use Rattle.cert_lexer.specs.declared.piece.Mode.TheVariants as mode
use Rattle.cert_lexer.specs.declared.piece.Piece.{Piece}
use Rattle.cert_lexer.specs.declared.piece.Piece.TheVariants.{First, Number}
use Rattle.cert_lexer.specs.Grammar.{class_of_number, proof_grammar}
use Rattle.cert_lexer.specs.Lexing.{bound_lexeme, digits_lexeme, ends_bound, is_first, lexeme, lexeme_in, lexer_of, mode_with}
use Rattle.cert_lexer.specs.Lexing.{name_lexeme, place_lexeme, plain_lexeme, sign_at, symbol_names, tokens}
use Rattle.cert_lexer.specs.Within.{lexes_within}
use Rattle.cert_lexer.proofs.CutBack.{plain_number}
use Rattle.cert_lexer.proofs.PieceClasses.{class_first, class_number}
use Rattle.cert_lexer.proofs.PlaceBack.{first_back}
use Rattle.cert_text.specs.declared.error.ProofTextError.{ProofTextError}
use Rattle.cert_text.specs.Lists.{bracketed, joined, listed, numbers_text}
use Rattle.cert_text.specs.Reading.{Progress, file_in, moved, proof_fold, proofs_of}
use Rattle.cert_text.specs.Remembered.{Draft, State, begun, done, no_draft}
use Rattle.cert_text.specs.Spelled.{AreLemmasWithin, IsFileWithin, IsGapWithin, IsPlaceOf, IsPointWithin, IsTextWithin}
use Rattle.cert_text.specs.Texts.{first_line, gap_lines, gap_text, has_cost, lemma_lines, node_text, symbol_place_text, point_text}
use Rattle.cert_text.specs.Texts.{some_has_cost, text_of}
use Rattle.cert_text.specs.StatedErrors.{refusal_in}
use Rattle.cert_text.proofs.Along.{Along, Bytes, Cuts, IsCutOff, Then, at, flatten, skipped}
use Rattle.cert_text.proofs.Back.{less, made_back, mark_back, mode_to, no_more, on, read_back, shorter, sign_back, turned_to}
use Rattle.cert_text.proofs.Back.{word_back}
use Rattle.cert_text.proofs.BoundsBack.{ends_piece}
use Rattle.cert_text.proofs.FileTexts.{line}
use Rattle.cert_text.proofs.Lawful.{lawful}
use Rattle.cert_text.proofs.ListsBack.{rule_back, rules_back, when_none}
use Rattle.cert_text.proofs.NodesBack.{feed_mode, node_back}
use Rattle.cert_text.proofs.NodeTexts.{or_assoc, or_false}
use Rattle.cert_text.proofs.PartTexts.{bare}
use Rattle.cert_text.proofs.PointsBack.{places_back, point_back, points_back}
use Rattle.cert_text.proofs.States.{Base, Last, Sure, st}

module _ {p : Program} {ss : List Symbol} {whole : List ℕ} {Q : State → Type 0} {R : Type 0} (sure : Sure p) (b : Base) where
  -- a gap that was read along bytes is spelled by them, and within the limits
  gap_back : (l : Last) (d : Draft) → Along p (item.Made 32 ∷ ss) (st b l d) mode.Plain whole Q
      → ((g : Gap) (m : Last) (rest : List ℕ) → IsGapWithin p g → whole ≡ gap_text p g ++ rest
      → Along p ss (st (record b { in_gap = true }) m
      (bare (record no_draft { rule = g.rule; set = g.set; shut = g.shut; gap_moves = g.moves; floor = g.floor; points = g.kept })))
      mode.Plain rest Q → R) → R
  gap_back l d a k =
      let c : Base = record b { in_gap = true } in
      made_back 32 ((item.Mark 41 ∷ item.Made 9 ∷ item.Piece 32 ∷ item.Piece 15 ∷ item.Piece 32 ∷ item.Made 11 ∷ item.Piece 32 ∷
      item.Piece 25 ∷ item.Piece 32 ∷ item.Piece 34 ∷ item.Made 33 ∷ item.Piece 32 ∷ item.Piece 18 ∷ item.Piece 32 ∷
      item.Made 35 ∷ item.Mark 42 ∷ item.Piece 32 ∷ item.Piece 19 ∷ item.Piece 32 ∷ item.Made 37 ∷ item.Mark 43 ∷
      item.Piece 32 ∷ item.Piece 26 ∷ item.Piece 32 ∷ item.Made 35 ∷ []) ∷ []) refl a (
        (λ x. rule_back c l no_draft sure (mark_back 41 x) (λ r r1 is e1 x1. sign_back sign.Blank x1 (λ r2 e2 x2.
            word_back word.Set (λ e. cc) (λ c cs. refl) x2 (λ s3 r3 n3 e3 x3. sign_back sign.Blank x3 (λ r4 e4 x4.
            rules_back sure c (record l { number = r; symbol = s3 }) (record no_draft { rule = r }) x4
            (λ rs m5 r5 set_all e5 x5. sign_back sign.Blank x5 (λ r6 e6 x6.
            word_back word.Shut (λ e. cc) (λ c cs. refl) x6 (λ s7 r7 n7 e7 x7. sign_back sign.Blank x7 (λ r8 e8 x8.
            places_back sure c (record m5 { symbol = s7 }) (record no_draft { rule = r; set = rs }) x8
            (λ shut r9 shut_all e9 x9. sign_back sign.Blank x9 (λ r10 e10 x10.
            word_back word.Moves (λ e. cc) (λ c cs. refl) x10 (λ s11 r11 n11 e11 x11. sign_back sign.Blank x11 (λ r12 e12 x12.
            points_back c refl (record m5 { symbol = s11 }) (record no_draft { rule = r; set = rs; shut = shut }) x12
            (λ moves m13 r13 some_move moves_all e13 x13. sign_back sign.Blank (mark_back 42 x13) (λ r14 e14 x14.
            word_back word.Floor (λ e. cc) (λ c cs. refl) x14 (λ s15 r15 n15 e15 x15. sign_back sign.Blank x15 (λ r16 e16 x16.
            point_back c refl (record m13 { symbol = s15 })
            (record no_draft { rule = r; set = rs; shut = shut; gap_moves = moves }) x16
            (λ floor m17 r17 floor_in e17 x17. sign_back sign.Blank (mark_back 43 x17) (λ r18 e18 x18.
            word_back word.Kept (λ e. cc) (λ c cs. refl) x18 (λ s19 r19 n19 e19 x19. sign_back sign.Blank x19 (λ r20 e20 x20.
            points_back c refl (record m17 { symbol = s19 })
            (record no_draft { rule = r; set = rs; shut = shut; gap_moves = moves; floor = floor }) x20
            (λ kept m21 rest some_kept kept_all e21 x21.
            let g : Gap = record { rule = r; set = rs; shut = shut; moves = moves; floor = floor; kept = kept } in
            k g m21 rest (record {
              rule = is;
              set = all-to (IsRule p) rs set_all;
              shut = all-to (IsPlaceOf p) shut shut_all;
              some_move = some_move;
              moves = all-to IsPointWithin moves moves_all;
              floor = floor_in;
              some_kept = some_kept;
              kept = all-to IsPointWithin kept kept_all;
            })
            (on (decimal r) e1 (on (codes " set ") (on (codes " ") e2 (on (codes "set") e3 e4)) (on (numbers_text rs) e5
            (on (codes " shut ") (on (codes " ") e6 (on (codes "shut") e7 e8))
            (on (bracketed (joined (codes " ") (map (symbol_place_text p) shut))) e9
            (on (codes " moves ") (on (codes " ") e10 (on (codes "moves") e11 e12)) (on (listed (map point_text moves)) e13
            (on (codes " floor ") (on (codes " ") e14 (on (codes "floor") e15 e16)) (on (point_text floor) e17
            (on (codes " kept ") (on (codes " ") e18 (on (codes "kept") e19 e20)) e21)))))))))
            ∙ sym (flatten (Then (Then (Bytes (decimal r)) (Then (Bytes (codes " set ")) (Then (Bytes (numbers_text rs))
            (Then (Bytes (codes " shut ")) (Bytes (bracketed (joined (codes " ") (map (symbol_place_text p) shut))))))))
            (Then (Bytes (codes " moves ")) (Then (Bytes (listed (map point_text moves))) (Then (Bytes (codes " floor "))
            (Then (Bytes (point_text floor)) (Then (Bytes (codes " kept ")) (Bytes (listed (map point_text kept))))))))) rest))
            x21)))))))))))))))))))))),
        tt,
      )

module _ {p : Program} (sure : Sure p) {Q : State → Type 0} {R : Type 0} (priced : Bool) where
  -- gaps and the last line that were read along bytes are spelled by them
  gaps_back : (f : ℕ) {whole : List ℕ} → length whole < f → (paid : Bool) (lemmas : List Proof) (gaps : List Gap) (l : Last)
      (d : Draft) → length gaps ≤ 1000
      → Along p (item.Made 3 ∷ []) (st (line priced paid lemmas gaps) l d) mode.Plain whole Q
      → ((gs : List Gap) (m : Last) (g : Draft) → AllByRecursion (IsGapWithin p) gs → length gaps + length gs ≤ 1000
      → (priced && not paid) ≡ false → whole ≡ gap_lines p gs ++ codes "end\n"
      → Q (st (line priced paid lemmas (gaps ++ gs)) m g) → R) → R
  gaps_back zero few paid lemmas gaps l d count a k = absurd (omega (arith, few))
  gaps_back (suc f) few paid lemmas gaps l d count a k =
      made_back 3 ((item.Piece 2 ∷ item.Piece 32 ∷ item.Made 32 ∷ item.Piece 33 ∷ item.Mark 3 ∷ item.Made 3 ∷ []) ∷
      (item.Piece 3 ∷ item.Piece 33 ∷ []) ∷ []) refl a (
        (λ x. word_back word.Gap (λ e. cc) (λ c cs. refl) x (λ s r1 none e1 y. sign_back sign.Blank y (λ r2 e2 z.
            gap_back sure (line priced paid lemmas gaps) (record l { symbol = s }) d z (λ g m r3 within e3 w.
            sign_back sign.LineFeed w (λ r4 e4 u.
            let low = le_false 1000 (length gaps) (when_none (nat_le 1000 (length gaps)) kind.Limit none) in
            let more = length-append gaps (g ∷ []) in
            let one = shorter (codes "gap") r1 e1 in let two = less 32 e2 in let three = shorter (gap_text p g) r3 e3 in
            let four = less 10 e4 in
            gaps_back f (omega (arith, few, one, two, three, four)) paid lemmas (gaps ++ g ∷ []) m no_draft
            (omega (arith, more, low)) (mark_back 3 u)
            (λ gs n e all most settled e5 q. k (g ∷ gs) n e (within, all) (omega (arith, more, most)) settled
            (on (codes "gap ") (on (codes "gap") e1 e2) (on (gap_text p g) e3 (on (codes "\n") e4 e5))
            ∙ sym (flatten (Then (Bytes (codes "gap ")) (Then (Bytes (gap_text p g)) (Then (Bytes (codes "\n"))
            (Bytes (gap_lines p gs))))) (codes "end\n")))
            (subst (λ (hs : List Gap). Q (st (line priced paid lemmas hs) n e)) (append_assoc gaps (g ∷ []) gs) q))))))),
        (
          (λ x. word_back word.End (λ e. cc) (λ c cs. refl) x (λ s r1 none e1 y. sign_back sign.LineFeed y (λ r2 e2 z.
              let n = no_more z in
              k [] (record l { symbol = s }) d tt (omega (arith, count))
              (when_none (priced && not paid) kind.Syntax none) (on (codes "end") e1 (on (codes "\n") e2 n.0))
              (subst (λ (hs : List Gap). Q (st (line priced paid lemmas hs) (record l { symbol = s }) d))
              (sym (append-nil gaps)) n.1)))),
          tt,
        ),
      )

  -- lemmas, gaps and the last line that were read along bytes are spelled by them
  lemmas_back : (f : ℕ) {whole : List ℕ} → length whole < f → (paid : Bool) (lemmas : List Proof) (l : Last) (d : Draft)
      → length lemmas ≤ 100000
      → Along p (item.Made 2 ∷ []) (st (line priced paid lemmas []) l d) mode.Plain whole Q
      → ((vs : List Proof) (gs : List Gap) (m : Last) (g : Draft) → AreLemmasWithin p (length lemmas) vs
      → length lemmas + length vs ≤ 100000 → (some_has_cost vs ≡ true → priced ≡ true)
      → AllByRecursion (IsGapWithin p) gs → length gs ≤ 1000 → (priced && not (paid || some_has_cost vs)) ≡ false
      → whole ≡ lemma_lines p vs ++ (gap_lines p gs ++ codes "end\n")
      → Q (st (line priced (paid || some_has_cost vs) (lemmas ++ vs) gs) m g) → R) → R
  lemmas_back zero few paid lemmas l d count a k = absurd (omega (arith, few))
  lemmas_back (suc f) {whole} few paid lemmas l d count a k =
      made_back 2 ((item.Piece 1 ∷ item.Piece 32 ∷ item.Made 4 ∷ item.Piece 33 ∷ item.Mark 2 ∷ item.Made 2 ∷ []) ∷
      (item.Made 3 ∷ []) ∷ []) refl a (
        (λ x. word_back word.Lemma (λ e. cc) (λ c cs. refl) x (λ s r1 none e1 y. sign_back sign.Blank y (λ r2 e2 z.
            let low = le_false 100000 (length lemmas) (when_none (nat_le 100000 (length lemmas)) kind.Limit none) in
            let one = shorter (codes "lemma") r1 e1 in let two = less 32 e2 in
            node_back sure f (omega (arith, few, one, two)) (line priced paid lemmas []) (record l { symbol = s }) d refl count
            (ends_piece 33 (λ k. absurd (omega (arith, k)))) z (λ v m g j r3 within costs is e3 w.
            sign_back sign.LineFeed w (λ r4 e4 u.
            let more = length-append lemmas (v ∷ []) in
            let three = shorter (node_text p v) r3 e3 in let four = less 10 e4 in
            lemmas_back f (omega (arith, few, one, two, three, four)) (paid || has_cost v) (lemmas ++ v ∷ [])
            (record m { node = Start }) g (omega (arith, more, low))
            (turned_to (ap (λ (w : Proof). st (line priced (paid || has_cost v) (lemmas ++ w ∷ []) [])
            (record m { node = Start }) g) is) (mark_back 2 (mode_to (feed_mode j) u)))
            (λ vs gs n e all most dear gaps_all some settled e5 q.
            k (v ∷ vs) gs n e (
              within,
              subst (λ (n : ℕ). AreLemmasWithin p n vs)
                  (let e : length (lemmas ++ v ∷ []) ≡ suc (length lemmas) = omega (arith, more) in e) all,
            )
            (omega (arith, more, most)) (either (has_cost v) (some_has_cost vs) costs dear) gaps_all some
            (ap (λ (w : Bool). priced && not w) (sym (or_assoc paid (has_cost v) (some_has_cost vs))) ∙ settled)
            (on (codes "lemma ") (on (codes "lemma") e1 e2) (on (node_text p v) e3 (on (codes "\n") e4 e5))
            ∙ sym (flatten (Then (Bytes (codes "lemma ")) (Then (Bytes (node_text p v)) (Then (Bytes (codes "\n"))
            (Bytes (lemma_lines p vs))))) (gap_lines p gs ++ codes "end\n")))
            (subst (λ (w : Bool). Q (st (line priced w (lemmas ++ v ∷ vs) gs) n e))
            (or_assoc paid (has_cost v) (some_has_cost vs))
            (subst (λ (ws : List Proof). Q (st (line priced ((paid || has_cost v) || some_has_cost vs) ws gs) n e))
            (append_assoc lemmas (v ∷ []) vs) q)))))))),
        (
          (λ x. gaps_back (suc (length whole)) (omega arith) paid lemmas [] l d (omega arith) x
              (λ gs m g all most settled e q.
              k [] gs m g tt (omega (arith, count)) (λ c. cc) all (omega (arith, most))
              (ap (λ (w : Bool). priced && not w) (sym (or_false paid)) ∙ settled) e
              (subst (λ (w : Bool). Q (st (line priced w (lemmas ++ []) gs) m g)) (or_false paid)
              (subst (λ (ws : List Proof). Q (st (line priced paid ws gs) m g)) (sym (append-nil lemmas)) q)))),
          tt,
        ),
      )
    where
      either : (a b : Bool) → (a ≡ true → priced ≡ true) → (b ≡ true → priced ≡ true) → (a || b) ≡ true → priced ≡ true
      either true b f g h = f refl
      either false b f g h = g h

-- the only number of class 29 is 1
one_only : (n : ℕ) → class_of_number n ≡ 29 → n ≡ 1
one_only n h = go (n == 0) refl (n == 1) refl (n == 2) h
  where
    go : (a : Bool) → (n == 0) ≡ a → (c : Bool) → (n == 1) ≡ c → (d : Bool)
        → ◌≡◌ {A = ℕ} (cond a 28 (cond c 29 (cond d 30 31))) 29 → n ≡ 1
    go true e c f d h = absurd (omega (arith, h))
    go false e true f d h = grind (arith, nat_tests)
    go false e false f true h = absurd (omega (arith, h))
    go false e false f false h = absurd (omega (arith, h))

two_only : (n : ℕ) → class_of_number n ≡ 30 → n ≡ 2
two_only n h = go (n == 0) refl (n == 1) refl (n == 2) refl h
  where
    go : (a : Bool) → (n == 0) ≡ a → (c : Bool) → (n == 1) ≡ c → (d : Bool) → (n == 2) ≡ d
        → ◌≡◌ {A = ℕ} (cond a 28 (cond c 29 (cond d 30 31))) 30 → n ≡ 2
    go true e c f d g h = absurd (omega (arith, h))
    go false e true f d g h = absurd (omega (arith, h))
    go false e false f true g h = grind (arith, nat_tests)
    go false e false f false g h = absurd (omega (arith, h))

module _ {p : Program} {ss : List Symbol} {s : State} {whole : List ℕ} {Q : State → Type 0} {R : Type 0} where
  -- a version that was read is spelled by its digit
  version_back : (n : ℕ) → n < 10 → ((m : ℕ) → class_of_number m ≡ class_of_number n → m ≡ n)
      → Along p (item.Piece (class_of_number n) ∷ ss) s mode.Plain whole Q
      → ((rest : List ℕ) → whole ≡ (48 + n) ∷ rest → Along p ss (moved p (Number n) s) mode.Plain rest Q → R) → R
  version_back n low only a k = read_back (class_of_number n) a (λ q rest is none cut more.
      let f = class_number q n is in
      let same : q ≡ Number n = f.1 ∙ ap (λ (m : ℕ). Number m) (only f.0 f.2) in
      let b = plain_number (symbol_names p) cut.first cut.others n cut.some (omega (arith, low))
      (cut.cut ∙ ap (λ (y : Piece). record { piece = Some y; len = suc cut.some }) same) in
      k rest
      (cut.begins ∙ b ∙ ap (λ (bs : List ℕ). decimal n ++ bs) cut.behind
      ∙ ap (λ (bs : List ℕ). bs ++ rest) (decimal_digit n low))
      (subst (λ (y : Piece). Along p ss (moved p y s) (mode_with mode.Plain y) rest Q) same more))

-- the version in the first line says whether some lemma has a cost
first_so : (vs : List Proof) (v : Bool) → (some_has_cost vs ≡ true → v ≡ true)
    → (v && not (false || some_has_cost vs)) ≡ false → first_line vs ≡ cond v (codes "koat-proof 2\n") (codes "koat-proof 1\n")
first_so vs v f h = ap (λ (w : Bool). cond w (codes "koat-proof 2\n") (codes "koat-proof 1\n")) (go (some_has_cost vs) v f h)
  where
    go : (w v : Bool) → (w ≡ true → v ≡ true) → (v && not (false || w)) ≡ false → w ≡ v
    go true true f h = refl
    go true false f h = let e = f refl in cc
    go false true f h = cc
    go false false f h = refl

-- the text of a file, line by line
text_flat : (p : Program) (f : ProofFile)
    → text_of p f ≡ first_line f.lemmas ++ (lemma_lines p f.lemmas ++ (gap_lines p f.gaps ++ codes "end\n"))
unfolding text_of
text_flat p f = refl

-- a whole file that was read is within the limits, and the bytes are its text
whole_back : (p : Program) → Sure p → (bytes : List ℕ) (f : ProofFile)
    → Along p (item.Made 0 ∷ []) begun mode.Beginning bytes (λ s. file_in s ≡ f) → IsTextWithin p bytes f
whole_back p sure bytes f a =
    made_back 0 ((item.Piece 0 ∷ item.Piece 32 ∷ item.Made 1 ∷ item.Piece 33 ∷ item.Made 2 ∷ []) ∷ []) refl a (
      (λ x. read_back 0 x (λ q r0 is none cut more.
          let same : q ≡ First = class_first q is in
          let e0 : bytes ≡ codes "koat-proof" ++ r0 =
          cut.begins
          ∙ first_back (symbol_names p) p.start_names cut.first cut.others cut.some
          (cut.cut ∙ ap (λ (y : Piece). record { piece = Some y; len = suc cut.some }) same)
          ∙ ap (λ (bs : List ℕ). codes "koat-proof" ++ bs) cut.behind in
          sign_back sign.Blank
          (subst (λ (y : Piece). Along p (item.Piece 32 ∷ item.Made 1 ∷ item.Piece 33 ∷ item.Made 2 ∷ []) (moved p y begun)
          (mode_with mode.Beginning y) r0 (λ s. file_in s ≡ f)) same more) (λ r1 e1 y.
          made_back 1 ((item.Piece 29 ∷ item.Mark 0 ∷ []) ∷ (item.Piece 30 ∷ item.Mark 1 ∷ []) ∷ []) refl y (
            (λ z. version_back 1 (omega arith) one_only z (λ r2 e2 w. sign_back sign.LineFeed (mark_back 0 w) (λ r3 e3 u.
                lines false (record nothing_read { number = 1 }) r3 (on (codes "koat-proof") e0 (on (codes " ") e1
                (on (codes "1") e2 e3))) u))),
            (
              (λ z. version_back 2 (omega arith) two_only z (λ r2 e2 w. sign_back sign.LineFeed (mark_back 1 w) (λ r3 e3 u.
                  lines true (record nothing_read { number = 2 }) r3 (on (codes "koat-proof") e0 (on (codes " ") e1
                  (on (codes "2") e2 e3))) u))),
              tt,
            ),
          )))),
      tt,
    )
  where
    nothing_read : Last
    nothing_read = record { number = 0; negative = false; symbol = 0; node = Start; bound = Constant 0 }

    lines : (v : Bool) (l : Last) (rest : List ℕ) → bytes ≡ cond v (codes "koat-proof 2\n") (codes "koat-proof 1\n") ++ rest
        → Along p (item.Made 2 ∷ []) (st (line v false [] []) l no_draft) mode.Plain rest (λ s. file_in s ≡ f)
        → IsTextWithin p bytes f
    lines v l rest e x =
        lemmas_back sure v (suc (length rest)) (omega arith) false [] l no_draft (omega arith) x
        (λ vs gs m g all many costs gaps_all some settled e' is.
        let first = first_so vs v costs settled in
        subst (IsTextWithin p bytes) is (record {
          text = text_flat p (record { lemmas = vs; gaps = gs }) ∙ sym (e ∙ ap (λ (bs : List ℕ). bs ++ rest) (sym first) ∙ ap (λ (bs : List ℕ). first_line vs ++ bs) e');
          within = record {
            lemmas = all;
            few_lemmas = omega (arith, many);
            gaps = all-to (IsGapWithin p) gs gaps_all;
            few_gaps = some;
          };
        }))

-- the lexeme has a piece
record HasPiece (l : Lexeme (Option Piece)) : Type 0 where
  pub piece : Piece
  pub is : l.piece ≡ Some piece

either_piece : (v : Bool) (a b : Lexeme (Option Piece)) → HasPiece a → HasPiece b → HasPiece (cond v a b)
either_piece true a b h k = h
either_piece false a b h k = k

plain_piece : (p : Program) (b : ℕ) (bytes : List ℕ) → HasPiece (plain_lexeme (symbol_names p) b bytes)
plain_piece p b bytes =
    either_piece (begins_name b) (name_lexeme (symbol_names p) (b ∷ prefix continues_name bytes))
    (cond (is_ascii_digit b) (digits_lexeme (b ∷ prefix is_ascii_digit bytes)) (lexeme (sign_at b) 1))
    (record { piece = _; is = refl })
    (either_piece (is_ascii_digit b) (digits_lexeme (b ∷ prefix is_ascii_digit bytes)) (lexeme (sign_at b) 1)
    (record { piece = _; is = refl }) (record { piece = _; is = refl }))

some_piece : (p : Program) (m : Mode) (b : ℕ) (bytes : List ℕ) → HasPiece ((lexer_of p).lexeme_in m b bytes)
some_piece p mode.Beginning b bytes =
    either_piece (is_first (b ∷ bytes)) (lexeme First 10) (plain_lexeme (symbol_names p) b bytes)
    (record { piece = First; is = refl }) (plain_piece p b bytes)
some_piece p mode.InShut b bytes =
    either_piece (begins_name b) (place_lexeme (symbol_names p) (b ∷ prefix continues_name bytes))
    (plain_lexeme (symbol_names p) b bytes) (record { piece = _; is = refl }) (plain_piece p b bytes)
some_piece p (mode.InBound depth before) b bytes =
    either_piece (ends_bound depth b) (plain_lexeme (symbol_names p) b bytes)
    (bound_lexeme (length p.start_names) depth before (b ∷ bytes) (bounds.lexeme_at p.start_names b bytes))
    (plain_piece p b bytes) (record { piece = _; is = refl })
some_piece p mode.Plain b bytes = plain_piece p b bytes
some_piece p mode.Closed b bytes = plain_piece p b bytes
some_piece p mode.ClosedBlank b bytes = plain_piece p b bytes
some_piece p mode.To b bytes = plain_piece p b bytes

-- the bytes after a prefix are no longer than all
drop_few : (n : ℕ) (xs : List ℕ) → length (drop n xs) ≤ length xs
drop_few zero xs = omega arith
drop_few (suc n) [] = omega arith
drop_few (suc n) (x ∷ xs) = let h = drop_few n xs in omega (arith, h)

-- bytes without a fault are cut into the pieces of their tokens
tokens_cut : (p : Program) (f : ℕ) (m : Mode) (at : ℕ) (whole : List ℕ) → length whole < f
    → Cuts p m (pieces (tokens_in (lexer_of p) m at 0 whole)) whole
tokens_cut p zero m at whole few = absurd (omega (arith, few))
tokens_cut p (suc f) m at [] few = refl
tokens_cut p (suc f) m at (b ∷ bytes) few =
    go ((lexer_of p).lexeme_in m b bytes).len refl ((lexes_within (symbol_names p) p.start_names m).each b bytes).0
    (λ n k bs l. tokens_cut p f n k bs l)
  where
    h : HasPiece ((lexer_of p).lexeme_in m b bytes)
    h = some_piece p m b bytes

    go : (len : ℕ) → ((lexer_of p).lexeme_in m b bytes).len ≡ len → 0 < len
        → ((n : Mode) (k : ℕ) (bs : List ℕ) → length bs < f → Cuts p n (pieces (tokens_in (lexer_of p) n k 0 bs)) bs)
        → Cuts p m (pieces (token_then at ((lexer_of p).lexeme_in m b bytes).len ((lexer_of p).lexeme_in m b bytes).piece
        (tokens_in (lexer_of p) ((lexer_of p).mode_behind m ((lexer_of p).lexeme_in m b bytes).piece) (at + 1)
        (((lexer_of p).lexeme_in m b bytes).len - 1) bytes))) (b ∷ bytes)
    go zero e some ih = absurd (omega (arith, some))
    go (suc n) e some ih =
        let q = h.piece in
        let s = skipped p (mode_with m q) (at + 1) n bytes in
        let less_one : suc n - 1 ≡ n = omega arith in
        let few' = drop_few n bytes in
        let found : (lexer_of p).lexeme_in m b bytes ≡ record { piece = Some q; len = suc n } =
        ap (λ (o : Option Piece). record { piece = o; len = ((lexer_of p).lexeme_in m b bytes).len }) h.is
        ∙ ap (λ (k : ℕ). record { piece = Some q; len = k }) e in
        let same : pieces (token_then at ((lexer_of p).lexeme_in m b bytes).len ((lexer_of p).lexeme_in m b bytes).piece
        (tokens_in (lexer_of p) ((lexer_of p).mode_behind m ((lexer_of p).lexeme_in m b bytes).piece) (at + 1)
        (((lexer_of p).lexeme_in m b bytes).len - 1) bytes))
        ≡ q ∷ pieces (tokens_in (lexer_of p) (mode_with m q) s.0 0 (drop n bytes)) =
        ap (λ (l : Lexeme (Option Piece)). pieces (token_then at l.len l.piece
        (tokens_in (lexer_of p) ((lexer_of p).mode_behind m l.piece) (at + 1) (l.len - 1) bytes))) found
        ∙ ap (λ (k : ℕ). q ∷ pieces (tokens_in (lexer_of p) (mode_with m q) (at + 1) k bytes)) less_one
        ∙ ap (λ (ts : List (Token Piece)). q ∷ pieces ts) s.1 in
        subst (λ (qs : List Piece). Cuts p m qs (b ∷ bytes)) (sym same) (
          drop n bytes,
          record { first = b; others = bytes; some = n; begins = refl; cut = found; behind = refl },
          ih (mode_with m q) s.0 (drop n bytes) (omega (arith, few, few')),
        )

-- if there is no fault after a piece, there was none before it
unbroken : (p : Program) (es : List (Event Piece)) (s : State) → Passes (proof_fold p) (at s) es
    → (t : State) × (after (proof_fold p) (at s) es ≡ at t)
unbroken p [] s h = (s, refl)
unbroken p (Did m ∷ es) s h = unbroken p es (done m s) h
unbroken p (Read q ∷ es) s h =
    let same : (proof_fold p).read q (at s) ≡ at (moved p q s) =
    ap (λ (o : Option ProofKind). record { kept = moved p q s; broken = is_some o }) h.0 in
    let w = unbroken p es (moved p q s) (subst (λ (t : Progress). Passes (proof_fold p) t es) same h.1) in
    (w.0, ap (λ (t : Progress). after (proof_fold p) t es) same ∙ w.1)

-- a file that is the answer is within the limits, and the bytes are its text
pub answer_spelled : (p : Program) → Sure p → (bytes : List ℕ) (f : ProofFile)
    → answer (reader (proofs_of p)) (length bytes) (tokens p bytes) ≡ Parsed f → IsTextWithin p bytes f
answer_spelled p sure bytes f e =
    let w = (parsed_where_silent (proofs_of p) (lawful p)).stands (length bytes) (tokens p bytes) f e in
    let passes = silent_passes (proof_fold p) proof_grammar [] w.0 (tokens p bytes) (derived_reads proof_grammar w.1) w.3 in
    let u = unbroken p w.0 begun passes in
    whole_back p sure bytes f (record {
      events = w.0;
      read = pieces (tokens p bytes);
      last = u.0;
      derives = w.1;
      passes = passes;
      comes = u.1;
      cuts = tokens_cut p (suc (length bytes)) mode.Beginning 0 bytes (omega arith);
      holds = sym (ap (λ (s : Progress). file_in s.kept) (state_after (proof_fold p) [] w.0 ∙ u.1)) ∙ w.2;
    })

-- the file of a result that agrees with the answer is within the limits, and the bytes are its text
pub agreeing_is_spelled : (p : Program) → Sure p → (bytes : List ℕ) (result : Result code_file.ProofFile ProofTextError)
    → AgreesWith file_of refusal_in (answer (reader (proofs_of p)) (length bytes) (tokens p bytes)) result
    → IfOk result (λ file. IsTextWithin p bytes (file_of file))
agreeing_is_spelled p sure bytes result h = go (answer (reader (proofs_of p)) (length bytes) (tokens p bytes)) refl result h
  where
    go : (a : Answer ProofFile ProofKind) → answer (reader (proofs_of p)) (length bytes) (tokens p bytes) ≡ a
        → (result : Result code_file.ProofFile ProofTextError) → AgreesWith file_of refusal_in a result
        → IfOk result (λ file. IsTextWithin p bytes (file_of file))
    go (Parsed t) e (Ok file) s = subst (IsTextWithin p bytes) (sym s) (answer_spelled p sure bytes t e)
    go (Refused y) e (Ok file) s = absurd s
    go a e (Err error) s = tt
