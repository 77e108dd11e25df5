-- The text of a proof file within the limits is read as that file.
use Rattle.std.proofs.Common.{◌≡◌, ℕ, suc, ◌+◌, ◌<◌, ◌≤◌, Bool, true, false, cond, List, [], ◌∷◌, ◌++◌, length, map}
use Rattle.std.proofs.Common.{refl, ap, sym, subst, ◌∙◌, arith, inl, inr, append-nil, append_assoc}
use Rattle.std.proofs.Common.{length-append}
use Rattle.std.specs.Prelude.{Result, Ok, Err, nat_le, not, ◌&&◌, ◌||◌, codes, take, drop}
use Rattle.std.specs.List.{AllByRecursion}
use Rattle.std.specs.Fmt.{decimal}
use Rattle.std.proofs.lemmas.Bool.{lt-leb as false_le}
use Rattle.std.proofs.lemmas.Bool.Decides.{nat_tests}
use Rattle.its_model.specs.model.Programs.{Program}
use Rattle.its_model.specs.model.Bounds.{Constant}
use Rattle.its_model.proofs.ListLaws.{all-from}
use Rattle.cert_types.specs.AnswerViews.{file_of}
use Rattle.cert_types.specs.declared.file.ProofFile as code_file
use Rattle.cert_types.specs.cert_rules.AcceptsPlain.{IsRule}
use Rattle.cert_types.specs.cert_rules.Gaps.{Gap, ProofFile}
use Rattle.cert_types.specs.cert_rules.Nodes.{Proof, Start}
use Rattle.text_grammar.specs.text_core.Choices.{when}
use Rattle.text_grammar.specs.text_core.Names.{is_same}
use Rattle.text_grammar.specs.text_core.Reading.{Answer, Parsed, answer}
use Rattle.text_grammar.specs.text_core.Tokens.{pieces}
use Rattle.text_grammar.specs.declared.symbol.Symbol.{Symbol}
use Rattle.text_grammar.specs.declared.symbol.Symbol.TheVariants as item
use Rattle.text_grammar.specs.Grammars.{Derives}
use Rattle.text_grammar.specs.Results.{AgreesWith}
use Rattle.text_grammar.specs.Texts.{reader}
use Rattle.text_grammar.proofs.FoldLaws.{derived_reads, passes_silent, state_after}
use Rattle.text_grammar.proofs.SilenceLaws.{parsed_where_silent}
use Rattle.cert_lexer.specs.declared.kind.ProofKind.{ProofKind}
use Rattle.cert_lexer.specs.declared.kind.ProofKind.TheVariants as kind
use Rattle.cert_lexer.specs.declared.piece.Mode.TheVariants as mode
use Rattle.cert_lexer.specs.declared.piece.Piece.TheVariants.{First, Number}
use Rattle.cert_lexer.specs.Grammar.{proof_grammar}
use Rattle.cert_lexer.specs.Lexing.{goes_on, is_first, lexeme, plain_lexeme, symbol_names, symbol_of, tokens}
use Rattle.cert_text.specs.declared.error.ProofTextError.{ProofTextError}
use Rattle.cert_text.specs.Lists.{bracketed, joined, listed, numbers_text}
use Rattle.cert_text.specs.Reading.{Progress, file_in, proof_fold, proofs_of}
use Rattle.cert_text.specs.Refused.{GivesBack}
use Rattle.cert_text.specs.Remembered.{Draft, State, Whole, begun, no_draft}
use Rattle.cert_text.specs.Spelled.{AreLemmasWithin, IsFileWithin, IsGapWithin, IsPlaceOf, IsPointWithin, IsTextWithin}
use Rattle.cert_text.specs.Texts.{first_line, gap_lines, gap_text, has_cost, lemma_lines, node_text, symbol_place_text, point_text}
use Rattle.cert_text.specs.Texts.{some_has_cost, text_of}
use Rattle.cert_text.specs.StatedErrors.{refusal_in}
use Rattle.cert_text.proofs.Along.{Along, Bytes, IsCutOff, Then, becomes, cut_tokens, ends, flatten, makes, marks, reads}
use Rattle.cert_text.proofs.Along.{spelled_as}
use Rattle.cert_text.proofs.Cutting.{Bare, Shut, blank, byte_cut, feed, feed_at, word}
use Rattle.cert_text.proofs.Lawful.{lawful}
use Rattle.cert_text.proofs.Listing.{rule, rules}
use Rattle.cert_text.proofs.NodeTexts.{Feed, node, or_assoc, or_false, or_left, or_right}
use Rattle.cert_text.proofs.PartTexts.{bare}
use Rattle.cert_text.proofs.PointTexts.{places, point, points}
use Rattle.cert_text.proofs.States.{Base, Last, Sure, st}

module _ {p : Program} {ss : List Symbol} {rest : List ℕ} {Q : State → Type 0} (sure : Sure p) (b : Base) where
  -- a gap is read along its text
  gap : (g : Gap) → IsGapWithin p g → (l : Last) (d : Draft)
      → ((m : Last) → Along p ss (st (record b { in_gap = true }) m
      (bare (record no_draft { rule = g.rule; set = g.set; shut = g.shut; gap_moves = g.moves; floor = g.floor; points = g.kept })))
      mode.Plain rest Q)
      → Along p (item.Made 32 ∷ ss) (st b l d) mode.Plain (gap_text p g ++ rest) Q
  gap g h l d more =
      let c : Base = record b { in_gap = true } in
      spelled_as (flatten (Then (Then (Bytes (decimal g.rule)) (Then (Bytes (codes " set ")) (Then (Bytes (numbers_text g.set))
      (Then (Bytes (codes " shut ")) (Bytes (bracketed (joined (codes " ") (map (symbol_place_text p) g.shut))))))))
      (Then (Bytes (codes " moves ")) (Then (Bytes (listed (map point_text g.moves))) (Then (Bytes (codes " floor "))
      (Then (Bytes (point_text g.floor)) (Then (Bytes (codes " kept ")) (Bytes (listed (map point_text g.kept))))))))) rest)
      (makes 32 (item.Mark 41 ∷ item.Made 9 ∷ item.Piece 32 ∷ item.Piece 15 ∷ item.Piece 32 ∷ item.Made 11 ∷ item.Piece 32 ∷
      item.Piece 25 ∷ item.Piece 32 ∷ item.Piece 34 ∷ item.Made 33 ∷ item.Piece 32 ∷ item.Piece 18 ∷ item.Piece 32 ∷
      item.Made 35 ∷ item.Mark 42 ∷ item.Piece 32 ∷ item.Piece 19 ∷ item.Piece 32 ∷ item.Made 37 ∷ item.Mark 43 ∷
      item.Piece 32 ∷ item.Piece 26 ∷ item.Piece 32 ∷ item.Made 35 ∷ []) (inl refl)
      (marks 41 (rule c l no_draft g.rule sure h.rule refl
      (blank Bare (word 115 (codes "et") refl refl refl refl
      (blank Bare (rules sure c g.set (all-from (IsRule p) g.set h.set)
      (record l { number = g.rule; symbol = symbol_of (symbol_names p) (codes "set") }) (record no_draft { rule = g.rule })
      (λ m. blank Bare (word 115 (codes "hut") refl refl refl refl
      (blank Shut (places sure c (record m { symbol = symbol_of (symbol_names p) (codes "shut") }) g.shut
      (all-from (IsPlaceOf p) g.shut h.shut) (record no_draft { rule = g.rule; set = g.set })
      (blank Bare (word 109 (codes "oves") refl refl refl refl
      (blank Bare (points c refl g.moves h.some_move (all-from IsPointWithin g.moves h.moves)
      (record m { symbol = symbol_of (symbol_names p) (codes "moves") })
      (record no_draft { rule = g.rule; set = g.set; shut = g.shut })
      (λ m1. marks 42 (blank Bare (word 102 (codes "loor") refl refl refl refl
      (blank Bare (point c refl g.floor h.floor (record m1 { symbol = symbol_of (symbol_names p) (codes "floor") })
      (record no_draft { rule = g.rule; set = g.set; shut = g.shut; gap_moves = g.moves })
      (λ m2. marks 43 (blank Bare (word 107 (codes "ept") refl refl refl refl
      (blank Bare (points c refl g.kept h.some_kept (all-from IsPointWithin g.kept h.kept)
      (record m2 { symbol = symbol_of (symbol_names p) (codes "kept") })
      (record no_draft { rule = g.rule; set = g.set; shut = g.shut; gap_moves = g.moves; floor = g.floor })
      more)))))))))))))))))))))))))

-- the state between two lines
abbrev pub line : Bool → Bool → List Proof → List Gap → Base
line priced paid lemmas gaps = record {
  priced = priced;
  paid = paid;
  in_gap = false;
  lemmas = lemmas;
  gaps = gaps;
  levels = 0;
  used = [];
  outer = Whole;
}

module _ {p : Program} (sure : Sure p) (Q : State → Type 0) (priced : Bool) where
  -- the gaps that are left, and the last line, are read along their text
  gaps_read : (gs : List Gap) (paid : Bool) (lemmas : List Proof) (gaps : List Gap) (l : Last) (d : Draft)
      → AllByRecursion (IsGapWithin p) gs → length gaps + length gs ≤ 1000 → (priced && not paid) ≡ false
      → ((m : Last) (g : Draft) → Q (st (line priced paid lemmas (gaps ++ gs)) m g))
      → Along p (item.Made 3 ∷ []) (st (line priced paid lemmas gaps) l d) mode.Plain (gap_lines p gs ++ codes "end\n") Q
  gaps_read [] paid lemmas gaps l d all few settled more =
      makes 3 (item.Piece 3 ∷ item.Piece 33 ∷ []) (inr (inl refl))
      (word 101 (codes "nd") refl refl refl (ap (λ (v : Bool). when v kind.Syntax) settled)
      (feed (ends (subst (λ (hs : List Gap). Q (st (line priced paid lemmas hs)
      (record l { symbol = symbol_of (symbol_names p) (codes "end") }) d)) (append-nil gaps)
      (more (record l { symbol = symbol_of (symbol_names p) (codes "end") }) d)))))
  gaps_read (g ∷ gs) paid lemmas gaps l d all few settled more =
      let low : length gaps < 1000 = omega (arith, few) in
      spelled_as (flatten (Then (Bytes (codes "gap ")) (Then (Bytes (gap_text p g)) (Then (Bytes (codes "\n"))
      (Bytes (gap_lines p gs))))) (codes "end\n"))
      (makes 3 (item.Piece 2 ∷ item.Piece 32 ∷ item.Made 32 ∷ item.Piece 33 ∷ item.Mark 3 ∷ item.Made 3 ∷ []) (inl refl)
      (word 103 (codes "ap") refl refl refl (ap (λ (v : Bool). when v kind.Limit) (false_le 1000 (length gaps) low))
      (blank Bare (gap sure (line priced paid lemmas gaps) g all.0
      (record l { symbol = symbol_of (symbol_names p) (codes "gap") }) d
      (λ m. feed (marks 3 (gaps_read gs paid lemmas (gaps ++ g ∷ []) m no_draft all.1
      (let k = length-append gaps (g ∷ []) in omega (arith, k, few)) settled
      (λ n e. subst (λ (hs : List Gap). Q (st (line priced paid lemmas hs) n e)) (sym (append_assoc gaps (g ∷ []) gs))
      (more n e)))))))))

  -- the lemmas that are left, the gaps and the last line are read along their text
  lemmas_read : (vs : List Proof) (gs : List Gap) (paid : Bool) (lemmas : List Proof) (l : Last) (d : Draft)
      → AreLemmasWithin p (length lemmas) vs → length lemmas + length vs ≤ 100000 → (some_has_cost vs ≡ true → priced ≡ true)
      → AllByRecursion (IsGapWithin p) gs → length gs ≤ 1000 → (priced && not (paid || some_has_cost vs)) ≡ false
      → ((m : Last) (g : Draft) → Q (st (line priced (paid || some_has_cost vs) (lemmas ++ vs) gs) m g))
      → Along p (item.Made 2 ∷ []) (st (line priced paid lemmas []) l d) mode.Plain
      (lemma_lines p vs ++ (gap_lines p gs ++ codes "end\n")) Q
  lemmas_read [] gs paid lemmas l d h few costs all some settled more =
      makes 2 (item.Made 3 ∷ []) (inr (inl refl))
      (becomes (ap (λ (v : Bool). st (line priced v lemmas []) l d) (or_false paid)
      ∙ ap (λ (ws : List Proof). st (line priced (paid || false) ws []) l d) (sym (append-nil lemmas)))
      (gaps_read gs (paid || false) (lemmas ++ []) [] l d all (omega (arith, some)) settled more))
  lemmas_read (v ∷ vs) gs paid lemmas l d h few costs all some settled more =
      let low : length lemmas < 100000 = omega (arith, few) in
      let tail : List ℕ = gap_lines p gs ++ codes "end\n" in
      let more_lemmas = length-append lemmas (v ∷ []) in
      spelled_as (flatten (Then (Bytes (codes "lemma ")) (Then (Bytes (node_text p v)) (Then (Bytes (codes "\n"))
      (Bytes (lemma_lines p vs))))) tail)
      (makes 2 (item.Piece 1 ∷ item.Piece 32 ∷ item.Made 4 ∷ item.Piece 33 ∷ item.Mark 2 ∷ item.Made 2 ∷ []) (inl refl)
      (word 108 (codes "emma") refl refl refl
      (ap (λ (w : Bool). when w kind.Limit) (false_le 100000 (length lemmas) low))
      (blank Bare (node sure v (line priced paid lemmas []) (record l { symbol = symbol_of (symbol_names p) (codes "lemma") }) d
      Feed (lemma_lines p vs ++ tail) refl (omega (arith, few)) h.0
      (λ k. costs (or_left (has_cost v) (some_has_cost vs) k))
      (λ m g k is. feed_at k (marks 2 (becomes
      (ap (λ (w : Proof). st (line priced (paid || has_cost v) (lemmas ++ w ∷ []) []) (record m { node = Start }) g) is)
      (lemmas_read vs gs (paid || has_cost v) (lemmas ++ v ∷ []) (record m { node = Start }) g
      (subst (λ (n : ℕ). AreLemmasWithin p n vs)
      (let e : suc (length lemmas) ≡ length (lemmas ++ v ∷ []) = omega (arith, more_lemmas) in e) h.1)
      (omega (arith, more_lemmas, few)) (λ j. costs (or_right (has_cost v) (some_has_cost vs) j)) all some
      (ap (λ (w : Bool). priced && not w) (or_assoc paid (has_cost v) (some_has_cost vs)) ∙ settled)
      (λ n e. subst (λ (w : Bool). Q (st (line priced w ((lemmas ++ v ∷ []) ++ vs) gs) n e))
      (sym (or_assoc paid (has_cost v) (some_has_cost vs)))
      (subst (λ (ws : List Proof). Q (st (line priced (paid || (has_cost v || some_has_cost vs)) ws gs) n e))
      (sym (append_assoc lemmas (v ∷ []) vs)) (more n e)))))))))))

-- the first word is cut from its bytes
first_cut : (p : Program) (rest : List ℕ)
    → IsCutOff p mode.Beginning First (codes "koat-proof" ++ 32 ∷ rest) (32 ∷ rest)
first_cut p rest =
    let long : nat_le 10 (length (codes "koat-proof" ++ 32 ∷ rest)) ≡ true = grind (arith, nat_tests) in
    let first : is_first (codes "koat-proof" ++ 32 ∷ rest) ≡ true =
    ap (λ (v : Bool). v && is_same (take 10 (codes "koat-proof" ++ 32 ∷ rest)) (codes "koat-proof")
    && not (goes_on (drop 10 (codes "koat-proof" ++ 32 ∷ rest)))) long in
    record {
      first = 107;
      others = codes "oat-proof" ++ 32 ∷ rest;
      some = 9;
      begins = refl;
      cut =
          ap (λ (v : Bool). cond v (lexeme First 10) (plain_lexeme (symbol_names p) 107 (codes "oat-proof" ++ 32 ∷ rest))) first;
      behind = refl;
    }

-- the state before any piece
abbrev nothing_read : Last
nothing_read = record { number = 0; negative = false; symbol = 0; node = Start; bound = Constant 0 }

-- a whole file is read along its text
whole : (p : Program) → Sure p → (f : ProofFile) → IsFileWithin p f
    → Along p (item.Made 0 ∷ []) begun mode.Beginning (text_of p f) (λ s. file_in s ≡ f)
unfolding text_of
whole p sure f h = go (some_has_cost f.lemmas) refl
  where
    lines : (v : Bool) → some_has_cost f.lemmas ≡ v → (l : Last) (d : Draft)
        → Along p (item.Made 2 ∷ []) (st (line v false [] []) l d) mode.Plain
        (lemma_lines p f.lemmas ++ (gap_lines p f.gaps ++ codes "end\n")) (λ s. file_in s ≡ f)
    lines v e l d =
        lemmas_read sure (λ s. file_in s ≡ f) v f.lemmas f.gaps false [] l d h.lemmas
        (let k = h.few_lemmas in omega (arith, k)) (λ k. sym e ∙ k)
        (all-from (IsGapWithin p) f.gaps h.gaps) h.few_gaps (settled v e) (λ m g. refl)
      where
        settled : (v : Bool) → some_has_cost f.lemmas ≡ v → (v && not (false || some_has_cost f.lemmas)) ≡ false
        settled true e = ap not e
        settled false e = refl

    go : (v : Bool) → some_has_cost f.lemmas ≡ v
        → Along p (item.Made 0 ∷ []) begun mode.Beginning (first_line f.lemmas ++ (lemma_lines p f.lemmas ++ (gap_lines p f.gaps ++ codes "end\n"))) (λ s. file_in s ≡ f)
    go true e =
        spelled_as (ap (λ (v : Bool). cond v (codes "koat-proof 2\n") (codes "koat-proof 1\n") ++ (lemma_lines p f.lemmas ++ (gap_lines p f.gaps ++ codes "end\n"))) e)
        (makes 0 (item.Piece 0 ∷ item.Piece 32 ∷ item.Made 1 ∷ item.Piece 33 ∷ item.Made 2 ∷ []) (inl refl)
        (reads First refl (first_cut p _) (blank Bare (makes 1 (item.Piece 30 ∷ item.Mark 1 ∷ []) (inr (inl refl))
        (reads (Number 2) refl (byte_cut p mode.Plain (Number 2) 50 _ refl)
        (marks 1 (feed (lines true e (record nothing_read { number = 2 }) no_draft))))))))
    go false e =
        spelled_as (ap (λ (v : Bool). cond v (codes "koat-proof 2\n") (codes "koat-proof 1\n") ++ (lemma_lines p f.lemmas ++ (gap_lines p f.gaps ++ codes "end\n"))) e)
        (makes 0 (item.Piece 0 ∷ item.Piece 32 ∷ item.Made 1 ∷ item.Piece 33 ∷ item.Made 2 ∷ []) (inl refl)
        (reads First refl (first_cut p _) (blank Bare (makes 1 (item.Piece 29 ∷ item.Mark 0 ∷ []) (inl refl)
        (reads (Number 1) refl (byte_cut p mode.Plain (Number 1) 49 _ refl)
        (marks 0 (feed (lines false e (record nothing_read { number = 1 }) no_draft))))))))

-- the file is the answer to its text
pub text_stands : (p : Program) → Sure p → (bytes : List ℕ) (f : ProofFile) → IsTextWithin p bytes f
    → answer (reader (proofs_of p)) (length bytes) (tokens p bytes) ≡ Parsed f
text_stands p sure bytes f h =
    let a = whole p sure f h.within in
    let same : pieces (tokens p bytes) ≡ a.read =
    ap (λ (bs : List ℕ). pieces (tokens p bs)) (sym h.text) ∙ cut_tokens p mode.Beginning 0 a.read (text_of p f) a.cuts in
    let derived : Derives proof_grammar (item.Made 0 ∷ []) a.events (pieces (tokens p bytes)) =
    subst (Derives proof_grammar (item.Made 0 ∷ []) a.events) (sym same) a.derives in
    (parsed_where_silent (proofs_of p) (lawful p)).silent (length bytes) (tokens p bytes) a.events derived
    (passes_silent (proof_fold p) proof_grammar [] a.events (tokens p bytes) (derived_reads proof_grammar derived) a.passes)
    ∙ ap (λ (s : Progress). Parsed (file_in s.kept)) (state_after (proof_fold p) [] a.events ∙ a.comes)
    ∙ ap (λ (g : ProofFile). Parsed g) a.holds

-- a result that agrees with the answer is the file
pub agreeing_reads_back : (p : Program) (bytes : List ℕ) (f : ProofFile) (result : Result code_file.ProofFile ProofTextError)
    → answer (reader (proofs_of p)) (length bytes) (tokens p bytes) ≡ Parsed f
    → AgreesWith file_of refusal_in (answer (reader (proofs_of p)) (length bytes) (tokens p bytes)) result → GivesBack f result
agreeing_reads_back p bytes f result e h = go result (subst (λ (a : Answer ProofFile ProofKind). AgreesWith file_of refusal_in a result) e h)
  where
    go : (result : Result code_file.ProofFile ProofTextError) → AgreesWith file_of refusal_in (Parsed f) result → GivesBack f result
    go (Ok file) s = s
    go (Err error) s = s
