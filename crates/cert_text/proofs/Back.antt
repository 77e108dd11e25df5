-- Reading along a text, inverted: the first step of reading symbols along bytes, case by case.
use Rattle.std.proofs.Common.{◌≡◌, ℕ, suc, ◌+◌, ◌-◌, ◌<◌, ◌≤◌, ◌^◌, Bool, true, false, cond, List, [], ◌∷◌, ◌++◌, length, take, drop}
use Rattle.std.proofs.Common.{length-append, Option, Some, None, refl, ap, sym, subst, ◌∙◌, arith, inl, inr}
use Rattle.std.specs.Prelude.{⊤, ◌⊎◌, is_some, codes}
use Rattle.std.specs.Fmt.{decimal}
use Rattle.std.specs.List.{list_all}
use Rattle.std.specs.Char.{is_ascii_digit}
use Rattle.its_model.specs.model.Programs.{Program}
use Rattle.bound_text.specs.Lexing as bounds
use Rattle.text_grammar.specs.text_core.Faults.{Among}
use Rattle.text_grammar.specs.text_core.Names.{begins_name, continues_name}
use Rattle.text_grammar.specs.text_core.Prefixes.{prefix}
use Rattle.text_grammar.specs.text_core.Tokens.{Lexeme}
use Rattle.text_grammar.specs.declared.symbol.Symbol.{Symbol}
use Rattle.text_grammar.specs.declared.symbol.Symbol.TheVariants as item
use Rattle.text_grammar.specs.Grammars.{Event, Read, Did, Derives, nothing, piece, mark, made, alternatives}
use Rattle.text_grammar.specs.Folds.{after, Passes}
use Rattle.cert_lexer.specs.declared.kind.ProofKind.{ProofKind}
use Rattle.cert_lexer.specs.declared.piece.Sign.{Sign}
use Rattle.cert_lexer.specs.declared.piece.Sign.TheVariants as sign
use Rattle.cert_lexer.specs.declared.piece.Word.{Word}
use Rattle.cert_lexer.specs.declared.piece.Word.TheVariants as word
use Rattle.cert_lexer.specs.declared.piece.Behind.{Behind}
use Rattle.cert_lexer.specs.declared.piece.Behind.TheVariants as behind
use Rattle.cert_lexer.specs.declared.piece.Mode.{Mode}
use Rattle.cert_lexer.specs.declared.piece.Mode.TheVariants as mode
use Rattle.cert_lexer.specs.declared.piece.Piece.{Piece}
use Rattle.cert_lexer.specs.declared.piece.Piece.TheVariants.{First, Name, Number, Sign as ASign, Place, InBound, Wrong}
use Rattle.cert_lexer.specs.Grammar.{class_of, class_of_sign, class_of_word, proof_grammar}
use Rattle.cert_lexer.specs.Lexing.{bound_lexeme, ends_bound, is_first, lexeme, lexeme_in, lexer_of, mode_with, place_lexeme}
use Rattle.cert_lexer.specs.Lexing.{plain_lexeme, symbol_names, symbol_of, word_of, place_in, behind_dot, behind_last_dot}
use Rattle.cert_lexer.proofs.PieceClasses.{class_sign, class_word}
use Rattle.cert_lexer.proofs.CutBack.{byte_of, bytes_of_word, plain_name, plain_number, plain_sign, word_bytes}
use Rattle.cert_text.specs.declared.phase.Next.TheVariants as next
use Rattle.cert_text.specs.NumberFaults.{fault_of_piece}
use Rattle.cert_text.specs.Reading.{Progress, moved, proof_fold}
use Rattle.cert_text.specs.Remembered.{State, done}
use Rattle.cert_text.proofs.Along.{Along, Cuts, IsCutOff, at}
use Rattle.cert_text.proofs.Cutting.{Within, Bare, Shut, mode_in}

-- the first step of a derivation, by its first symbol
Turns : List Symbol → List (Event Piece) → List Piece → Type 0
Turns [] es ps = (es ≡ []) × (ps ≡ [])
Turns (item.Piece c ∷ ss) es ps =
    (q : Piece) × (fs : List (Event Piece)) × (qs : List Piece) × (class_of q ≡ c) × (es ≡ Read q ∷ fs) × (ps ≡ q ∷ qs)
    × Derives proof_grammar ss fs qs
Turns (item.Mark m ∷ ss) es ps = (fs : List (Event Piece)) × (es ≡ Did m ∷ fs) × Derives proof_grammar ss fs ps
Turns (item.Made n ∷ ss) es ps =
    (body : List Symbol) × Among body (alternatives proof_grammar.rules n) × Derives proof_grammar (body ++ ss) es ps

turned : {ss : List Symbol} {es : List (Event Piece)} {ps : List Piece} → Derives proof_grammar ss es ps → Turns ss es ps
unfolding Turns
turned nothing = (refl, refl)
turned (piece q {rest} {es} {ps} d) = (q, es, ps, refl, refl, refl, d)
turned (mark m {rest} {es} {ps} d) = (es, refl, d)
turned (made n body {rest} {es} {ps} a d) = (body, a, d)

-- if no symbols are left, no bytes are left, and the state has the property
pub no_more : {p : Program} {s : State} {m : Mode} {whole : List ℕ} {Q : State → Type 0} → Along p [] s m whole Q
    → (whole ≡ []) × Q s
unfolding Turns
no_more {p} {s} {m} {whole} {Q} a =
    let t = turned a.derives in
    let cuts = subst (λ (ps : List Piece). Cuts p m ps whole) t.1 a.cuts in
    let same : at s ≡ at a.last =
    sym (ap (λ (es : List (Event Piece)). after (proof_fold p) (at s) es) t.0) ∙ a.comes in
    (cuts, subst Q (sym (ap (λ (t : Progress). t.kept) same)) a.holds)

-- a continuation for each alternative, from reading it
abbrev pub Ways : (List Symbol → Type 0) → Type 0 → List (List Symbol) → Type 0
Ways From R [] = ⊤
Ways From R (body ∷ bodies) = (From body → R) × Ways From R bodies

-- a continuation for the alternative that was read
taken : (From : List Symbol → Type 0) (R : Type 0) (bodies : List (List Symbol)) (body : List Symbol)
    → Among body bodies → From body → Ways From R bodies → R
taken From R [] body among a ways = absurd among
taken From R (b ∷ bodies) body (inl e) a ways = ways.0 (subst From e a)
taken From R (b ∷ bodies) body (inr among) a ways = taken From R bodies body among a ways.1

module _ {p : Program} {ss : List Symbol} {s : State} {m : Mode} {whole : List ℕ} {Q : State → Type 0} where
  -- if the first symbol is a class of pieces, a piece of it was read
  pub read_back : {R : Type 0} (c : ℕ) → Along p (item.Piece c ∷ ss) s m whole Q
      → ((q : Piece) (rest : List ℕ) → class_of q ≡ c → fault_of_piece p s q ≡ None → IsCutOff p m q whole rest
      → Along p ss (moved p q s) (mode_with m q) rest Q → R) → R
  unfolding Turns
  read_back {R} c a k = go (turned a.derives)
    where
      go : ((q : Piece) × (fs : List (Event Piece)) × (qs : List Piece) × (class_of q ≡ c) × (a.events ≡ Read q ∷ fs)
          × (a.read ≡ q ∷ qs) × Derives proof_grammar ss fs qs) → R
      go (q, fs, qs, is, e, f, d) =
          let passes = subst (λ (es : List (Event Piece)). Passes (proof_fold p) (at s) es) e a.passes in
          let cuts = subst (λ (ps : List Piece). Cuts p m ps whole) f a.cuts in
          let same : (proof_fold p).read q (at s) ≡ at (moved p q s) =
          ap (λ (o : Option ProofKind). record { kept = moved p q s; broken = is_some o }) passes.0 in
          k q cuts.0 is passes.0 cuts.1 (record {
            events = fs;
            read = qs;
            last = a.last;
            derives = d;
            passes = subst (λ (t : Progress). Passes (proof_fold p) t fs) same passes.1;
            comes =
                sym (ap (λ (t : Progress). after (proof_fold p) t fs) same)
                ∙ sym (ap (λ (es : List (Event Piece)). after (proof_fold p) (at s) es) e) ∙ a.comes;
            cuts = cuts.2;
            holds = a.holds;
          })

  -- if the first symbol is a mark, its action was done
  pub mark_back : (n : ℕ) → Along p (item.Mark n ∷ ss) s m whole Q → Along p ss (done n s) m whole Q
  unfolding Turns
  mark_back n a =
      let t = turned a.derives in record {
        events = t.0;
        read = a.read;
        last = a.last;
        derives = t.2;
        passes = subst (λ (es : List (Event Piece)). Passes (proof_fold p) (at s) es) t.1 a.passes;
        comes = sym (ap (λ (es : List (Event Piece)). after (proof_fold p) (at s) es) t.1) ∙ a.comes;
        cuts = a.cuts;
        holds = a.holds;
      }

  -- if the first symbol is a nonterminal, some alternative of it was read
  pub made_any : (n : ℕ) → Along p (item.Made n ∷ ss) s m whole Q
      → (body : List Symbol) × Among body (alternatives proof_grammar.rules n) × Along p (body ++ ss) s m whole Q
  unfolding Turns
  made_any n a =
      let t = turned a.derives in (
        t.0,
        t.1,
        record {
          events = a.events;
          read = a.read;
          last = a.last;
          derives = t.2;
          passes = a.passes;
          comes = a.comes;
          cuts = a.cuts;
          holds = a.holds;
        },
      )

  -- if the first symbol is a nonterminal with these alternatives, one of them was read
  pub made_back : {R : Type 0} (n : ℕ) (bodies : List (List Symbol)) → alternatives proof_grammar.rules n ≡ bodies
      → Along p (item.Made n ∷ ss) s m whole Q
      → Ways (λ xs. Along p (xs ++ ss) s m whole Q) R bodies → R
  made_back {R} n bodies e a ways =
      let t = made_any n a in
      taken (λ xs. Along p (xs ++ ss) s m whole Q) R bodies t.0 (subst (Among t.0) e t.1) t.2 ways

  -- reading in a state or a mode is reading in an equal one
  pub turned_to : {t : State} → s ≡ t → Along p ss s m whole Q → Along p ss t m whole Q
  turned_to e a = subst (λ (u : State). Along p ss u m whole Q) e a

  pub mode_to : {k : Mode} → m ≡ k → Along p ss s m whole Q → Along p ss s k whole Q
  mode_to e a = subst (λ (j : Mode). Along p ss s j whole Q) e a

-- bytes that begin with w and then others, where the others are replaced by equal ones
pub on : {xs ys zs : List ℕ} (w : List ℕ) → xs ≡ w ++ ys → ys ≡ zs → xs ≡ w ++ zs
on w e f = e ∙ ap (λ (bs : List ℕ). w ++ bs) f

-- the bytes after a prefix are no longer than all
pub shorter : {xs : List ℕ} (w ys : List ℕ) → xs ≡ w ++ ys → length ys ≤ length xs
shorter {xs} w ys e = let long = ap length e in let both = length-append w ys in omega (arith, long, both)

pub less : {xs ys : List ℕ} (b : ℕ) → xs ≡ b ∷ ys → suc (length ys) ≤ length xs
less b e = let long = ap length e in omega (arith, long)

-- in each mode a sign is cut from its byte
sign_cut : (p : Program) (m : Mode) (b : ℕ) (bytes : List ℕ) (k : Sign) (some : ℕ)
    → (lexer_of p).lexeme_in m b bytes ≡ record { piece = Some (ASign k); len = suc some } → (b ≡ byte_of k) × (some ≡ 0)
sign_cut p mode.Beginning b bytes k some h = go (is_first (b ∷ bytes)) h
  where
    go : (v : Bool) → cond v (lexeme First 10) (plain_lexeme (symbol_names p) b bytes)
        ≡ record { piece = Some (ASign k); len = suc some } → (b ≡ byte_of k) × (some ≡ 0)
    go true e = let q = ap (λ (l : Lexeme (Option Piece)). l.piece) e in cc
    go false e = plain_sign (symbol_names p) b bytes k some e
sign_cut p mode.InShut b bytes k some h = go (begins_name b) h
  where
    digits : (v : Bool) (i : ℕ) (d : Behind) (j : ℕ)
        → Some (cond v (Place i d) (Place j behind.NoNumber)) ≡ Some (ASign k) → ⊥
    digits true i d j e = cc
    digits false i d j e = cc

    no_place : (o : Option (List ℕ)) (run : List ℕ) → Some (place_in (symbol_names p) run o) ≡ Some (ASign k) → ⊥
    no_place None run e = cc
    no_place (Some after) run e =
        digits (list_all is_ascii_digit after) (symbol_of (symbol_names p) (take (length run - length after - 1) run))
        (behind_dot after) (symbol_of (symbol_names p) run) e

    go : (v : Bool) → cond v (place_lexeme (symbol_names p) (b ∷ prefix continues_name bytes))
        (plain_lexeme (symbol_names p) b bytes) ≡ record { piece = Some (ASign k); len = suc some }
        → (b ≡ byte_of k) × (some ≡ 0)
    go true e =
        absurd (no_place (behind_last_dot None (b ∷ prefix continues_name bytes)) (b ∷ prefix continues_name bytes)
        (ap (λ (l : Lexeme (Option Piece)). l.piece) e))
    go false e = plain_sign (symbol_names p) b bytes k some e
sign_cut p (mode.InBound depth before) b bytes k some h = go (ends_bound depth b) h
  where
    go : (v : Bool) → cond v (plain_lexeme (symbol_names p) b bytes)
        (bound_lexeme (length p.start_names) depth before (b ∷ bytes) (bounds.lexeme_at p.start_names b bytes))
        ≡ record { piece = Some (ASign k); len = suc some } → (b ≡ byte_of k) × (some ≡ 0)
    go true e = plain_sign (symbol_names p) b bytes k some e
    go false e = let q = ap (λ (l : Lexeme (Option Piece)). l.piece) e in cc
sign_cut p mode.Plain b bytes k some h = plain_sign (symbol_names p) b bytes k some h
sign_cut p mode.Closed b bytes k some h = plain_sign (symbol_names p) b bytes k some h
sign_cut p mode.ClosedBlank b bytes k some h = plain_sign (symbol_names p) b bytes k some h
sign_cut p mode.To b bytes k some h = plain_sign (symbol_names p) b bytes k some h

module _ {p : Program} {ss : List Symbol} {s : State} {m : Mode} {whole : List ℕ} {Q : State → Type 0} where
  -- if the first symbol is a sign's class, the sign's byte was read
  pub sign_back : {R : Type 0} (k : Sign) → Along p (item.Piece (class_of_sign k) ∷ ss) s m whole Q
      → ((rest : List ℕ) → whole ≡ byte_of k ∷ rest
      → Along p ss (moved p (ASign k) s) (mode_with m (ASign k)) rest Q → R) → R
  sign_back k a on_it = read_back (class_of_sign k) a (λ q rest is none cut more.
      let same : q ≡ ASign k = class_sign q k is in
      let b = sign_cut p m cut.first cut.others k cut.some
      (cut.cut ∙ ap (λ (x : Piece). record { piece = Some x; len = suc cut.some }) same) in
      on_it rest
      (cut.begins ∙ ap (λ (c : ℕ). c ∷ cut.others) b.0
      ∙ ap (λ (bs : List ℕ). byte_of k ∷ bs) (sym (ap (λ (n : ℕ). drop n cut.others) b.1) ∙ cut.behind))
      (subst (λ (x : Piece). Along p ss (moved p x s) (mode_with m x) rest Q) same more))

  -- if the first symbol is a word's class, the word's bytes were read
  pub word_back : {R : Type 0} (w : Word) → ¬ (w ≡ word.Other)
      → ((b : ℕ) (bytes : List ℕ) → (lexer_of p).lexeme_in m b bytes ≡ plain_lexeme (symbol_names p) b bytes)
      → Along p (item.Piece (class_of_word w) ∷ ss) s m whole Q
      → ((symbol : ℕ) (rest : List ℕ) → fault_of_piece p s (Name w symbol) ≡ None → whole ≡ bytes_of_word w ++ rest
      → Along p ss (moved p (Name w symbol) s) (mode_with m (Name w symbol)) rest Q → R) → R
  word_back w proper plain a on_it = read_back (class_of_word w) a (λ q rest is none cut more.
      let c = class_word q w is in
      let n = plain_name (symbol_names p) cut.first cut.others w c.0 cut.some
      (sym (plain cut.first cut.others) ∙ cut.cut ∙ ap (λ (x : Piece). record { piece = Some x; len = suc cut.some }) c.1) in
      on_it c.0 rest (subst (λ (x : Piece). fault_of_piece p s x ≡ None) c.1 none)
      (cut.begins ∙ n.3 ∙ ap (λ (bs : List ℕ). (cut.first ∷ prefix continues_name cut.others) ++ bs) cut.behind
      ∙ ap (λ (bs : List ℕ). bs ++ rest) (spelled (cut.first ∷ prefix continues_name cut.others) n.0
      (word_bytes (cut.first ∷ prefix continues_name cut.others))))
      (subst (λ (x : Piece). Along p ss (moved p x s) (mode_with m x) rest Q) c.1 more))
    where
      spelled : (name : List ℕ) → word_of name ≡ w
          → ((word_of name ≡ word.Other) ⊎ (name ≡ bytes_of_word (word_of name))) → name ≡ bytes_of_word w
      spelled name e (inl f) = absurd (proper (sym e ∙ f))
      spelled name e (inr f) = f ∙ ap bytes_of_word e
