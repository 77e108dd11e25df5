-- Reading along a text: the grammar's symbols derive pieces without faults, and the bytes are cut into these pieces.
use Rattle.std.proofs.Common.{◌≡◌, ℕ, zero, suc, ◌+◌, ◌-◌, false, List, [], ◌∷◌, ◌++◌, drop, Option, Some, None, refl, ap, sym}
use Rattle.std.proofs.Common.{subst, ◌∙◌, arith, append_assoc}
use Rattle.std.specs.Prelude.{is_some}
use Rattle.its_model.specs.model.Programs.{Program}
use Rattle.text_grammar.specs.text_core.Faults.{Among}
use Rattle.text_grammar.specs.text_core.Tokens.{Lexeme, Token, pieces, token_then, tokens_in}
use Rattle.text_grammar.specs.declared.symbol.Symbol.{Symbol}
use Rattle.text_grammar.specs.declared.symbol.Symbol.TheVariants as item
use Rattle.text_grammar.specs.Grammars.{Event, Read, Did, Derives, nothing, piece, mark, made, alternatives}
use Rattle.text_grammar.specs.Folds.{after, Passes}
use Rattle.cert_lexer.specs.declared.piece.Piece.{Piece}
use Rattle.cert_lexer.specs.declared.piece.Mode.{Mode}
use Rattle.cert_lexer.specs.Grammar.{class_of, proof_grammar}
use Rattle.cert_lexer.specs.Lexing.{lexer_of, mode_with}
use Rattle.cert_text.specs.NumberFaults.{fault_of_piece}
use Rattle.cert_text.specs.Reading.{Progress, moved, proof_fold}
use Rattle.cert_text.specs.Remembered.{State, done}

-- the progress at this state, after pieces without faults
abbrev pub at : State → Progress
at s = record { kept = s; broken = false }

-- in a mode the bytes begin with a piece, and `rest` are the bytes after it
pub record IsCutOff (p : Program) (m : Mode) (q : Piece) (whole rest : List ℕ) : Type 0 where
  pub first : ℕ
  pub others : List ℕ
  pub some : ℕ
  pub begins : whole ≡ first ∷ others
  pub cut : (lexer_of p).lexeme_in m first others ≡ record { piece = Some q; len = suc some }
  pub behind : drop some others ≡ rest

-- bytes are cut into pieces
abbrev pub Cuts : Program → Mode → List Piece → List ℕ → Type 0
Cuts p m [] whole = whole ≡ []
Cuts p m (q ∷ qs) whole = (rest : List ℕ) × IsCutOff p m q whole rest × Cuts p (mode_with m q) qs rest

-- bytes that are skipped make no token
pub skipped : (p : Program) (m : Mode) (at n : ℕ) (bytes : List ℕ)
    → (from : ℕ) × (tokens_in (lexer_of p) m at n bytes ≡ tokens_in (lexer_of p) m from 0 (drop n bytes))
skipped p m at zero bytes = (at, refl)
skipped p m at (suc n) [] = (at, refl)
skipped p m at (suc n) (b ∷ bytes) = skipped p m (at + 1) n bytes

-- the tokens of bytes that are cut into pieces have these pieces
pub cut_tokens : (p : Program) (m : Mode) (at : ℕ) (qs : List Piece) (whole : List ℕ) → Cuts p m qs whole
    → pieces (tokens_in (lexer_of p) m at 0 whole) ≡ qs
cut_tokens p m at [] whole e = ap (λ (bs : List ℕ). pieces (tokens_in (lexer_of p) m at 0 bs)) e
cut_tokens p m at (q ∷ qs) whole (rest, c, cs) =
    let n = mode_with m q in
    let less : suc c.some - 1 ≡ c.some = omega arith in
    let s = skipped p n (at + 1) c.some c.others in
    ap (λ (bs : List ℕ). pieces (tokens_in (lexer_of p) m at 0 bs)) c.begins
    ∙ ap (λ (l : Lexeme (Option Piece)). pieces (token_then at l.len l.piece (tokens_in (lexer_of p) ((lexer_of p).mode_behind m l.piece) (at + 1) (l.len - 1) c.others))) c.cut
    ∙ ap (λ (xs : List Piece). q ∷ xs) (ap (λ (k : ℕ). pieces (tokens_in (lexer_of p) n (at + 1) k c.others)) less
    ∙ ap (λ (ts : List (Token Piece)). pieces ts) s.1
    ∙ ap (λ (bs : List ℕ). pieces (tokens_in (lexer_of p) n s.0 0 bs)) c.behind
    ∙ cut_tokens p n s.0 qs rest cs)

-- from a state and a mode on, these symbols are read along the bytes to their end without a fault, and the state there
-- has the property Q
pub record Along (p : Program) (ss : List Symbol) (s : State) (m : Mode) (whole : List ℕ) (Q : State → Type 0) : Type 0
  where
    pub events : List (Event Piece)
    pub read : List Piece
    pub last : State
    pub derives : Derives proof_grammar ss events read
    pub passes : Passes (proof_fold p) (at s) events
    pub comes : after (proof_fold p) (at s) events ≡ at last
    pub cuts : Cuts p m read whole
    pub holds : Q last

-- no symbols are read along no bytes
pub ends : {p : Program} {s : State} {m : Mode} {Q : State → Type 0} → Q s → Along p [] s m [] Q
ends {s} h = record {
  events = [];
  read = [];
  last = s;
  derives = nothing;
  passes = tt;
  comes = refl;
  cuts = refl;
  holds = h;
}

module _ {p : Program} {ss : List Symbol} {s : State} {m : Mode} {Q : State → Type 0} where
  -- reading a piece, and then the other symbols
  pub reads : {whole rest : List ℕ} (q : Piece) → fault_of_piece p s q ≡ None → IsCutOff p m q whole rest
      → Along p ss (moved p q s) (mode_with m q) rest Q → Along p (item.Piece (class_of q) ∷ ss) s m whole Q
  reads {whole} {rest} q none cut more =
      let same : (proof_fold p).read q (at s) ≡ at (moved p q s) =
      ap (λ (o : Option _). record { kept = moved p q s; broken = is_some o }) none in
      record {
        events = Read q ∷ more.events;
        read = q ∷ more.read;
        last = more.last;
        derives = piece q more.derives;
        passes = (none, subst (λ (t : Progress). Passes (proof_fold p) t more.events) (sym same) more.passes);
        comes = ap (λ (t : Progress). after (proof_fold p) t more.events) same ∙ more.comes;
        cuts = (rest, cut, more.cuts);
        holds = more.holds;
      }

  -- doing the action of a mark, and then reading the other symbols
  pub marks : {whole : List ℕ} (n : ℕ) → Along p ss (done n s) m whole Q → Along p (item.Mark n ∷ ss) s m whole Q
  marks n more = record {
    events = Did n ∷ more.events;
    read = more.read;
    last = more.last;
    derives = mark n more.derives;
    passes = more.passes;
    comes = more.comes;
    cuts = more.cuts;
    holds = more.holds;
  }

  -- reading a nonterminal as one of its alternatives
  pub makes : {whole : List ℕ} (n : ℕ) (body : List Symbol) → Among body (alternatives proof_grammar.rules n)
      → Along p (body ++ ss) s m whole Q → Along p (item.Made n ∷ ss) s m whole Q
  makes n body among more = record {
    events = more.events;
    read = more.read;
    last = more.last;
    derives = made n body among more.derives;
    passes = more.passes;
    comes = more.comes;
    cuts = more.cuts;
    holds = more.holds;
  }

  -- reading along bytes is reading along equal bytes
  pub spelled_as : {whole others : List ℕ} → whole ≡ others → Along p ss s m others Q → Along p ss s m whole Q
  spelled_as e more = subst (λ (bs : List ℕ). Along p ss s m bs Q) (sym e) more

  -- reading from a state is reading from an equal state
  pub becomes : {whole : List ℕ} {t : State} → s ≡ t → Along p ss t m whole Q → Along p ss s m whole Q
  becomes {whole} e more = subst (λ (u : State). Along p ss u m whole Q) (sym e) more

  -- reading in a mode is reading in an equal mode
  pub in_mode : {whole : List ℕ} {k : Mode} → m ≡ k → Along p ss s k whole Q → Along p ss s m whole Q
  in_mode {whole} e more = subst (λ (k : Mode). Along p ss s k whole Q) (sym e) more

-- texts that are appended one after another
pub data Chunks : Type 0 where
  Bytes : List ℕ → Chunks
  Then : Chunks → Chunks → Chunks

abbrev pub text_in : Chunks → List ℕ
text_in (Bytes bytes) = bytes
text_in (Then a b) = text_in a ++ text_in b

-- the bytes of chunks, followed by others
abbrev pub flat : Chunks → List ℕ → List ℕ
flat (Bytes bytes) rest = bytes ++ rest
flat (Then a b) rest = flat a (flat b rest)

pub flatten : (c : Chunks) (rest : List ℕ) → text_in c ++ rest ≡ flat c rest
flatten (Bytes bytes) rest = refl
flatten (Then a b) rest =
    append_assoc (text_in a) (text_in b) rest ∙ ap (λ (bs : List ℕ). text_in a ++ bs) (flatten b rest)
    ∙ flatten a (flat b rest)
