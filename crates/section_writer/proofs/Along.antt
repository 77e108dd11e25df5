-- Reading along a text: symbols derive pieces without faults, and the bytes are cut into these pieces.
use Rattle.std.proofs.Common.{◌≡◌, ℕ, zero, suc, ◌+◌, ◌-◌, false, List, [], ◌∷◌, ◌++◌, length, take, drop, Option, Some, None}
use Rattle.std.proofs.Common.{refl, ap, sym, subst, ◌∙◌, arith, append_assoc}
use Rattle.std.specs.Prelude.{is_some}
use Rattle.std.proofs.lemmas.List.{take-append-drop}
use Rattle.its_model.specs.model.Programs.{Program}
use Rattle.text_grammar.specs.text_core.Faults.{Among}
use Rattle.text_grammar.specs.text_core.Tokens.{Lexeme, Token, pieces, token_then, tokens_in}
use Rattle.text_grammar.specs.declared.symbol.Symbol.{Symbol}
use Rattle.text_grammar.specs.declared.symbol.Symbol.TheVariants as item
use Rattle.text_grammar.specs.declared.token_stream.OneMode.TheVariants.{Plain}
use Rattle.text_grammar.specs.Grammars.{Event, Read, Did, Derives, nothing, piece, mark, made, alternatives}
use Rattle.text_grammar.specs.Folds.{after, Passes}
use Rattle.text_grammar.specs.Marks.{lexer_of}
use Rattle.section_text.specs.declared.kind.SectionKind.{SectionKind}
use Rattle.section_text.specs.declared.piece.Piece.{Piece}
use Rattle.section_text.specs.declared.piece.Sort.{Sort}
use Rattle.section_text.specs.Drafts.{Draft, done, read_in}
use Rattle.section_text.specs.Faults.{fault_of_piece}
use Rattle.section_text.specs.Grammar.{class_of_sort, section_grammar}
use Rattle.section_text.specs.Lexing.{lexeme_at, pieced, sorted_at}
use Rattle.section_text.specs.Reading.{Progress, section_fold}

-- the progress after pieces without faults
abbrev pub at : Draft → Progress
at d = record { draft = d; broken = false }

-- bytes begin with a piece of a sort, and these are the bytes after it
pub record IsCut (sort : Sort) (whole rest : List ℕ) : Type 0 where
  pub first : ℕ
  pub others : List ℕ
  pub some : ℕ
  pub begins : whole ≡ first ∷ others
  pub cut : sorted_at first others ≡ record { piece = sort; len = suc some }
  pub behind : drop some others ≡ rest

-- in a text with this many bytes, bytes at its end begin with a piece
pub record IsCutOff (n : ℕ) (q : Piece) (whole rest : List ℕ) : Type 0 where
  pub first : ℕ
  pub others : List ℕ
  pub some : ℕ
  pub begins : whole ≡ first ∷ others
  pub cut : lexeme_at n first others ≡ record { piece = Some q; len = suc some }
  pub behind : drop some others ≡ rest

-- bytes are cut into pieces
abbrev pub Cuts : ℕ → List Piece → List ℕ → Type 0
Cuts n [] whole = whole ≡ []
Cuts n (q ∷ qs) whole = (rest : List ℕ) × IsCutOff n q whole rest × Cuts n qs rest

-- bytes that are passed over make no token
skipped : (n at some : ℕ) (bytes : List ℕ)
    → (from : ℕ) × (tokens_in (lexer_of (lexeme_at n)) Plain at some bytes
    ≡ tokens_in (lexer_of (lexeme_at n)) Plain from 0 (drop some bytes))
skipped n at zero bytes = (at, refl)
skipped n at (suc some) [] = (at, refl)
skipped n at (suc some) (b ∷ bytes) = skipped n (at + 1) some bytes

-- the tokens of bytes that are cut into pieces have these pieces
pub cut_tokens : (n at : ℕ) (qs : List Piece) (whole : List ℕ) → Cuts n qs whole
    → pieces (tokens_in (lexer_of (lexeme_at n)) Plain at 0 whole) ≡ qs
cut_tokens n at [] whole e = ap (λ (bs : List ℕ). pieces (tokens_in (lexer_of (lexeme_at n)) Plain at 0 bs)) e
cut_tokens n at (q ∷ qs) whole (rest, c, cs) =
    let less : suc c.some - 1 ≡ c.some = omega arith in
    let s = skipped n (at + 1) c.some c.others in
    ap (λ (bs : List ℕ). pieces (tokens_in (lexer_of (lexeme_at n)) Plain at 0 bs)) c.begins
    ∙ ap (λ (l : Lexeme (Option Piece)). pieces (token_then at l.len l.piece
    (tokens_in (lexer_of (lexeme_at n)) Plain (at + 1) (l.len - 1) c.others))) c.cut
    ∙ ap (λ (xs : List Piece). q ∷ xs)
    (ap (λ (k : ℕ). pieces (tokens_in (lexer_of (lexeme_at n)) Plain (at + 1) k c.others)) less
    ∙ ap (λ (ts : List (Token Piece)). pieces ts) s.1
    ∙ ap (λ (bs : List ℕ). pieces (tokens_in (lexer_of (lexeme_at n)) Plain s.0 0 bs)) c.behind
    ∙ cut_tokens n s.0 qs rest cs)

-- from a draft on, symbols are read along bytes to their end without a fault, and the draft there has this property
pub record Reads (p : Program) (text : List ℕ) (ss : List Symbol) (d : Draft) (whole : List ℕ) (Q : Draft → Type 0)
    : Type 0 where
  pub events : List (Event Piece)
  pub read : List Piece
  pub last : Draft
  pub derives : Derives section_grammar ss events read
  pub passes : Passes (section_fold p text) (at d) events
  pub comes : after (section_fold p text) (at d) events ≡ at last
  pub cuts : Cuts (length text) read whole
  pub holds : Q last

-- the same wherever these bytes end the text
pub record Along (p : Program) (text : List ℕ) (ss : List Symbol) (d : Draft) (whole : List ℕ) (Q : Draft → Type 0)
    : Type 0 where
  pub onward : (before : List ℕ) → text ≡ before ++ whole → Reads p text ss d whole Q

-- the piece of a sort that bytes at the end of a text begin with
abbrev pub piece_at : (text whole : List ℕ) → Sort → ℕ → Piece
piece_at text whole sort some = record { sort = sort; at = length text - length whole; len = suc some }

-- a piece that is cut from bytes is one of the text
cut_off : (text whole rest : List ℕ) (sort : Sort) (c : IsCut sort whole rest)
    → IsCutOff (length text) (piece_at text whole sort c.some) whole rest
cut_off text whole rest sort c = record {
  first = c.first;
  others = c.others;
  some = c.some;
  begins = c.begins;
  cut =
      ap (pieced (length text) (c.first ∷ c.others)) c.cut
      ∙ ap (λ (bs : List ℕ). pieced (length text) bs (record { piece = sort; len = suc c.some })) (sym c.begins);
  behind = c.behind;
}

-- the bytes behind a piece end the text
still_ends : (text before whole rest : List ℕ) (sort : Sort) (c : IsCut sort whole rest) → text ≡ before ++ whole
    → text ≡ (before ++ (c.first ∷ take c.some c.others)) ++ rest
still_ends text before whole rest sort c e =
    e
    ∙ ap (λ (bs : List ℕ). before ++ bs)
    (c.begins ∙ ap (λ (bs : List ℕ). c.first ∷ bs) (sym (take-append-drop c.some c.others)
    ∙ ap (λ (bs : List ℕ). take c.some c.others ++ bs) c.behind))
    ∙ sym (append_assoc before (c.first ∷ take c.some c.others) rest)

-- nothing is left
pub ends : {p : Program} {text : List ℕ} {d : Draft} {Q : Draft → Type 0} → Q d → Along p text [] d [] Q
ends {d} h = record {
  onward = λ before e. record {
    events = [];
    read = [];
    last = d;
    derives = nothing;
    passes = tt;
    comes = refl;
    cuts = refl;
    holds = h;
  };
}

module _ {p : Program} {text : List ℕ} {ss : List Symbol} {d : Draft} {Q : Draft → Type 0} where
  -- a piece is read, which changes the draft to a new one
  pub reads : {whole rest : List ℕ} (sort : Sort) (c : IsCut sort whole rest) (new : Draft)
      → ((before : List ℕ) → text ≡ before ++ whole → fault_of_piece p text (piece_at text whole sort c.some) d ≡ None)
      → ((before : List ℕ) → text ≡ before ++ whole
      → read_in d.role p text (piece_at text whole sort c.some) d ≡ new)
      → Along p text ss new rest Q → Along p text (item.Piece (class_of_sort sort) ∷ ss) d whole Q
  reads {whole} {rest} sort c new none gives more = record {
    onward = λ before e. (let q : Piece = piece_at text whole sort c.some in
        let m = more.onward (before ++ (c.first ∷ take c.some c.others)) (still_ends text before whole rest sort c e) in
        let same : (section_fold p text).read q (at d) ≡ at new =
        ap (λ (o : Option SectionKind). record { draft = read_in d.role p text q d; broken = is_some o }) (none before e)
        ∙ ap at (gives before e) in
        record {
          events = Read q ∷ m.events;
          read = q ∷ m.read;
          last = m.last;
          derives = piece q m.derives;
          passes = (
            none before e,
            subst (λ (t : Progress). Passes (section_fold p text) t m.events) (sym same) m.passes,
          );
          comes = ap (λ (t : Progress). after (section_fold p text) t m.events) same ∙ m.comes;
          cuts = (rest, cut_off text whole rest sort c, m.cuts);
          holds = m.holds;
        });
  }

  -- the action of a mark is done
  pub marks : {whole : List ℕ} (n : ℕ) → Along p text ss (done n d) whole Q → Along p text (item.Mark n ∷ ss) d whole Q
  marks n more = record {
    onward = λ before e. (let m = more.onward before e in record {
      events = Did n ∷ m.events;
      read = m.read;
      last = m.last;
      derives = mark n m.derives;
      passes = m.passes;
      comes = m.comes;
      cuts = m.cuts;
      holds = m.holds;
    });
  }

  -- a nonterminal is read as one of its alternatives
  pub makes : {whole : List ℕ} (n : ℕ) (body : List Symbol) → Among body (alternatives section_grammar.rules n)
      → Along p text (body ++ ss) d whole Q → Along p text (item.Made n ∷ ss) d whole Q
  makes n body among more = record {
    onward = λ before e. (let m = more.onward before e in record {
      events = m.events;
      read = m.read;
      last = m.last;
      derives = made n body among m.derives;
      passes = m.passes;
      comes = m.comes;
      cuts = m.cuts;
      holds = m.holds;
    });
  }

  -- the bytes are others by an equation
  pub spelled_as : {whole others : List ℕ} → whole ≡ others → Along p text ss d others Q → Along p text ss d whole Q
  spelled_as e more = subst (λ (bs : List ℕ). Along p text ss d bs Q) (sym e) more

  -- the draft is another one by an equation
  pub becomes : {whole : List ℕ} {t : Draft} → d ≡ t → Along p text ss t whole Q → Along p text ss d whole Q
  becomes {whole} e more = subst (λ (u : Draft). Along p text ss u whole Q) (sym e) more
