-- Laws of reading: the current state, with the pieces that are left, decides the answer to the text.
use Rattle.std.proofs.Common.{◌≡◌, length-drop, ℕ, ◌+◌, ◌-◌, ◌^◌, ◌<◌, ◌≤◌, Bool, true, false, cond, nat_eq, List, []}
use Rattle.std.proofs.Common.{◌∷◌, length, drop, Option, Some, None, refl, ap, sym, subst, ◌∙◌, inl, inr, arith}
use Rattle.std.specs.Prelude.{Result, Ok, Err, IsErrAnd, IsTrue, codes, ◌⊎◌}
use Rattle.std.specs.Char.{is_ascii_digit}
use Rattle.std.proofs.lemmas.Bool.Decides.{nat_tests}
use Rattle.text_core.specs.model.Programs.{Name}
use Rattle.text_core.specs.model.Bounds as plain
use Rattle.text_core.specs.Names.{begins_name, continues_name, is_same, position_of}
use Rattle.text_core.specs.Prefixes.{prefix, rest as the_rest}
use Rattle.text_core.specs.Bytes.{begins_with, has_leading_zero, value_up_to}
use Rattle.text_core.specs.Tokens.{Token, Lexeme, each_piece, pieces, tokens_from, AreInOrder}
use Rattle.text_core.specs.Readers as text
use Rattle.text_core.specs.Readers.{next, reached, BreaksOff}
use Rattle.text_core.specs.Faults.{Among, next_at, stop_kind_at, NotAfter}
use Rattle.text_core.specs.Reading.{Answer, Parsed, Refused as RefusedBy, Going, answer, run, further, first_among}
use Rattle.text_core.specs.Stopping.{ShowsNext}
use Rattle.text_core.proofs.ShownFaults.{fault_among, among_faults, no_faults}
use Rattle.text_core.proofs.Lexing.{tokens-first, in_order}
use Rattle.text_core.proofs.FirstFaults.{Ahead, breaks_here, goes_here}
use Rattle.text_core.proofs.Stopping.{ahead_next, first_ahead}
use Rattle.bound_text.specs.Pieces.{Piece, Variable, Number, Maximum, Caret, Wrong}
use Rattle.bound_text.specs.Lexing.{word_at, number_at, mark_at, lexeme_at, tokens}
use Rattle.bound_text.specs.ParserStates.{ParserState, levels_of}
use Rattle.bound_text.specs.Kinds.{Kind, Syntax, NumberTooLarge, UnknownName, TooDeep, TooLarge, number_of, kinds}
use Rattle.bound_text.specs.Steps.{step, beginning}
use Rattle.bound_text.specs.Checks.{PieceResult, Refused, Reached, is_caret, caret_next, has_large_base, piece_result}
use Rattle.bound_text.specs.Reading.{stands, shown, bounds}
use Rattle.bound_text.specs.Verdicts.{error_at}
use Rattle.bound_text.specs.Views.{IsKind, IsRefusal, Obeys, Says, state_of, is_settled}
use Rattle.bound_expr.specs.declared.bound.Bound.{Bound}
use Rattle.bound_text.specs.declared.state.Reader.{Reader}
use Rattle.bound_text.specs.declared.error.BoundTextError.{BoundTextError}
use Rattle.bound_text.specs.declared.error.BoundTextError.TheVariants as errors
use Rattle.bound_text.specs.declared.fault.Fault.{Fault}
use Rattle.bound_text.specs.declared.fault.Fault.TheVariants as faults
use Rattle.bound_text.proofs.StepCases.{step_leads}
use Rattle.bound_text.proofs.PieceFaults.{IsRefused, IsTaken, IsJudged, piece_judged}
use Rattle.bound_text.proofs.ReaderLaws.{bound_laws, is_state}
use Rattle.bound_text.proofs.Limits.{base_ok, base_kept, each_kind}
use Rattle.bound_text.proofs.TextLexing.{lexes_within}
use Rattle.bound_expr.specs.Limits.{depth_limit}

-- a name is no `^`
word_no_caret : (names : List Name) (name rest : List ℕ) → is_caret (word_at names name rest).piece ≡ false
word_no_caret names name rest = go (begins_with 40 rest) (is_same name (codes "max"))
  where
    go : (a b : Bool)
        → is_caret (cond {A = Lexeme Piece} a (cond b (record { piece = Maximum; len = length name + 1 }) (record { piece = Wrong; len = length name })) (record { piece = Variable (position_of name names); len = length name })).piece ≡ false
    go true true = refl
    go true false = refl
    go false b = refl

-- a number is no `^`
number_no_caret : (digits : List ℕ) → is_caret (number_at digits).piece ≡ false
number_no_caret digits = go (has_leading_zero digits)
  where
    go : (a : Bool) → is_caret (cond a Wrong (Number (value_up_to (2 ^ 127) digits))) ≡ false
    go true = refl
    go false = refl

-- of the other bytes only 94 is `^`
mark_caret : (b : ℕ) → is_caret (mark_at b) ≡ nat_eq b 94
mark_caret b = grind (arith, nat_tests)

-- a byte that begins a name is no `^`
begins_no_caret : (b : ℕ) → begins_name b ≡ true → nat_eq b 94 ≡ false
begins_no_caret b h = grind (arith, nat_tests)

-- a digit is no `^`
digit_no_caret : (b : ℕ) → is_ascii_digit b ≡ true → nat_eq b 94 ≡ false
digit_no_caret b h = grind (arith, nat_tests)

-- the lexeme that bytes begin with is `^` exactly if the first byte is
lexeme_caret : (names : List Name) (b : ℕ) (bytes : List ℕ) → is_caret (lexeme_at names b bytes).piece ≡ nat_eq b 94
lexeme_caret names b bytes = go (begins_name b) (is_ascii_digit b) refl refl
  where
    go : (v w : Bool) → begins_name b ≡ v → is_ascii_digit b ≡ w
        → is_caret (cond {A = Lexeme Piece} v (word_at names (b ∷ prefix continues_name bytes) (the_rest continues_name bytes)) (cond w (number_at (b ∷ prefix is_ascii_digit bytes)) (record { piece = mark_at b; len = 1 }))).piece ≡ nat_eq b 94
    go true w e f = word_no_caret names (b ∷ prefix continues_name bytes) (the_rest continues_name bytes) ∙ sym (begins_no_caret b e)
    go false true e f = number_no_caret (b ∷ prefix is_ascii_digit bytes) ∙ sym (digit_no_caret b f)
    go false false e f = mark_caret b

-- `^` comes next exactly if the bytes begin with it
pub caret-tokens : (names : List Name) (at : ℕ) (bytes : List ℕ) → caret_next (pieces (tokens_from (each_piece (lexeme_at names)) at 0 bytes)) ≡ begins_with 94 bytes
caret-tokens names at [] = refl
caret-tokens names at (b ∷ bytes) = lexeme_caret names b bytes

-- every fault is shown at the next token
shown_next : (n len : ℕ) (f : ParserState) (rest : List (Token Piece)) (x : text.Fault Kind) → Among x (shown n f rest) → x.at ≡ next_at len rest
shown_next n len f [] x a = absurd a
shown_next n len f (t ∷ rest) x a = (among_faults t.at (stands n f t.piece (pieces rest)) kinds x a).0

shows_next : (n : ℕ) → ShowsNext (bounds n)
shows_next n = record { each = λ len done f rest x a. shown_next n len f rest x a }

-- a piece that is taken leaves the answer to the state after it
pub run_taken : (n len : ℕ) (done rest : List (Token Piece)) (f g : ParserState) (t : Token Piece) → IsTaken n f t.piece (pieces rest) g → run (bounds n) len (Going None done f) (t ∷ rest) ≡ run (bounds n) len (Going None (t ∷ done) g) rest
run_taken n len done rest f g t is =
    ap (λ (xs : List (text.Fault Kind)). run (bounds n) len (further (bounds n) (first_among (bounds n) None xs) done t (step f t.piece) (stop_kind_at (bounds n) len f (t ∷ rest))) rest) (no_faults t.at (stands n f t.piece (pieces rest)) kinds is.none)
    ∙ ap (λ (o : Option ParserState). run (bounds n) len (further (bounds n) None done t o (stop_kind_at (bounds n) len f (t ∷ rest))) rest) is.leads

-- a piece that is refused decides the answer
pub run_refused : (n len : ℕ) (done rest : List (Token Piece)) (f : ParserState) (t : Token Piece) (kind : Kind) → reached (bounds n) (pieces done) ≡ Some f → t.at < t.upto → AreInOrder t.upto rest len → IsRefused n f t.piece (pieces rest) kind
    → run (bounds n) len (Going None done f) (t ∷ rest) ≡ RefusedBy (record { kind = kind; at = t.at })
run_refused n len done rest f t kind led some order is = first_ahead (bounds n) (bound_laws n) len done (t ∷ rest) f (record { kind = kind; at = t.at }) led (here is.is) least
  where
    here : (stands n f t.piece (pieces rest) kind ≡ true) ⊎ ((step f t.piece ≡ None) × (kind ≡ Syntax)) → Ahead (bounds n) len done (Some f) (t ∷ rest) (record { kind = kind; at = t.at })
    here (inl s) = inl (inl (fault_among t.at (stands n f t.piece (pieces rest)) kinds kind (each_kind kind) s))
    here (inr s) = inl (inr (breaks_here (bounds n) (bound_laws n) (pieces done) f t.piece (pieces rest) led s.0, ap (λ (k : Kind). record { kind = k; at = t.at }) (sym s.1)))

    nowhere : (o : Option ParserState) → step f t.piece ≡ o → BreaksOff (bounds n) (pieces done) (t.piece ∷ pieces rest) → kind ≡ Syntax
    nowhere None e b = is.nowhere e
    nowhere (Some g) e b = absurd (goes_here (bounds n) (bound_laws n) (pieces done) f g t.piece (pieces rest) led e b)

    least : (y : text.Fault Kind) → Ahead (bounds n) len done (Some f) (t ∷ rest) y → NotAfter (bounds n) (record { kind = kind; at = t.at }) y
    least y (inl (inl a)) =
        let m = among_faults t.at (stands n f t.piece (pieces rest)) kinds y a in
        record { position = (let e = m.0 in omega (arith, e)); kind = λ p. is.least y.kind m.1 }
    least y (inl (inr b)) =
        let at : t.at ≡ y.at = ap (λ (z : text.Fault Kind). z.at) b.1 in
        let first : number_of kind ≡ 1 = ap number_of (nowhere (step f t.piece) refl b.0) in
        let one : 1 ≡ number_of y.kind = ap (λ (z : text.Fault Kind). number_of z.kind) b.1 in
        record { position = omega (arith, at); kind = λ p. omega (arith, first, one) }
    least y (inr a) =
        let e = ahead_next (bounds n) (shows_next n) rest len t.upto (t ∷ done) (step f t.piece) y order a in
        record { position = omega (arith, e, some); kind = λ p. absurd (omega (arith, e, some, p)) }

-- every refusal may be answered by running out of memory
refusal_memory : (kind : Kind) (at : ℕ) → IsRefusal kind at errors.Memory
refusal_memory Syntax at = tt
refusal_memory NumberTooLarge at = tt
refusal_memory UnknownName at = tt
refusal_memory TooDeep at = tt
refusal_memory TooLarge at = tt

-- every answer may be replaced by running out of memory
pub says_memory : (a : Answer plain.Bound Kind) → Says a (Err errors.Memory)
says_memory (RefusedBy x) = refusal_memory x.kind x.at
says_memory (Parsed b) = tt

-- an error that is passed on agrees with the answer that it was
pub says_passed_on : (a : Answer plain.Bound Kind) (result : Result Bound BoundTextError) → IsErrAnd result (λ e. e ≡ errors.Memory) → Says a result
says_passed_on a (Ok b) h = absurd h
says_passed_on a (Err e) h = subst (λ (x : BoundTextError). Says a (Err x)) (sym h) (says_memory a)

-- a refusal of the code, put at its position, is that refusal there
refusal_at : (kind : Kind) (fault : Fault) (at : ℕ) → IsKind kind fault → IsRefusal kind at (error_at fault at)
refusal_at Syntax faults.Syntax at h = refl
refusal_at NumberTooLarge faults.NumberTooLarge at h = refl
refusal_at UnknownName faults.UnknownName at h = refl
refusal_at TooDeep faults.TooDeep at h = refl
refusal_at TooLarge faults.TooLarge at h = refl
refusal_at kind faults.Memory at h = refusal_memory kind at
refusal_at kind fault at h = absurd h

-- if the code takes a piece, its reader is in the state of the result
reached_state : (c : PieceResult) (r : Reader) (u : Unit {0}) → Obeys c r (Ok u) → c ≡ Reached (state_of r)
reached_state (Refused kind) r u h = absurd h
reached_state (Reached f) r u h = ap Reached h.0

-- after taking a piece a reader is settled: its state is the one that the piece leads to
pub settled_front : (c : PieceResult) (r : Reader) (result : Result (Unit {0}) Fault) (u : Unit {0}) → result ≡ Ok u → Obeys c r result → IsTrue (is_settled r)
settled_front c r result u e h = go c (subst (λ (x : Result (Unit {0}) Fault). Obeys c r x) e h)
  where
    go : (c : PieceResult) → Obeys c r (Ok u) → IsTrue (is_settled r)
    go (Refused kind) k = absurd k
    go (Reached f) k = k.1

-- the tokens of the bytes that are left of a text
abbrev pub left_tokens : List Name → List ℕ → List ℕ → List (Token Piece)
left_tokens names bytes left = tokens_from (each_piece (lexeme_at names)) (length bytes - length left) 0 left

-- the state f, with the bytes that are left, decides the answer to the whole text
pub record Decides (names : List Name) (bytes left : List ℕ) (f : ParserState) : Type 0 where
  pub within : length left ≤ length bytes
  pub done : List (Token Piece)
  pub led : reached (bounds (length names)) (pieces done) ≡ Some f
  pub shallow : levels_of f ≤ depth_limit
  pub bases : begins_with 94 left ≡ true → has_large_base f Caret ≡ false
  pub same : answer (bounds (length names)) (length bytes) (tokens names bytes) ≡ run (bounds (length names)) (length bytes) (Going None done f) (left_tokens names bytes left)

-- the first state, with all bytes left, decides the answer
pub decides_first : (names : List Name) (bytes : List ℕ) → Decides names bytes bytes beginning
decides_first names bytes = record {
  within = omega arith;
  done = [];
  led = refl;
  shallow = omega arith;
  bases = λ h. refl;
  same = ap (λ (at : ℕ). run (bounds (length names)) (length bytes) (Going None [] beginning) (tokens_from (each_piece (lexeme_at names)) at 0 bytes)) (let e : 0 ≡ length bytes - length bytes = omega arith in e);
}

-- laws for the next token of a text
module _ (names : List Name) (bytes left others behind : List ℕ) (b : ℕ) (l : Lexeme Piece) (first : left ≡ b ∷ others) (found_at : l ≡ lexeme_at names b others) (some : 0 < l.len) (fits : l.len ≤ length left) (rests : behind ≡ drop l.len left) (within : length left ≤ length bytes)
  where
    abbrev token : Token Piece
    token = record { piece = l.piece; at = length bytes - length left; upto = length bytes - length left + l.len }

    -- the bytes after the lexeme
    fewer : length behind ≡ length left - l.len
    fewer = ap length rests ∙ length-drop l.len left

    -- the tokens of the bytes that are left are that token and those of the bytes after it
    next_token : left_tokens names bytes left ≡ token ∷ left_tokens names bytes behind
    next_token =
        tokens-first (each_piece (lexeme_at names)) (length bytes - length left) left others behind b (record { piece = Some l.piece; len = l.len }) first
        (ap (λ (m : Lexeme Piece). record { piece = Some m.piece; len = m.len }) found_at) some rests
        ∙ ap (λ (at : ℕ). token ∷ tokens_from (each_piece (lexeme_at names)) at 0 behind) (let e : length bytes - length left + l.len ≡ length bytes - length behind = omega (arith, fewer, fits, within) in e)

    -- the tokens after it are in order of their positions
    order : AreInOrder token.upto (left_tokens names bytes behind) (length bytes)
    order =
        subst (λ (p : ℕ). AreInOrder p (left_tokens names bytes behind) (length bytes)) (let e : length bytes - length behind + 0 ≡ length bytes - length left + l.len = omega (arith, fewer, fits, within) in e)
        (subst (AreInOrder (length bytes - length behind + 0) (left_tokens names bytes behind)) (let e : length bytes - length behind + length behind ≡ length bytes = omega (arith, fewer, within) in e)
        (in_order (each_piece (lexeme_at names)) (lexes_within names) behind 0 (length bytes - length behind) (omega arith)))

    -- the result of taking the token's piece is the first of its faults or the next state
    piece_is : (f : ParserState) (d : Decides names bytes left f) → IsJudged (length names) f l.piece (pieces (left_tokens names bytes behind)) (piece_result (length names) (caret_next (pieces (left_tokens names bytes behind))) f l.piece)
    piece_is f d =
        piece_judged (length names) f l.piece (pieces (left_tokens names bytes behind)) (is_state (length names) (pieces d.done) f d.led) d.shallow
        (base_ok f.position f.factors l.piece (λ h. d.bases (ap (begins_with 94) first ∙ sym (lexeme_caret names b others) ∙ sym (ap (λ (m : Lexeme Piece). is_caret m.piece) found_at) ∙ h)))

    module _ (m : ℕ) (f : ParserState) (r : Reader) (piece : Piece) (caret : Bool) (result : Result (Unit {0}) Fault) (listed : m ≡ length names) (piece_same : piece ≡ l.piece) (caret_same : caret ≡ begins_with 94 behind)
        (obeys : Obeys (piece_result m caret f piece) r result) where
      -- the code's result of taking the piece is that of the definition
      checked_same : piece_result m caret f piece ≡ piece_result (length names) (caret_next (pieces (left_tokens names bytes behind))) f l.piece
      checked_same =
          ap (λ (k : ℕ). piece_result k caret f piece) listed
          ∙ ap (λ (v : Bool). piece_result (length names) v f piece) (caret_same ∙ sym (caret-tokens names (length bytes - length behind) behind))
          ∙ ap (piece_result (length names) (caret_next (pieces (left_tokens names bytes behind))) f) piece_same

      -- if the piece is taken, the next state decides the answer
      pub decides_on : (u : Unit {0}) → Decides names bytes left f → result ≡ Ok u → Decides names bytes behind (state_of r)
      decides_on u d ok =
          let worked : piece_result (length names) (caret_next (pieces (left_tokens names bytes behind))) f l.piece ≡ Reached (state_of r) =
          sym checked_same ∙ reached_state (piece_result m caret f piece) r u (subst (λ (x : Result (Unit {0}) Fault). Obeys (piece_result m caret f piece) r x) ok obeys) in
          let taken : IsTaken (length names) f l.piece (pieces (left_tokens names bytes behind)) (state_of r) = subst (IsJudged (length names) f l.piece (pieces (left_tokens names bytes behind))) worked (piece_is f d) in
          record {
            within = omega (arith, fewer, within);
            done = token ∷ d.done;
            led = ap (λ (o : Option ParserState). next step o l.piece) d.led ∙ taken.leads;
            shallow = taken.levels;
            bases = λ h.
                base_kept (length names) f (state_of r) l.piece (pieces (left_tokens names bytes behind)) taken.leads taken.none (step_leads f (state_of r) l.piece (is_state (length names) (pieces d.done) f d.led) taken.leads)
                (caret-tokens names (length bytes - length behind) behind ∙ h);
            same =
                d.same
                ∙ ap (run (bounds (length names)) (length bytes) (Going None d.done f)) next_token
                ∙ run_taken (length names) (length bytes) d.done (left_tokens names bytes behind) f (state_of r) token taken;
          }

      -- if the piece is refused, its fault is the answer
      pub decides_not : (fault : Fault) (at : ℕ) → Decides names bytes left f → at ≡ length bytes - length left → result ≡ Err fault
          → Says (answer (bounds (length names)) (length bytes) (tokens names bytes)) (Err (error_at fault at))
      decides_not fault at d here err = go (piece_result m caret f piece) refl (subst (λ (x : Result (Unit {0}) Fault). Obeys (piece_result m caret f piece) r x) err obeys)
        where
          go : (k : PieceResult) → piece_result m caret f piece ≡ k → Obeys k r (Err fault) → Says (answer (bounds (length names)) (length bytes) (tokens names bytes)) (Err (error_at fault at))
          go (Refused kind) e h =
              let refused : IsRefused (length names) f l.piece (pieces (left_tokens names bytes behind)) kind = subst (IsJudged (length names) f l.piece (pieces (left_tokens names bytes behind))) (sym checked_same ∙ e) (piece_is f d) in
              let worked =
              d.same
              ∙ ap (run (bounds (length names)) (length bytes) (Going None d.done f)) next_token
              ∙ run_refused (length names) (length bytes) d.done (left_tokens names bytes behind) f token kind d.led (omega (arith, some)) order refused in
              subst (λ (w : Answer plain.Bound Kind). Says w (Err (error_at fault at))) (sym worked) (subst (λ (q : ℕ). IsRefusal kind q (error_at fault at)) here (refusal_at kind fault at h))
          go (Reached g) e h = only_memory fault h
            where
              only_memory : (fault : Fault) → Obeys (Reached g) r (Err fault) → Says (answer (bounds (length names)) (length bytes) (tokens names bytes)) (Err (error_at fault at))
              only_memory faults.Memory h = says_memory (answer (bounds (length names)) (length bytes) (tokens names bytes))
              only_memory fault h = absurd h
