-- Folds of events from a state on, in parts, and when their tokens have no fault.
use Rattle.std.proofs.Common.{◌≡◌, ℕ, List, [], ◌∷◌, ◌++◌, refl, ap, sym, subst, Option, Some, None}
use Rattle.text_core.specs.Tokens.{Token, pieces}
use Rattle.text_core.specs.Readers.{onto}
use Rattle.text_grammar.specs.declared.symbol.Symbol.{Symbol}
use Rattle.text_grammar.specs.Grammars.{Grammar, Event, Read, Did, Derives, nothing, piece, mark, made}
use Rattle.text_grammar.specs.Texts.{IsSilent}
use Rattle.text_grammar.specs.Folds.{Fold, refusals, state, folded, after, Passes}

-- the pieces that events read
abbrev pub pieces_read : {P : Type 0} → List (Event P) → List P
pieces_read [] = []
pieces_read (Did m ∷ es) = pieces_read es
pieces_read (Read p ∷ es) = p ∷ pieces_read es

-- derived events read the derived pieces
pub derived_reads : {P : Type 0} (g : Grammar P) {ss : List Symbol} {es : List (Event P)} {ps : List P}
    → Derives g ss es ps → pieces_read es ≡ ps
derived_reads g nothing = refl
derived_reads {P} g (piece p d) = ap (λ (qs : List P). p ∷ qs) (derived_reads g d)
derived_reads g (mark m d) = derived_reads g d
derived_reads g (made n body a d) = derived_reads g d

-- an optional refusal that is absent has no kind
none_refused : {K : Type 0} (o : Option K) (at : ℕ) → refusals o at ≡ [] → o ≡ None
none_refused None at e = refl
none_refused (Some kind) at e = cc

module _ {P S T K : Type 0} (f : Fold P S T K) where
  -- the state after appended events
  pub after_append : (s : S) (es fs : List (Event P)) → after f s (es ++ fs) ≡ after f (after f s es) fs
  after_append s [] fs = refl
  after_append s (Did m ∷ es) fs = after_append (f.done m s) es fs
  after_append s (Read p ∷ es) fs = after_append (f.read p s) es fs

  -- events that show no fault, and others that show none after them, show none together
  pub passes_append : (s : S) (es fs : List (Event P)) → Passes f s es → Passes f (after f s es) fs
      → Passes f s (es ++ fs)
  passes_append s [] fs h k = k
  passes_append s (Did m ∷ es) fs h k = passes_append (f.done m s) es fs h k
  passes_append s (Read p ∷ es) fs h k = (h.0, passes_append (f.read p s) es fs h.1 k)

  -- appended events that show no fault show none in each part
  pub passes_split : (s : S) (es fs : List (Event P)) → Passes f s (es ++ fs) → Passes f s es
      × Passes f (after f s es) fs
  passes_split s [] fs h = (tt, h)
  passes_split s (Did m ∷ es) fs h = passes_split (f.done m s) es fs h
  passes_split s (Read p ∷ es) fs h = let w = passes_split (f.read p s) es fs h.1 in ((h.0, w.0), w.1)

  -- the state after events is that of all events up to there
  pub state_after : (before es : List (Event P)) → state f (onto es before) ≡ after f (state f before) es
  state_after before [] = refl
  state_after before (Did m ∷ es) = state_after (Did m ∷ before) es
  state_after before (Read p ∷ es) = state_after (Read p ∷ before) es

  -- the tokens of events have no fault exactly if reading the events shows none
  pub silent_passes : (g : Grammar P) (before es : List (Event P)) (ts : List (Token P)) → pieces_read es ≡ pieces ts
      → IsSilent (folded f g) before es ts → Passes f (state f before) es
  silent_passes g before [] ts e s = tt
  silent_passes g before (Did m ∷ es) ts e s = silent_passes g (Did m ∷ before) es ts e s
  silent_passes g before (Read p ∷ es) [] e s = cc
  silent_passes g before (Read p ∷ es) (t ∷ ts) e s =
      let same : p ≡ t.piece = cc in
      let rest : pieces_read es ≡ pieces ts = cc in (
        subst (λ (q : P). f.reported_fault (state f before) q ≡ None) (sym same)
            (none_refused (f.reported_fault (state f before) t.piece) (f.position (state f before) t) s.0),
        silent_passes g (Read p ∷ before) es ts rest s.1,
      )

  pub passes_silent : (g : Grammar P) (before es : List (Event P)) (ts : List (Token P)) → pieces_read es ≡ pieces ts
      → Passes f (state f before) es → IsSilent (folded f g) before es ts
  passes_silent g before [] ts e s = tt
  passes_silent g before (Did m ∷ es) ts e s = passes_silent g (Did m ∷ before) es ts e s
  passes_silent g before (Read p ∷ es) [] e s = cc
  passes_silent g before (Read p ∷ es) (t ∷ ts) e s =
      let same : p ≡ t.piece = cc in
      let rest : pieces_read es ≡ pieces ts = cc in (
        ap (λ (o : Option K). refusals o (f.position (state f before) t))
            (subst (λ (q : P). f.reported_fault (state f before) q ≡ None) same s.0),
        passes_silent g (Read p ∷ before) es ts rest s.1,
      )
