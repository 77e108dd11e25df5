-- A text is accepted exactly if it is derived and its tokens have no fault.
use Rattle.std.proofs.Common.{◌≡◌, ℕ, List, [], ◌∷◌, Option, Some, refl, ap, sym, subst, ◌∙◌, inl, inr}
use Rattle.text_core.specs.Tokens.{Token, pieces}
use Rattle.text_core.specs.Readers.{Fault, onto, next, reached}
use Rattle.text_core.specs.Faults.{Among}
use Rattle.text_core.specs.Reading.{Answer, Parsed, Refused, answer, Answers}
use Rattle.text_core.proofs.FirstFaults.{Ahead, ahead_fault, fault_ahead, goes_here, ends_here, one_tree, answer_is}
use Rattle.text_grammar.specs.declared.symbol.Symbol.TheVariants.{Made}
use Rattle.text_grammar.specs.Grammars.{Event, Read, Did, Derives}
use Rattle.text_grammar.specs.Texts.{Text, ParserState, did, marked, stepped, shown_by, reader, IsLawful, IsSilent}
use Rattle.text_grammar.specs.Silence.{ParsedWhereSilent}
use Rattle.text_grammar.proofs.Parsing.{Fits, Accepted, derived_accepted}
use Rattle.text_grammar.proofs.ReaderLaws.{readable, reader_laws, derived_read, text_fits}

-- a list without elements is empty
none_among : {X : Type 0} (xs : List X) → ((x : X) → ¬ Among x xs) → xs ≡ []
none_among [] h = refl
none_among (x ∷ xs) h = absurd (h x (inl refl))

module _ {P T K : Type 0} (x : Text P T K) where
  -- marks before events have no tokens, so they change nothing
  silent-marked : (ms : List ℕ) (before es : List (Event P)) (ts : List (Token P)) → IsSilent x before (marked ms es) ts ≡ IsSilent x (did before ms) es ts
  silent-marked [] before es ts = refl
  silent-marked (m ∷ ms) before es ts = silent-marked ms (Did m ∷ before) es ts

  -- without tokens there is no fault
  silent_nothing : (before es : List (Event P)) → IsSilent x before es []
  silent_nothing before [] = tt
  silent_nothing before (Did m ∷ es) = silent_nothing (Did m ∷ before) es
  silent_nothing before (Read p ∷ es) = tt

  module _ (lawful : IsLawful x) where
    -- if the expected symbols accept a piece, the state has a next one
    pub stepped_to : (f : ParserState P) (es : List (Event P)) (p : P) (ps : List P) → (h : Accepted x.grammar f.expected es p ps) → (reader x).step f p ≡ Some (record { events = Read p ∷ did f.events h.marks; expected = h.rest })
    stepped_to f es p ps h = ap (stepped f.events p) h.leads

    -- a derived text whose tokens have no fault has no fault to come
    quiet : (ts : List (Token P)) (n : ℕ) (done : List (Token P)) (f : ParserState P) (es : List (Event P)) → reached (reader x) (pieces done) ≡ Some f → Derives x.grammar f.expected es (pieces ts)
        → Fits x.grammar f.expected → IsSilent x f.events es ts → (y : Fault K) → ¬ Ahead (reader x) n done (Some f) ts y
    quiet [] n done f es e d fits s y (inl a) = a
    quiet [] n done f es e d fits s y (inr b) = let r = derived_read x lawful [] f es d fits in go r.0 r.1 r.2
      where
        go : (g : ParserState P) → Some f ≡ Some g → (reader x).finish g ≡ Some (x.value (onto f.events es)) → ⊥
        go g same fin = ends_here (reader x) (reader_laws x lawful) (pieces done) f _ e (let k : f ≡ g = cc in ap (reader x).finish k ∙ fin) b.0
    quiet (t ∷ ts) n done f es e d fits s y a =
        let h = derived_accepted x.grammar (readable x lawful) lawful.classed d fits t.piece (pieces ts) refl in
        let silent : IsSilent x (did f.events h.marks) (Read t.piece ∷ h.events) (t ∷ ts) =
        subst (λ (C : Type 0). C) (silent-marked h.marks f.events (Read t.piece ∷ h.events) (t ∷ ts)) (subst (λ (fs : List (Event P)). IsSilent x f.events fs (t ∷ ts)) h.parts s) in
        go h silent.0
        (λ b. quiet ts n (t ∷ done) (record { events = Read t.piece ∷ did f.events h.marks; expected = h.rest }) h.events
        (ap (λ (o : Option (ParserState P)). next (reader x).step o t.piece) e ∙ stepped_to f es t.piece (pieces ts) h) h.derived h.fits silent.1 y b) a
      where
        go : (h : Accepted x.grammar f.expected es t.piece (pieces ts)) → x.faults (did f.events h.marks) t ≡ []
            → (Ahead (reader x) n (t ∷ done) (Some (record { events = Read t.piece ∷ did f.events h.marks; expected = h.rest })) ts y → ⊥) → Ahead (reader x) n done (Some f) (t ∷ ts) y → ⊥
        go h silent ih (inl (inl a)) = subst (Among y) (ap (shown_by x f.events t) h.leads ∙ silent) a
        go h silent ih (inl (inr b)) = goes_here (reader x) (reader_laws x lawful) (pieces done) f _ t.piece (pieces ts) e (stepped_to f es t.piece (pieces ts) h) b.0
        go h silent ih (inr a) = ih (subst (λ (o : Option (ParserState P)). Ahead (reader x) n (t ∷ done) o ts y) (stepped_to f es t.piece (pieces ts) h) a)

    -- the tokens of a derived text with no fault to come have no fault
    silenced : (ts : List (Token P)) (n : ℕ) (done : List (Token P)) (f : ParserState P) (es : List (Event P)) → Derives x.grammar f.expected es (pieces ts) → Fits x.grammar f.expected
        → ((y : Fault K) → ¬ Ahead (reader x) n done (Some f) ts y) → IsSilent x f.events es ts
    silenced [] n done f es d fits none = silent_nothing f.events es
    silenced (t ∷ ts) n done f es d fits none =
        let h = derived_accepted x.grammar (readable x lawful) lawful.classed d fits t.piece (pieces ts) refl in
        subst (λ (fs : List (Event P)). IsSilent x f.events fs (t ∷ ts)) (sym h.parts)
        (subst (λ (C : Type 0). C) (sym (silent-marked h.marks f.events (Read t.piece ∷ h.events) (t ∷ ts))) (
          none_among (x.faults (did f.events h.marks) t) (λ y a. none y (inl (inl (subst (Among y) (sym (ap (shown_by x f.events t) h.leads)) a)))),
          silenced ts n (t ∷ done) (record { events = Read t.piece ∷ did f.events h.marks; expected = h.rest }) h.events h.derived h.fits
              (λ y a. none y (inr (subst (λ (o : Option (ParserState P)). Ahead (reader x) n (t ∷ done) o ts y) (sym (stepped_to f es t.piece (pieces ts) h)) a))),
        ))

    -- a tree is answered exactly if it is derived and no token has a fault
    pub parsed_where_silent : ParsedWhereSilent x
    parsed_where_silent = record {
      stands = λ n ts t e. told n ts t (subst (Answers (reader x) n ts) e (answer_is (reader x) (reader_laws x lawful) n ts));
      silent = λ n ts es d s. heard n ts es d s (answer (reader x) n ts) (answer_is (reader x) (reader_laws x lawful) n ts);
    }
      where
        told : (n : ℕ) (ts : List (Token P)) (t : T) → Answers (reader x) n ts (Parsed t) → (es : List (Event P)) × Derives x.grammar (Made 0 ∷ []) es (pieces ts) × (x.value es ≡ t) × IsSilent x [] es ts
        told n ts t h = let w = h.written in (
          w.0,
          w.1,
          w.2,
          silenced ts n [] (record { events = []; expected = Made 0 ∷ [] }) w.0 w.1 (text_fits x lawful) (λ y a. h.faultless y (ahead_fault (reader x) ts n [] (Some (reader x).beginning) y refl a)),
        )

        heard : (n : ℕ) (ts : List (Token P)) (es : List (Event P)) → Derives x.grammar (Made 0 ∷ []) es (pieces ts) → IsSilent x [] es ts → (a : Answer T K) → Answers (reader x) n ts a → a ≡ Parsed (x.value es)
        heard n ts es d s (Parsed u) h = ap Parsed (one_tree (reader x) (reader_laws x lawful) u (x.value es) (pieces ts) h.written (es, d, refl))
        heard n ts es d s (Refused y) h = absurd (quiet ts n [] (record { events = []; expected = Made 0 ∷ [] }) es refl d (text_fits x lawful) s y (fault_ahead (reader x) n ts y h.is))
