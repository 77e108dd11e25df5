-- A refusal is shown at a token exactly if it is a fault of the token after derived events.
use Rattle.std.proofs.Common.{◌≡◌, ℕ, List, [], ◌∷◌, ◌++◌, Option, Some, None, refl, ap, sym, subst, ◌∙◌, inl, inr}
use Rattle.std.specs.Prelude.{◌⊎◌}
use Rattle.std.proofs.lemmas.List.{append-nil}
use Rattle.text_core.specs.Tokens.{Token, pieces}
use Rattle.text_core.specs.Readers.{Fault, onto, next, walk, reached}
use Rattle.text_core.specs.Faults.{Among}
use Rattle.text_core.proofs.Walks.{walk-onto, onto-append}
use Rattle.text_grammar.specs.declared.symbol.Symbol.{Symbol}
use Rattle.text_grammar.specs.declared.symbol.Symbol.TheVariants.{Made}
use Rattle.text_grammar.specs.Grammars.{Event, Read, Did, Derives}
use Rattle.text_grammar.specs.Leads.{Lead, Matches, Passes, Stuck}
use Rattle.text_grammar.specs.Texts.{Text, ParserState, did, marked, stepped, lead_at, shown_by, reader, IsLawful}
use Rattle.text_grammar.specs.Silence.{read_in, IsFaultOf, ShownWhereDerived}
use Rattle.text_grammar.proofs.Completing.{completes}
use Rattle.text_grammar.proofs.Parsing.{Fits, Accepted, derived_accepted}
use Rattle.text_grammar.proofs.ReaderLaws.{readable, at_next, reached_at, text_fits}
use Rattle.text_grammar.proofs.SilenceLaws.{stepped_to}

-- reversing onto a list twice, in one step
onto-onto : {X : Type 0} (xs ys zs : List X) → onto (onto xs ys) zs ≡ onto ys (xs ++ zs)
onto-onto [] ys zs = refl
onto-onto (x ∷ xs) ys zs = onto-onto xs (x ∷ ys) zs

module _ {P : Type 0} where
  -- marks before events, reversed onto other events
  onto-marked : (ms : List ℕ) (es before : List (Event P)) → onto (marked ms es) before ≡ onto es (did before ms)
  onto-marked [] es before = refl
  onto-marked (m ∷ ms) es before = onto-marked ms es (Did m ∷ before)

  -- marks read no piece
  read_in-marked : (ms : List ℕ) (es : List (Event P)) → read_in (marked ms es) ≡ read_in es
  read_in-marked [] es = refl
  read_in-marked (m ∷ ms) es = read_in-marked ms es

  read_in-did : (es : List (Event P)) (ms : List ℕ) → read_in (did es ms) ≡ read_in es
  read_in-did es [] = refl
  read_in-did es (m ∷ ms) = read_in-did (Did m ∷ es) ms

  -- the pieces that events read, the last one first
  read_in-onto : (es fs : List (Event P)) → read_in (onto es fs) ≡ onto (read_in es) (read_in fs)
  read_in-onto [] fs = refl
  read_in-onto (Read p ∷ es) fs = read_in-onto es (Read p ∷ fs)
  read_in-onto (Did m ∷ es) fs = read_in-onto es (Did m ∷ fs)

  -- the events before a piece are marks only, if it is the first piece; or they continue after the first piece
  split : (ms : List ℕ) (es : List (Event P)) (p q : P) (later events : List (Event P)) → es ++ Read p ∷ later ≡ marked ms (Read q ∷ events)
      → (es ≡ marked ms []) ⊎ ((fs : List (Event P)) × (es ≡ marked ms (Read q ∷ fs)) × (fs ++ Read p ∷ later ≡ events))
  split [] [] p q later events e = inl refl
  split [] (Read r ∷ es) p q later events e =
      let same : r ≡ q = cc in let others : es ++ Read p ∷ later ≡ events = cc in inr (es, ap (λ (s : P). Read s ∷ es) same, others)
  split [] (Did m ∷ es) p q later events e = cc
  split (m ∷ ms) [] p q later events e = cc
  split (m ∷ ms) (Read r ∷ es) p q later events e = cc
  split (m ∷ ms) (Did k ∷ es) p q later events e =
      let same : k ≡ m = cc in let others : es ++ Read p ∷ later ≡ marked ms (Read q ∷ events) = cc in go same (split ms es p q later events others)
    where
      go : k ≡ m → (es ≡ marked ms []) ⊎ ((fs : List (Event P)) × (es ≡ marked ms (Read q ∷ fs)) × (fs ++ Read p ∷ later ≡ events))
          → (Did k ∷ es ≡ Did m ∷ marked ms []) ⊎ ((fs : List (Event P)) × (Did k ∷ es ≡ Did m ∷ marked ms (Read q ∷ fs)) × (fs ++ Read p ∷ later ≡ events))
      go same (inl e) = inl cc
      go same (inr w) = inr (w.0, (let e = w.1 in cc), w.2)

module _ {P T K : Type 0} (x : Text P T K) (lawful : IsLawful x) where
  -- the events of a state read the pieces that lead to it
  state_reads : (done : List P) (f : ParserState P) → reached (reader x) done ≡ Some f → read_in f.events ≡ done
  state_reads [] f e = subst (λ (f : ParserState P). read_in f.events ≡ []) (let same : record { events = []; expected = Made 0 ∷ [] } ≡ f = cc in same) refl
  state_reads (p ∷ done) f e = go (reached (reader x) done) refl e (λ g k. state_reads done g k)
    where
      by : (g : ParserState P) (l : Lead) → stepped g.events p l ≡ Some f → read_in g.events ≡ done → read_in f.events ≡ p ∷ done
      by g (Matches ms rest) s ih = subst (λ (f : ParserState P). read_in f.events ≡ p ∷ done)
          (let same : record { events = Read p ∷ did g.events ms; expected = rest } ≡ f = cc in same) (ap (λ (ps : List P). p ∷ ps) (read_in-did g.events ms ∙ ih))
      by g (Passes ms) s ih = cc
      by g Stuck s ih = cc

      go : (o : Option (ParserState P)) → reached (reader x) done ≡ o → next (reader x).step o p ≡ Some f → ((g : ParserState P) → reached (reader x) done ≡ Some g → read_in g.events ≡ done) → read_in f.events ≡ p ∷ done
      go None k s ih = cc
      go (Some g) k s ih = by g (lead_at x g p) s (ih g k)

  -- a shown refusal is a fault of the token
  shown_is_fault : (done : List (Token P)) (f : ParserState P) (t : Token P) (y : Fault K) → reached (reader x) (pieces done) ≡ Some f → Among y (shown_by x f.events t (lead_at x f t.piece))
      → IsFaultOf x (onto (pieces done) []) t y
  shown_is_fault done f t y e a = go (lead_at x f t.piece) refl a
    where
      go : (l : Lead) → lead_at x f t.piece ≡ l → Among y (shown_by x f.events t l) → IsFaultOf x (onto (pieces done) []) t y
      go (Matches ms rest) k a =
          let h = at_next x lawful (pieces done) f (record { events = Read t.piece ∷ did f.events ms; expected = rest }) t.piece (reached_at x lawful (pieces done) f e) (ap (stepped f.events t.piece) k) in
          let c = completes x.grammar (readable x lawful).sampled rest h.completed in
          record {
            events = onto (did f.events ms) [];
            later = c.events;
            more = c.pieces;
            reads = read_in-onto (did f.events ms) [] ∙ ap (λ (ps : List P). onto ps []) (read_in-did f.events ms ∙ state_reads (pieces done) f e);
            derives = subst (λ (fs : List (Event P)). Derives x.grammar (Made 0 ∷ []) fs (onto (pieces done) [] ++ t.piece ∷ c.pieces)) (onto-append (did f.events ms) [] (Read t.piece ∷ c.events))
                (subst (λ (ps : List P). Derives x.grammar (Made 0 ∷ []) (onto (did f.events ms) (Read t.piece ∷ c.events)) ps) (onto-append (pieces done) [] (t.piece ∷ c.pieces)) (h.derives c.events c.pieces c.derived));
            stands = subst (λ (fs : List (Event P)). Among y (x.faults fs t)) (sym (onto-onto (did f.events ms) [] [] ∙ append-nil (did f.events ms))) a;
          }
      go (Passes ms) k a = absurd a
      go Stuck k a = absurd a

  -- pieces lead from a state to one in which a piece is accepted after events
  record Met (f : ParserState P) (es : List (Event P)) (qs : List P) (p : P) : Type 0 where
    front : ParserState P
    marks : List ℕ
    rest : List Symbol
    walked : walk (reader x).step (Some f) qs ≡ Some front
    leads : lead_at x front p ≡ Matches marks rest
    same : did front.events marks ≡ onto es f.events

  -- the pieces that derived events read before a piece lead to such a state
  met : (qs : List P) (f : ParserState P) (es : List (Event P)) (p : P) (later : List (Event P)) (ps : List P) → read_in es ≡ qs → Derives x.grammar f.expected (es ++ Read p ∷ later) (qs ++ p ∷ ps) → Fits x.grammar f.expected → Met f es qs p
  met [] f es p later ps r d fits =
      let h = derived_accepted x.grammar (readable x lawful) lawful.classed d fits p ps refl in go h (split h.marks es p p later h.events h.parts)
    where
      go : (h : Accepted x.grammar f.expected (es ++ Read p ∷ later) p ps) → (es ≡ marked h.marks []) ⊎ ((fs : List (Event P)) × (es ≡ marked h.marks (Read p ∷ fs)) × (fs ++ Read p ∷ later ≡ h.events)) → Met f es [] p
      go h (inl e) = record {
        front = f;
        marks = h.marks;
        rest = h.rest;
        walked = refl;
        leads = h.leads;
        same = sym (ap (λ (gs : List (Event P)). onto gs f.events) e ∙ onto-marked h.marks [] f.events);
      }
      go h (inr w) = let k : p ∷ read_in w.0 ≡ [] = sym (read_in-marked h.marks (Read p ∷ w.0)) ∙ sym (ap read_in w.1) ∙ r in cc
  met (q ∷ qs) f es p later ps r d fits =
      let h = derived_accepted x.grammar (readable x lawful) lawful.classed d fits q (qs ++ p ∷ ps) refl in
      go h (split h.marks es p q later h.events h.parts)
      (λ fs k d. met qs (record { events = Read q ∷ did f.events h.marks; expected = h.rest }) fs p later ps k d h.fits)
    where
      go : (h : Accepted x.grammar f.expected (es ++ Read p ∷ later) q (qs ++ p ∷ ps)) → (es ≡ marked h.marks []) ⊎ ((fs : List (Event P)) × (es ≡ marked h.marks (Read q ∷ fs)) × (fs ++ Read p ∷ later ≡ h.events))
          → ((fs : List (Event P)) → read_in fs ≡ qs → Derives x.grammar h.rest (fs ++ Read p ∷ later) (qs ++ p ∷ ps) → Met (record { events = Read q ∷ did f.events h.marks; expected = h.rest }) fs qs p) → Met f es (q ∷ qs) p
      go h (inl e) ih = let k : [] ≡ q ∷ qs = sym (read_in-marked h.marks []) ∙ sym (ap read_in e) ∙ r in cc
      go h (inr w) ih =
          let k : q ∷ read_in w.0 ≡ q ∷ qs = sym (read_in-marked h.marks (Read q ∷ w.0)) ∙ sym (ap read_in w.1) ∙ r in
          let others : read_in w.0 ≡ qs = cc in
          let m = ih w.0 others (subst (λ (fs : List (Event P)). Derives x.grammar h.rest fs (qs ++ p ∷ ps)) (sym w.2) h.derived) in
          record {
            front = m.front;
            marks = m.marks;
            rest = m.rest;
            walked = ap (λ (o : Option (ParserState P)). walk (reader x).step o qs) (stepped_to x lawful f _ q _ h) ∙ m.walked;
            leads = m.leads;
            same = m.same ∙ sym (ap (λ (gs : List (Event P)). onto gs f.events) w.1 ∙ onto-marked h.marks (Read q ∷ w.0) f.events);
          }

  -- a fault of the token is shown
  fault_shown : (done : List (Token P)) (t : Token P) (y : Fault K) → IsFaultOf x (onto (pieces done) []) t y
      → (f : ParserState P) × (reached (reader x) (pieces done) ≡ Some f) × Among y (shown_by x f.events t (lead_at x f t.piece))
  fault_shown done t y s =
      let m = met (onto (pieces done) []) (record { events = []; expected = Made 0 ∷ [] }) s.events t.piece s.later s.more s.reads s.derives (text_fits x lawful) in (
        m.front,
        sym (walk-onto (reader x) (pieces done) []) ∙ m.walked,
        subst (Among y) (sym (ap (shown_by x m.front.events t) m.leads ∙ ap (λ (fs : List (Event P)). x.faults fs t) m.same)) s.stands,
      )

  -- refusals are shown exactly if they are faults of derived tokens
  pub shown_where_derived : ShownWhereDerived x
  shown_where_derived = record {
    shown = λ n done rest f t y e a. shown_is_fault done f t y e a;
    stands = λ n done rest t y s. fault_shown done t y s;
    at_end = λ n done f. refl;
  }
