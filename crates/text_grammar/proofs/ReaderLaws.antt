-- The reader of a lawful text satisfies the laws of a reader.
use Rattle.std.proofs.Common.{◌≡◌, ℕ, ◌≤◌, Bool, true, List, [], ◌∷◌, Option, Some, None, refl, ap, sym, subst, ◌∙◌}
use Rattle.std.proofs.Common.{◌&&◌, arith}
use Rattle.std.specs.Prelude.{◌==◌}
use Rattle.std.proofs.lemmas.List.{append-nil}
use Rattle.std.proofs.lemmas.Bool.{eqb-true}
use Rattle.text_core.specs.Readers.{onto, next, walk, reached, IsBeginning}
use Rattle.text_core.specs.Laws.{Laws}
use Rattle.text_grammar.specs.declared.symbol.Symbol.{Symbol}
use Rattle.text_grammar.specs.declared.symbol.Symbol.TheVariants.{Made}
use Rattle.text_grammar.specs.Grammars.{Event, Read, Derives, nothing}
use Rattle.text_grammar.specs.Leads.{Lead, Matches, Passes, Stuck, lead, row_of}
use Rattle.text_grammar.specs.Sounding.{is_flagged, follows, is_completed, completed, is_completed_lead}
use Rattle.text_grammar.specs.Texts.{Text, ParserState, did, marked, stepped, lead_at, ended_by, Writes, reader, IsLawful}
use Rattle.text_grammar.proofs.Events.{onto-did}
use Rattle.text_grammar.proofs.ClassLeadLaws.{Says, lead_says, row_says}
use Rattle.text_grammar.proofs.Readable.{Readable, readable_if}
use Rattle.text_grammar.proofs.Parsing.{Fits, derived_accepted, derived_ends}
use Rattle.text_grammar.proofs.Completing.{completes, accepted_completed}

module _ {P T K : Type 0} (x : Text P T K) (lawful : IsLawful x) where
  pub readable : Readable x.grammar
  readable = readable_if x.grammar lawful.readable

  -- the invariant of a parser state that pieces reach: the text derives the pieces read, followed by what the expected
  -- symbols derive, and these can be completed
  pub record IsAt (done : List P) (f : ParserState P) : Type 0 where
    pub derives : (es : List (Event P)) (ps : List P) → Derives x.grammar f.expected es ps → Derives x.grammar (Made 0 ∷ []) (onto f.events es) (onto done ps)
    pub completed : is_completed x.grammar.classes (completed x.grammar) f.expected ≡ true

  -- the invariant holds after one more piece
  pub at_next : (done : List P) (f g : ParserState P) (p : P) → IsAt done f → stepped f.events p (lead_at x f p) ≡ Some g → IsAt (p ∷ done) g
  at_next done f g p h e = go (lead_at x f p) refl e
    where
      go : (l : Lead) → lead_at x f p ≡ l → stepped f.events p l ≡ Some g → IsAt (p ∷ done) g
      go (Matches ms rest) k s = subst (IsAt (p ∷ done)) (let same : record { events = Read p ∷ did f.events ms; expected = rest } ≡ g = cc in same) record {
        derives = λ es ps d.
            subst (λ (fs : List (Event P)). Derives x.grammar (Made 0 ∷ []) fs (onto done (p ∷ ps))) (sym (onto-did f.events (Read p ∷ es) ms))
            (h.derives (marked ms (Read p ∷ es)) (p ∷ ps)
            (subst (λ (ss : List Symbol). Derives x.grammar ss (marked ms (Read p ∷ es)) (p ∷ ps)) (append-nil f.expected)
            (subst (λ (l : Lead). Says x.grammar (x.grammar.class_of p) l f.expected) k (lead_says x.grammar (x.grammar.class_of p) (row_of x.grammar (x.grammar.class_of p)) (row_says x.grammar (x.grammar.class_of p) x.grammar.rounds) f.expected)
            p refl [] es ps (subst (λ (ss : List Symbol). Derives x.grammar ss es ps) (sym (append-nil rest)) d))));
        completed = subst (λ (l : Lead). is_completed_lead x.grammar l ≡ true) k
            (accepted_completed x.grammar (x.grammar.class_of p) (row_of x.grammar (x.grammar.class_of p)) ((readable.agree (x.grammar.class_of p) (let w = lawful.classed p in omega (arith, w))).completed_lead) f.expected h.completed);
      }
      go (Passes ms) k s = cc
      go Stuck k s = cc

  -- each reached state satisfies the invariant
  pub reached_at : (done : List P) (f : ParserState P) → reached (reader x) done ≡ Some f → IsAt done f
  reached_at [] f e = subst (IsAt []) (let same : record { events = []; expected = Made 0 ∷ [] } ≡ f = cc in same) record {
    derives = λ es ps d. d;
    completed = ap (λ (b : Bool). b && true) readable.completes;
  }
  reached_at (p ∷ done) f e = go (reached (reader x) done) refl e (λ g k. reached_at done g k)
    where
      go : (o : Option (ParserState P)) → reached (reader x) done ≡ o → next (reader x).step o p ≡ Some f → ((g : ParserState P) → reached (reader x) done ≡ Some g → IsAt done g) → IsAt (p ∷ done) f
      go None k s ih = cc
      go (Some g) k s ih = at_next done g f p (ih g k) s

  -- each state that pieces reach can be completed to a whole text
  goes_on : (done : List P) (f : ParserState P) → reached (reader x) done ≡ Some f → IsBeginning (reader x) done
  goes_on done f e =
      let h = reached_at done f e in
      let c = completes x.grammar readable.sampled f.expected h.completed in
      (x.value (onto f.events c.events), c.pieces, (onto f.events c.events, h.derives c.events c.pieces c.derived, refl))

  -- in a state in which a text can end, the pieces read are those of the tree
  ends : (done : List P) (f : ParserState P) (t : T) → reached (reader x) done ≡ Some f → (reader x).finish f ≡ Some t → Writes x t (onto done [])
  ends done f t e s = go (lead x.grammar.classes (row_of x.grammar x.grammar.classes) f.expected) refl s
    where
      go : (l : Lead) → lead x.grammar.classes (row_of x.grammar x.grammar.classes) f.expected ≡ l → ended_by x f.events l ≡ Some t → Writes x t (onto done [])
      go (Passes ms) k s =
          let h = reached_at done f e in
          let d : Derives x.grammar f.expected (marked ms []) [] =
          subst (λ (ss : List Symbol). Derives x.grammar ss (marked ms []) []) (append-nil f.expected)
          (subst (λ (l : Lead). Says x.grammar x.grammar.classes l f.expected) k (lead_says x.grammar x.grammar.classes (row_of x.grammar x.grammar.classes) (row_says x.grammar x.grammar.classes x.grammar.rounds) f.expected)
          [] [] [] nothing) in (
            onto (did f.events ms) [],
            subst (λ (fs : List (Event P)). Derives x.grammar (Made 0 ∷ []) fs (onto done [])) (sym (onto-did f.events [] ms)) (h.derives (marked ms []) [] d),
            (let same : x.value (onto (did f.events ms) []) ≡ t = cc in same),
          )
      go (Matches ms rest) k s = cc
      go Stuck k s = cc

  -- derived pieces are accepted from a state that expects their symbols
  pub derived_read : (ps : List P) (f : ParserState P) (es : List (Event P)) → Derives x.grammar f.expected es ps → Fits x.grammar f.expected
      → (g : ParserState P) × (walk (reader x).step (Some f) ps ≡ Some g) × ((reader x).finish g ≡ Some (x.value (onto f.events es)))
  derived_read [] f es d fits =
      let h = derived_ends x.grammar readable lawful.classed d fits refl in
      (f, refl, ap (ended_by x f.events) h.leads ∙ ap (λ (fs : List (Event P)). Some (x.value fs)) (onto-did f.events [] h.marks ∙ ap (onto f.events) (sym h.parts)))
  derived_read (p ∷ ps) f es d fits =
      let h = derived_accepted x.grammar readable lawful.classed d fits p ps refl in
      let r = derived_read ps (record { events = Read p ∷ did f.events h.marks; expected = h.rest }) h.events h.derived h.fits in (
        r.0,
        ap (λ (l : Lead). walk (reader x).step (stepped f.events p l) ps) h.leads ∙ r.1,
        r.2 ∙ ap (λ (fs : List (Event P)). Some (x.value fs)) (onto-did f.events (Read p ∷ h.events) h.marks ∙ ap (onto f.events) (sym h.parts)),
      )

  -- at the beginning the classes that can follow are flagged
  pub text_fits : Fits x.grammar (Made 0 ∷ [])
  text_fits = (behind, tt)
    where
      behind : (c : ℕ) → c ≤ x.grammar.classes → ((c == x.grammar.classes) ≡ true) → is_flagged (follows x.grammar c) 0 ≡ true
      behind c l h = subst (λ (k : ℕ). is_flagged (follows x.grammar k) 0 ≡ true) (sym (eqb-true c x.grammar.classes h)) readable.ends

  -- the pieces of a tree lead to a state that ends with this tree
  reads : (t : T) (ps : List P) → Writes x t ps → (f : ParserState P) × (walk (reader x).step (Some (reader x).beginning) ps ≡ Some f) × ((reader x).finish f ≡ Some t)
  reads t ps (es, d, e) = let r = derived_read ps (record { events = []; expected = Made 0 ∷ [] }) es d text_fits in (r.0, r.1, r.2 ∙ ap Some e)

  -- the reader of a lawful text satisfies the laws
  pub reader_laws : Laws (reader x)
  reader_laws = record { goes_on = goes_on; ends = ends; reads = reads; differ = lawful.differ }
