-- The state after some tokens decides the answer together with the remaining tokens.
use Rattle.std.proofs.Common.{◌≡◌, ℕ, ◌<◌, List, [], ◌∷◌, Option, Some, None, refl, ap, sym, subst, ◌∙◌}
use Rattle.text_core.specs.Tokens.{Token, pieces, AreInOrder}
use Rattle.text_core.specs.Readers.{Fault, next, reached}
use Rattle.text_core.specs.Reading.{Answer, Refused, Stopped, Going, first_of, first_among, ended, further, run, answer}
use Rattle.text_grammar.specs.declared.symbol.Symbol.{Symbol}
use Rattle.text_grammar.specs.declared.symbol.Symbol.TheVariants.{Made}
use Rattle.text_grammar.specs.declared.reading.Advance as code
use Rattle.text_grammar.specs.declared.reading.Advance.TheVariants.{Accepted, Rejected}
use Rattle.text_grammar.specs.declared.token.Fault as code_fault
use Rattle.text_grammar.specs.Grammars.{Event, Read}
use Rattle.text_grammar.specs.Leads.{Lead, Matches, Passes, Stuck}
use Rattle.text_grammar.specs.Texts.{Text, ParserState, did, stepped, lead_at, shown_by, reader, IsLawful}
use Rattle.text_grammar.specs.Marks.{fault_of}
use Rattle.text_grammar.specs.Following.{Follows, first_of_two}
use Rattle.text_grammar.proofs.FloorLaws.{floor_settles}
use Rattle.text_grammar.proofs.FirstLaws.{first_among-two}

module _ {P T K : Type 0} (x : Text P T K) where
  -- the events so far, with the tokens before, lead to the expected symbols; and reading on from there, with the
  -- refusal so far, gives the answer to the whole text
  pub record Decides (n : ℕ) (all : Answer T K) (Knows : List (Event P) → Type 0) (best : Option (Fault K)) (expected : List Symbol) (left : List (Token P)) : Type 0 where
    pub events : List (Event P)
    pub done : List (Token P)
    pub from : ℕ
    pub known : Knows events
    pub led : reached (reader x) (pieces done) ≡ Some (record { events = events; expected = expected })
    pub ordered : AreInOrder from left n
    pub decides : run (reader x) n (Going best done (record { events = events; expected = expected })) left ≡ all

  -- once reading has stopped with a refusal, that is the answer
  run-stopped : (left : List (Token P)) (n : ℕ) (y : Fault K) → run (reader x) n (Stopped y) left ≡ Refused y
  run-stopped [] n y = refl
  run-stopped (t ∷ left) n y = refl

  -- at the beginning, the state decides the answer
  pub decides_first : (n : ℕ) (Knows : List (Event P) → Type 0) (left : List (Token P)) → Knows [] → AreInOrder 0 left n → Decides n (answer (reader x) n left) Knows None (Made 0 ∷ []) left
  decides_first n Knows left k o = record { events = []; done = []; from = 0; known = k; led = refl; ordered = o; decides = refl }

  -- after a token that can follow, the new state decides the answer
  pub decides_on : (n : ℕ) (all : Answer T K) (Knows Now : List (Event P) → Type 0) (best : Option (Fault K)) (expected rest : List Symbol) (t : Token P) (left old : List (Token P)) (shown : Option (code_fault.Fault K))
      → Decides n all Knows best expected old → old ≡ t ∷ left
      → ((es : List (Event P)) → Knows es → Follows x Now es t (lead_at x (record { events = es; expected = expected }) t.piece) rest (Accepted shown))
      → Decides n all Now (first_of_two x best (fault_of shown)) rest left
  decides_on n all Knows Now best expected rest t left old shown d same follows = go (subst (Decides n all Knows best expected) same d)
    where
      go : Decides n all Knows best expected (t ∷ left) → Decides n all Now (first_of_two x best (fault_of shown)) rest left
      go d = by (lead_at x (record { events = d.events; expected = expected }) t.piece) refl (follows d.events d.known)
        where
          by : (l : Lead) → lead_at x (record { events = d.events; expected = expected }) t.piece ≡ l → Follows x Now d.events t l rest (Accepted shown) → Decides n all Now (first_of_two x best (fault_of shown)) rest left
          by (Matches ms more) e h = record {
            events = Read t.piece ∷ did d.events ms;
            done = t ∷ d.done;
            from = t.upto;
            known = h.1;
            led = ap (λ (o : Option (ParserState P)). next (reader x).step o t.piece) d.led ∙ ap (stepped d.events t.piece) e ∙ ap (λ (ss : List Symbol). Some (record { events = Read t.piece ∷ did d.events ms; expected = ss })) (sym h.0);
            ordered = d.ordered.2;
            decides =
                ap (λ (o : Option (Fault K)). run (reader x) n (Going o (t ∷ d.done) (record { events = Read t.piece ∷ did d.events ms; expected = rest })) left)
                (ap (first_of_two x best) h.2 ∙ sym (first_among-two x best (x.faults (did d.events ms) t)))
                ∙ ap (λ (ss : List Symbol). run (reader x) n (Going (first_among (reader x) best (x.faults (did d.events ms) t)) (t ∷ d.done) (record { events = Read t.piece ∷ did d.events ms; expected = ss })) left) h.0
                ∙ ap (λ (l : Lead). run (reader x) n (further (reader x) (first_among (reader x) best (shown_by x d.events t l)) d.done t (stepped d.events t.piece l) (record { kind = x.stop_kind (Some t.piece); at = t.at })) left) (sym e)
                ∙ d.decides;
          }
          by (Passes ms) e h = absurd h
          by Stuck e h = absurd h

  -- at a token that can't follow, the first of the refusals is the answer
  pub decides_off : (n : ℕ) (all : Answer T K) (Knows Now : List (Event P) → Type 0) (best : Option (Fault K)) (expected rest : List Symbol) (t : Token P) (left old : List (Token P))
      → Decides n all Knows best expected old → old ≡ t ∷ left
      → ((es : List (Event P)) → Knows es → Follows x Now es t (lead_at x (record { events = es; expected = expected }) t.piece) rest Rejected)
      → all ≡ Refused (first_of (reader x) best (record { kind = x.stop_kind (Some t.piece); at = t.at }))
  decides_off n all Knows Now best expected rest t left old d same follows = go (subst (Decides n all Knows best expected) same d)
    where
      go : Decides n all Knows best expected (t ∷ left) → all ≡ Refused (first_of (reader x) best (record { kind = x.stop_kind (Some t.piece); at = t.at }))
      go d = by (lead_at x (record { events = d.events; expected = expected }) t.piece) refl (follows d.events d.known)
        where
          refused : (l : Lead) → run (reader x) n (further (reader x) (first_among (reader x) best (shown_by x d.events t l)) d.done t (stepped d.events t.piece l) (record { kind = x.stop_kind (Some t.piece); at = t.at })) left
              ≡ Refused (first_of (reader x) best (record { kind = x.stop_kind (Some t.piece); at = t.at }))
              → lead_at x (record { events = d.events; expected = expected }) t.piece ≡ l → all ≡ Refused (first_of (reader x) best (record { kind = x.stop_kind (Some t.piece); at = t.at }))
          refused l h e = sym d.decides
              ∙ ap (λ (l : Lead). run (reader x) n (further (reader x) (first_among (reader x) best (shown_by x d.events t l)) d.done t (stepped d.events t.piece l) (record { kind = x.stop_kind (Some t.piece); at = t.at })) left) e ∙ h

          by : (l : Lead) → lead_at x (record { events = d.events; expected = expected }) t.piece ≡ l → Follows x Now d.events t l rest Rejected → all ≡ Refused (first_of (reader x) best (record { kind = x.stop_kind (Some t.piece); at = t.at }))
          by (Matches ms more) e h = absurd h
          by (Passes ms) e h = refused (Passes ms) (run-stopped left n _) e
          by Stuck e h = refused Stuck (run-stopped left n _) e

  -- at the end of the text, the state decides the answer
  pub decides_end : (n : ℕ) (all : Answer T K) (Knows : List (Event P) → Type 0) (best : Option (Fault K)) (expected : List Symbol) (left : List (Token P))
      → Decides n all Knows best expected left → left ≡ []
      → (es : List (Event P)) × Knows es × (ended (reader x) best ((reader x).finish (record { events = es; expected = expected })) (record { kind = x.stop_kind None; at = n }) ≡ all)
  decides_end n all Knows best expected left d same = (d.events, d.known, subst (λ (ts : List (Token P)). run (reader x) n (Going best d.done (record { events = d.events; expected = expected })) ts ≡ all) same d.decides)

  -- a refusal before the floor is the answer
  pub decides_settled : IsLawful x → (n : ℕ) (all : Answer T K) (Knows : List (Event P) → Type 0) (best : Option (Fault K)) (y : Fault K) (expected : List Symbol) (t : Token P) (left old : List (Token P))
      → Decides n all Knows best expected old → old ≡ t ∷ left → best ≡ Some y → ((es : List (Event P)) → Knows es → y.at < x.floor es t.at) → all ≡ Refused y
  decides_settled lawful n all Knows best y expected t left old d same is before = go (subst (Decides n all Knows best expected) same d)
    where
      go : Decides n all Knows best expected (t ∷ left) → all ≡ Refused y
      go d = sym d.decides ∙ ap (λ (o : Option (Fault K)). run (reader x) n (Going o d.done (record { events = d.events; expected = expected })) (t ∷ left)) is
          ∙ floor_settles x lawful n d.from d.done (t ∷ left) (record { events = d.events; expected = expected }) y d.led d.ordered (before d.events d.known)

-- after one more token the new state decides the answer, given the text and the token's effect by equations
pub decides_next : {P T K : Type 0} (x before after : Text P T K) (n : ℕ) (all : Answer T K) (Knows Now : List (Event P) → Type 0) (best following : Option (Fault K)) (expected rest : List Symbol) (t : Token P) (left old : List (Token P))
    (came : code.Advance K) (shown : Option (code_fault.Fault K)) → Decides x n all Knows best expected old → before ≡ x → after ≡ before → old ≡ t ∷ left
    → ((es : List (Event P)) → Knows es → Follows before Now es t (lead_at before (record { events = es; expected = expected }) t.piece) rest came) → came ≡ Accepted shown → following ≡ first_of_two after best (fault_of shown)
    → (after ≡ x) × Decides x n all Now following rest left
decides_next x before after n all Knows Now best following expected rest t left old came shown d e f same follows is next = (
  f ∙ e,
  subst (λ (o : Option (Fault _)). Decides x n all Now o rest left) (sym (next ∙ ap (λ (v : Text _ _ _). first_of_two v best (fault_of shown)) (f ∙ e)))
      (decides_on x n all Knows Now best expected rest t left old shown d same
      (λ es k. subst (λ (v : Text _ _ _). Follows v Now es t (lead_at v (record { events = es; expected = expected }) t.piece) rest (Accepted shown)) e
      (subst (λ (c : code.Advance _). Follows before Now es t (lead_at before (record { events = es; expected = expected }) t.piece) rest c) is (follows es k)))),
)
