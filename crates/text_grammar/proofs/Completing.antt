-- Symbols that can be completed derive some pieces.
use Rattle.std.proofs.Common.{◌≡◌, ℕ, zero, suc, ◌<◌, Bool, true, false, cond, ◌&&◌, List, [], ◌∷◌, ◌++◌, refl, sym}
use Rattle.std.proofs.Common.{subst, ◌∙◌}
use Rattle.std.specs.Prelude.{nat_lt, ◌==◌}
use Rattle.std.specs.List.{list_any}
use Rattle.std.proofs.lemmas.List.{append-nil}
use Rattle.std.proofs.Math.ListN.{get_or-map}
use borrow.Author.Tests.{ltb-true}
use Rattle.text_core.specs.Faults.{Among}
use Rattle.text_grammar.specs.declared.symbol.Symbol.{Symbol}
use Rattle.text_grammar.specs.declared.symbol.Symbol.TheVariants.{Piece, Made, Mark}
use Rattle.text_grammar.specs.Grammars.{Grammar, Event, Read, Did, Derives, nothing, piece, mark, made, alternatives}
use Rattle.text_grammar.specs.Leads.{Lead, Matches, Passes, Stuck, behind, before, entry, lead}
use Rattle.text_grammar.specs.Sounding.{is_flagged, is_completed, completed_after, completed, is_completed_lead}
use Rattle.text_grammar.proofs.Tests.{both, any_among}
use Rattle.text_grammar.proofs.Events.{derived_both}

module _ {P : Type 0} (g : Grammar P) where
  -- symbols derive some pieces
  pub record Completes (ss : List Symbol) : Type 0 where
    pub events : List (Event P)
    pub pieces : List P
    pub derived : Derives g ss events pieces

  -- if two lists of symbols derive some pieces, so does their append
  completes_both : (xs ys : List Symbol) → Completes xs → Completes ys → Completes (xs ++ ys)
  completes_both xs ys a b = record { events = a.events ++ b.events; pieces = a.pieces ++ b.pieces; derived = derived_both g a.derived b.derived }

  -- a nonterminal derives some pieces if one of its alternatives does
  completes_made : (n : ℕ) (body : List Symbol) → Among body (alternatives g.rules n) → Completes body → Completes (Made n ∷ [])
  completes_made n body a c = record {
    events = c.events;
    pieces = c.pieces;
    derived = made n body a (subst (λ (ss : List Symbol). Derives g ss c.events c.pieces) (sym (append-nil body)) c.derived);
  }

  module _ (sampled : (c : ℕ) → c < g.classes → g.class_of (g.sample c) ≡ c) where
    -- symbols derive some pieces if their flagged nonterminals do
    completes_by : (flags : List Bool) → ((n : ℕ) → is_flagged flags n ≡ true → Completes (Made n ∷ [])) → (ss : List Symbol) → is_completed g.classes flags ss ≡ true → Completes ss
    completes_by flags h [] e = record { events = []; pieces = []; derived = nothing }
    completes_by flags h (Piece c ∷ ss) e = let b = both (nat_lt c g.classes) _ e in let r = completes_by flags h ss b.1 in record {
      events = Read (g.sample c) ∷ r.events;
      pieces = g.sample c ∷ r.pieces;
      derived = subst (λ (k : ℕ). Derives g (Piece k ∷ ss) (Read (g.sample c) ∷ r.events) (g.sample c ∷ r.pieces)) (sampled c (ltb-true c g.classes b.0)) (piece (g.sample c) r.derived);
    }
    completes_by flags h (Mark m ∷ ss) e = let r = completes_by flags h ss e in record {
      events = Did m ∷ r.events;
      pieces = r.pieces;
      derived = mark m r.derived;
    }
    completes_by flags h (Made n ∷ ss) e =
        let b = both (is_flagged flags n) _ e in completes_both (Made n ∷ []) ss (h n b.0) (completes_by flags h ss b.1)

    -- a nonterminal that is flagged as completed derives some pieces
    made_completes : (k n : ℕ) → is_flagged (completed_after g.classes g.rules k) n ≡ true → Completes (Made n ∷ [])
    made_completes zero n e = cc
    made_completes (suc k) n e =
        let found : list_any (is_completed g.classes (completed_after g.classes g.rules k)) (alternatives g.rules n) ≡ true =
        sym (get_or-map (list_any (is_completed g.classes (completed_after g.classes g.rules k))) g.rules n []) ∙ e in
        let w = any_among (is_completed g.classes (completed_after g.classes g.rules k)) (alternatives g.rules n) found in
        completes_made n w.0 w.1 (completes_by (completed_after g.classes g.rules k) (made_completes k) w.0 w.2)

    -- symbols that can be completed derive some pieces
    pub completes : (ss : List Symbol) → is_completed g.classes (completed g) ss ≡ true → Completes ss
    completes ss e = completes_by (completed g) (made_completes g.rounds) ss e

  -- appended symbols can be completed if both parts can
  completed_append : (flags : List Bool) (xs ys : List Symbol) → is_completed g.classes flags xs ≡ true → is_completed g.classes flags ys ≡ true → is_completed g.classes flags (xs ++ ys) ≡ true
  completed_append flags [] ys h e = e
  completed_append flags (Piece c ∷ xs) ys h e = let b = both (nat_lt c g.classes) _ h in join (nat_lt c g.classes) _ b.0 (completed_append flags xs ys b.1 e)
    where
      join : (a b : Bool) → a ≡ true → b ≡ true → a && b ≡ true
      join true b h e = e
      join false b h e = cc
  completed_append flags (Mark m ∷ xs) ys h e = completed_append flags xs ys h e
  completed_append flags (Made n ∷ xs) ys h e = let b = both (is_flagged flags n) _ h in join (is_flagged flags n) _ b.0 (completed_append flags xs ys b.1 e)
    where
      join : (a b : Bool) → a ≡ true → b ≡ true → a && b ≡ true
      join true b h e = e
      join false b h e = cc

  -- if each entry of a row can be completed, so can the lead of symbols that can be completed
  pub accepted_completed : (c : ℕ) (row : List Lead) → ((n : ℕ) → is_completed_lead g (entry row n) ≡ true) → (ss : List Symbol) → is_completed g.classes (completed g) ss ≡ true → is_completed_lead g (lead c row ss) ≡ true
  accepted_completed c row h [] e = refl
  accepted_completed c row h (Piece d ∷ ss) e = go (d == c) (both (nat_lt d g.classes) _ e).1
    where
      go : (v : Bool) → is_completed g.classes (completed g) ss ≡ true → is_completed_lead g (cond v (Matches [] ss) Stuck) ≡ true
      go true e = e
      go false e = refl
  accepted_completed c row h (Mark m ∷ ss) e = go (lead c row ss) (accepted_completed c row h ss e)
    where
      go : (l : Lead) → is_completed_lead g l ≡ true → is_completed_lead g (behind (m ∷ []) l) ≡ true
      go (Matches ms rest) k = k
      go (Passes ms) k = refl
      go Stuck k = refl
  accepted_completed c row h (Made n ∷ ss) e =
      let b = both (is_flagged (completed g) n) _ e in go (entry row n) (lead c row ss) (h n) (accepted_completed c row h ss b.1) b.1
    where
      go : (l k : Lead) → is_completed_lead g l ≡ true → is_completed_lead g k ≡ true → is_completed g.classes (completed g) ss ≡ true → is_completed_lead g (before l ss k) ≡ true
      go (Matches ms body) k p q r = completed_append (completed g) body ss p r
      go (Passes ms) (Matches ns rest) p q r = q
      go (Passes ms) (Passes ns) p q r = refl
      go (Passes ms) Stuck p q r = refl
      go Stuck k p q r = refl
