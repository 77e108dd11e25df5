-- The derivations of a grammar follow its table.
use Rattle.std.proofs.Common.{◌≡◌, ℕ, ◌<◌, ◌≤◌, Bool, true, cond, not, ◌&&◌, ◌||◌, List, [], ◌∷◌, ◌++◌, refl, ap, sym}
use Rattle.std.proofs.Common.{subst, ◌∙◌, arith}
use Rattle.std.specs.Prelude.{⊤, ◌==◌}
use Rattle.std.proofs.lemmas.Bool.{eq-eqb}
use Rattle.text_core.specs.Faults.{Among}
use Rattle.text_grammar.specs.declared.symbol.Symbol.{Symbol}
use Rattle.text_grammar.specs.declared.symbol.Symbol.TheVariants.{Piece, Made, Mark}
use Rattle.text_grammar.specs.Grammars.{Grammar, Event, Read, Did, Derives, nothing, piece, mark, made, alternatives}
use Rattle.text_grammar.specs.Leads.{Lead, Matches, Passes, Stuck, behind, before, entry, lead, row_of}
use Rattle.text_grammar.specs.Sounding.{matches, passes, is_flagged, follows, has_follows, is_entry}
use Rattle.text_grammar.specs.Texts.{marked}
use Rattle.text_grammar.proofs.Tests.{both, implied, same_lead}
use Rattle.text_grammar.proofs.ClassLeadLaws.{lead-append}
use Rattle.text_grammar.proofs.Readable.{Agrees, Readable}

module _ {P : Type 0} (g : Grammar P) where
  -- a lead accepts a class, or the end of the text
  abbrev pub takes : ℕ → Lead → Bool
  takes c l = matches l || (passes l && (c == g.classes))

  -- a class that these expected symbols accept is flagged as one that can follow nonterminal n
  abbrev pub Behind : ℕ → List Symbol → Type 0
  Behind n rest = (c : ℕ) → c ≤ g.classes → takes c (lead c (row_of g c) rest) ≡ true → is_flagged (follows g c) n ≡ true

  -- the classes that follow each expected nonterminal are flagged
  abbrev pub Fits : List Symbol → Type 0
  Fits [] = ⊤
  Fits (Piece c ∷ rest) = Fits rest
  Fits (Mark m ∷ rest) = Fits rest
  Fits (Made n ∷ rest) = Behind n rest × Fits rest

  -- marks before a lead don't change which classes it accepts
  takes-behind : (c : ℕ) (ms : List ℕ) (l : Lead) → takes c (behind ms l) ≡ takes c l
  takes-behind c ms (Matches ns rest) = refl
  takes-behind c ms (Passes ns) = refl
  takes-behind c ms Stuck = refl

  -- expected symbols stay flagged when an alternative replaces its nonterminal
  fits_body : (n : ℕ) (rest : List Symbol) → Behind n rest → Fits rest → (body : List Symbol) → ((c : ℕ) → c ≤ g.classes → has_follows c (row_of g c) (follows g c) (is_flagged (follows g c) n) body ≡ true) → Fits (body ++ rest)
  fits_body n rest b f [] h = f
  fits_body n rest b f (Piece c ∷ body) h = fits_body n rest b f body h
  fits_body n rest b f (Mark m ∷ body) h = fits_body n rest b f body h
  fits_body n rest b f (Made m ∷ body) h = (
    λ c l t. flagged c l (lead c (row_of g c) body)
        (both (not (matches (lead c (row_of g c) body) || (passes (lead c (row_of g c) body) && is_flagged (follows g c) n)) || is_flagged (follows g c) m) _ (h c l)).0
        (ap (takes c) (sym (lead-append c (row_of g c) body rest)) ∙ t),
    fits_body n rest b f body (λ c l. (both (not (matches (lead c (row_of g c) body) || (passes (lead c (row_of g c) body) && is_flagged (follows g c) n)) || is_flagged (follows g c) m) _ (h c l)).1),
  )
    where
      flagged : (c : ℕ) → c ≤ g.classes → (k : Lead) → not (matches k || (passes k && is_flagged (follows g c) n)) || is_flagged (follows g c) m ≡ true
          → takes c (before k rest (lead c (row_of g c) rest)) ≡ true → is_flagged (follows g c) m ≡ true
      flagged c l (Matches ms more) h t = h
      flagged c l (Passes ms) h t = implied (is_flagged (follows g c) n) (is_flagged (follows g c) m) h (b c l (sym (takes-behind c ms (lead c (row_of g c) rest)) ∙ t))
      flagged c l Stuck h t = cc

  -- if an alternative accepts a class, its nonterminal's lead is that of the alternative
  chosen : (c n : ℕ) (body rest : List Symbol) → c ≤ g.classes → Agrees g c → Among body (alternatives g.rules n) → Behind n rest → takes c (lead c (row_of g c) (body ++ rest)) ≡ true
      → lead c (row_of g c) (Made n ∷ rest) ≡ lead c (row_of g c) (body ++ rest)
  chosen c n body rest l agree a b t =
      go (lead c (row_of g c) body) (agree.entered n body a) (ap (takes c) (sym (lead-append c (row_of g c) body rest)) ∙ t) ∙ sym (lead-append c (row_of g c) body rest)
    where
      go : (k : Lead) → is_entry k (entry (row_of g c) n) (is_flagged (follows g c) n) ≡ true → takes c (before k rest (lead c (row_of g c) rest)) ≡ true
          → before (entry (row_of g c) n) rest (lead c (row_of g c) rest) ≡ before k rest (lead c (row_of g c) rest)
      go (Matches ms more) h t = ap (λ (k : Lead). before k rest (lead c (row_of g c) rest)) (sym (same_lead (Matches ms more) (entry (row_of g c) n) h))
      go (Passes ms) h t = ap (λ (k : Lead). before k rest (lead c (row_of g c) rest))
          (sym (same_lead (Passes ms) (entry (row_of g c) n) (implied (is_flagged (follows g c) n) _ h (b c l (sym (takes-behind c ms (lead c (row_of g c) rest)) ∙ t)))))
      go Stuck h t = cc

  -- symbols accept a piece: marks are done, the piece is read, and the rest derives the pieces after it
  pub record Accepted (ss : List Symbol) (es : List (Event P)) (p : P) (ps : List P) : Type 0 where
    pub marks : List ℕ
    pub rest : List Symbol
    pub events : List (Event P)
    pub leads : lead (g.class_of p) (row_of g (g.class_of p)) ss ≡ Matches marks rest
    pub parts : es ≡ marked marks (Read p ∷ events)
    pub derived : Derives g rest events ps
    pub fits : Fits rest

  -- symbols accept the end of the text: their marks are done
  pub record AcceptedToEnd (ss : List Symbol) (es : List (Event P)) : Type 0 where
    pub marks : List ℕ
    pub leads : lead g.classes (row_of g g.classes) ss ≡ Passes marks
    pub parts : es ≡ marked marks []

  module _ (readable : Readable g) (classed : (p : P) → g.class_of p < g.classes) where
    classed_within : (p : P) → g.class_of p ≤ g.classes
    classed_within p = let h = classed p in omega (arith, h)

    -- an alternative in place of its nonterminal stays flagged
    placed : (n : ℕ) (body rest : List Symbol) → Among body (alternatives g.rules n) → Behind n rest × Fits rest → Fits (body ++ rest)
    placed n body rest a f = fits_body n rest f.0 f.1 body (λ c l. (readable.agree c l).followed n body a)

    -- symbols that derive pieces accept the first of them
    pub derived_accepted : {ss : List Symbol} {es : List (Event P)} {ps : List P} → Derives g ss es ps → Fits ss → (p : P) (qs : List P) → ps ≡ p ∷ qs → Accepted ss es p qs
    derived_accepted nothing f p qs e = cc
    derived_accepted (piece q {rest} {es} {ps} d) f p qs e =
        let same : q ≡ p = cc in let others : ps ≡ qs = cc in record {
          marks = [];
          rest = rest;
          events = es;
          leads = ap (λ (v : Bool). cond v (Matches [] rest) Stuck) (eq-eqb (g.class_of q) (g.class_of p) (ap g.class_of same));
          parts = ap (λ (r : P). Read r ∷ es) same;
          derived = subst (Derives g rest es) others d;
          fits = f;
        }
    derived_accepted (mark m {rest} d) f p qs e = let h = derived_accepted d f p qs e in record {
      marks = m ∷ h.marks;
      rest = h.rest;
      events = h.events;
      leads = ap (behind (m ∷ [])) h.leads;
      parts = ap (λ (fs : List (Event P)). Did m ∷ fs) h.parts;
      derived = h.derived;
      fits = h.fits;
    }
    derived_accepted (made n body {rest} a d) f p qs e = let h = derived_accepted d (placed n body rest a f) p qs e in record {
      marks = h.marks;
      rest = h.rest;
      events = h.events;
      leads = chosen (g.class_of p) n body rest (classed_within p) (readable.agree (g.class_of p) (classed_within p)) a f.0 (ap (takes (g.class_of p)) h.leads) ∙ h.leads;
      parts = h.parts;
      derived = h.derived;
      fits = h.fits;
    }

    -- symbols that derive no piece accept the end
    pub derived_ends : {ss : List Symbol} {es : List (Event P)} {ps : List P} → Derives g ss es ps → Fits ss → ps ≡ [] → AcceptedToEnd ss es
    derived_ends nothing f e = record { marks = []; leads = refl; parts = refl }
    derived_ends (piece q d) f e = cc
    derived_ends (mark m d) f e = let h = derived_ends d f e in record {
      marks = m ∷ h.marks;
      leads = ap (behind (m ∷ [])) h.leads;
      parts = ap (λ (fs : List (Event P)). Did m ∷ fs) h.parts;
    }
    derived_ends (made n body {rest} a d) f e = let h = derived_ends d (placed n body rest a f) e in record {
      marks = h.marks;
      leads = chosen g.classes n body rest at_end (readable.agree g.classes at_end) a f.0 (ap (takes g.classes) h.leads ∙ eq-eqb g.classes g.classes refl) ∙ h.leads;
      parts = h.parts;
    }
      where
        at_end : g.classes ≤ g.classes
        at_end = grind arith
