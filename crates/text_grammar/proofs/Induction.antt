-- Induction over a grammar: if a property of derivations passes from the alternatives of each nonterminal to the
-- nonterminal, it holds of each derivation.
use Rattle.std.proofs.Common.{◌≡◌, ℕ, List, [], ◌∷◌, ◌++◌, refl, ap, sym, ◌∙◌, append_assoc}
use Rattle.text_core.specs.Faults.{Among}
use Rattle.text_grammar.specs.declared.symbol.Symbol.{Symbol}
use Rattle.text_grammar.specs.declared.symbol.Symbol.TheVariants.{Piece, Made, Mark}
use Rattle.text_grammar.specs.Grammars.{Grammar, Event, Read, Did, Derives, nothing, piece, mark, made, alternatives}

module _ {P : Type 0} (g : Grammar P) (Stands : ℕ → List (Event P) → List P → Type 0) where
  -- events and pieces split into those of the symbols, and the property holds of each nonterminal's part
  abbrev pub StandsAlong : List Symbol → List (Event P) → List P → Type 0
  StandsAlong [] es ps = (es ≡ []) × (ps ≡ [])
  StandsAlong (Piece c ∷ rest) es ps = (p : P) × (fs : List (Event P)) × (qs : List P) × (g.class_of p ≡ c) × (es ≡ Read p ∷ fs) × (ps ≡ p ∷ qs) × StandsAlong rest fs qs
  StandsAlong (Mark m ∷ rest) es ps = (fs : List (Event P)) × (es ≡ Did m ∷ fs) × StandsAlong rest fs ps
  StandsAlong (Made n ∷ rest) es ps = (ds : List (Event P)) × (fs : List (Event P)) × (os : List P) × (qs : List P) × Stands n ds os × (es ≡ ds ++ fs) × (ps ≡ os ++ qs) × StandsAlong rest fs qs

  -- events and pieces split into those of two lists of symbols, and the property holds along each
  pub record Parts (xs ys : List Symbol) (es : List (Event P)) (ps : List P) : Type 0 where
    pub ds : List (Event P)
    pub fs : List (Event P)
    pub os : List P
    pub qs : List P
    pub first : StandsAlong xs ds os
    pub second : StandsAlong ys fs qs
    pub events : es ≡ ds ++ fs
    pub pieces : ps ≡ os ++ qs

  -- a split along appended symbols splits into those along each part
  pub parted : (xs ys : List Symbol) (es : List (Event P)) (ps : List P) → StandsAlong (xs ++ ys) es ps → Parts xs ys es ps
  parted [] ys es ps h = record { ds = []; fs = es; os = []; qs = ps; first = (refl, refl); second = h; events = refl; pieces = refl }
  parted (Piece c ∷ xs) ys es ps (p, gs, rs, k, e, f, h) = let w = parted xs ys gs rs h in record {
    ds = Read p ∷ w.ds;
    fs = w.fs;
    os = p ∷ w.os;
    qs = w.qs;
    first = (p, w.ds, w.os, k, refl, refl, w.first);
    second = w.second;
    events = e ∙ ap (λ (ts : List (Event P)). Read p ∷ ts) w.events;
    pieces = f ∙ ap (λ (ts : List P). p ∷ ts) w.pieces;
  }
  parted (Mark m ∷ xs) ys es ps (gs, e, h) = let w = parted xs ys gs ps h in record {
    ds = Did m ∷ w.ds;
    fs = w.fs;
    os = w.os;
    qs = w.qs;
    first = (w.ds, refl, w.first);
    second = w.second;
    events = e ∙ ap (λ (ts : List (Event P)). Did m ∷ ts) w.events;
    pieces = w.pieces;
  }
  parted (Made n ∷ xs) ys es ps (cs, gs, ns, rs, s, e, f, h) = let w = parted xs ys gs rs h in record {
    ds = cs ++ w.ds;
    fs = w.fs;
    os = ns ++ w.os;
    qs = w.qs;
    first = (cs, w.ds, ns, w.os, s, refl, refl, w.first);
    second = w.second;
    events = e ∙ ap (λ (ts : List (Event P)). cs ++ ts) w.events ∙ sym (append_assoc cs w.ds w.fs);
    pieces = f ∙ ap (λ (ts : List P). ns ++ ts) w.pieces ∙ sym (append_assoc ns w.os w.qs);
  }

  -- if the property passes from each alternative to its nonterminal, it holds of each derivation
  pub derived_stands : ((n : ℕ) (body : List Symbol) → Among body (alternatives g.rules n) → (es : List (Event P)) (ps : List P) → StandsAlong body es ps → Stands n es ps)
      → {ss : List Symbol} {es : List (Event P)} {ps : List P} → Derives g ss es ps → StandsAlong ss es ps
  derived_stands h nothing = (refl, refl)
  derived_stands h (piece p {rest} {es} {ps} d) = (p, es, ps, refl, refl, refl, derived_stands h d)
  derived_stands h (mark m {rest} {es} {ps} d) = (es, refl, derived_stands h d)
  derived_stands h (made n body {rest} {es} {ps} a d) =
      let w = parted body rest es ps (derived_stands h d) in (w.ds, w.fs, w.os, w.qs, h n body a w.ds w.os w.first, w.events, w.pieces, w.second)
