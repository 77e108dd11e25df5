-- Derivations and values of nonterminals: for each grammar whose alternatives give values, derived events without a
-- fault are those of a value's parts, and the other way round.
use Rattle.std.proofs.Common.{◌≡◌, ℕ, List, [], ◌∷◌, ◌++◌, refl, ap, sym, subst, ◌∙◌, append_assoc, append-nil, Option}
use Rattle.std.proofs.Common.{Some, None, inl, inr}
use Rattle.text_core.specs.Faults.{Among}
use Rattle.text_grammar.specs.declared.symbol.Symbol.{Symbol}
use Rattle.text_grammar.specs.declared.symbol.Symbol.TheVariants.{Piece, Made, Mark}
use Rattle.text_grammar.specs.Grammars.{Grammar, Event, Read, Did, Derives, nothing, piece, mark, made, alternatives}
use Rattle.text_grammar.specs.Folds.{Fold, after, Passes}
use Rattle.text_grammar.specs.Parts.{Part, Says, Does, Puts, Wholes, events_of, spelled, come, Stand, Chosen, Values}
use Rattle.text_grammar.specs.Parts.{chosen_parts, body_parts, chosen_in, IsOnly, IsPut, ComesTo, Gives, AllGive}
use Rattle.text_grammar.specs.Parts.{AreMade, AllMake, StandsFor, AreDerived}
use Rattle.text_grammar.proofs.Events.{derived_both}
use Rattle.text_grammar.proofs.FoldLaws.{after_append, passes_append, passes_split}
use Rattle.text_grammar.proofs.Induction.{StandsAlong, derived_stands}

module _ {P S T K A : Type 0} (f : Fold P S T K) (a : Wholes P S A) where
  -- the events of appended parts
  pub events-append : (xs ys : List (Part P A)) → events_of f a (xs ++ ys) ≡ events_of f a xs ++ events_of f a ys
  events-append [] ys = refl
  events-append (Says p ∷ xs) ys = ap (λ (es : List (Event P)). Read p ∷ es) (events-append xs ys)
  events-append (Does m ∷ xs) ys = ap (λ (es : List (Event P)). Did m ∷ es) (events-append xs ys)
  events-append (Puts z ∷ xs) ys =
      ap (λ (es : List (Event P)). a.events z ++ es) (events-append xs ys) ∙ sym
      (append_assoc (a.events z) (events_of f a xs) (events_of f a ys))

  pub spelled-append : (xs ys : List (Part P A)) → spelled f a (xs ++ ys) ≡ spelled f a xs ++ spelled f a ys
  spelled-append [] ys = refl
  spelled-append (Says p ∷ xs) ys = ap (λ (ps : List P). p ∷ ps) (spelled-append xs ys)
  spelled-append (Does m ∷ xs) ys = spelled-append xs ys
  spelled-append (Puts z ∷ xs) ys =
      ap (λ (ps : List P). a.text z ++ ps) (spelled-append xs ys) ∙ sym
      (append_assoc (a.text z) (spelled f a xs) (spelled f a ys))

  pub come-append : (s : S) (xs ys : List (Part P A)) → come f a s (xs ++ ys) ≡ come f a (come f a s xs) ys
  come-append s [] ys = refl
  come-append s (Says p ∷ xs) ys = come-append (f.read p s) xs ys
  come-append s (Does m ∷ xs) ys = come-append (f.done m s) xs ys
  come-append s (Puts z ∷ xs) ys = come-append (a.put z s) xs ys

  pub stand_append : (s : S) (xs ys : List (Part P A)) → Stand f a s xs → Stand f a (come f a s xs) ys
      → Stand f a s (xs ++ ys)
  stand_append s [] ys h k = k
  stand_append s (Says p ∷ xs) ys h k = (h.0, stand_append (f.read p s) xs ys h.1 k)
  stand_append s (Does m ∷ xs) ys h k = stand_append (f.done m s) xs ys h k
  stand_append s (Puts z ∷ xs) ys h k = (h.0, stand_append (a.put z s) xs ys h.1 k)

  pub stand_split : (s : S) (xs ys : List (Part P A)) → Stand f a s (xs ++ ys) → Stand f a s xs
      × Stand f a (come f a s xs) ys
  stand_split s [] ys h = (tt, h)
  stand_split s (Says p ∷ xs) ys h = let w = stand_split (f.read p s) xs ys h.1 in ((h.0, w.0), w.1)
  stand_split s (Does m ∷ xs) ys h = stand_split (f.done m s) xs ys h
  stand_split s (Puts z ∷ xs) ys h = let w = stand_split (a.put z s) xs ys h.1 in ((h.0, w.0), w.1)

  -- the events of parts without faults show no fault, and lead to the same state as the parts
  pub events_pass : IsPut f a → (s : S) (xs : List (Part P A)) → Stand f a s xs → Passes f s (events_of f a xs)
      × (after f s (events_of f a xs) ≡ come f a s xs)
  events_pass h s [] k = (tt, refl)
  events_pass h s (Says p ∷ xs) k = let w = events_pass h (f.read p s) xs k.1 in ((k.0, w.0), w.1)
  events_pass h s (Does m ∷ xs) k = events_pass h (f.done m s) xs k
  events_pass h s (Puts z ∷ xs) k =
      let o = h.each s z k.0 in
      let w = events_pass h (a.put z s) xs k.1 in (
        passes_append f s (a.events z) (events_of f a xs) o.0
            (subst (λ (t : S). Passes f t (events_of f a xs)) (sym o.1) w.0),
        after_append f s (a.events z) (events_of f a xs) ∙ ap (λ (t : S). after f t (events_of f a xs)) o.1 ∙ w.1,
      )

  module _ (g : Grammar P) (only : ℕ → Option P) (V : ℕ → Type 0) (parts : (n : ℕ) → V n → List (Part P A)) where
    -- the parts of a nonterminal's value, before the parts of other symbols
    parts_made : (n : ℕ) (ss : List Symbol) (v : V n) (vs : Values g only V parts ss)
        → body_parts g only V parts (Made n ∷ ss) (v, vs) ≡ parts n v ++ body_parts g only V parts ss vs
    parts_made n [] v vs = sym (append-nil (parts n v))
    parts_made n (s ∷ ss) v vs = refl

    pub makes_give : (n : ℕ) (bodies : List (List Symbol)) → AllMake f a g only V parts n bodies → AllGive f a g only V parts n bodies
    makes_give n [] h = tt
    makes_give n (body ∷ bodies) h =
        (λ vs s t ps c. let v = h.0 vs in (v.0, subst (ComesTo f a s t ps) (sym v.1) c), makes_give n bodies h.1)

    pub all_given : (n : ℕ) (bodies : List (List Symbol)) → AllGive f a g only V parts n bodies → (body : List Symbol) → Among body bodies
        → Gives f a g only V parts n body
    all_given n [] h body b = absurd b
    all_given n (other ∷ bodies) h body (inl e) = subst (Gives f a g only V parts n) (sym e) h.0
    all_given n (other ∷ bodies) h body (inr b) = all_given n bodies h.1 body b

    -- values of symbols are derived without faults
    abbrev NumberContext : List Symbol → S → S → List P → Type 0
    NumberContext ss s t ps = (vs : Values g only V parts ss) × ComesTo f a s t ps (body_parts g only V parts ss vs)

    -- a piece before the values of the remaining symbols
    within_piece : IsOnly g only → (c : ℕ) (ss : List Symbol) (p : P) (s t : S) (ps : List P) → g.class_of p ≡ c
        → f.reported_fault s p ≡ None → NumberContext ss (f.read p s) t ps → NumberContext (Piece c ∷ ss) s t (p ∷ ps)
    within_piece h c ss p s t ps k n w = go (only c) refl
      where
        go : (o : Option P) → only c ≡ o → (vs : Chosen g only V parts o c (Values g only V parts ss))
            × ComesTo f a s t (p ∷ ps) (chosen_parts g only V parts o c (body_parts g only V parts ss) vs)
        go (Some q) e = let same = h.one c q p e k in (
          w.0,
          subst (λ (x : P). ComesTo f a s t (p ∷ ps) (Says x ∷ body_parts g only V parts ss w.0)) same (record {
            spells = ap (λ (qs : List P). p ∷ qs) w.1.spells;
            stands = (n, w.1.stands);
            comes = w.1.comes;
          }),
        )
        go None e = (
          (p, k, w.0),
          record {
            spells = ap (λ (qs : List P). p ∷ qs) w.1.spells;
            stands = (n, w.1.stands);
            comes = w.1.comes;
          },
        )

    -- events of symbols that show no fault are those of derived values of the symbols
    within : IsOnly g only → (ss : List Symbol) (es : List (Event P)) (ps : List P) → StandsAlong g (StandsFor f a g only V parts) ss es ps
        → (s : S) → Passes f s es → NumberContext ss s (after f s es) ps
    within h [] es ps (e, k) s passes = (tt, record { spells = sym k; stands = tt; comes = ap (after f s) (sym e) })
    within h (Piece c ∷ ss) es ps (p, fs, qs, k, e, i, w) s passes =
        let here = subst (Passes f s) e passes in
        subst (λ (ds : List (Event P)). NumberContext (Piece c ∷ ss) s (after f s ds) ps) (sym e)
        (subst (λ (os : List P). NumberContext (Piece c ∷ ss) s (after f (f.read p s) fs) os) (sym i)
        (within_piece h c ss p s (after f (f.read p s) fs) qs k here.0 (within h ss fs qs w (f.read p s) here.1)))
    within h (Mark m ∷ ss) es ps (fs, e, w) s passes =
        let r = within h ss fs ps w (f.done m s) (subst (Passes f s) e passes) in
        (r.0, record { spells = r.1.spells; stands = r.1.stands; comes = r.1.comes ∙ ap (after f s) (sym e) })
    within h (Made n ∷ ss) es ps (ds, fs, os, qs, k, e, i, w) s passes =
        let split = passes_split f s ds fs (subst (Passes f s) e passes) in
        let v = k s split.0 in
        let r = within h ss fs qs w (after f s ds) split.1 in
        let there : come f a s (parts n v.0) ≡ after f s ds = v.1.comes in
        let whole : ComesTo f a s (after f s es) ps (parts n v.0 ++ body_parts g only V parts ss r.0) = record {
          spells =
              spelled-append (parts n v.0) (body_parts g only V parts ss r.0) ∙ ap
              (λ (xs : List P). xs ++ spelled f a (body_parts g only V parts ss r.0)) v.1.spells ∙ ap
              (λ (xs : List P). os ++ xs) r.1.spells ∙ sym i;
          stands =
              stand_append s (parts n v.0) (body_parts g only V parts ss r.0) v.1.stands
              (subst (λ (t : S). Stand f a t (body_parts g only V parts ss r.0)) (sym there) r.1.stands);
          comes =
              come-append s (parts n v.0) (body_parts g only V parts ss r.0) ∙ ap
              (λ (t : S). come f a t (body_parts g only V parts ss r.0)) there ∙ r.1.comes ∙ sym
              (after_append f s ds fs) ∙ ap (after f s) (sym e);
        } in ((v.0, r.0), subst (ComesTo f a s (after f s es) ps) (sym (parts_made n ss v.0 r.0)) whole)

    -- derived events that show no fault come from a value
    pub derived_value : IsOnly g only → AreMade f a g only V parts → (n : ℕ) {es : List (Event P)} {ps : List P}
        → Derives g (Made n ∷ []) es ps → StandsFor f a g only V parts n es ps
    derived_value h k n {es} {ps} d s passes =
        let w =
        within h (Made n ∷ []) es ps (derived_stands g (StandsFor f a g only V parts)
        (λ m body among fs qs along t p. let r = within h body fs qs along t p in all_given m
        (alternatives g.rules m) (k.each m) body among r.0 t (after f t fs) qs r.1) d) s passes in
        (w.0.0, w.1)

    -- the events of the parts of symbols' values are derived from the symbols
    body_derived : IsOnly g only → (ss : List Symbol) (vs : Values g only V parts ss) → AreDerived f a g only V parts ss vs
        → Derives g ss (events_of f a (body_parts g only V parts ss vs)) (spelled f a (body_parts g only V parts ss vs))
    body_derived h [] u d = nothing
    body_derived h (Piece c ∷ ss) vs d = go (only c) refl vs d (body_derived h ss)
      where
        go : (o : Option P) → only c ≡ o → (vs : Chosen g only V parts o c (Values g only V parts ss))
            → chosen_in g only V parts o c (AreDerived f a g only V parts ss) vs
            → ((ws : Values g only V parts ss) → AreDerived f a g only V parts ss ws
            → Derives g ss (events_of f a (body_parts g only V parts ss ws))
            (spelled f a (body_parts g only V parts ss ws)))
            → Derives g (Piece c ∷ ss) (events_of f a
            (chosen_parts g only V parts o c (body_parts g only V parts ss) vs))
            (spelled f a (chosen_parts g only V parts o c (body_parts g only V parts ss) vs))
        go (Some p) e vs d ih =
            subst (λ (k : ℕ). Derives g (Piece k ∷ ss) (Read p ∷ events_of f a (body_parts g only V parts ss vs))
            (p ∷ spelled f a (body_parts g only V parts ss vs))) (h.its c p e) (piece p (ih vs d))
        go None e (p, k, vs) d ih =
            subst (λ (k : ℕ). Derives g (Piece k ∷ ss) (Read p ∷ events_of f a (body_parts g only V parts ss vs))
            (p ∷ spelled f a (body_parts g only V parts ss vs))) k (piece p (ih vs d))
    body_derived h (Mark m ∷ ss) vs d = mark m (body_derived h ss vs d)
    body_derived h (Made n ∷ ss) (v, vs) d =
        let rest : List (Part P A) = body_parts g only V parts ss vs in
        subst (λ (xs : List (Part P A)). Derives g (Made n ∷ ss) (events_of f a xs) (spelled f a xs))
        (sym (parts_made n ss v vs))
        (subst (λ (es : List (Event P)). Derives g (Made n ∷ ss) es (spelled f a (parts n v ++ rest)))
        (sym (events-append (parts n v) rest))
        (subst (λ (ps : List P). Derives g (Made n ∷ ss) (events_of f a (parts n v) ++ events_of f a rest) ps)
        (sym (spelled-append (parts n v) rest)) (derived_both g d.0 (body_derived h ss vs d.1))))

    -- a nonterminal derives the parts of an alternative whose values are derived
    pub value_derived : IsOnly g only → (n : ℕ) (body : List Symbol) → Among body (alternatives g.rules n)
        → (vs : Values g only V parts body) → AreDerived f a g only V parts body vs
        → Derives g (Made n ∷ []) (events_of f a (body_parts g only V parts body vs))
        (spelled f a (body_parts g only V parts body vs))
    value_derived h n body among vs d =
        made n body among (subst (λ (ss : List Symbol). Derives g ss (events_of f a (body_parts g only V parts body vs))
        (spelled f a (body_parts g only V parts body vs))) (sym (append-nil body)) (body_derived h body vs d))
