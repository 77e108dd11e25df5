-- Marks before events, and derivations of appended symbols.
use Rattle.std.proofs.Common.{◌≡◌, ℕ, List, [], ◌∷◌, ◌++◌, refl, ap, subst, append_assoc}
use Rattle.text_core.specs.Readers.{onto}
use Rattle.text_grammar.specs.declared.symbol.Symbol.{Symbol}
use Rattle.text_grammar.specs.Grammars.{Grammar, Event, Did, Derives, nothing, piece, mark, made}
use Rattle.text_grammar.specs.Texts.{did, marked}

-- appended marks before events
pub marked-append : {P : Type 0} (ms ns : List ℕ) (es : List (Event P)) → marked (ms ++ ns) es ≡ marked ms (marked ns es)
marked-append [] ns es = refl
marked-append (m ∷ ms) ns es = ap (λ fs. Did m ∷ fs) (marked-append ms ns es)

-- marks done after events, the last one first, come before the rest
pub onto-did : {P : Type 0} (es fs : List (Event P)) (ms : List ℕ) → onto (did es ms) fs ≡ onto es (marked ms fs)
onto-did es fs [] = refl
onto-did es fs (m ∷ ms) = onto-did (Did m ∷ es) fs ms

module _ {P : Type 0} (g : Grammar P) where
  -- derivations of two lists of symbols give one of the appended lists
  pub derived_both : {xs : List Symbol} {es : List (Event P)} {ps : List P} {ys : List Symbol} {fs : List (Event P)} {qs : List P} → Derives g xs es ps → Derives g ys fs qs → Derives g (xs ++ ys) (es ++ fs) (ps ++ qs)
  derived_both nothing e = e
  derived_both (piece p d) e = piece p (derived_both d e)
  derived_both (mark m d) e = mark m (derived_both d e)
  derived_both {ys} {fs} {qs} (made n body {rest} {es} {ps} a d) e =
      made n body a (subst (λ (ss : List Symbol). Derives g ss (es ++ fs) (ps ++ qs)) (append_assoc body rest ys) (derived_both d e))
