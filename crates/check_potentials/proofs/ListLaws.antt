-- Lists of lemmas from a place on.
use Rattle.std.proofs.Common.{◌≡◌, ℕ, suc, ◌+◌, ◌<◌, ◌≤◌, List, [], ◌∷◌, ◌++◌, map, drop, get_or, length}
use Rattle.std.proofs.Common.{Option, Some, None, ap, sym, ◌∙◌, add-one}
use Rattle.std.proofs.lemmas.List.{drop_more, drop_all}
use Rattle.potential_nodes.specs.Ground.{Ground}
use Rattle.potential_nodes.specs.Facts.{SignedFact}
use Rattle.potential_nodes.specs.Checks.{Reason}
use Rattle.potential_nodes.specs.Acceptance.{Refusal, refusal, fact_of, facts_after, refused_or, first_refusal}
use Rattle.potential_types.specs.declared.nodes.SignedLemma.{SignedLemma}
use Rattle.potential_types.specs.Views.{lemma_of}

module _ (g : Ground) (facts : List SignedFact) (lemmas : List SignedLemma) (i : ℕ) where
  -- the lemma at a place, and those after it
  lemmas-more : (l : SignedLemma) (o : Option Reason) → i < length lemmas → l ≡ get_or lemmas i l
      → o ≡ refusal g facts (lemma_of l)
      → first_refusal g facts (i + 1) (map lemma_of (drop i lemmas))
      ≡ refused_or (i + 1) o (first_refusal g (facts ++ fact_of facts (lemma_of l) ∷ []) (i + 1 + 1)
      (map lemma_of (drop (i + 1) lemmas)))
  lemmas-more l o low e h =
      ap (λ (ls : List SignedLemma). first_refusal g facts (i + 1) (map lemma_of ls)) (drop_more lemmas i l low)
      ∙ ap (λ (k : SignedLemma). refused_or (i + 1) (refusal g facts (lemma_of k)) (first_refusal g (facts
      ++ fact_of facts (lemma_of k) ∷ []) (suc (i + 1)) (map lemma_of (drop (i + 1) lemmas)))) (sym e)
      ∙ ap (λ (p : Option Reason). refused_or (i + 1) p (first_refusal g (facts ++ fact_of facts (lemma_of l) ∷ [])
      (suc (i + 1)) (map lemma_of (drop (i + 1) lemmas)))) (sym h)
      ∙ ap (λ (t : ℕ). refused_or (i + 1) o (first_refusal g (facts ++ fact_of facts (lemma_of l) ∷ []) t
      (map lemma_of (drop (i + 1) lemmas)))) (sym (add-one (i + 1)))

  -- an accepted lemma is passed, a refused one is found, or there is none
  pub lemma-passed : (l : SignedLemma) (all : Option Refusal) → i < length lemmas → l ≡ get_or lemmas i l
      → None ≡ refusal g facts (lemma_of l)
      → first_refusal g facts (i + 1) (map lemma_of (drop i lemmas)) ≡ all
      → first_refusal g (facts ++ fact_of facts (lemma_of l) ∷ []) (i + 1 + 1) (map lemma_of (drop (i + 1) lemmas))
      ≡ all
  lemma-passed l all low e h kept = sym (lemmas-more l None low e h) ∙ kept

  pub lemma-found : (l : SignedLemma) (r : Reason) (all : Option Refusal) → i < length lemmas → l ≡ get_or lemmas i l
      → Some r ≡ refusal g facts (lemma_of l)
      → first_refusal g facts (i + 1) (map lemma_of (drop i lemmas)) ≡ all
      → all ≡ Some (record { number = i + 1; reason = r })
  lemma-found l r all low e h kept = sym kept ∙ lemmas-more l (Some r) low e h

  pub lemma-none : (all : Option Refusal) → length lemmas ≤ i
      → first_refusal g facts (i + 1) (map lemma_of (drop i lemmas)) ≡ all → all ≡ None
  lemma-none all low kept =
      sym kept
      ∙ ap (λ (ls : List SignedLemma). first_refusal g facts (i + 1) (map lemma_of ls)) (drop_all i lemmas low)

  -- the facts after the lemmas from a place on
  pub facts-passed : (l : SignedLemma) (all : List SignedFact) → i < length lemmas → l ≡ get_or lemmas i l
      → facts_after facts (map lemma_of (drop i lemmas)) ≡ all
      → facts_after (facts ++ fact_of facts (lemma_of l) ∷ []) (map lemma_of (drop (i + 1) lemmas)) ≡ all
  facts-passed l all low e kept =
      sym (ap (λ (ls : List SignedLemma). facts_after facts (map lemma_of ls)) (drop_more lemmas i l low)
      ∙ ap (λ (k : SignedLemma). facts_after (facts ++ fact_of facts (lemma_of k) ∷ [])
      (map lemma_of (drop (i + 1) lemmas)))
      (sym e)) ∙ kept

  pub facts-done : (all : List SignedFact) → length lemmas ≤ i → facts_after facts (map lemma_of (drop i lemmas)) ≡ all
      → facts ≡ all
  facts-done all low kept =
      sym (ap (λ (ls : List SignedLemma). facts_after facts (map lemma_of ls)) (drop_all i lemmas low)) ∙ kept
