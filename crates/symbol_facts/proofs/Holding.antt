-- The facts at symbols by an accepted section hold.
use Rattle.std.proofs.Common.{◌≡◌, ℕ, zero, suc, List, [], ◌∷◌, ◌++◌, map, refl, sym, ◌∙◌, ap, subst, arith, Option, Some, None}
use Rattle.std.proofs.lemmas.Int.{ints}
use Rattle.std.proofs.lemmas.List.Elements.{All-from_recursion}
use Rattle.std.specs.List.{AllByRecursion}
use Rattle.std.specs.Prelude.{ℤ, pos, ◌+ℤ◌, ◌≤ℤ◌, neg_ℤ, slice_get}
use Rattle.model.specs.Polynomials.{polynomial_value}
use Rattle.model.specs.Programs.{Symbol, Program}
use Rattle.model.specs.Runs.{Config}
use Rattle.refinement.specs.Laws.{FactsOfCopiesHold, FollowsFrom, HoldsAt}
use Rattle.refinement.specs.Sections as plain
use Rattle.refined_programs.specs.its_model.linear_forms.Forms.{Form}
use Rattle.refined_programs.specs.Annotated.{Copy, Section, copy_of, section_of, form_term}
use Rattle.section_checks.specs.Laws.{AcceptedSectionsAreCertified}
use Rattle.symbol_facts.specs.Facts.{SymbolFact, IsSymbolFact}
use Rattle.symbol_facts.specs.Common.{common, copies_of, summands, fact_at, facts_at, symbol_facts}
use Rattle.symbol_facts.specs.Laws.{SymbolFactsHold}
use Rattle.symbol_facts.proofs.FormValues.{form-value}
use Rattle.symbol_facts.proofs.Following.{AllFollow, common-of-symbol}

-- a property of all elements, and of the element at each position
at-position : {X : Type 0} (P : X → Type 0) (xs : List X) (k : ℕ) (x : X) → slice_get xs k ≡ Some x
    → AllByRecursion P xs → P x
at-position P [] k x e h = absurd (let never : ⊥ = cc in never)
at-position P (y ∷ xs) zero x e h = let same : y ≡ x = cc in subst P same h.0
at-position P (y ∷ xs) (suc k) x e h = at-position P xs k x e h.1

from-positions : {X : Type 0} (P : X → Type 0) (xs : List X) → ((k : ℕ) (x : X) → slice_get xs k ≡ Some x → P x)
    → AllByRecursion P xs
from-positions P [] h = tt
from-positions P (x ∷ xs) h = (h zero x refl, from-positions P xs (λ k y e. h (suc k) y e))

-- the copy that is seen as another one has each property of all copies
seen-copy : (P : Copy → Type 0) (copies : List Copy) (k : ℕ) (c : plain.Copy) → slice_get (map copy_of copies) k ≡ Some c
    → AllByRecursion P copies → (d : Copy) × (copy_of d ≡ c) × P d
seen-copy P [] k c e h = absurd (let never : ⊥ = cc in never)
seen-copy P (d ∷ copies) zero c e h = (d, (let same : copy_of d ≡ c = cc in same), h.0)
seen-copy P (d ∷ copies) (suc k) c e h = seen-copy P copies k c e h.1

negated : (k w : ℤ) → pos 0 ≤ℤ (k +ℤ w) → neg_ℤ k ≤ℤ w
negated k w h = omega (arith, ints, h)

-- a form that is at least 0 at a symbol is a fact there
fact-holds : (p : Program) (s : ℕ) (g : Form) → HoldsAt p s (form_term g) → IsSymbolFact p (fact_at s g)
fact-holds p s g h = record {
  each = λ start steps c run at.
      negated g.constant (polynomial_value (summands 0 g.coefs) c.values)
      (subst (λ (z : ℤ). pos 0 ≤ℤ z) (form-value g c.values) (h.each start steps c run at));
}

facts-map : (p : Program) (s : ℕ) (gs : List Form) → AllByRecursion (λ g. HoldsAt p s (form_term g)) gs
    → AllByRecursion (IsSymbolFact p) (map (fact_at s) gs)
facts-map p s [] h = tt
facts-map p s (g ∷ gs) h = (fact-holds p s g h.0, facts-map p s gs h.1)

all-append : {X : Type 0} (P : X → Type 0) (xs ys : List X) → AllByRecursion P xs → AllByRecursion P ys
    → AllByRecursion P (xs ++ ys)
all-append P [] ys h k = k
all-append P (x ∷ xs) ys h k = (h.0, all-append P xs ys h.1 k)

module _ (p : Program) (section : Section) (hold : FactsOfCopiesHold p (section_of section)) where
  -- what all copies of a symbol have in common holds there
  common-hold : (s : ℕ)
      → AllByRecursion (λ g. HoldsAt p s (form_term g)) (common (copies_of s section.copies))
  common-hold s =
      from-positions (λ g. HoldsAt p s (form_term g)) (common (copies_of s section.copies))
      (λ j g at. hold.each s (form_term g) (λ k c there over. follows j g at k c there over))
    where
      follows : (j : ℕ) (g : Form) → slice_get (common (copies_of s section.copies)) j ≡ Some g → (k : ℕ)
          (c : plain.Copy) → slice_get (map copy_of section.copies) k ≡ Some c → c.over ≡ s → FollowsFrom c.facts (form_term g)
      follows j g at k c there over =
          let seen =
          seen-copy (λ d. d.over ≡ s → AllFollow d.facts (common (copies_of s section.copies))) section.copies k c there
          (common-of-symbol s section.copies) in
          subst (λ (d : plain.Copy). FollowsFrom d.facts (form_term g)) seen.1
          (at-position (λ h. FollowsFrom (map form_term (seen.0).facts) (form_term h)) (common (copies_of s section.copies))
          j g at (seen.2 (ap (λ (d : plain.Copy). d.over) seen.1 ∙ over)))

  facts-hold : (s : ℕ) (symbols : List Symbol) → AllByRecursion (IsSymbolFact p) (facts_at section.copies s symbols)
  facts-hold s [] = tt
  facts-hold s (symbol ∷ symbols) =
      all-append (IsSymbolFact p) (map (fact_at s) (common (copies_of s section.copies)))
      (facts_at section.copies (suc s) symbols)
      (facts-map p s (common (copies_of s section.copies)) (common-hold s)) (facts-hold (suc s) symbols)

pub symbol-facts-hold : AcceptedSectionsAreCertified → SymbolFactsHold
symbol-facts-hold laws = record {
  each = λ p s valid accepted.
      All-from_recursion (IsSymbolFact p) (symbol_facts p s)
      (facts-hold p s (laws.facts p s valid accepted) 0 p.symbols);
}
