-- An expression that each copy of a symbol has among its facts is at least 0 at the symbol.
use Rattle.std.proofs.Common.{◌≡◌, ℕ, zero, suc, ◌==◌, Bool, true, false, List, [], ◌∷◌, Some, refl, sym}
use Rattle.std.proofs.Common.{ap, ◌∙◌, subst, arith}
use Rattle.std.specs.Prelude.{ℤ, pos, ◌≤ℤ◌, ◌-ℤ◌, slice_get, ◌&&◌, ◌||◌, not}
use Rattle.std.proofs.lemmas.Int.{ints}
use Rattle.std.proofs.lemmas.Bool.{true≢false, eq-eqb}
use Rattle.std.proofs.lemmas.List.Elements.{All-head, All-tail}
use Rattle.model.specs.Terms.{Term, Subtraction, value}
use Rattle.model.specs.Programs.{Program}
use Rattle.model.proofs.Cases.{none_some, some_same}
use Rattle.refinement.specs.Sections.{Copy, Section, AreAtLeastZero}
use Rattle.refinement.specs.Laws.{HoldsAt, FactsOfCopiesHold}
use Rattle.signed_bounds.specs.Safe.{IsSafe, expands_to_squares}
use Rattle.potential_nodes.proofs.LookupLaws.{both-hold}
use Rattle.program_claims.specs.SymbolFacts.{is_fact_below, has_fact_below, is_copy_of, have_facts_below}

module _ (safe : IsSafe expands_to_squares) (f : Term) where
  -- an expression is at least 0 where a fact that is at most the expression is
  fact-below : (fact : Term) (values : List ℤ) → is_fact_below f fact ≡ true → pos 0 ≤ℤ value fact values
      → pos 0 ≤ℤ value f values
  fact-below fact values test holds =
      through (value f values) (value fact values) (safe.each (Subtraction f fact) test values) holds
    where
      through : (a b : ℤ) → pos 0 ≤ℤ (a -ℤ b) → pos 0 ≤ℤ b → pos 0 ≤ℤ a
      through a b h k = omega (arith, ints, h, k)

  -- an expression is at least 0 where the facts of a list are of which some is at most the expression
  some-below : (facts : List Term) (values : List ℤ) → has_fact_below f facts ≡ true → AreAtLeastZero facts values
      → pos 0 ≤ℤ value f values
  some-below [] values h all = absurd (true≢false (sym h))
  some-below (fact ∷ facts) values h all =
      go (is_fact_below f fact) refl h
      (λ k. some-below facts values k (All-tail (λ (x : Term). pos 0 ≤ℤ value x values) fact facts all))
    where
      go : (v : Bool) → is_fact_below f fact ≡ v → (v || has_fact_below f facts) ≡ true
          → (has_fact_below f facts ≡ true → pos 0 ≤ℤ value f values) → pos 0 ≤ℤ value f values
      go true e k ih =
          fact-below fact values e (All-head (λ (x : Term). pos 0 ≤ℤ value x values) fact facts all)
      go false e k ih = ih k

  -- each copy of the symbol has a fact that is at most the expression
  copy-has : (symbol : ℕ) (copies : List Copy) (k : ℕ) (copy : Copy) → have_facts_below symbol f copies ≡ true
      → slice_get copies k ≡ Some copy → copy.over ≡ symbol → has_fact_below f copy.facts ≡ true
  copy-has symbol [] k copy h there over = absurd (none_some copy there)
  copy-has symbol (c ∷ copies) zero copy h there over =
      let both =
      both-hold (not (is_copy_of symbol c) || has_fact_below f c.facts) (have_facts_below symbol f copies) h in
      let same : c ≡ copy = some_same c copy there in
      let is : is_copy_of symbol c ≡ true = eq-eqb c.over symbol (ap (λ (x : Copy). x.over) same ∙ over) in
      subst (λ (x : Copy). has_fact_below f x.facts ≡ true) same
      (sym (ap (λ (v : Bool). not v || has_fact_below f c.facts) is) ∙ both.0)
  copy-has symbol (c ∷ copies) (suc k) copy h there over =
      let both =
      both-hold (not (is_copy_of symbol c) || has_fact_below f c.facts) (have_facts_below symbol f copies) h in
      copy-has symbol copies k copy both.1 there over

  pub symbol-holds : (p : Program) (s : Section) → FactsOfCopiesHold p s → (symbol : ℕ)
      → have_facts_below symbol f s.copies ≡ true → HoldsAt p symbol f
  symbol-holds p s facts symbol h =
      facts.each symbol f
      (λ k copy there over. record {
        each = λ values met. some-below copy.facts values (copy-has symbol s.copies k copy h there over) met;
      })
