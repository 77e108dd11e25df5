-- The bounds that lemmas give for a form at the copies of a rule hold.
use Rattle.std.proofs.Common.{◌≡◌, ◌≢◌, ◌⊎◌, inl, inr, ◌+◌, ℕ, zero, suc, ◌==◌, Bool, true, false, List, [], ◌∷◌}
use Rattle.std.proofs.Common.{Option, Some, None, refl, sym, ap, ◌∙◌, subst, arith}
use Rattle.std.specs.Prelude.{slice_get, ◌&&◌, if◌then◌else◌}
use Rattle.std.proofs.lemmas.Bool.{true≢false}
use Rattle.std.proofs.lemmas.Bool.Decides.{eqb_tells}
use Rattle.model.specs.Programs.{Program, Rule}
use Rattle.model.specs.Polynomials.{Polynomial}
use Rattle.model.proofs.Cases.{none_some, some_same}
use Rattle.model.proofs.Membership.{same_number-sound}
use Rattle.refinement.specs.Simulation.{Projection}
use Rattle.signed_bounds.specs.Bounds.{Signed, Constant}
use Rattle.signed_bounds.specs.Safe.{expands_to_squares}
use Rattle.signed_bounds.specs.Within.{within}
use Rattle.potential_nodes.specs.Lookup.{numbered}
use Rattle.potential_nodes.specs.Facts.{SignedFact, SumFact, PeakFact, SizeFact, HoldsSigned, AllSignedHold, peak_bound}
use Rattle.potential_nodes.specs.Facts.{is_never}
use Rattle.potential_nodes.specs.PlainPeaks.{size_in, first_of_two}
use Rattle.potential_nodes.proofs.LookupLaws.{both-hold, all-numbered}
use Rattle.potential_nodes.proofs.FactLaws.{peak_bound-holds}
use Rattle.program_claims.specs.Copies.{copies_from}
use Rattle.program_claims.specs.Heads.{head_bound, is_head_within, are_heads_within}

-- a bound within the claim's, and why it holds of a copy: the copy never occurs, or the bound is the peak of the form
-- there, or the size of the place after it
pub record HasHead (q : Program) (facts : List SignedFact) (form : Polynomial) (place : ℕ) (bound : Signed) (u : ℕ)
    : Type 0 where
  pub own : Signed
  pub low : within expands_to_squares 1 own bound ≡ true
  pub why : (is_never facts u ≡ true)
      ⊎ (HoldsSigned q (PeakFact u form own) ⊎ HoldsSigned q (SizeFact u place own))

module _ (q : Program) (facts : List SignedFact) (hold : AllSignedHold q facts) (form : Polynomial) (place : ℕ)
    (bound : Signed) where
  -- a lemma on the size of the place after a copy holds
  size-holds : (u n : ℕ) (b : Signed) → size_in u place (numbered facts n) ≡ Some b → HoldsSigned q (SizeFact u place b)
  size-holds u n b h = go (numbered facts n) refl h
    where
      stated : (u' place' : ℕ) (b' : Signed) (v : Bool) → ((u == u') && (place == place')) ≡ v
          → HoldsSigned q (SizeFact u' place' b') → (if v then Some b' else None) ≡ Some b
          → HoldsSigned q (SizeFact u place b)
      stated u' place' b' true same fact e =
          let both = both-hold (u == u') (place == place') same in
          subst (λ (x : Signed). HoldsSigned q (SizeFact u place x)) (some_same b' b e)
          (subst (λ (t : ℕ). HoldsSigned q (SizeFact t place b')) (sym (same_number-sound u u' both.0))
          (subst (λ (i : ℕ). HoldsSigned q (SizeFact u' i b')) (sym (same_number-sound place place' both.1)) fact))
      stated u' place' b' false same fact e = absurd (none_some b e)

      go : (o : Option SignedFact) → numbered facts n ≡ o → size_in u place o ≡ Some b
          → HoldsSigned q (SizeFact u place b)
      go None e k = absurd (none_some b k)
      go (Some (SumFact goal b')) e k = absurd (none_some b k)
      go (Some (PeakFact rule form' b')) e k = absurd (none_some b k)
      go (Some (SizeFact u' place' b')) e k =
          stated u' place' b' ((u == u') && (place == place')) refl
          (all-numbered (λ fact. HoldsSigned q fact) facts n (SizeFact u' place' b') e hold) k

  -- the bound that a lemma gives for a copy holds of it
  head-why : (u n : ℕ) (b : Signed) → head_bound facts form place u n ≡ Some b
      → (is_never facts u ≡ true) ⊎ (HoldsSigned q (PeakFact u form b) ⊎ HoldsSigned q (SizeFact u place b))
  head-why u zero b h = go (is_never facts u) refl h
    where
      go : (v : Bool) → is_never facts u ≡ v → (if v then Some (Constant 0) else None) ≡ Some b
          → (is_never facts u ≡ true) ⊎ (HoldsSigned q (PeakFact u form b) ⊎ HoldsSigned q (SizeFact u place b))
      go true e k = inl e
      go false e k = absurd (none_some b k)
  head-why u (suc n) b h = go (peak_bound facts u form (suc n)) refl h
    where
      go : (o : Option Signed) → peak_bound facts u form (suc n) ≡ o
          → first_of_two o (size_in u place (numbered facts (suc n))) ≡ Some b
          → (is_never facts u ≡ true) ⊎ (HoldsSigned q (PeakFact u form b) ⊎ HoldsSigned q (SizeFact u place b))
      go None e k = inr (inr (size-holds u (suc n) b k))
      go (Some b') e k =
          inr (inl (peak_bound-holds q facts hold u form (suc n) b (e ∙ k)))

  -- a copy whose bound is within the claim's has such a bound
  head-there : (u n : ℕ) → is_head_within bound (head_bound facts form place u n) ≡ true
      → HasHead q facts form place bound u
  head-there u n h = go (head_bound facts form place u n) refl h
    where
      go : (o : Option Signed) → head_bound facts form place u n ≡ o → is_head_within bound o ≡ true
          → HasHead q facts form place bound u
      go None e k = absurd (true≢false (sym k))
      go (Some b) e k = record { own = b; low = k; why = head-why u n b e }

  module _ (o : Projection) (n : ℕ) where
    -- each copy of a rule has a bound within the claim's
    pub copy-bounded : (t : ℕ) (rules : List Rule) (ns : List ℕ)
        → are_heads_within facts form place bound (copies_from o n t rules) ns ≡ true → (k u : ℕ) (r : Rule)
        → slice_get rules k ≡ Some r → u ≡ t + k → o.rule u ≡ n → HasHead q facts form place bound u
    copy-bounded t [] ns h k u r there at below = absurd (none_some r there)
    copy-bounded t (r' ∷ rules) ns h k u r there at below =
        go (λ ms e j there' at'. copy-bounded (suc t) rules ms e j u r there' at' below) (eqb_tells (o.rule t) n)
      where
        -- each copy has such a bound, if the first rule is a copy
        first : ((ms : List ℕ) → are_heads_within facts form place bound (copies_from o n (suc t) rules) ms ≡ true
            → (j : ℕ) → slice_get rules j ≡ Some r → u ≡ suc t + j → HasHead q facts form place bound u) → (ms : List ℕ)
            → are_heads_within facts form place bound (t ∷ copies_from o n (suc t) rules) ms ≡ true → (j : ℕ)
            → slice_get (r' ∷ rules) j ≡ Some r → u ≡ t + j → HasHead q facts form place bound u
        first ih [] e j there' at' = absurd (true≢false (sym e))
        first ih (m ∷ ms) e zero there' at' =
            let both =
            both-hold (is_head_within bound (head_bound facts form place t m))
            (are_heads_within facts form place bound (copies_from o n (suc t) rules) ms) e in
            let same : t ≡ u = omega (arith, at') in
            subst (λ (i : ℕ). HasHead q facts form place bound i) same (head-there t m both.0)
        first ih (m ∷ ms) e (suc j) there' at' =
            let both =
            both-hold (is_head_within bound (head_bound facts form place t m))
            (are_heads_within facts form place bound (copies_from o n (suc t) rules) ms) e in
            ih ms both.1 j there' (omega (arith, at'))

        -- each copy has such a bound, if the first rule is no copy
        later : ((ms : List ℕ) → are_heads_within facts form place bound (copies_from o n (suc t) rules) ms ≡ true
            → (j : ℕ) → slice_get rules j ≡ Some r → u ≡ suc t + j → HasHead q facts form place bound u) → (j : ℕ)
            → slice_get (r' ∷ rules) j ≡ Some r → u ≡ t + j → o.rule t ≢ n
            → are_heads_within facts form place bound (copies_from o n (suc t) rules) ns ≡ true
            → HasHead q facts form place bound u
        later ih zero there' at' other e =
            let same : t ≡ u = omega (arith, at') in absurd (other (ap o.rule same ∙ below))
        later ih (suc j) there' at' other e = ih ns e j there' (omega (arith, at'))

        go : ((ms : List ℕ) → are_heads_within facts form place bound (copies_from o n (suc t) rules) ms ≡ true
            → (j : ℕ) → slice_get rules j ≡ Some r → u ≡ suc t + j → HasHead q facts form place bound u)
            → ((o.rule t == n) ≡ true) × (o.rule t ≡ n) ⊎ ((o.rule t == n) ≡ false) × (o.rule t ≢ n)
            → HasHead q facts form place bound u
        go ih (inl (test, e)) =
            first ih ns (subst (λ (v : Bool). are_heads_within facts form place bound (if v then t ∷ copies_from o n (suc t) rules else copies_from o n (suc t) rules) ns ≡ true) test h) k there at
        go ih (inr (test, other)) =
            later ih k there at other (subst (λ (v : Bool). are_heads_within facts form place bound (if v then t ∷ copies_from o n (suc t) rules else copies_from o n (suc t) rules) ns ≡ true) test h)
