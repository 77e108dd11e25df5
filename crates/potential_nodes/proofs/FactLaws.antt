-- The facts of cited lemmas hold.
use Rattle.std.proofs.Common.{◌≡◌, ℕ, zero, suc, ◌==◌, Bool, true, false, List, [], ◌∷◌, Option, Some, None}
use Rattle.std.proofs.Common.{refl, sym, ◌∙◌, ap, subst, arith}
use Rattle.std.specs.Prelude.{ℤ, ◌&&◌, ◌||◌, if◌then◌else◌}
use Rattle.std.specs.Ordering.{int_eq}
use Rattle.std.proofs.lemmas.Bool.{true≢false}
use Rattle.std.proofs.lemmas.Bool.Decides.{Decides-int_eq}
use Rattle.potentials.specs.model.Programs.{Program}
use Rattle.potentials.specs.model.Polynomials.{Polynomial, polynomial_value}
use Rattle.potentials.specs.model.Runs.{Config, Step}
use Rattle.potentials.specs.Sums.{Charge, charges, variables_at, HoldsSum, HoldsPeak}
use Rattle.potentials.specs.Potentials.{IsTaken}
use Rattle.potentials.proofs.model.Cases.{none_some, some_same}
use Rattle.potentials.proofs.model.Membership.{same_number, same_number-sound}
use Rattle.signed_bounds.specs.Bounds.{Signed, Constant, signed_val}
use Rattle.potential_nodes.specs.Lookup.{numbered}
use Rattle.potential_nodes.specs.Facts.{SignedFact, SumFact, PeakFact, SizeFact, HoldsSigned, AllSignedHold, sum_bound_in}
use Rattle.potential_nodes.specs.Facts.{same_variables, same_polynomial, same_charge, same_charges, sum_bound, peak_bound}
use Rattle.potential_nodes.specs.Facts.{peak_bound_in, once_charge, says_never, is_never}
use Rattle.potential_nodes.proofs.LookupLaws.{both-hold, all-numbered}

-- lists of variables, polynomials and charges that the tests find equal are equal
pub same_variables-is : (vs ws : List ℕ) → same_variables vs ws ≡ true → vs ≡ ws
same_variables-is [] [] h = refl
same_variables-is [] (w ∷ ws) h = absurd (true≢false (sym h))
same_variables-is (v ∷ vs) [] h = absurd (true≢false (sym h))
same_variables-is (v ∷ vs) (w ∷ ws) h =
    let both = both-hold (v == w) (same_variables vs ws) h in
    ap (λ (x : ℕ). x ∷ vs) (same_number-sound v w both.0) ∙ ap (λ (xs : List ℕ). w ∷ xs) (same_variables-is vs ws both.1)

pub same_polynomial-is : (p q : Polynomial) → same_polynomial p q ≡ true → p ≡ q
same_polynomial-is [] [] h = refl
same_polynomial-is [] (n ∷ ns) h = absurd (true≢false (sym h))
same_polynomial-is (m ∷ ms) [] h = absurd (true≢false (sym h))
same_polynomial-is (m ∷ ms) (n ∷ ns) h =
    let both = both-hold (int_eq m.coef n.coef && same_variables m.vars n.vars) (same_polynomial ms ns) h in
    let first = both-hold (int_eq m.coef n.coef) (same_variables m.vars n.vars) both.0 in
    let coef = (Decides-int_eq m.coef n.coef).0 first.0 in
    let vars = same_variables-is m.vars n.vars first.1 in
    ap (λ (z : ℤ). record { coef = z; vars = m.vars } ∷ ms) coef
    ∙ (ap (λ (vs : List ℕ). record { coef = n.coef; vars = vs } ∷ ms) vars
    ∙ ap (λ (q : Polynomial). n ∷ q) (same_polynomial-is ms ns both.1))

pub same_charge-is : (c d : Charge) → same_charge c d ≡ true → c ≡ d
same_charge-is c d h =
    let both = both-hold (c.rule == d.rule) (same_polynomial c.form d.form) h in
    ap (λ (t : ℕ). record { rule = t; form = c.form }) (same_number-sound c.rule d.rule both.0)
    ∙ ap (λ (p : Polynomial). record { rule = d.rule; form = p }) (same_polynomial-is c.form d.form both.1)

pub same_charges-is : (cs ds : List Charge) → same_charges cs ds ≡ true → cs ≡ ds
same_charges-is [] [] h = refl
same_charges-is [] (d ∷ ds) h = absurd (true≢false (sym h))
same_charges-is (c ∷ cs) [] h = absurd (true≢false (sym h))
same_charges-is (c ∷ cs) (d ∷ ds) h =
    let both = both-hold (same_charge c d) (same_charges cs ds) h in
    ap (λ (x : Charge). x ∷ cs) (same_charge-is c d both.0)
    ∙ ap (λ (xs : List Charge). d ∷ xs) (same_charges-is cs ds both.1)

module _ (p : Program) (facts : List SignedFact) (hold : AllSignedHold p facts) where
  -- the bound that a cited lemma states on a sum of charges holds
  pub sum_bound-holds : (goal : List Charge) (n : ℕ) (b : Signed) → sum_bound facts goal n ≡ Some b
      → HoldsSum p (charges goal) (signed_val b)
  sum_bound-holds goal n b h = go (numbered facts n) refl h
    where
      stated : (goal' : List Charge) (b' : Signed) (v : Bool) → same_charges goal goal' ≡ v
          → HoldsSigned p (SumFact goal' b') → (if v then Some b' else None) ≡ Some b
          → HoldsSum p (charges goal) (signed_val b)
      stated goal' b' true same fact e =
          subst (λ (x : Signed). HoldsSum p (charges goal) (signed_val x)) (some_same b' b e)
          (subst (λ (cs : List Charge). HoldsSum p (charges cs) (signed_val b')) (sym (same_charges-is goal goal' same)) fact)
      stated goal' b' false same fact e = absurd (none_some b e)

      go : (o : Option SignedFact) → numbered facts n ≡ o → sum_bound_in goal o ≡ Some b
          → HoldsSum p (charges goal) (signed_val b)
      go None e k = absurd (none_some b k)
      go (Some (SumFact goal' b')) e k =
          stated goal' b' (same_charges goal goal') refl (all-numbered (λ fact. HoldsSigned p fact) facts n (SumFact goal' b') e hold) k
      go (Some (PeakFact rule form b')) e k = absurd (none_some b k)
      go (Some (SizeFact rule place b')) e k = absurd (none_some b k)

  -- the bound that a cited lemma states on the peak of a form holds
  pub peak_bound-holds : (rule : ℕ) (form : Polynomial) (n : ℕ) (b : Signed) → peak_bound facts rule form n ≡ Some b
      → HoldsPeak p rule (λ env. polynomial_value form env) (signed_val b)
  peak_bound-holds rule form n b h = go (numbered facts n) refl h
    where
      stated : (rule' : ℕ) (form' : Polynomial) (b' : Signed) (v : Bool)
          → ((rule == rule') && same_polynomial form form') ≡ v → HoldsSigned p (PeakFact rule' form' b')
          → (if v then Some b' else None) ≡ Some b → HoldsPeak p rule (λ env. polynomial_value form env) (signed_val b)
      stated rule' form' b' true same fact e =
          let both = both-hold (rule == rule') (same_polynomial form form') same in
          subst (λ (x : Signed). HoldsPeak p rule (λ env. polynomial_value form env) (signed_val x)) (some_same b' b e)
          (subst (λ (t : ℕ). HoldsPeak p t (λ env. polynomial_value form env) (signed_val b')) (sym (same_number-sound rule rule' both.0))
          (subst (λ (q : Polynomial). HoldsPeak p rule' (λ env. polynomial_value q env) (signed_val b')) (sym (same_polynomial-is form form' both.1)) fact))
      stated rule' form' b' false same fact e = absurd (none_some b e)

      go : (o : Option SignedFact) → numbered facts n ≡ o → peak_bound_in rule form o ≡ Some b
          → HoldsPeak p rule (λ env. polynomial_value form env) (signed_val b)
      go None e k = absurd (none_some b k)
      go (Some (SumFact goal' b')) e k = absurd (none_some b k)
      go (Some (PeakFact rule' form' b')) e k =
          stated rule' form' b' ((rule == rule') && same_polynomial form form') refl (all-numbered (λ fact. HoldsSigned p fact) facts n (PeakFact rule' form' b') e hold) k
      go (Some (SizeFact rule' place b')) e k = absurd (none_some b k)

-- a rule whose steps, each counted once, are at most 0 takes no step
pub no-step : (p : Program) (t : ℕ) → HoldsSum p (charges (once_charge t ∷ [])) (signed_val (Constant 0))
    → (start : List ℤ) (c : Config) (s : Step) (d : Config) → IsTaken p start c s d → s.rule ≡ t → ⊥
no-step p t sum start c s d step same =
    let most = sum.each start (s ∷ step.earlier) d (c, step.run, step.step) in
    let env = variables_at p start s step.earlier in
    let one : charges (once_charge t ∷ []) s.rule env ≡ 1
    = subst (λ (n : ℕ). charges (once_charge t ∷ []) n env ≡ 1) (sym same) (rw (same_number t) refl) in
    omega (arith, most, one)

module _ (p : Program) (t : ℕ) where
  -- if a fact says that a rule never occurs, the sum of 1 for each of its steps is at most 0
  fact-never : (fact : SignedFact) → says_never t fact ≡ true → HoldsSigned p fact
      → HoldsSum p (charges (once_charge t ∷ [])) (signed_val (Constant 0))
  fact-never (SumFact goal (Constant zero)) h fact =
      subst (λ (cs : List Charge). HoldsSum p (charges cs) (signed_val (Constant 0))) (sym (same_charges-is (once_charge t ∷ []) goal h)) fact
  fact-never (SumFact goal (Constant (suc n))) h fact = absurd (true≢false (sym h))
  fact-never (SumFact goal b) h fact = absurd (true≢false (sym h))
  fact-never (PeakFact rule form b) h fact = absurd (true≢false (sym h))
  fact-never (SizeFact rule place b) h fact = absurd (true≢false (sym h))

  -- if some fact of a list says that a rule never occurs, the sum of 1 for each of its steps is at most 0
  never-holds : (facts : List SignedFact) → AllSignedHold p facts → is_never facts t ≡ true
      → HoldsSum p (charges (once_charge t ∷ [])) (signed_val (Constant 0))
  never-holds [] hold h = absurd (true≢false (sym h))
  never-holds (fact ∷ facts) (first, others) h = go (says_never t fact) refl h (λ k. never-holds facts others k)
    where
      go : (v : Bool) → says_never t fact ≡ v → (v || is_never facts t) ≡ true
          → (is_never facts t ≡ true → HoldsSum p (charges (once_charge t ∷ [])) (signed_val (Constant 0)))
          → HoldsSum p (charges (once_charge t ∷ [])) (signed_val (Constant 0))
      go true e k ih = fact-never fact e first
      go false e k ih = ih k

  -- if some fact of a list says that a rule never occurs, no run takes a step by it
  pub never-steps : (facts : List SignedFact) → AllSignedHold p facts → is_never facts t ≡ true → (start : List ℤ)
      (c : Config) (s : Step) (d : Config) → IsTaken p start c s d → s.rule ≡ t → ⊥
  never-steps facts hold h start c s d step same = no-step p t (never-holds facts hold h) start c s d step same
