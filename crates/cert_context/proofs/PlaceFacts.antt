-- Facts of places, one after another.
use Rattle.std.proofs.Common.{◌≡◌, ℕ, ◌+◌, ◌-◌, List, [], ◌∷◌, ◌++◌, ap}
use Rattle.std.proofs.Common.{◌∙◌, refl, arith}
use Rattle.std.specs.List.{range_with_len}
use Rattle.model.specs.Bounds.{Constant, Input}
use Rattle.model.specs.Facts.{Fact, Size}
use Rattle.cert_types.specs.cert_rules.AcceptsPlain.{zero_sizes, start_sizes}
use Rattle.cert_types.proofs.Numbers.{numbers-more}
use Rattle.cert_types.specs.Views.{fact_of, facts_of}
use Rattle.cert_types.specs.declared.fact.Fact as code
use Rattle.std.proofs.lemmas.List.{map-append}

-- the sizes of one more place of a rule that never runs
zero-push : (t : ℕ) (is : List ℕ) (i : ℕ) → zero_sizes t (is ++ i ∷ []) ≡ zero_sizes t is ++ Size t i (Constant 0) ∷ []
zero-push t [] i = refl
zero-push t (j ∷ is) i = ap (λ (fs : List Fact). Size t j (Constant 0) ∷ fs) (zero-push t is i)

pub zero-more : (t n : ℕ)
    → zero_sizes t (range_with_len 1 (n + 1)) ≡ zero_sizes t (range_with_len 1 n) ++ Size t (n + 1) (Constant 0) ∷ []
zero-more t n =
    ap (zero_sizes t) (numbers-more 1 n)
    ∙ (zero-push t (range_with_len 1 n) (1 + n)
    ∙ ap (λ (i : ℕ). zero_sizes t (range_with_len 1 n) ++ Size t i (Constant 0) ∷ []) (let e : 1 + n ≡ n + 1 = omega arith in e))

-- the sizes of one more place of the virtual entry
start-push : (is : List ℕ) (i : ℕ) → start_sizes (is ++ i ∷ []) ≡ start_sizes is ++ Size 0 i (Input (i - 1)) ∷ []
start-push [] i = refl
start-push (j ∷ is) i = ap (λ (fs : List Fact). Size 0 j (Input (j - 1)) ∷ fs) (start-push is i)

pub start-more : (n : ℕ)
    → start_sizes (range_with_len 1 (n + 1)) ≡ start_sizes (range_with_len 1 n) ++ Size 0 (n + 1) (Input n) ∷ []
start-more n =
    ap start_sizes (numbers-more 1 n)
    ∙ (start-push (range_with_len 1 n) (1 + n)
    ∙ (ap (λ (i : ℕ). start_sizes (range_with_len 1 n) ++ Size 0 i (Input (i - 1)) ∷ [])
    (let e : 1 + n ≡ n + 1 = omega arith in e)
    ∙ ap (λ (i : ℕ). start_sizes (range_with_len 1 n) ++ Size 0 (n + 1) (Input i) ∷ [])
    (let e : (n + 1) - 1 ≡ n = omega arith in e)))

-- pushing a fact appends it to the plain facts
pub facts-pushed : (old new : List code.Fact) (x : code.Fact) (f : Fact) → new ≡ old ++ x ∷ [] → fact_of x ≡ f
    → facts_of new ≡ facts_of old ++ f ∷ []
facts-pushed old new x f e h =
    ap facts_of e ∙ (map-append fact_of old (x ∷ []) ∙ ap (λ (g : Fact). facts_of old ++ g ∷ []) h)
