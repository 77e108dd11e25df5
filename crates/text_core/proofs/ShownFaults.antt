-- Faults at one position, one of each kind for which a test passes.
use Rattle.std.proofs.Common.{◌≡◌, ℕ, Bool, true, false, cond, List, [], ◌∷◌, refl, ap, sym, subst, ◌∙◌, inl, inr}
use Rattle.text_core.specs.Readers.{Fault}
use Rattle.text_core.specs.Faults.{Among, faults_at}

-- if a kind passes the test, its fault at the position is in the list
pub fault_among : {K : Type 0} (at : ℕ) (test : K → Bool) (kinds : List K) (kind : K) → Among kind kinds → test kind ≡ true → Among (record { kind = kind; at = at }) (faults_at at test kinds)
unfolding faults_at
fault_among at test [] kind a h = absurd a
fault_among at test (k ∷ kinds) kind (inl e) h = subst (λ (l : _). Among (record { kind = kind; at = at }) (cond (test l) (record { kind = l; at = at } ∷ faults_at at test kinds) (faults_at at test kinds))) e
    (subst (λ (v : Bool). Among (record { kind = kind; at = at }) (cond v (record { kind = kind; at = at } ∷ faults_at at test kinds) (faults_at at test kinds))) (sym h) (inl refl))
fault_among at test (k ∷ kinds) kind (inr a) h = go (test k) (fault_among at test kinds kind a h)
  where
    go : (v : Bool) → Among (record { kind = kind; at = at }) (faults_at at test kinds) → Among (record { kind = kind; at = at }) (cond v (record { kind = k; at = at } ∷ faults_at at test kinds) (faults_at at test kinds))
    go true b = inr b
    go false b = b

-- each fault in the list is at the position, and its kind passes the test
pub among_faults : {K : Type 0} (at : ℕ) (test : K → Bool) (kinds : List K) (x : Fault K) → Among x (faults_at at test kinds) → (x.at ≡ at) × (test x.kind ≡ true)
unfolding faults_at
among_faults at test [] x a = absurd a
among_faults at test (k ∷ kinds) x a = go (test k) refl a (λ b. among_faults at test kinds x b)
  where
    go : (v : Bool) → test k ≡ v → Among x (cond v (record { kind = k; at = at } ∷ faults_at at test kinds) (faults_at at test kinds)) → (Among x (faults_at at test kinds) → (x.at ≡ at) × (test x.kind ≡ true)) → (x.at ≡ at) × (test x.kind ≡ true)
    go true e (inl s) ih = (ap (λ (y : Fault _). y.at) s, ap (λ (y : Fault _). test y.kind) s ∙ e)
    go true e (inr b) ih = ih b
    go false e b ih = ih b

-- if no kind passes, the list is empty
pub no_faults : {K : Type 0} (at : ℕ) (test : K → Bool) (kinds : List K) → ((kind : K) → test kind ≡ false) → faults_at at test kinds ≡ []
unfolding faults_at
no_faults at test [] h = refl
no_faults at test (k ∷ kinds) h = ap (λ (v : Bool). cond v (record { kind = k; at = at } ∷ faults_at at test kinds) (faults_at at test kinds)) (h k) ∙ no_faults at test kinds h

-- if the list is empty, no kind passes
pub nothing_passes : {K : Type 0} (at : ℕ) (test : K → Bool) (kinds : List K) (kind : K) → Among kind kinds → faults_at at test kinds ≡ [] → test kind ≡ false
nothing_passes at test kinds kind a h = go (test kind) refl
  where
    go : (v : Bool) → test kind ≡ v → test kind ≡ false
    go false e = e
    go true e = absurd (subst (Among (record { kind = kind; at = at })) h (fault_among at test kinds kind a e))
