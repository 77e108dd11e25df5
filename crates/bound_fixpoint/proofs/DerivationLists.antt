-- Lists of derivations: the first derivation of a key counts, so known bounds and their numbers stay when derivations
-- are added.
use Rattle.std.proofs.Common.{◌≡◌, ◌⊎◌, inl, inr, ℕ, zero, suc, Bool, true, false, List, [], ◌∷◌, ◌++◌}
use Rattle.std.proofs.Common.{Option, Some, None, refl, sym, ◌∙◌, ap}
use Rattle.std.specs.List.{Contains}
use Rattle.rule_questions.specs.model.Programs.{Program}
use Rattle.rule_questions.specs.model.Bounds.{Bound}
use Rattle.bound_fixpoint.specs.Keys.{has_key, lacks, start_bounds}
use Rattle.bound_fixpoint.specs.Derivations.{Derivation, bound_found, first_of, bounds_of, number_from, number_in}
use Rattle.bound_fixpoint.proofs.Cases.{by_cases, none_some, some_same}
use Rattle.bound_fixpoint.proofs.ListMembers.{contains-first, contains-later}

-- of two bounds the first counts, where there is one
pub first_of-some : (x y : Option Bound) (b : Bound) → x ≡ Some b → first_of x y ≡ Some b
first_of-some None y b e = absurd (none_some b e)
first_of-some (Some a) y b e = e

-- if there is no first value, the second one is taken
pub first_of-none : (x y : Option Bound) → x ≡ None → first_of x y ≡ y
first_of-none None y e = refl
first_of-none (Some a) y e = absurd (none_some a (sym e))

-- a bound that is the first of two is one of them
pub first_of-cases : (x y : Option Bound) (b : Bound) → first_of x y ≡ Some b
    → (x ≡ Some b) ⊎ ((x ≡ None) × (y ≡ Some b))
first_of-cases None y b e = inr (refl, e)
first_of-cases (Some a) y b e = inl e

-- where the first of two bounds is missing, both are
pub first_of-missing : (x y : Option Bound) → first_of x y ≡ None → (x ≡ None) × (y ≡ None)
first_of-missing None y e = (refl, e)
first_of-missing (Some a) y e = absurd (none_some a (sym e))

-- `first_of` is associative
pub first_of-assoc : (x y z : Option Bound) → first_of x (first_of y z) ≡ first_of (first_of x y) z
first_of-assoc None y z = refl
first_of-assoc (Some a) y z = refl

-- the derived bound of a key in appended lists is that in the first one, or else that in the second
pub found-append : (fs gs : List Derivation) (t i : ℕ)
    → bound_found (fs ++ gs) t i ≡ first_of (bound_found fs t i) (bound_found gs t i)
found-append [] gs t i = refl
found-append (f ∷ fs) gs t i = go (has_key f.keys t i) refl (found-append fs gs t i)
  where
    go : (v : Bool) → has_key f.keys t i ≡ v
        → bound_found (fs ++ gs) t i ≡ first_of (bound_found fs t i) (bound_found gs t i)
        → bound_found (f ∷ fs ++ gs) t i ≡ first_of (bound_found (f ∷ fs) t i) (bound_found gs t i)
    go true e ih = rw e refl
    go false e ih = rw e ih

-- the known bound of a key with appended lists is that with the first one, or else the one derived in the second
pub bounds_of-append : (p : Program) (fs gs : List Derivation) (t i : ℕ)
    → bounds_of p (fs ++ gs) t i ≡ first_of (bounds_of p fs t i) (bound_found gs t i)
bounds_of-append p fs gs t i =
    ap (λ (o : Option Bound). first_of (start_bounds p t i) o) (found-append fs gs t i)
    ∙ first_of-assoc (start_bounds p t i) (bound_found fs t i) (bound_found gs t i)

-- a known bound stays when derivations are added
pub bounds_of-kept : (p : Program) (fs gs : List Derivation) (t i : ℕ) (b : Bound) → bounds_of p fs t i ≡ Some b
    → bounds_of p (fs ++ gs) t i ≡ Some b
bounds_of-kept p fs gs t i b e =
    bounds_of-append p fs gs t i ∙ first_of-some (bounds_of p fs t i) (bound_found gs t i) b e

-- a key that isn't missing isn't missing after more derivations
pub known_stays : (p : Program) (fs gs : List Derivation) (t i : ℕ) → lacks (bounds_of p fs t i) ≡ false
    → lacks (bounds_of p (fs ++ gs) t i) ≡ false
known_stays p fs gs t i e = ap lacks (bounds_of-append p fs gs t i) ∙ first (bounds_of p fs t i) e
  where
    first : (o : Option Bound) → lacks o ≡ false → lacks (first_of o (bound_found gs t i)) ≡ false
    first None k = absurd (let none : ⊥ = cc in none)
    first (Some b) k = refl

-- a key that the added derivations have isn't missing
pub found_known : (p : Program) (fs gs : List Derivation) (t i : ℕ) → lacks (bound_found gs t i) ≡ false
    → lacks (bounds_of p (fs ++ gs) t i) ≡ false
found_known p fs gs t i e = ap lacks (bounds_of-append p fs gs t i) ∙ second (bounds_of p fs t i)
  where
    second : (o : Option Bound) → lacks (first_of o (bound_found gs t i)) ≡ false
    second None = e
    second (Some b) = refl

-- an unknown key gets the bound that the added derivations give
pub bounds_of-new : (p : Program) (fs gs : List Derivation) (t i : ℕ) → bounds_of p fs t i ≡ None
    → bounds_of p (fs ++ gs) t i ≡ bound_found gs t i
bounds_of-new p fs gs t i e =
    bounds_of-append p fs gs t i ∙ first_of-none (bounds_of p fs t i) (bound_found gs t i) e

-- where a bound is missing with joined lists, it is missing with the first, and isn't found in the second
pub bounds_of-missing : (p : Program) (fs gs : List Derivation) (t i : ℕ) → bounds_of p (fs ++ gs) t i ≡ None
    → (bounds_of p fs t i ≡ None) × (bound_found gs t i ≡ None)
bounds_of-missing p fs gs t i e =
    first_of-missing (bounds_of p fs t i) (bound_found gs t i) (sym (bounds_of-append p fs gs t i) ∙ e)

-- a derivation gives the bound of its keys
pub found-here : (f : Derivation) (fs : List Derivation) (t i : ℕ) → has_key f.keys t i ≡ true
    → bound_found (f ∷ fs) t i ≡ Some f.bound
found-here f fs t i e = rw e refl

-- if the first derivation hasn't the key, the others give its bound
pub found-later : (f : Derivation) (fs : List Derivation) (t i : ℕ) → has_key f.keys t i ≡ false
    → bound_found (f ∷ fs) t i ≡ bound_found fs t i
found-later f fs t i e = rw e refl

-- a derived bound is that of a derivation with the key
pub found-derivation : (fs : List Derivation) (t i : ℕ) (b : Bound) → bound_found fs t i ≡ Some b
    → (f : Derivation) × Contains fs f × (has_key f.keys t i ≡ true) × (f.bound ≡ b)
found-derivation [] t i b e = absurd (none_some b e)
found-derivation (f ∷ fs) t i b e = by_cases (has_key f.keys t i) here (λ m. later (found-derivation fs t i b (skipped m)))
  where
    skipped : has_key f.keys t i ≡ false → bound_found fs t i ≡ Some b
    skipped m = sym (found-later f fs t i m) ∙ e

    here : has_key f.keys t i ≡ true → (g : Derivation) × Contains (f ∷ fs) g × (has_key g.keys t i ≡ true) × (g.bound ≡ b)
    here m = (f, contains-first f fs, m, some_same f.bound b (sym (found-here f fs t i m) ∙ e))

    later : ((g : Derivation) × Contains fs g × (has_key g.keys t i ≡ true) × (g.bound ≡ b))
        → (g : Derivation) × Contains (f ∷ fs) g × (has_key g.keys t i ≡ true) × (g.bound ≡ b)
    later rest = (rest.0, contains-later rest.0 f fs rest.1, rest.2, rest.3)

-- the number of a derived key stays when derivations are added
pub number_from-kept : (n : ℕ) (fs gs : List Derivation) (t i : ℕ) (b : Bound) → bound_found fs t i ≡ Some b
    → number_from n (fs ++ gs) t i ≡ number_from n fs t i
number_from-kept n [] gs t i b e = absurd (none_some b e)
number_from-kept n (f ∷ fs) gs t i b e =
    by_cases (has_key f.keys t i) here
    (λ m. later m (number_from-kept (suc n) fs gs t i b (sym (found-later f fs t i m) ∙ e)))
  where
    here : has_key f.keys t i ≡ true → number_from n (f ∷ fs ++ gs) t i ≡ number_from n (f ∷ fs) t i
    here m = rw m refl

    later : has_key f.keys t i ≡ false → number_from (suc n) (fs ++ gs) t i ≡ number_from (suc n) fs t i
        → number_from n (f ∷ fs ++ gs) t i ≡ number_from n (f ∷ fs) t i
    later m ih = rw m ih

-- the number of its lemma stays when derivations are added
pub number_in-kept : (fs gs : List Derivation) (t i : ℕ) (b : Bound) → bound_found fs t i ≡ Some b
    → number_in (fs ++ gs) t i ≡ number_in fs t i
number_in-kept fs gs zero i b e = refl
number_in-kept fs gs (suc t) i b e = number_from-kept 0 fs gs (suc t) i b e
