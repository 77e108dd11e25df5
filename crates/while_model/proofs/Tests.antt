-- A test holds, or a negation of one of its atoms does, and never both.
use Rattle.std.proofs.Common.{◌≡◌, ◌⊎◌, inl, inr, List, [], ◌∷◌, ℤ, pos, negsuc, ◌<◌, ◌≤ℤ◌, ◌<ℤ◌, refl, ap, subst, arith}
use Rattle.std.proofs.lemmas.Int.{ints}
use Rattle.std.proofs.lemmas.Bool.{cases_order}
use Rattle.std.proofs.lemmas.List.Elements.{All-nil, All-cons, All-head, All-tail}
use Rattle.model.specs.Terms.{value}
use Rattle.model.specs.Programs.{Relation, AtLeast, MoreThan, AtMost, LessThan, EqualTo, Atom, Always, Compare}
use Rattle.model.specs.Programs.{AtomHolds, GuardHolds}
use Rattle.while_model.specs.Moves.{negations_of, negations}
use Rattle.while_model.proofs.Members.{IsIn, is_in-left, is_in-right, is_in-append}

-- Of two integers one is less, or they are equal.
ordered : (x y : ℤ) → (x <ℤ y) ⊎ ((x ≡ y) ⊎ (y <ℤ x))
ordered (pos a) (pos b) = go (cases_order a b)
  where
    go : (a ≡ b) ⊎ ((a < b) ⊎ (b < a)) → (pos a <ℤ pos b) ⊎ ((pos a ≡ pos b) ⊎ (pos b <ℤ pos a))
    go (inl e) = inr (inl (ap (λ n. pos n) e))
    go (inr (inl l)) = inl (omega (arith, ints, l))
    go (inr (inr g)) = inr (inr (omega (arith, ints, g)))
ordered (pos a) (negsuc b) = inr (inr (omega (arith, ints)))
ordered (negsuc a) (pos b) = inl (omega (arith, ints))
ordered (negsuc a) (negsuc b) = go (cases_order a b)
  where
    go : (a ≡ b) ⊎ ((a < b) ⊎ (b < a)) → (negsuc a <ℤ negsuc b) ⊎ ((negsuc a ≡ negsuc b) ⊎ (negsuc b <ℤ negsuc a))
    go (inl e) = inr (inl (ap (λ n. negsuc n) e))
    go (inr (inl l)) = inr (inr (omega (arith, ints, l)))
    go (inr (inr g)) = inl (omega (arith, ints, g))

-- An atom holds, or one of its negations does.
pub holds_or_negated : (env : List ℤ) (atom : Atom)
    → AtomHolds env atom ⊎ (x : Atom) × IsIn x (negations_of atom) × AtomHolds env x
holds_or_negated env Always = inl tt
holds_or_negated env (Compare d r e) = by_relation r (ordered (value d env) (value e env))
  where
    by_relation : (r : Relation) → (value d env <ℤ value e env) ⊎ ((value d env ≡ value e env) ⊎ (value e env <ℤ value d env))
        → AtomHolds env (Compare d r e)
        ⊎ (x : Atom) × IsIn x (negations_of (Compare d r e)) × AtomHolds env x
    by_relation AtLeast (inl l) = inr (Compare d LessThan e, inl refl, l)
    by_relation AtLeast (inr (inl s)) = inl (omega (arith, ints, s))
    by_relation AtLeast (inr (inr g)) = inl (omega (arith, ints, g))
    by_relation MoreThan (inl l) = inr (Compare d AtMost e, inl refl, omega (arith, ints, l))
    by_relation MoreThan (inr (inl s)) = inr (Compare d AtMost e, inl refl, omega (arith, ints, s))
    by_relation MoreThan (inr (inr g)) = inl g
    by_relation AtMost (inl l) = inl (omega (arith, ints, l))
    by_relation AtMost (inr (inl s)) = inl (omega (arith, ints, s))
    by_relation AtMost (inr (inr g)) = inr (Compare d MoreThan e, inl refl, g)
    by_relation LessThan (inl l) = inl l
    by_relation LessThan (inr (inl s)) = inr (Compare d AtLeast e, inl refl, omega (arith, ints, s))
    by_relation LessThan (inr (inr g)) = inr (Compare d AtLeast e, inl refl, omega (arith, ints, g))
    by_relation EqualTo (inl l) = inr (Compare d LessThan e, inl refl, l)
    by_relation EqualTo (inr (inl s)) = inl s
    by_relation EqualTo (inr (inr g)) = inr (Compare d MoreThan e, inr (inl refl), g)

-- If a negation of an atom holds, the atom fails.
pub negation_excludes : (env : List ℤ) (atom x : Atom) → IsIn x (negations_of atom) → AtomHolds env x → AtomHolds env atom → ⊥
negation_excludes env Always x h holds k = h
negation_excludes env (Compare d AtLeast e) x (inl s) holds k =
    let n : value d env <ℤ value e env = subst (AtomHolds env) s holds in omega (arith, ints, n, k)
negation_excludes env (Compare d MoreThan e) x (inl s) holds k =
    let n : value d env ≤ℤ value e env = subst (AtomHolds env) s holds in omega (arith, ints, n, k)
negation_excludes env (Compare d AtMost e) x (inl s) holds k =
    let n : value e env <ℤ value d env = subst (AtomHolds env) s holds in omega (arith, ints, n, k)
negation_excludes env (Compare d LessThan e) x (inl s) holds k =
    let n : value e env ≤ℤ value d env = subst (AtomHolds env) s holds in omega (arith, ints, n, k)
negation_excludes env (Compare d EqualTo e) x (inl s) holds k =
    let n : value d env <ℤ value e env = subst (AtomHolds env) s holds in omega (arith, ints, n, k)
negation_excludes env (Compare d EqualTo e) x (inr (inl s)) holds k =
    let n : value e env <ℤ value d env = subst (AtomHolds env) s holds in omega (arith, ints, n, k)
negation_excludes env (Compare d AtLeast e) x (inr h) holds k = h
negation_excludes env (Compare d MoreThan e) x (inr h) holds k = h
negation_excludes env (Compare d AtMost e) x (inr h) holds k = h
negation_excludes env (Compare d LessThan e) x (inr h) holds k = h
negation_excludes env (Compare d EqualTo e) x (inr (inr h)) holds k = h

-- A test holds, or a negation of one of its atoms does.
pub test_or_negation : (env : List ℤ) (test : List Atom)
    → GuardHolds env test ⊎ (x : Atom) × IsIn x (negations test) × AtomHolds env x
test_or_negation env [] = inl (All-nil (AtomHolds env))
test_or_negation env (atom ∷ atoms) = go (holds_or_negated env atom) (test_or_negation env atoms)
  where
    go : AtomHolds env atom ⊎ (x : Atom) × IsIn x (negations_of atom) × AtomHolds env x
        → GuardHolds env atoms ⊎ (x : Atom) × IsIn x (negations atoms) × AtomHolds env x
        → GuardHolds env (atom ∷ atoms) ⊎ (x : Atom) × IsIn x (negations (atom ∷ atoms)) × AtomHolds env x
    go (inl h) (inl hs) = inl (All-cons (AtomHolds env) atom atoms h hs)
    go (inl h) (inr (x, there, holds)) = inr (x, is_in-right x (negations_of atom) (negations atoms) there, holds)
    go (inr (x, there, holds)) more = inr (x, is_in-left x (negations_of atom) (negations atoms) there, holds)

-- If a negation of an atom of a test holds, the test fails.
pub negation_fails : (env : List ℤ) (test : List Atom) (x : Atom) → IsIn x (negations test) → AtomHolds env x
    → ¬ (GuardHolds env test)
negation_fails env [] x h holds k = h
negation_fails env (atom ∷ atoms) x h holds k =
    go (is_in-append x (negations_of atom) (negations atoms) h) (λ r. negation_fails env atoms x r holds)
  where
    go : IsIn x (negations_of atom) ⊎ IsIn x (negations atoms) → (IsIn x (negations atoms) → ¬ (GuardHolds env atoms)) → ⊥
    go (inl here) later = negation_excludes env atom x here holds (All-head (AtomHolds env) atom atoms k)
    go (inr there) later = later there (All-tail (AtomHolds env) atom atoms k)
