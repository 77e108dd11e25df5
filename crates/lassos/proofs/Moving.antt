-- A turn that moves on leads on from each moved configuration.
use Rattle.std.proofs.Common.{◌≡◌, ℕ, suc, List, [], ◌∷◌, ◌++◌, length, map, ℤ, pos, ◌+ℤ◌, ◌*ℤ◌}
use Rattle.std.proofs.Common.{refl, sym, ◌∙◌, ap, subst, arith}
use Rattle.std.proofs.lemmas.Int.{ints}
use Rattle.std.proofs.lemmas.List.Elements.{All-nil, All-cons}
use Rattle.int_laws.proofs.RingLaws.{add-mul_ℤ, one-mul_ℤ, zero-mul_ℤ}
use Rattle.int_laws.proofs.OrderLaws.{mul-le-mul_ℤ}
use Rattle.model.specs.Terms.{Term, value}
use Rattle.model.specs.Programs.{Program, Relation, AtLeast, MoreThan, AtMost, LessThan, EqualTo, Atom, Always, Compare}
use Rattle.model.specs.Programs.{Related, AtomHolds, GuardHolds}
use Rattle.model.specs.Runs.{Config, Step, IsStep}
use Rattle.lassos.specs.Lassos.{LeadsTo, moved, Keeps, StaysTrue, GuardStaysTrue, HaveSlopes, StepMoves, PathMoves, moved_config}

-- moving values doesn't change how many there are
length-moved : (vs ds : List ℤ) (n : ℕ) → length (moved vs ds n) ≡ length vs
length-moved [] ds n = refl
length-moved (v ∷ vs) [] n = refl
length-moved (v ∷ vs) (d ∷ ds) n = omega (arith, length-moved vs ds n)

-- differences for the first values alone move only these
moved-append : (vs free ds : List ℤ) (n : ℕ) → length ds ≡ length vs → moved (vs ++ free) ds n ≡ moved vs ds n ++ free
moved-append [] [] [] n is = refl
moved-append [] (z ∷ free) [] n is = refl
moved-append [] free (d ∷ ds) n is = absurd (omega (arith, is))
moved-append (v ∷ vs) free [] n is = absurd (omega (arith, is))
moved-append (v ∷ vs) free (d ∷ ds) n is =
    ap (λ (l : List ℤ). (v +ℤ pos n *ℤ d) ∷ l) (moved-append vs free ds n (omega (arith, is)))

-- values that move n + 1 times by differences are the values moved once and then n times
moved-once : (vs ds : List ℤ) (n : ℕ) → moved (moved vs ds 1) ds n ≡ moved vs ds (suc n)
moved-once [] ds n = refl
moved-once (v ∷ vs) [] n = refl
moved-once (v ∷ vs) (d ∷ ds) n =
    ap (λ (z : ℤ). z ∷ moved (moved vs ds 1) ds n) (number v d n)
    ∙ ap (λ (l : List ℤ). (v +ℤ pos (suc n) *ℤ d) ∷ l) (moved-once vs ds n)
  where
    number : (v d : ℤ) (n : ℕ) → (v +ℤ pos 1 *ℤ d) +ℤ pos n *ℤ d ≡ v +ℤ pos (suc n) *ℤ d
    number v d n = omega (arith, ints, one-mul_ℤ (pos 1) d refl, add-mul_ℤ (pos n) (pos 1) d)

-- a relation that is kept still holds after any number of moves
related_on : (r : Relation) (x y k l : ℤ) (n : ℕ) → Related r x y → Keeps r k l
    → Related r (x +ℤ pos n *ℤ k) (y +ℤ pos n *ℤ l)
related_on AtLeast x y k l n h keeps =
    omega (arith, ints, h, mul-le-mul_ℤ (pos n) l k (omega (arith, ints)) keeps)
related_on MoreThan x y k l n h keeps =
    omega (arith, ints, h, mul-le-mul_ℤ (pos n) l k (omega (arith, ints)) keeps)
related_on AtMost x y k l n h keeps =
    omega (arith, ints, h, mul-le-mul_ℤ (pos n) k l (omega (arith, ints)) keeps)
related_on LessThan x y k l n h keeps =
    omega (arith, ints, h, mul-le-mul_ℤ (pos n) k l (omega (arith, ints)) keeps)
related_on EqualTo x y k l n h keeps =
    ap (λ (z : ℤ). z +ℤ pos n *ℤ k) h ∙ ap (λ (z : ℤ). y +ℤ pos n *ℤ z) keeps

-- an atom and a guard that are kept still hold after any number of moves
atom_on : (env ds : List ℤ) (atom : Atom) (n : ℕ) → StaysTrue env ds atom → AtomHolds (moved env ds n) atom
atom_on env ds Always n h = tt
atom_on env ds (Compare x r y) n (holds, k, l, left, right, keeps) =
    subst (λ (z : ℤ). Related r z (value y (moved env ds n))) (sym (left.each n))
    (subst (λ (z : ℤ). Related r (value x env +ℤ pos n *ℤ k) z) (sym (right.each n))
    (related_on r (value x env) (value y env) k l n holds keeps))

guard_on : (env ds : List ℤ) (guard : List Atom) (n : ℕ) → GuardStaysTrue env ds guard → GuardHolds (moved env ds n) guard
guard_on env ds [] n h = All-nil (AtomHolds (moved env ds n))
guard_on env ds (atom ∷ atoms) n (here, later) =
    All-cons (AtomHolds (moved env ds n)) atom atoms (atom_on env ds atom n here) (guard_on env ds atoms n later)

-- new values move by the slopes of the updates
updates_on : (us : List Term) (env ds es : List ℤ) (n : ℕ) → HaveSlopes us env ds es
    → moved (map (λ u. value u env) us) es n ≡ map (λ u. value u (moved env ds n)) us
updates_on [] env ds [] n h = refl
updates_on [] env ds (e ∷ es) n h = absurd h
updates_on (u ∷ us) env ds [] n h = absurd h
updates_on (u ∷ us) env ds (e ∷ es) n (slope, later) =
    ap (λ (z : ℤ). z ∷ moved (map (λ u. value u env) us) es n) (sym (slope.each n))
    ∙ ap (λ (l : List ℤ). value u (moved env ds n) ∷ l) (updates_on us env ds es n later)

-- a step that moves leads on from the moved configuration
step_on : (p : Program) (b : Config) (s : Step) (c : Config) (ds es : List ℤ) (n : ℕ) → StepMoves p b s c ds es
    → IsStep p (moved_config b ds n) s (moved_config c es n)
step_on p b s c ds es n h = record {
  rule = h.rule;
  numbered = h.numbered;
  leads = record {
    source = h.leads.source;
    left = length-moved b.values ds n ∙ h.leads.left;
    free_ones = h.leads.free_ones;
    guard = subst (λ (env : List ℤ). GuardHolds env h.rule.guard) (moved-append b.values s.free ds n h.places)
        (guard_on (b.values ++ s.free) ds h.rule.guard n h.guard);
    target = h.leads.target;
    values = ap (λ (v : List ℤ). moved v es n) h.leads.values
        ∙ (updates_on h.rule.updates (b.values ++ s.free) ds es n h.updates
        ∙ ap (λ (env : List ℤ). map (λ u. value u env) h.rule.updates) (moved-append b.values s.free ds n h.places));
  };
}

-- a path that moves leads on from the moved configuration
pub path_on : (p : Program) (c : Config) (ds : List ℤ) (steps : List Step) (d : Config) (es : List ℤ) (n : ℕ)
    → PathMoves p c ds steps d es → LeadsTo p (moved_config c ds n) steps (moved_config d es n)
path_on p c ds [] d es n (e, same) =
    ap (λ (x : Config). moved_config x es n) e ∙ ap (λ (l : List ℤ). moved_config c l n) same
path_on p c ds (s ∷ earlier) d es n (b, bs, path, step) =
    (moved_config b bs n, path_on p c ds earlier b bs n path, step_on p b s d bs es n step)

-- a turn that moves on leads from each moved configuration to the next one
pub turn_on : (p : Program) (at : Config) (ds : List ℤ) (turn : List Step) → PathMoves p at ds turn (moved_config at ds 1) ds
    → (n : ℕ) → LeadsTo p (moved_config at ds n) turn (moved_config at ds (suc n))
turn_on p at ds turn moves n =
    subst (λ (v : List ℤ). LeadsTo p (moved_config at ds n) turn (record { at = at.at; values = v })) (moved-once at.values ds n)
    (path_on p at ds turn (moved_config at ds 1) ds n moves)

-- after no move the values are unchanged
pub moved-zero : (vs ds : List ℤ) → moved vs ds 0 ≡ vs
moved-zero [] ds = refl
moved-zero (v ∷ vs) [] = refl
moved-zero (v ∷ vs) (d ∷ ds) =
    ap (λ (z : ℤ). z ∷ moved vs ds 0) (omega (arith, ints, zero-mul_ℤ (pos 0) d refl))
    ∙ ap (λ (l : List ℤ). v ∷ l) (moved-zero vs ds)
