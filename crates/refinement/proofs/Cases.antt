-- Through cases, some path is always taken.
use Rattle.std.proofs.Common.{◌≡◌, ◌⊎◌, inl, inr, zero, suc, ◌+◌, List, [], ◌∷◌, ◌++◌, length, ℤ, pos, negsuc}
use Rattle.std.proofs.Common.{refl, subst, arith, append_assoc}
use Rattle.std.specs.Prelude.{◌≤ℤ◌, ◌<ℤ◌}
use Rattle.std.specs.List.{Contains}
use Rattle.std.proofs.lemmas.Int.{ints}
use Rattle.std.proofs.lemmas.List.Elements.{Contains-append_left, Contains-append_right, Contains-append_cases, All-push}
use Rattle.model.specs.Terms.{value}
use Rattle.model.specs.Programs.{Atom, Rule, AtomHolds, GuardHolds}
use Rattle.refinement.specs.Sections.{Cases, To, Never, If, Section, Path, paths, passes, fails}
use Rattle.refinement.specs.Obligations.{guard_along, IsRightAt, AreCasesRight}

-- an integer is at least 0 or below it
pub at_least_or_below : (z : ℤ) → (pos 0 ≤ℤ z) ⊎ (z <ℤ pos 0)
at_least_or_below (pos n) = inl (omega (arith, ints))
at_least_or_below (negsuc n) = inr (omega (arith, ints))

-- if the guard along a path and one more atom hold, the guard along the path with that atom holds
pub one_more_atom : (r : Rule) (atoms : List Atom) (a : Atom) (env : List ℤ) → GuardHolds env (guard_along r atoms)
    → AtomHolds env a → GuardHolds env (guard_along r (atoms ++ a ∷ []))
one_more_atom r atoms a env h one =
    subst (λ (guard : List Atom). GuardHolds env guard) (append_assoc r.guard atoms (a ∷ []))
    (All-push (AtomHolds env) (r.guard ++ atoms) a h one)

-- a path of cases that is taken: the guard along it holds
pub record IsTaken (r : Rule) (atoms : List Atom) (cases : Cases) (env : List ℤ) : Type 0 where
  pub path : Path
  pub member : Contains (paths atoms cases) path
  pub holds : GuardHolds env (guard_along r path.atoms)

-- if the guard holds, some path to a copy is taken, provided that no path to nowhere can be
pub taken : (section : Section) (r : Rule) (env : List ℤ) → length env ≡ r.left + r.free → (atoms : List Atom)
    (cases : Cases) → AreCasesRight section r atoms cases → GuardHolds env (guard_along r atoms)
    → IsTaken r atoms cases env
taken section r env len atoms (To k) right holds = record {
  path = record { atoms = atoms; copy = k };
  member = (zero, omega arith, refl);
  holds = holds;
}
taken section r env len atoms Never right holds = absurd (right.none env len holds)
taken section r env len atoms (If f yes_cases no_cases) (right, wrong) holds =
    go (at_least_or_below (value f env)) (taken section r env len (atoms ++ passes f ∷ []) yes_cases right)
    (taken section r env len (atoms ++ fails f ∷ []) no_cases wrong)
  where
    first : IsTaken r (atoms ++ passes f ∷ []) yes_cases env → IsTaken r atoms (If f yes_cases no_cases) env
    first t = record {
      path = t.path;
      member = Contains-append_left (paths (atoms ++ passes f ∷ []) yes_cases)
          (paths (atoms ++ fails f ∷ []) no_cases) t.path t.member;
      holds = t.holds;
    }

    second : IsTaken r (atoms ++ fails f ∷ []) no_cases env → IsTaken r atoms (If f yes_cases no_cases) env
    second t = record {
      path = t.path;
      member = Contains-append_right (paths (atoms ++ passes f ∷ []) yes_cases)
          (paths (atoms ++ fails f ∷ []) no_cases) t.path t.member;
      holds = t.holds;
    }

    go : (pos 0 ≤ℤ value f env) ⊎ (value f env <ℤ pos 0)
        → (GuardHolds env (guard_along r (atoms ++ passes f ∷ [])) → IsTaken r (atoms ++ passes f ∷ []) yes_cases env)
        → (GuardHolds env (guard_along r (atoms ++ fails f ∷ [])) → IsTaken r (atoms ++ fails f ∷ []) no_cases env)
        → IsTaken r atoms (If f yes_cases no_cases) env
    go (inl up) ih jh = first (ih (one_more_atom r atoms (passes f) env holds up))
    go (inr down) ih jh = second (jh (one_more_atom r atoms (fails f) env holds down))

-- each path of right cases is right
pub right-path : (section : Section) (r : Rule) (atoms : List Atom) (cases : Cases) (path : Path)
    → AreCasesRight section r atoms cases → Contains (paths atoms cases) path
    → IsRightAt section r path.atoms path.copy
right-path section r atoms (To k) path right (zero, low, at) =
    subst (λ (x : Path). IsRightAt section r x.atoms x.copy) at right
right-path section r atoms (To k) path right (suc j, low, at) = absurd (omega (arith, low))
right-path section r atoms Never path right (j, low, at) = absurd (omega (arith, low))
right-path section r atoms (If f yes_cases no_cases) path (right, wrong) member =
    go (Contains-append_cases (paths (atoms ++ passes f ∷ []) yes_cases) (paths (atoms ++ fails f ∷ []) no_cases) path member)
    (right-path section r (atoms ++ passes f ∷ []) yes_cases path right)
    (right-path section r (atoms ++ fails f ∷ []) no_cases path wrong)
  where
    go : Contains (paths (atoms ++ passes f ∷ []) yes_cases) path ⊎ Contains (paths (atoms ++ fails f ∷ []) no_cases) path
        → (Contains (paths (atoms ++ passes f ∷ []) yes_cases) path → IsRightAt section r path.atoms path.copy)
        → (Contains (paths (atoms ++ fails f ∷ []) no_cases) path → IsRightAt section r path.atoms path.copy)
        → IsRightAt section r path.atoms path.copy
    go (inl one) ih jh = ih one
    go (inr other) ih jh = jh other
