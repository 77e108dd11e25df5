-- The obligations of a section, with which the program that it spells simulates the program: certain guards are
-- unsatisfiable.
use Rattle.std.specs.Prelude.{◌≡◌, ℕ, ◌+◌, List, [], ◌∷◌, ◌++◌, length, map, ℤ, pos, Some, slice_get, slice_index_or}
use Rattle.std.specs.List.{All, Contains}
use Rattle.model.specs.Terms.{Term, Literal, Variable, Negation, Addition, Subtraction, Multiplication, Exponentiation}
use Rattle.model.specs.Terms.{value}
use Rattle.model.specs.Programs.{Atom, Rule, Program, rule_at, GuardHolds}
use Rattle.refinement.specs.Sections.{Copy, Cases, To, Never, If, Branch, Section, passes, fails, AreAtLeastZero}

-- an expression with these expressions in place of its variables
abbrev pub moved : Term → List Term → Term
moved (Literal z) us = Literal z
moved (Variable i) us = slice_index_or us i (Literal (pos 0))
moved (Negation e) us = Negation (moved e us)
moved (Addition d e) us = Addition (moved d us) (moved e us)
moved (Subtraction d e) us = Subtraction (moved d us) (moved e us)
moved (Multiplication d e) us = Multiplication (moved d us) (moved e us)
moved (Exponentiation e n) us = Exponentiation (moved e us) n

-- no values of the rule's variables meet the atoms
pub record NoneMeet (r : Rule) (atoms : List Atom) : Type 0 where
  pub none : (env : List ℤ) → length env ≡ r.left + r.free → GuardHolds env atoms → ⊥

-- the value of an expression depends only on its first n variables
pub record ReadsFirst (n : ℕ) (f : Term) : Type 0 where
  pub each : (values more : List ℤ) → length values ≡ n → value f (values ++ more) ≡ value f values

-- the guard of a rule along a path
abbrev pub guard_along : Rule → List Atom → List Atom
guard_along r atoms = r.guard ++ atoms

-- the guard of a rule along a path, and the atom that a fact fails at the new values
abbrev pub guard_with_failure : Rule → List Atom → Term → List Atom
guard_with_failure r atoms fact = guard_along r atoms ++ fails (moved fact r.updates) ∷ []

-- given a notion of unsatisfiable guards: the copy with a number is one of the rule's target, and the guard along the
-- path is unsatisfiable together with one of the copy's facts failing after the rule
pub record IsShownAt (IsUnmet : Rule → List Atom → Type 0) (section : Section) (r : Rule) (atoms : List Atom) (k : ℕ) :
    Type 0 where
  pub copy : Copy
  pub there : slice_get section.copies k ≡ Some copy
  pub target : copy.over ≡ r.target
  pub facts : All (λ f. IsUnmet r (guard_with_failure r atoms f)) copy.facts

-- cases are shown after these atoms: each path to a copy is shown, and the guard along a path to nowhere is
-- unsatisfiable
abbrev pub AreCasesShown : (Rule → List Atom → Type 0) → Section → Rule → List Atom → Cases → Type 0
AreCasesShown IsUnmet section r atoms (To k) = IsShownAt IsUnmet section r atoms k
AreCasesShown IsUnmet section r atoms Never = IsUnmet r (guard_along r atoms)
AreCasesShown IsUnmet section r atoms (If f yes_cases no_cases) =
    AreCasesShown IsUnmet section r (atoms ++ passes f ∷ []) yes_cases
    × AreCasesShown IsUnmet section r (atoms ++ fails f ∷ []) no_cases

-- a branch is of a rule of the program that leaves the symbol below its source, and the facts there are over the rule's
-- left variables
pub record IsBranchOf (p : Program) (section : Section) (b : Branch) (copy : Copy) (r : Rule) : Type 0 where
  pub there : slice_get section.copies b.source ≡ Some copy
  pub numbered : rule_at p b.rule ≡ Some r
  pub leaves : r.source ≡ copy.over
  pub over_left : All (ReadsFirst r.left) copy.facts

-- a branch is shown: its cases are shown after the facts of its source
pub record IsBranchShown (IsUnmet : Rule → List Atom → Type 0) (p : Program) (section : Section) (b : Branch) :
    Type 0 where
  pub copy : Copy
  pub rule : Rule
  pub fits : IsBranchOf p section b copy rule
  pub cases : AreCasesShown IsUnmet section rule (map passes copy.facts) b.cases

-- the first copy is of the program's start symbol, and has no facts
pub record HasFirstCopy (p : Program) (section : Section) : Type 0 where
  pub copy : Copy
  pub there : slice_get section.copies 0 ≡ Some copy
  pub start : copy.over ≡ p.start
  pub facts : copy.facts ≡ []

-- there is a branch of the rule with a number at the copy with a number
pub record HasBranch (section : Section) (k t : ℕ) : Type 0 where
  pub branch : Branch
  pub member : Contains section.branches branch
  pub source : branch.source ≡ k
  pub rule : branch.rule ≡ t

-- each rule has a branch at each copy of its source
pub record HasBranches (p : Program) (section : Section) : Type 0 where
  pub each : (k : ℕ) (copy : Copy) (t : ℕ) (r : Rule) → slice_get section.copies k ≡ Some copy
      → rule_at p t ≡ Some r → r.source ≡ copy.over → HasBranch section k t

-- a section is shown by a notion of unsatisfiable guards: its first copy is one of the start symbol without facts, each
-- branch is shown, and none is missing
pub record IsShownBy (IsUnmet : Rule → List Atom → Type 0) (p : Program) (section : Section) : Type 0 where
  pub first : HasFirstCopy p section
  pub branches : All (IsBranchShown IsUnmet p section) section.branches
  pub complete : HasBranches p section

-- a section is shown, if a guard is unsatisfiable when no values meet it
abbrev pub IsShown : Program → Section → Type 0
IsShown p section = IsShownBy NoneMeet p section

-- the copy with a number is one of the rule's target, and its facts hold at the new values wherever the guard along the
-- path holds
pub record IsRightAt (section : Section) (r : Rule) (atoms : List Atom) (k : ℕ) : Type 0 where
  pub copy : Copy
  pub there : slice_get section.copies k ≡ Some copy
  pub target : copy.over ≡ r.target
  pub facts : (env : List ℤ) → length env ≡ r.left + r.free → GuardHolds env (guard_along r atoms)
      → AreAtLeastZero copy.facts (map (λ u. value u env) r.updates)

-- cases are right after these atoms: each path to a copy is right, and no values meet the guard along a path to nowhere
abbrev pub AreCasesRight : Section → Rule → List Atom → Cases → Type 0
AreCasesRight section r atoms (To k) = IsRightAt section r atoms k
AreCasesRight section r atoms Never = NoneMeet r (guard_along r atoms)
AreCasesRight section r atoms (If f yes_cases no_cases) =
    AreCasesRight section r (atoms ++ passes f ∷ []) yes_cases
    × AreCasesRight section r (atoms ++ fails f ∷ []) no_cases

-- a branch is right: its cases are right after the facts of its source
pub record IsBranchRight (p : Program) (section : Section) (b : Branch) : Type 0 where
  pub copy : Copy
  pub rule : Rule
  pub fits : IsBranchOf p section b copy rule
  pub cases : AreCasesRight section rule (map passes copy.facts) b.cases

-- a section is right: its first copy is one of the start symbol without facts, each branch is right, and none is
-- missing
pub record IsRight (p : Program) (section : Section) : Type 0 where
  pub first : HasFirstCopy p section
  pub branches : All (IsBranchRight p section) section.branches
  pub complete : HasBranches p section
