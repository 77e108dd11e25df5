-- A section that is shown is right: a fact that can't fail after a rule holds there.
use Rattle.std.proofs.Common.{◌≡◌, ◌⊎◌, inl, inr, ◌+◌, List, [], ◌∷◌, ◌++◌, length, map, ℤ, pos}
use Rattle.std.proofs.Common.{refl, sym, ◌∙◌, ap, subst}
use Rattle.std.specs.Prelude.{◌≤ℤ◌, ◌<ℤ◌, ◌+ℤ◌, ◌-ℤ◌, ◌*ℤ◌, neg_ℤ}
use Rattle.std.specs.Int.{int_pow}
use Rattle.std.proofs.lemmas.List.Elements.{All-push, All-weaker}
use Rattle.std.proofs.Math.ListN.{get_or-map}
use Rattle.model.specs.Terms.{Term, Literal, Variable, Negation, Addition, Subtraction, Multiplication, Exponentiation}
use Rattle.model.specs.Terms.{value}
use Rattle.model.specs.Programs.{Atom, Rule, Program, AtomHolds, GuardHolds}
use Rattle.refinement.specs.Sections.{Cases, To, Never, If, Branch, Section, passes, fails}
use Rattle.refinement.specs.Obligations.{moved, NoneMeet, guard_along, guard_with_failure, AreCasesShown}
use Rattle.refinement.specs.Obligations.{IsBranchShown, IsShownBy, IsShown, AreCasesRight, IsBranchRight, IsRight}
use Rattle.refinement.proofs.Cases.{at_least_or_below}

-- the value of an expression at new values is that of the expression with the updates in place of its variables
pub value-moved : (f : Term) (us : List Term) (env : List ℤ) → value (moved f us) env ≡ value f (map (λ u. value u env) us)
value-moved (Literal z) us env = refl
value-moved (Variable i) us env = sym (get_or-map (λ (u : Term). value u env) us i (Literal (pos 0)))
value-moved (Negation e) us env = ap neg_ℤ (value-moved e us env)
value-moved (Addition d e) us env =
    ap (λ (z : ℤ). z +ℤ value (moved e us) env) (value-moved d us env)
    ∙ ap (λ (z : ℤ). value d (map (λ u. value u env) us) +ℤ z) (value-moved e us env)
value-moved (Subtraction d e) us env =
    ap (λ (z : ℤ). z -ℤ value (moved e us) env) (value-moved d us env)
    ∙ ap (λ (z : ℤ). value d (map (λ u. value u env) us) -ℤ z) (value-moved e us env)
value-moved (Multiplication d e) us env =
    ap (λ (z : ℤ). z *ℤ value (moved e us) env) (value-moved d us env)
    ∙ ap (λ (z : ℤ). value d (map (λ u. value u env) us) *ℤ z) (value-moved e us env)
value-moved (Exponentiation e n) us env = ap (λ (z : ℤ). int_pow z n) (value-moved e us env)

-- a fact that can't fail after a rule holds there
pub fact-after : (r : Rule) (atoms : List Atom) (f : Term) (env : List ℤ) → NoneMeet r (guard_with_failure r atoms f)
    → length env ≡ r.left + r.free → GuardHolds env (guard_along r atoms)
    → pos 0 ≤ℤ value f (map (λ u. value u env) r.updates)
fact-after r atoms f env none len holds = go (at_least_or_below (value f (map (λ u. value u env) r.updates)))
  where
    go : (pos 0 ≤ℤ value f (map (λ u. value u env) r.updates)) ⊎ (value f (map (λ u. value u env) r.updates) <ℤ pos 0)
        → pos 0 ≤ℤ value f (map (λ u. value u env) r.updates)
    go (inl up) = up
    go (inr down) =
        let failing : AtomHolds env (fails (moved f r.updates)) =
        subst (λ (z : ℤ). z <ℤ pos 0) (sym (value-moved f r.updates env)) down in
        absurd (none.none env len
        (All-push (AtomHolds env) (guard_along r atoms) (fails (moved f r.updates)) holds failing))

-- cases that are shown are right
pub right-cases : (section : Section) (r : Rule) (atoms : List Atom) (cases : Cases)
    → AreCasesShown NoneMeet section r atoms cases → AreCasesRight section r atoms cases
right-cases section r atoms (To k) shown = record {
  copy = shown.copy;
  there = shown.there;
  target = shown.target;
  facts = λ env len holds. All-weaker (λ f. NoneMeet r (guard_with_failure r atoms f))
      (λ f. pos 0 ≤ℤ value f (map (λ u. value u env) r.updates))
      (λ f none. fact-after r atoms f env none len holds) shown.copy.facts shown.facts;
}
right-cases section r atoms Never shown = shown
right-cases section r atoms (If f yes_cases no_cases) (first, second) = (
  right-cases section r (atoms ++ passes f ∷ []) yes_cases first,
  right-cases section r (atoms ++ fails f ∷ []) no_cases second,
)

-- branches that are shown are right
right-branch : (p : Program) (section : Section) (b : Branch) → IsBranchShown NoneMeet p section b → IsBranchRight p section b
right-branch p section b shown = record {
  copy = shown.copy;
  rule = shown.rule;
  fits = shown.fits;
  cases = right-cases section shown.rule (map passes shown.copy.facts) b.cases shown.cases;
}

-- sections that are shown are right
pub right-section : (p : Program) (section : Section) → IsShown p section → IsRight p section
right-section p section shown = record {
  first = shown.first;
  branches = All-weaker (IsBranchShown NoneMeet p section) (IsBranchRight p section) (right-branch p section) section.branches
      shown.branches;
  complete = shown.complete;
}

-- a section that is shown by one notion of unsatisfiable guards is shown by each weaker one
module _ (IsUnmet IsWeakly : Rule → List Atom → Type 0)
    (weaker : (r : Rule) (atoms : List Atom) → IsUnmet r atoms → IsWeakly r atoms) where
  weaker-cases : (section : Section) (r : Rule) (atoms : List Atom) (cases : Cases)
      → AreCasesShown IsUnmet section r atoms cases → AreCasesShown IsWeakly section r atoms cases
  weaker-cases section r atoms (To k) shown = record {
    copy = shown.copy;
    there = shown.there;
    target = shown.target;
    facts = All-weaker (λ f. IsUnmet r (guard_with_failure r atoms f)) (λ f. IsWeakly r (guard_with_failure r atoms f))
        (λ f unmet. weaker r (guard_with_failure r atoms f) unmet) shown.copy.facts shown.facts;
  }
  weaker-cases section r atoms Never shown = weaker r (guard_along r atoms) shown
  weaker-cases section r atoms (If f yes_cases no_cases) (first, second) = (
    weaker-cases section r (atoms ++ passes f ∷ []) yes_cases first,
    weaker-cases section r (atoms ++ fails f ∷ []) no_cases second,
  )

  weaker-branch : (p : Program) (section : Section) (b : Branch) → IsBranchShown IsUnmet p section b
      → IsBranchShown IsWeakly p section b
  weaker-branch p section b shown = record {
    copy = shown.copy;
    rule = shown.rule;
    fits = shown.fits;
    cases = weaker-cases section shown.rule (map passes shown.copy.facts) b.cases shown.cases;
  }

  pub weaker-section : (p : Program) (section : Section) → IsShownBy IsUnmet p section → IsShownBy IsWeakly p section
  weaker-section p section shown = record {
    first = shown.first;
    branches = All-weaker (IsBranchShown IsUnmet p section) (IsBranchShown IsWeakly p section)
        (weaker-branch p section) section.branches shown.branches;
    complete = shown.complete;
  }
