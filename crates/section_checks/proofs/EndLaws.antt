-- The checks of ends, for each end.
use Rattle.std.proofs.Common.{◌≡◌, ℕ, zero, suc, List, [], ◌∷◌, ◌++◌, map, Option, Some}
use Rattle.std.proofs.Common.{subst, arith}
use Rattle.std.specs.List.{AllByRecursion, Contains}
use Rattle.refined_programs.specs.model.Programs.{Rule, Program, rule_at}
use Rattle.refined_programs.specs.refinement.Sections.{Copy, passes, facts_of}
use Rattle.refinement_rows.specs.linear_forms.Certificates.{Implies, minus_one}
use Rattle.refinement_rows.specs.guard_prep.Prepared.{rows_of}
use Rattle.refined_programs.specs.Annotated.{Branch, Section, section_of}
use Rattle.refined_programs.specs.Ends.{End, ends}
use Rattle.cert_rules.specs.Reasons.{AllPass}
use Rattle.section_checks.specs.Faults.{AllStagesPass, BranchEnd, ends_of_branch, ends_of, GoalFits, shape_checks}
use Rattle.section_checks.specs.Faults.{Obligation, obligations_of, IsWithinLimits, limit_checks}
use Rattle.section_checks.specs.Faults.{obligation_checks, certificate_stages}

-- an obligation is met: its rule is within the limits, and its multipliers show that -1 follows from the rule's rows
pub record IsMet (o : Obligation) : Type 0 where
  pub within : IsWithinLimits o.rule
  pub shows : Implies (rows_of o.rule) o.by minus_one

-- an end has its shape, and its obligations, whatever its number, are met
pub record IsEndMet (copies : List Copy) (r : Option Rule) (e : End) : Type 0 where
  pub fits : GoalFits copies r e.goal
  pub number : ℕ
  pub met : AllByRecursion IsMet (obligations_of copies number r e)

-- an end of a branch has its shape, and its obligations are met
abbrev pub IsBranchEndMet : List Copy → BranchEnd → Type 0
IsBranchEndMet copies e = IsEndMet copies e.rule e.end

obligations-met : (n : ℕ) (os : List Obligation) → AllByRecursion (λ o. IsWithinLimits o.rule) os
    → AllPass (obligation_checks n os) → AllByRecursion IsMet os
obligations-met n [] within pass = tt
obligations-met n (o ∷ os) within pass =
    (record { within = within.0; shows = (pass.1).0 }, obligations-met n os within.1 (pass.1).1)

-- if the checks of shapes, limits and certificates pass, all ends are met
pub ends-met : (copies : List Copy) (n : ℕ) (es : List BranchEnd) → AllPass (shape_checks copies n es)
    → AllPass (limit_checks copies n es) → AllStagesPass (certificate_stages copies n es)
    → AllByRecursion (IsBranchEndMet copies) es
ends-met copies n [] shape limits certificates = tt
ends-met copies n (e ∷ es) shape limits certificates = (
  record {
    fits = shape.0;
    number = n;
    met = obligations-met n (obligations_of copies n e.rule e.end) (limits.0).1 certificates.0;
  },
  ends-met copies (suc n) es shape.1 limits.1 certificates.1,
)

-- a property of all elements of two lists joined is one of all of the first, and of all of the second
pub front-all : {X : Type 0} (P : X → Type 0) (xs ys : List X) → AllByRecursion P (xs ++ ys) → AllByRecursion P xs
front-all P [] ys h = tt
front-all P (x ∷ xs) ys h = (h.0, front-all P xs ys h.1)

pub rest-all : {X : Type 0} (P : X → Type 0) (xs ys : List X) → AllByRecursion P (xs ++ ys) → AllByRecursion P ys
rest-all P [] ys h = h
rest-all P (x ∷ xs) ys h = rest-all P xs ys h.1

-- a property of all images is one of each element's image
pub image-all : {X Y : Type 0} (P : Y → Type 0) (f : X → Y) (xs : List X) → AllByRecursion P (map f xs)
    → AllByRecursion (λ x. P (f x)) xs
image-all P f [] h = tt
image-all P f (x ∷ xs) h = (h.0, image-all P f xs h.1)

-- if all ends are met, those of each branch are
pub branch-met : (P : BranchEnd → Type 0) (p : Program) (s : Section) (branches : List Branch) (b : Branch)
    → Contains branches b → AllByRecursion P (ends_of p s branches) → AllByRecursion P (ends_of_branch p s b)
branch-met P p s [] b (i, low, at) h = absurd (omega (arith, low))
branch-met P p s (a ∷ branches) b (zero, low, at) h =
    subst (λ (x : Branch). AllByRecursion P (ends_of_branch p s x)) at
    (front-all P (ends_of_branch p s a) (ends_of p s branches) h)
branch-met P p s (a ∷ branches) b (suc i, low, at) h =
    branch-met P p s branches b (i, omega (arith, low), at)
    (rest-all P (ends_of_branch p s a) (ends_of p s branches) h)

-- if all ends are met, those of a branch's cases are
pub cases-met : (copies : List Copy) (p : Program) (s : Section) (branches : List Branch) (b : Branch) (r : Rule)
    → Contains branches b → rule_at p b.rule ≡ Some r
    → AllByRecursion (IsBranchEndMet copies) (ends_of p s branches)
    → AllByRecursion (IsEndMet copies (Some r)) (ends (map passes (facts_of (section_of s) b.source)) b.cases)
cases-met copies p s branches b r member numbered h =
    subst (λ (o : Option Rule). AllByRecursion (IsEndMet copies o) (ends (map passes (facts_of (section_of s) b.source)) b.cases)) numbered
    (image-all (IsBranchEndMet copies) (λ (e : End). record { source = b.source; rule = rule_at p b.rule; end = e })
    (ends (map passes (facts_of (section_of s) b.source)) b.cases)
    (branch-met (IsBranchEndMet copies) p s branches b member h))
