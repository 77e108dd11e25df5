-- The rules of obligations that are within the limits can be prepared.
use Rattle.std.proofs.Common.{◌≡◌, ℕ, suc, List, [], ◌∷◌, Option, Some, None, refl}
use Rattle.std.specs.Prelude.{slice_get}
use Rattle.std.specs.List.{AllByRecursion}
use Rattle.refined_programs.specs.model.Terms.{Term}
use Rattle.refined_programs.specs.model.Programs.{Atom, Rule, Program, rule_at}
use Rattle.refined_programs.specs.refinement.Sections.{Copy, facts_in}
use Rattle.refined_programs.specs.refinement.Obligations.{guard_along, guard_with_failure}
use Rattle.refined_programs.specs.its_model.Valid.{IsValid}
use Rattle.refined_programs.specs.Ends.{Goal, AtCopy, Nowhere, End}
use Rattle.refinement_rows.specs.guard_prep.Laws.{IsPreparable}
use Rattle.refinement_rows.proofs.guard_prep.StepLaws.{preparable}
use Rattle.section_checks.specs.Faults.{fact_obligations, obligations_at, obligations_of, IsWithinLimits}
use Rattle.section_checks.proofs.Certifying.{prepared-with}

-- the rules of the obligations of a copy's facts can be prepared
facts-prepared : (n j : ℕ) (r : Rule) → IsPreparable r → (atoms : List Atom) (facts : List Term) (by : List (List ℕ))
    → AllByRecursion (λ o. IsWithinLimits o.rule) (fact_obligations n j r atoms facts by)
    → AllByRecursion (λ o. IsPreparable o.rule) (fact_obligations n j r atoms facts by)
facts-prepared n j r prepared atoms [] by within = tt
facts-prepared n j r prepared atoms (f ∷ facts) [] within = tt
facts-prepared n j r prepared atoms (f ∷ facts) (ms ∷ by) within =
    (prepared-with r (guard_with_failure r atoms f) prepared within.0, facts-prepared n (suc j) r prepared atoms facts by within.1)

-- the rules of the obligations of an end can be prepared
goal-prepared : (copies : List Copy) (n : ℕ) (r : Rule) → IsPreparable r → (atoms : List Atom) (g : Goal)
    → AllByRecursion (λ o. IsWithinLimits o.rule) (obligations_at copies n r atoms g)
    → AllByRecursion (λ o. IsPreparable o.rule) (obligations_at copies n r atoms g)
goal-prepared copies n r prepared atoms (Nowhere by) within =
    (prepared-with r (guard_along r atoms) prepared within.0, tt)
goal-prepared copies n r prepared atoms (AtCopy k by) within =
    facts-prepared n 1 r prepared atoms (facts_in (slice_get copies k)) by within

-- over a valid program the rules of the obligations of an end can be prepared
pub obligations-prepared : (p : Program) → IsValid p → (copies : List Copy) (n t : ℕ) (e : End)
    → AllByRecursion (λ o. IsWithinLimits o.rule) (obligations_of copies n (rule_at p t) e)
    → AllByRecursion (λ o. IsPreparable o.rule) (obligations_of copies n (rule_at p t) e)
obligations-prepared p valid copies n t e within = go (rule_at p t) refl within
  where
    go : (o : Option Rule) → rule_at p t ≡ o
        → AllByRecursion (λ o. IsWithinLimits o.rule) (obligations_of copies n o e)
        → AllByRecursion (λ o. IsPreparable o.rule) (obligations_of copies n o e)
    go None f h = tt
    go (Some r) f h = goal-prepared copies n r (preparable p t r valid f) e.atoms e.goal h
