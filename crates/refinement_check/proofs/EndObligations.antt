-- The obligations of an end, by its rule and by its goal.
use Rattle.std.proofs.Common.{◌≡◌, ℕ, suc, List, [], ◌∷◌, Option, Some, refl, ◌∙◌, ap, subst}
use Rattle.std.specs.Prelude.{slice_get, Result, Ok, Err, IfOk}
use Rattle.refined_programs.specs.model.Terms.{Term}
use Rattle.refined_programs.specs.model.Programs.{Atom, Rule}
use Rattle.refined_programs.specs.refinement.Sections.{Copy, facts_in}
use Rattle.refined_programs.specs.refinement.Obligations.{guard_along}
use Rattle.refined_programs.specs.Ends.{Goal, AtCopy, Nowhere, End}
use Rattle.refinement_rows.specs.Certified.{with_guard}
use Rattle.section_checks.specs.Faults.{Obligation, fact_obligations, obligations_at, obligations_of}
use Rattle.refinement_check.specs.Views.{obligation_along, obligations_of_facts, obligations_by}

-- if two views are equal, an `Ok` result has the one exactly if it has the other
pub ok-equal : {X Y E : Type 0} (r : Result X E) (view : X → Y) (a b : Y) → a ≡ b → IfOk r (λ x. view x ≡ a)
    → IfOk r (λ x. view x ≡ b)
ok-equal (Ok x) view a b e h = h ∙ e
ok-equal (Err d) view a b e h = tt

-- the obligations of facts for the rule along a path are those for the rule
pub facts-along : (n j : ℕ) (r : Rule) (atoms : List Atom) (facts : List Term) (by : List (List ℕ))
    → obligations_of_facts n j (with_guard r (guard_along r atoms)) facts by ≡ fact_obligations n j r atoms facts by
facts-along n j r atoms [] by = refl
facts-along n j r atoms (f ∷ facts) [] = refl
facts-along n j r atoms (f ∷ facts) (ms ∷ by) =
    ap (λ (os : List Obligation). obligation_along (with_guard r (guard_along r atoms)) f ms n j ∷ os)
    (facts-along n (suc j) r atoms facts by)

-- the obligations of an end for the rule along its path are those for its rule
goal-along : (copies : List Copy) (n : ℕ) (r : Rule) (atoms : List Atom) (g : Goal)
    → obligations_by copies n (with_guard r (guard_along r atoms)) g ≡ obligations_at copies n r atoms g
goal-along copies n r atoms (Nowhere by) = refl
goal-along copies n r atoms (AtCopy k by) = facts-along n 1 r atoms (facts_in (slice_get copies k)) by

-- the obligations of an end for the rule along its path are those for its rule, if the rule is found by its number
pub obligations-along : (copies : List Copy) (n : ℕ) (r along : Rule) (o : Option Rule) (e : End)
    → along ≡ with_guard r (guard_along r e.atoms) → Some r ≡ o
    → obligations_by copies n along e.goal ≡ obligations_of copies n o e
obligations-along copies n r along o e same found =
    ap (λ (x : Rule). obligations_by copies n x e.goal) same
    ∙ (goal-along copies n r e.atoms e.goal
    ∙ subst (λ (x : Option Rule). obligations_at copies n r e.atoms e.goal ≡ obligations_of copies n x e) found refl)
