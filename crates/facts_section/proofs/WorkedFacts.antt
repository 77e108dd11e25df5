-- The worked facts have the values that were worked out.
use Rattle.std.proofs.Common.{◌≡◌, List, [], ◌∷◌, ap, refl, arith}
use Rattle.std.proofs.lemmas.Int.{ints}
use Rattle.refined_programs.specs.refinement.Sections.{Section}
use Rattle.facts_section.specs.Worked.{FactsAreWorkedOut}

-- an empty list has no first element
nil_cons : {A : Type 0} (x : A) (xs : List A) → [] ≡ x ∷ xs → ⊥
nil_cons x xs e = cc

pub facts_are_worked_out : FactsAreWorkedOut
facts_are_worked_out = record {
  difference = refl;
  opposite = refl;
  met = omega (arith, ints);
  unmet = λ h. omega (arith, ints, h);
  at_other = refl;
  at_start = refl;
  all_of_few = refl;
  implied = refl;
  not_implied = refl;
  in_a_circle = refl;
  first_copy = refl;
  other_copy = refl;
  branches = refl;
  without_branches = λ h. nil_cons _ _ (ap (λ (s : Section). s.branches) h);
}
