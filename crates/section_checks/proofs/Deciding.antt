-- Accepted sections are certified and spell valid programs, and first faults are unique.
use Rattle.std.proofs.Common.{◌≡◌, inl, inr, List, [], ◌∷◌, sym, ◌∙◌}
use Rattle.refined_programs.specs.Annotated.{section_of}
use Rattle.refinement_rows.proofs.CertifiedLaws.{certified_sections_keep_bounds}
use Rattle.cert_rules.specs.Reasons.{CheckOf, AllPass, IsFirstAmong}
use Rattle.section_checks.specs.Faults.{Fault, AllStagesPass, IsFirstInStages, stages}
use Rattle.section_checks.specs.Laws.{AcceptedSectionsAreCertified, AcceptedSectionsSpellValid, FirstFaultsAreUnique}
use Rattle.section_checks.proofs.Certifying.{certified}
use Rattle.section_checks.proofs.Validity.{spelled-valid}

-- if some check fails first, not all pass
not-all : (checks : List (CheckOf Fault)) (x : Fault) → IsFirstAmong checks x → AllPass checks → ⊥
not-all [] x first pass = first
not-all (c ∷ cs) x (inl (fails, same)) pass = fails pass.0
not-all (c ∷ cs) x (inr (holds, first)) pass = not-all cs x first pass.1

-- at most one check fails first
one-first : (checks : List (CheckOf Fault)) (x y : Fault) → IsFirstAmong checks x → IsFirstAmong checks y → x ≡ y
one-first [] x y first second = absurd first
one-first (c ∷ cs) x y (inl (fails, same)) (inl (fails', same')) = sym same ∙ same'
one-first (c ∷ cs) x y (inl (fails, same)) (inr (holds, other)) = absurd (fails holds)
one-first (c ∷ cs) x y (inr (holds, first)) (inl (fails, same)) = absurd (fails holds)
one-first (c ∷ cs) x y (inr (holds, first)) (inr (holds', second)) = one-first cs x y first second

-- if some check fails first over all stages, not all stages pass
not-all-stages : (ss : List (List (CheckOf Fault))) (x : Fault) → IsFirstInStages ss x → AllStagesPass ss → ⊥
not-all-stages [] x first pass = first
not-all-stages (cs ∷ ss) x (inl first) pass = not-all cs x first pass.0
not-all-stages (cs ∷ ss) x (inr (before, first)) pass = not-all-stages ss x first pass.1

one-in-stages : (ss : List (List (CheckOf Fault))) (x y : Fault) → IsFirstInStages ss x → IsFirstInStages ss y → x ≡ y
one-in-stages [] x y first second = absurd first
one-in-stages (cs ∷ ss) x y (inl first) (inl second) = one-first cs x y first second
one-in-stages (cs ∷ ss) x y (inl first) (inr (before, second)) = absurd (not-all cs x first before)
one-in-stages (cs ∷ ss) x y (inr (before, first)) (inl second) = absurd (not-all cs y second before)
one-in-stages (cs ∷ ss) x y (inr (before, first)) (inr (before', second)) = one-in-stages ss x y first second

pub accepted_sections_are_certified : AcceptedSectionsAreCertified
accepted_sections_are_certified = record {
  certified = certified;
  runs = λ p s valid accepted.
      certified_sections_keep_bounds.runs p (section_of s) (certified p s valid accepted);
  facts = λ p s valid accepted.
      certified_sections_keep_bounds.facts p (section_of s) (certified p s valid accepted);
}

pub accepted_sections_spell_valid : AcceptedSectionsSpellValid
accepted_sections_spell_valid = record { valid = spelled-valid }

pub first_faults_are_unique : FirstFaultsAreUnique
first_faults_are_unique = record {
  excluded = λ p s fault first accepted. not-all-stages (stages p s) fault first accepted;
  one = λ p s fault other first second. one-in-stages (stages p s) fault other first second;
}
