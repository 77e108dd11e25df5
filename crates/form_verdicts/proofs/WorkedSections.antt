-- The verdict on a file with a section.
use Rattle.std.proofs.Common.{◌≡◌, ℕ, List, [], ◌∷◌, negsuc, Some, None, get_or, refl, ap, arith, codes}
use Rattle.std.proofs.lemmas.Int.{ints}
use Rattle.std.proofs.lemmas.List.Elements.{All-nil, All-cons}
use Rattle.std.specs.Fmt.{digits}
use Rattle.model.specs.WorkedRuns.{countdown}
use Rattle.cert_types.specs.guard_prep.Tightening.{divisor_of}
use Rattle.section_checks.specs.Faults.{IsAccepted}
use Rattle.section_checks.specs.Laws.{HasDistinctNames}
use Rattle.refinement_check.specs.section_decide.Deciding.{section_fault}
use Rattle.refinement_check.proofs.section_decide.Deciding.{faults_are_computed}
use Rattle.cert_types.specs.cert_rules.Acceptance.{AcceptsLemmas, facts_of_lemmas}
use Rattle.cert_types.specs.cert_rules.GapChecks.{GapHolds}
use Rattle.cert_types.specs.cert_rules.Setting.{Setting}
use Rattle.cert_types.specs.cert_program.Laws.{AcceptsFileFor}
use Rattle.cert_types.specs.cert_program.RankedSets.{forms_at}
use Rattle.cert_types.specs.cert_program.Setting.{setting_of}
use Rattle.refined_files.specs.Files.{program_above}
use Rattle.symbol_facts.specs.Facts.{SymbolFact, IsSymbolFact}
use Rattle.check_refined.specs.Worked.{nothing}
use Rattle.claims_text.specs.Statements.{stated_text}
use Rattle.form_verdicts.specs.Verdicts.{IsRefinedAcceptance}
use Rattle.form_verdicts.specs.Worked.{section_with_constant_fact, file_of_section}
use Rattle.form_verdicts.proofs.RefinedVerdicts.{one_refined_acceptance}

-- the section has no fault
no_fault : section_fault countdown section_with_constant_fact ≡ None
unfolding divisor_of
no_fault = refl

accepted : IsAccepted countdown section_with_constant_fact
accepted = (faults_are_computed.none countdown section_with_constant_fact).0 no_fault

names : HasDistinctNames section_with_constant_fact
names = record { names = ((refl, refl), ((refl, refl), tt)); distinct = (refl, (refl, tt)) }

-- a plain part that says nothing is accepted
no_lemmas : (s : Setting) → AcceptsLemmas s []
unfolding AcceptsLemmas
no_lemmas s = tt

plain : AcceptsFileFor (program_above countdown (Some section_with_constant_fact)) nothing
plain = record {
  lemmas = no_lemmas (setting_of (program_above countdown (Some section_with_constant_fact)));
  gaps =
      All-nil
      (GapHolds (setting_of (program_above countdown (Some section_with_constant_fact))).program
      (forms_at (program_above countdown (Some section_with_constant_fact))));
}

-- the fact that its copies have, and that it holds
abbrev at_second : SymbolFact
at_second = record { symbol = 1; form = []; least = negsuc 0 }

holds : IsSymbolFact countdown at_second
holds = record { each = λ start steps c run at. omega (arith, ints) }

pub section_text : IsRefinedAcceptance countdown file_of_section (codes "accepted\nfact l1: 0 >= -1\n")
unfolding digits stated_text facts_of_lemmas
section_text = record {
  facts = at_second ∷ [];
  stated = [];
  accepted = record {
    accepted = record { section = (names, accepted); plain = plain; signed = refl; claims = refl };
    statements = refl;
  };
  by_copies = refl;
  facts_hold = All-cons (IsSymbolFact countdown) at_second [] holds (All-nil (IsSymbolFact countdown));
  hold = tt;
  result_is = refl;
}

-- byte 9 begins the line of the fact
pub no_fact : IsRefinedAcceptance countdown file_of_section (codes "accepted\n") → ⊥
no_fact h =
    let letter : 102 ≡ 0 =
    ap (λ (w : List ℕ). get_or w 9 0) (one_refined_acceptance countdown file_of_section _ _ section_text h) in
    omega (arith, letter)
