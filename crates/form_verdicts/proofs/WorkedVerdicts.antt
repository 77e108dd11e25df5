-- Verdicts on small files.
use Rattle.std.proofs.Common.{◌≡◌, ℕ, List, [], ◌∷◌, get_or, refl, ap, arith, codes}
use Rattle.std.proofs.lemmas.List.Elements.{All-nil}
use Rattle.std.specs.Fmt.{digits}
use Rattle.model.specs.WorkedRuns.{countdown}
use Rattle.symbol_facts.specs.Facts.{IsSymbolFact}
use Rattle.check_refined.specs.Files.{RefusesFile}
use Rattle.check_refined.specs.Worked.{FilesAreAnswered, claiming, citing, first_lemma, first_claim}
use Rattle.check_refined.specs.declared.refusal.FileRefusal.TheVariants as by
use Rattle.refinement_check.specs.declared.fault.SectionFault.TheVariants as fault
use Rattle.cert_types.specs.declared.answer.Reason.TheVariants as node_reason
use Rattle.claims_text.specs.Statements.{stated_text}
use Rattle.form_verdicts.specs.Verdicts.{IsRefinedRefusal}
use Rattle.form_verdicts.specs.Worked.{VerdictsAreWorkedOut}
use Rattle.form_verdicts.proofs.RefinedVerdicts.{one_refined_refusal}
use Rattle.form_verdicts.proofs.WorkedSections.{section_text, no_fact}

module _ (answered : FilesAreAnswered) where
  claim_text : IsRefinedRefusal countdown claiming (codes "no claim 1: lemma\n")
  unfolding digits
  claim_text = record {
    refusal = by.Claim first_claim;
    refused = answered.claim_refused;
    result_is = refl;
  }

  lemma_text : IsRefinedRefusal countdown citing (codes "no lemma 1: shape\n")
  unfolding digits
  lemma_text = record {
    refusal = by.Lemma first_lemma;
    refused = answered.lemma_refused;
    result_is = refl;
  }

  -- the digit of the claim that is refused is another one, and a claim isn't a lemma
  other : IsRefinedRefusal countdown claiming (codes "no claim 2: lemma\n") → ⊥
  other h =
      let digit : 49 ≡ 50 =
      ap (λ (w : List ℕ). get_or w 9 0) (one_refined_refusal countdown claiming _ _ claim_text h) in
      omega (arith, digit)

  no_claim : IsRefinedRefusal countdown citing (codes "no claim 1: lemma\n") → ⊥
  no_claim h =
      let letter : 108 ≡ 99 =
      ap (λ (w : List ℕ). get_or w 3 0) (one_refined_refusal countdown citing _ _ lemma_text h) in
      omega (arith, letter)

  pub verdicts_worked : VerdictsAreWorkedOut
  unfolding digits stated_text
  verdicts_worked = record {
    empty = record {
      facts = [];
      stated = [];
      accepted = answered.empty;
      by_copies = refl;
      facts_hold = All-nil (IsSymbolFact countdown);
      hold = tt;
      result_is = refl;
    };
    section = section_text;
    no_fact = no_fact;
    claim = claim_text;
    other_claim = other;
    not_accepted = λ text h. answered.claim_not_accepted h.stated h.accepted;
    lemma = lemma_text;
    not_claim = no_claim;
    node = record {
      refusal = by.Node 2 1 node_reason.Shape;
      refused = answered.node_refused;
      result_is = refl;
    };
    start = record {
      refusal = by.Section fault.Start;
      refused = answered.section_refused;
      result_is = refl;
    };
    names = record {
      refusal = by.Names;
      refused = answered.names_refused;
      result_is = refl;
    };
    no_names = refl;
    facts = refl;
    no_section = λ text h. h;
  }
