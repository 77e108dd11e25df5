-- The laws from which it follows that a call has one answer.
use Rattle.its_reader.specs.its_text.Spelling.{OneProgram}
use Rattle.its_reader.specs.its_text.Verdicts.{VerdictsAreSpelled}
use Rattle.its_reader.proofs.its_text.ReaderLaws.{one_program}
use Rattle.its_reader.proofs.its_text.SpelledVerdicts.{verdicts_are_spelled}
use Rattle.location_facts.specs.Laws.{KeptFactsAreOne}
use Rattle.location_facts.proofs.Next.{kept-one}
use Rattle.facts_report.specs.WithFacts.{ReportsWithFactsAreOne}
use Rattle.facts_report.proofs.OneDerivation.{one_derivation_each}
use Rattle.form_verdicts.specs.Laws.{VerdictsAreOne}
use Rattle.proof_forms.specs.Laws.{ProofTextsAreDecided}
use Rattle.run_replay.specs.ReplayLaws.{ReplaysAreDecided}
use Rattle.time_bounds.specs.AnalysisLaws.{AnalysesAreOne}
use Rattle.time_bounds.proofs.OneAnalysis.{analysis_one}
use Rattle.time_bounds.proofs.OneOutcome.{outcome_one}
use Rattle.time_bounds.proofs.OneProgram.{program_searches_one}

-- a text spells one program, and is read as it exactly if it spells it within the limits; an analysis has one outcome;
-- one list of facts is kept, with one report; steps are a run in range or have one first bad step; and a text is that of
-- one proof file or has one first refusal, and a proof file has one verdict
pub record Determined : Type 0 where
  pub programs : OneProgram
  pub verdicts : VerdictsAreSpelled
  pub reports : AnalysesAreOne
  pub facts : KeptFactsAreOne
  pub derivations : ReportsWithFactsAreOne
  pub replays : ReplaysAreDecided
  pub proofs : ProofTextsAreDecided
  pub checks : VerdictsAreOne

-- all these laws hold; the last three are the laws of replays, of texts of proof files and of verdicts
pub determined : ReplaysAreDecided → ProofTextsAreDecided → VerdictsAreOne → Determined
determined replays proofs checks = record {
  programs = one_program;
  verdicts = verdicts_are_spelled;
  reports = record {
    each = λ p pivots r q h k. analysis_one p pivots (program_searches_one.each p pivots) r q h k;
    outcomes = λ p pivots x y h l k m. outcome_one p pivots (program_searches_one.each p pivots) x y h l k m;
  };
  facts = kept-one;
  derivations = one_derivation_each;
  replays = replays;
  proofs = proofs;
  checks = checks;
}
