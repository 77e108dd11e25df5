-- A program has one report with one text, one proof file, one list of facts with a report, and one text of figures; and
-- a run has one tally.
use Rattle.std.proofs.Common.{◌≡◌, ℕ, List, length, map, sym, ◌∙◌, ap, subst}
use Rattle.std.proofs.lemmas.List.{length-map}
use Rattle.model.specs.Programs.{Program}
use Rattle.model.specs.Runs.{sizes_of_start}
use Rattle.command_line.specs.Requests.{default_pivots}
use Rattle.location_facts.specs.declared.fact.LocFact.{LocFact}
use Rattle.location_facts.specs.Strengthening.{strengthened}
use Rattle.facts_report.specs.FactTexts.{text_with_facts}
use Rattle.outcome.specs.Reports.{Report}
use Rattle.outcome.specs.Views.{report_of}
use Rattle.outcome.specs.cert_types.Views.{proof_of}
use Rattle.cert_text.specs.Texts.{text_of}
use Rattle.cert_types.specs.AnswerViews.{gap_of}
use Rattle.cert_types.specs.cert_rules.Gaps.{Gap}
use Rattle.cert_types.specs.cert_rules.Nodes.{Proof}
use Rattle.run_replay.specs.ReplayAnswers.{last_first}
use Rattle.run_replay.specs.Replays.{tally_along}
use Rattle.run_replay.specs.Runs.{Run}
use Rattle.time_bounds.specs.Analysis.{IsAnalysis}
use Rattle.koat_cli.specs.Figures.{text_of_figures}
use Rattle.koat_cli.specs.ReplayTexts.{text_of_replay}
use Rattle.koat_cli.specs.Commands.Analyse.{StatesReport}
use Rattle.koat_cli.specs.Commands.Prove.{StatesProof}
use Rattle.koat_cli.specs.Commands.Facts.{IsAnalysisWithFacts, StatesFacts}
use Rattle.koat_cli.specs.Commands.Selfrun.{StatesFigures}
use Rattle.koat_cli.specs.Commands.Replay.{StatesTally}
use Rattle.koat_cli.proofs.Determined.{Determined}

-- the text of a report is unique
pub report_text_unique : (p : Program) (n : ℕ) (r : Report) (x y : List ℕ) → StatesReport p n r x → StatesReport p n r y
    → x ≡ y
report_text_unique p n r x y a b = a.stated.text_of ∙ sym b.stated.text_of

module _ (laws : Determined) (p : Program) where
  -- the report with the kept facts is unique
  pub facts_report_unique : (n : ℕ) (r q : Report) → IsAnalysisWithFacts p n r → IsAnalysisWithFacts p n q → r ≡ q
  facts_report_unique n r q a b =
      let same : a.facts ≡ b.facts = laws.facts.kept p n a.facts b.facts a.kept b.kept in
      laws.reports.each (strengthened b.facts p) n r q
      (subst (λ (fs : List LocFact). IsAnalysis (strengthened fs p) n r) same a.found) b.found

  -- the text of the facts with a report is unique
  pub facts_text_unique : (n : ℕ) (r : Report) (x y : List ℕ) → StatesFacts p n r x → StatesFacts p n r y → x ≡ y
  facts_text_unique n r x y a b =
      let one = laws.derivations.each p n a.facts b.facts r r a.found b.found in
      a.result_is ∙ (ap (λ (fs : List LocFact). text_with_facts p fs r) one.facts_same ∙ sym b.result_is)

  -- the text of the figures is unique, since an analysis has one list of lemmas
  pub figures_unique : (r : Report) (x y : List ℕ) → StatesFigures p r x → StatesFigures p r y → x ≡ y
  figures_unique r x y a b =
      let one = laws.reports.outcomes p default_pivots a.outcome b.outcome a.found.found a.lemmas b.found.found b.lemmas in
      let many : length a.outcome.lemmas.items ≡ length b.outcome.lemmas.items =
      sym (length-map a.outcome.lemmas.items proof_of)
      ∙ (ap length one.lemmas ∙ length-map b.outcome.lemmas.items proof_of) in
      a.result_is
      ∙ (ap (λ (q : Report). text_of_figures p q (length a.outcome.lemmas.items)) one.report
      ∙ (ap (λ (n : ℕ). text_of_figures p (report_of b.outcome) n) many ∙ sym b.result_is))

  -- the text of the proof file is unique
  pub proof_text_unique : (n : ℕ) (r : Report) (x y : List ℕ) → StatesProof p n r x → StatesProof p n r y → x ≡ y
  proof_text_unique n r x y a b =
      let one = laws.reports.outcomes p n a.outcome b.outcome a.proved.found.found a.proved.lemmas b.proved.found.found b.proved.lemmas in
      sym a.proved.result_is.text
      ∙ (ap (λ (ls : List Proof). text_of p (record { lemmas = ls; gaps = map gap_of a.outcome.gaps.items })) one.lemmas
      ∙ (ap (λ (gs : List Gap). text_of p (record { lemmas = map proof_of b.outcome.lemmas.items; gaps = gs })) one.gaps
      ∙ b.proved.result_is.text))

  -- the text of the tally of a run is unique
  pub tally_text_unique : (r : Run) (x y : List ℕ) → StatesTally p r x → StatesTally p r y → x ≡ y
  tally_text_unique r x y a b =
      let same : a.report ≡ b.report = laws.reports.each p default_pivots a.report b.report a.found.found b.found.found in
      a.result_is
      ∙ (ap (λ (q : Report). text_of_replay (sizes_of_start r.start) (tally_along p r.start (last_first r)) q) same
      ∙ sym b.result_is)
