-- The answers on a generated program.
use Rattle.std.proofs.Common.{◌≡◌, ℕ, List, length, subst, sym, ◌∙◌, ap, refl, inl}
use Rattle.model.specs.Programs.{Program}
use Rattle.its_reader.specs.its_text.Spelling.{SpellsWithin}
use Rattle.its_writer.specs.Generated.{generated}
use Rattle.its_writer.specs.Texts.{canonical_text}
use Rattle.command_line.specs.Requests.{default_pivots}
use Rattle.outcome.specs.declared.outcome_of.Outcome.{Outcome}
use Rattle.outcome.specs.Holding.{ReportHolds}
use Rattle.outcome.specs.Views.{report_of}
use Rattle.time_bounds.specs.Analysis.{IsAnalysis}
use Rattle.time_bounds.specs.AnalysisLemmas.{HasLemmas}
use Rattle.time_bounds.specs.Whys.{ReasonsAreTrue}
use Rattle.call_plans.specs.declared.status.Status.{Status}
use Rattle.call_plans.specs.declared.status.Status.TheVariants.{Done}
use Rattle.call_plans.specs.Plans.{HasRow}
use Rattle.koat_cli.specs.Figures.{text_of_figures}
use Rattle.koat_cli.specs.Found.{status_of, table_by_report}
use Rattle.koat_cli.specs.Commands.Generate.{generate_answers}
use Rattle.koat_cli.specs.Commands.Selfrun.{StatesFigures}
use Rattle.koat_cli.proofs.ReportTables.{report_answered}

-- the text of a program that is equal to the generated one is the answer
pub generated_text_answered : (n : ℕ) (p : Program) (x : List ℕ) → p ≡ generated n → x ≡ canonical_text p
    → SpellsWithin (canonical_text p) p → HasRow (generate_answers n) Done x
generated_text_answered n p x e result_is spelled =
    let is : x ≡ canonical_text (generated n) = result_is ∙ ap canonical_text e in
    inl (
      refl,
      record {
        result_is = is;
        spelled = subst (λ (t : List ℕ). SpellsWithin t (generated n)) (sym is)
            (subst (λ (q : Program). SpellsWithin (canonical_text q) q) e spelled);
      },
    )

-- the figures of a program that is equal to another are the answer on it
pub figures_answered : (p q : Program) (o : Outcome) (s : Status) (x : List ℕ) → p ≡ q
    → IsAnalysis p default_pivots (report_of o) → ReportHolds p (report_of o)
    → ReasonsAreTrue p default_pivots (report_of o) → HasLemmas p default_pivots o
    → x ≡ text_of_figures p (report_of o) (length o.lemmas.items) → s ≡ status_of (report_of o)
    → HasRow (table_by_report (IsAnalysis q default_pivots) (StatesFigures q)) s x
figures_answered p q o s x e found holds reasons lemmas result_is ends =
    subst (λ (r : Program). HasRow (table_by_report (IsAnalysis r default_pivots) (StatesFigures r)) s x) e
    (report_answered (IsAnalysis p default_pivots) (StatesFigures p) (report_of o) s x ends (record {
      outcome = o;
      reported = refl;
      found = record { found = found; true_on_all_runs = holds; reasons = reasons };
      lemmas = lemmas;
      result_is = result_is;
    }))
