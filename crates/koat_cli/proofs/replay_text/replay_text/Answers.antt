-- The parts of the text are those of the report that the analysis is.
use Rattle.std.proofs.Common.{List, ℕ, ◌++◌, ◌∙◌, ap, refl}
use Rattle.outcome.specs.Views.{report_of}
use Rattle.report_text.proofs.Lists.{five_pushed}
use Rattle.run_replay.specs.ReplayAnswers.{sums_of}
use Rattle.koat_cli.specs.ReplayTexts.{lines_beside, text_of_replay}
use Rattle.koat_cli.specs.Steps.{entry_lines, cost_lines, place_lines}
use Rattle.koat_cli.proofs.LinesBeside.{times_beside, costs_beside, rows_beside}
use Rattle.koat_cli.proofs.replay_text.replay_text.Goals as goal

pub returns : goal.returns
returns c =
    let at = c.args.at.now in
    let o = c.args.o.now in
    let tally = c.args.tally.now in
    let counts = tally.counts.items in
    let spent = tally.costs.items in
    let rows = tally.greatest.items in
    five_pushed c.new-text.result.items c.push_steps.new.text.items c.push_counts.new.text.items c.push_costs.new.text.items
    c.push_total.new.text.items c.push_greatest.new.text.items _ _ _ _ _ _ _ _ _ _ c.in_ok-push_steps.ensures refl
    c.in_ok-push_counts.ensures
    (ap (λ ns. entry_lines at 1 ns c.deref-2.result.now) c.deref.ensures.value
    ∙ (ap (λ es. entry_lines at 1 counts es) c.deref-2.ensures.value ∙ times_beside at o.gaps.items counts o.times.items))
    c.in_ok-push_costs.ensures
    (ap (λ ns. cost_lines at 1 ns c.deref-4.result.now) c.deref-3.ensures.value
    ∙ (ap (λ es. cost_lines at 1 spent es) c.deref-4.ensures.value ∙ costs_beside at spent o.costs.items))
    c.in_ok-push_total.ensures refl c.in_ok-push_greatest.ensures
    (ap (λ ns. lines_beside (λ rule numbers places. place_lines at rule 1 numbers.items places.items) 1 ns c.deref-6.result.now)
    c.deref-5.ensures.value
    ∙ (ap (λ es. lines_beside (λ rule numbers places. place_lines at rule 1 numbers.items places.items) 1 rows es)
    c.deref-6.ensures.value
    ∙ rows_beside (λ row. row.items) (λ places. places.items) at rows o.sizes.items))
    ∙ ap (λ (t : List ℕ). t ++ text_of_replay at (sums_of c.args.tally.now) (report_of o)) c.new-text.ensures.items
