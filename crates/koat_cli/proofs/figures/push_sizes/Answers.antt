-- The counts of known and of all sizes are those of the report.
use Rattle.std.proofs.Common.{◌≡◌, ℕ, length, map, refl, ◌∙◌, ap}
use Rattle.std.proofs.lemmas.Result.{on_ok_weaker}
use Rattle.std.specs.Prelude.{sum_by, count_by}
use Rattle.outcome.specs.Views.{size_of}
use Rattle.report_text.proofs.Lists.{two_pushed}
use Rattle.koat_cli.specs.Figures.{is_sized, part_end}
use Rattle.koat_cli.specs.Steps.{is_known_size}
use Rattle.koat_cli.proofs.Counts.{sizes_counted, places_counted}
use Rattle.koat_cli.proofs.figures.push_sizes.Goals as goal

pub returns : goal.returns
returns c =
    let rows = c.args.o.now.sizes.items in
    let report = map (λ row. map size_of row.items) rows in
    let known : c.known_sizes.result ≡ sum_by (λ row. count_by is_sized row) report =
    c.known_sizes.ensures ∙ (ap (λ rs. sum_by (λ row. count_by is_known_size row.items) rs) c.deref.ensures.value ∙ sizes_counted (λ row. row.items) rows) in
    let all : c.all_sizes.result ≡ sum_by (λ row. length row) report =
    c.all_sizes.ensures ∙ (ap (λ rs. sum_by (λ row. length row.items) rs) c.deref-2.ensures.value ∙ places_counted (λ row. row.items) rows) in
    on_ok_weaker c.push_part.result
    (λ pushed. two_pushed c.args.text.now.items c.extend_from_slice.new.self.items c.push_part.new.text.items _ _ _ _
    c.in_ok-extend_from_slice.ensures.items refl pushed
    (ap (λ (n : ℕ). part_end n c.all_sizes.result) known ∙ ap (λ (n : ℕ). part_end (sum_by (λ row. count_by is_sized row) report) n) all))
    c.push_part.ensures
