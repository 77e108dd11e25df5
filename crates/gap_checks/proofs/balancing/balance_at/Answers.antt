use Rattle.std.proofs.Common.{◌∙◌, ap, arith}
use Rattle.std.specs.Prelude.{ℤ, ◌+ℤ◌}
use Rattle.its_model.specs.Views.{program_of}
use Rattle.cert_types.specs.cert_program.RankedSets.{forms_at}
use Rattle.cert_types.specs.cert_rules.GapChecks.{net}
use Rattle.cert_types.specs.AnswerViews.{gap_of}
use Rattle.gap_checks.specs.GapBalances.{sum_at}
use Rattle.gap_checks.specs.GapTests.{coefficient_at}
use Rattle.gap_checks.proofs.GapFaults.{near-floor}
use Rattle.gap_checks.proofs.Sums.{sum-read}
use Rattle.gap_checks.proofs.balancing.balance_at.Goals as goal

pub leaving-requires-clause-near : goal.leaving-requires-clause-near
leaving-requires-clause-near c = near-floor (program_of c.args.p.now) c.requires.valid (gap_of c.args.g.now) c.requires.shape

pub returns : goal.returns
returns c =
    let g = gap_of c.args.g.now in
    let at = coefficient_at c.args.symbol c.args.place in
    let moves = net (forms_at (program_of c.args.p.now)) at g.set g.moves in
    let size = c.requires.nets.sums.size c.args.place (omega (arith, c.requires.few)) in
    sum-read (sum_at c.args.nets.now c.args.place) c.leaving.result (omega (arith, size, c.leaving.ensures.size))
    ∙ (ap (λ (x : ℤ). x +ℤ c.leaving.result) (c.requires.nets.each c.args.place c.requires.own)
    ∙ ap (λ (x : ℤ). moves +ℤ x) c.leaving.ensures.value)
