use Rattle.std.proofs.Common.{◌<◌, ◌∙◌, arith}
use Rattle.std.proofs.lemmas.Int.{to_z-of_z}
use mir.Syntax.{w128}
use Rattle.farkas_cert.specs.model.Programs.{arity_of}
use Rattle.its_model.specs.Views.{program_of}
use Rattle.cert_types.specs.cert_rules.Gaps.{is_shut}
use Rattle.cert_types.specs.AnswerViews.{gap_of}
use Rattle.gap_checks.specs.GapTests.{IsBalanced}
use Rattle.gap_checks.proofs.Balances.{places-hold, places-fail, open-alike}
use Rattle.gap_checks.proofs.balancing.first_place.Goals as goal

pub returns-then-off : goal.returns-then-off
returns-then-off c =
    let p = program_of c.args.p.now in
    let g = gap_of c.args.g.now in
    let off = c.is_off-off.ensures.0 c.if-off.true in
    let place = c.loop-place.place in
    let count = c.places_of-place-end.ensures.0 in
    let low : place < 33 = omega (arith, c.loop-place-test.true, c.places_of-place-end.ensures.1) in
    places-fail (IsBalanced p g) c.args.symbol (arity_of p c.args.symbol) (is_shut g.shut c.args.symbol) c.loop-place.place
    (omega (arith, count, c.loop-place-test.true)) c.loop-place.invariant
    (open-alike place _ _ off.1 (c.requires.flags.each place low))
    (λ e. off.0 (to_z-of_z w128 c.balance_at-balance.result (record { sfits = c.balance_at-balance.type_inv }) ∙ (c.balance_at-balance.ensures ∙ e)))

pub returns : goal.returns
returns c =
    let p = program_of c.args.p.now in
    let g = gap_of c.args.g.now in
    let count = c.places_of-place-end.ensures.0 in
    places-hold (IsBalanced p g) c.args.symbol (arity_of p c.args.symbol) (is_shut g.shut c.args.symbol)
    (λ i l. c.loop-place.invariant i (omega (arith, l, count, c.loop-place-test.false)))
