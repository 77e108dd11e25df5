use Rattle.std.proofs.Common.{◌-◌, ◌≤◌, length, List, ap, arith}
use Rattle.std.specs.Prelude.{ℤ}
use Rattle.std.proofs.lemmas.Bool.Decides.{nat_tests}
use Rattle.cert_types.specs.AnswerViews.{scaled_of}
use Rattle.gap_checks.proofs.GapValues.{before-past, part-read}
use Rattle.gap_checks.proofs.parts.left_part.Goals as goal

pub returns-in-Some-clause-value : goal.returns-in-Some-clause-value
returns-in-Some-clause-value c =
    let same = c.deref.ensures.value in
    let found = c.in-Some.ensures.lookup in
    part-read (scaled_of c.args.z.now) c.args.place c.in-Some.part.now _ c.requires.parts_limit c.deref.result.now same c.if-place-eq0.false found.0 found.1 c.from-in-Some.ensures

pub returns-in-None-clause-value : goal.returns-in-None-clause-value
returns-in-None-clause-value c =
    let same = ap (λ (xs : List ℤ). length xs) c.deref.ensures.value in
    let none = c.in-None.ensures.lookup.0 in
    let past : length c.deref.result.now ≤ c.args.place - 1 = grind (arith, nat_tests) in
    before-past c.args.place (scaled_of c.args.z.now) (omega (arith, c.if-place-eq0.false)) (omega (arith, past, same))
