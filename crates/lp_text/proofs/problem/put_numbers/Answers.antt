-- The numbers of the row so far are written.
use Rattle.std.proofs.Common.{◌≤◌, arith, length, get_or, subst}
use Rattle.std.specs.Prelude.{ℤ, pos, List}
use Rattle.std.specs.Int.{w128}
use Rattle.std.proofs.lemmas.Int.{to_z-of_z, fits_signed_from_abs}
use Rattle.std.proofs.lemmas.List.{take_all}
use Rattle.lp_builder.specs.Entries.{Writes}
use Rattle.lp_text.proofs.LpEntries.{numbers-more, number-in_range}
use Rattle.lp_text.proofs.problem.put_numbers.Goals as goal

pub loop-number-preserved : goal.loop-number-preserved
loop-number-preserved c =
    let numbers = c.args.numbers.now in
    let i = c.loop-number.number-index in
    let w = c.in_ok-put.ensures in
    let small = number-in_range numbers i (pos 0) c.requires.small c.loop-number-test.true in
    let same = to_z-of_z w128 (get_or numbers i (pos 0)) (fits_signed_from_abs w128 _ (omega (arith, small))) in (
      numbers-more _ _ _ numbers i _ (pos 0) c.loop-number.invariant.0 w same c.loop-number-test.true,
      omega (arith, w.col, c.loop-number.invariant.1),
    )

pub returns : goal.returns
returns c =
    let past : length c.args.numbers.now ≤ c.loop-number.number-index = omega (arith, c.loop-number-test.false) in
    subst (λ (zs : List ℤ). Writes c.args.writer.now c.loop-number.writer zs)
    (take_all c.loop-number.number-index c.args.numbers.now past) c.loop-number.invariant.0
