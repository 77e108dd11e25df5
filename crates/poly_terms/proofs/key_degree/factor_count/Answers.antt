use Rattle.std.proofs.Common.{ℕ, ◌+◌, drop, length, ap, arith}
use Rattle.poly_terms.specs.Keys.{factors_at, number_of}
use Rattle.poly_terms.proofs.FactorLaws.{factors-from-digit}
use Rattle.poly_terms.proofs.key_degree.factor_count.Goals as goal

pub loop-preserved : goal.loop-preserved
loop-preserved c =
    let table = c.args.table.now in
    let digit = factors-from-digit table c.loop.index (number_of c.loop.rest) c.loop-test.true in
    let others = ap (λ (n : ℕ). length (factors_at (drop (c.loop.index + 1) table) n)) c.other_digits-rest.ensures in
    record {
      all = omega (arith, digit, others, c.last_digit-count.ensures, c.loop.invariant.all);
      few = omega (arith, c.if-count-gt-DEGREE_LIMIT.false);
    }
