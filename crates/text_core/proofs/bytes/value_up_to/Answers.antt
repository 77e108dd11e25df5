use Rattle.std.proofs.Common.{refl}
use Rattle.text_core.proofs.NumberLaws.{next_digit, no_digit}
use Rattle.text_core.proofs.bytes.value_up_to.Goals as goal

pub loop-byte-preserved : goal.loop-byte-preserved
loop-byte-preserved c =
    next_digit c.args.limit c.args.digits.now c.loop-byte.byte-index c.loop-byte.value c.digit.result _ _
    c.loop-byte-test.true refl c.loop-byte.invariant.2 c.loop-byte.invariant.0 c.digit.ensures c.one_digit_more-value.ensures

pub returns : goal.returns
returns c = no_digit c.args.limit c.args.digits.now c.loop-byte.byte-index c.loop-byte.value c.loop-byte-test.false c.loop-byte.invariant.0 c.loop-byte.invariant.1
