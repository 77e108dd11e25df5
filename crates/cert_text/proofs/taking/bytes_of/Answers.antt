use Rattle.std.proofs.Common.{arith}
use Rattle.cert_lexer.specs.Packed.{inners_in}
use Rattle.cert_text.proofs.BoundBytes.{bytes_more, bytes_none}
use Rattle.cert_text.proofs.taking.bytes_of.Goals as goal

pub loop-inner-preserved : goal.loop-inner-preserved
loop-inner-preserved c =
    let i = c.loop-inner.invariant.0 in
    let l = c.loop-inner.invariant.1 in
    let some = c.if-left-eq0.false in
    let e = bytes_more c.loop-inner.left (inners_in c.loop-inner.rest) (inners_in c.in-Some.behind) c.in-Some.inner
    c.in-Some.ensures (omega (arith, some)) in
    let s = c.saturating_add-sum.ensures in
    (omega (arith, i, l, e, s), omega (arith, s))

pub returns : goal.returns
returns c =
    let i = c.loop-inner.invariant.0 in
    let l = c.loop-inner.invariant.1 in
    let e = bytes_none c.loop-inner.left (inners_in c.loop-inner.rest) c.in_default.ensures in
    omega (arith, e, i, l)
