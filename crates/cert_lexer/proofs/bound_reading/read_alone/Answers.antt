use Rattle.std.proofs.Common.{sym, subst, arith}
use Rattle.bound_text.specs.Views.{state_of}
use Rattle.bound_text.proofs.ReadingLaws.{settled_front}
use Rattle.cert_lexer.specs.Packed.{inners_in}
use Rattle.cert_lexer.proofs.BoundLaws.{Decides, decides_bound, decides_end, decides_first, decides_not, decides_on, on_read}
use Rattle.cert_lexer.proofs.bound_reading.read_alone.Goals as goal

pub loop-inner-init : goal.loop-inner-init
loop-inner-init c = (
  subst (Decides c.args.names (inners_in c.args.pieces) (inners_in c.args.pieces)) (sym c.new-reader.ensures.front)
      (decides_first c.args.names (inners_in c.args.pieces)),
  c.new-reader.ensures.settled,
)

pub loop-inner-preserved : goal.loop-inner-preserved
loop-inner-preserved c = (
  decides_on c.args.names (inners_in c.args.pieces) (inners_in c.loop-inner.rest) (inners_in c.in-Some.behind) c.in-Some.inner
      (state_of c.loop-inner.reader) c.in-Some.ensures c.loop-inner.invariant.0 c.take.new.self c.is_caret_next-caret.result
      c.take.result c.is_caret_next-caret.ensures c.take.ensures c.in_default-take.field-0 c.in_default-take.is,
  settled_front _ c.take.new.self c.take.result c.in_default-take.field-0 c.in_default-take.is c.take.ensures,
)

pub returns-in-Err : goal.returns-in-Err
returns-in-Err c =
    let a = c.len.ensures in
    let b = c.len-in-Some.ensures in
    on_read c.refused.result _ _
    (λ read. decides_not c.args.names (inners_in c.args.pieces) (inners_in c.loop-inner.rest) (inners_in c.in-Some.behind) c.in-Some.inner
    (state_of c.loop-inner.reader) c.in-Some.ensures c.loop-inner.invariant.0 c.take.new.self c.is_caret_next-caret.result
    c.take.result c.is_caret_next-caret.ensures c.take.ensures c.in-Err.fault _ _ c.in-Err.is (omega (arith, a, b)))
    c.refused.ensures

pub returns-in-Ok : goal.returns-in-Ok
returns-in-Ok c =
    decides_bound c.args.names (inners_in c.args.pieces) (inners_in c.loop-inner.rest) (state_of c.loop-inner.reader) c.finish.result
    c.in-Ok.bound c.loop-inner.invariant.0 c.in_default.ensures c.in-Ok.is c.finish.ensures

pub returns-in-Err-finish : goal.returns-in-Err-finish
returns-in-Err-finish c =
    let a = c.len-in-Err-finish.ensures in
    on_read c.refused-in-Err-finish.result _ _
    (λ read. decides_end c.args.names (inners_in c.args.pieces) (inners_in c.loop-inner.rest) (state_of c.loop-inner.reader) c.finish.result
    c.in-Err-finish.fault _ _ c.loop-inner.invariant.0 c.in_default.ensures c.in-Err-finish.is c.finish.ensures (omega (arith, a)))
    c.refused-in-Err-finish.ensures
