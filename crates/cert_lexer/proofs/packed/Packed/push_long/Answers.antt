use Rattle.std.proofs.Common.{◌++◌, ◌∷◌, [], List, ap, arith, ◌∙◌, length, length-append}
use Rattle.cert_lexer.specs.declared.inner.Inner.{Inner}
use Rattle.cert_lexer.specs.declared.marks.Mark.{Mark}
use Rattle.cert_lexer.specs.declared.marks.Mark.TheVariants as mark
use Rattle.cert_lexer.specs.Packing.{unpacked, longs_taken, shorts_taken}
use Rattle.cert_lexer.proofs.PackedLaws.{long_pushed, long_taken}
use Rattle.cert_lexer.proofs.packed.Packed.push_long.Goals as goal

pub invariant_of-self-in-Ok : goal.invariant_of-self-in-Ok
invariant_of-self-in-Ok c =
    let old = c.args.self.now in
    let t = long_taken old.marks.items in
    let a = ap longs_taken c.in-Ok.ensures.items in
    let b = t.1 in
    let h = old.long in
    let d = ap length c.in_ok-push.ensures.items in
    let e = length-append old.longs.items (c.args.inner ∷ []) in
    record { long = omega (arith, a, b, h, d, e); short = ap shorts_taken c.in-Ok.ensures.items ∙ t.0 ∙ old.short }

pub returns-in-Ok : goal.returns-in-Ok
returns-in-Ok c =
    let old = c.args.self.now in
    ap (λ (ms : List Mark). unpacked ms old.shorts.items c.push.new.self.items) c.in-Ok.ensures.items
    ∙ ap (λ (xs : List Inner). unpacked (old.marks.items ++ mark.Long ∷ []) old.shorts.items xs) c.in_ok-push.ensures.items
    ∙ long_pushed old.marks.items old.shorts.items old.longs.items c.args.inner old.short old.long
