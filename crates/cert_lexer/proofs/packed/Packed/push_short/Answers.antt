use Rattle.std.proofs.Common.{◌++◌, ◌∷◌, [], List, ap, arith, ◌∙◌, length, length-append}
use Rattle.cert_lexer.specs.declared.marks.Short.{Short}
use Rattle.cert_lexer.specs.declared.marks.Mark.{Mark}
use Rattle.cert_lexer.specs.declared.marks.Mark.TheVariants as mark
use Rattle.cert_lexer.specs.Packing.{unpacked, longs_taken, shorts_taken}
use Rattle.cert_lexer.proofs.PackedLaws.{short_pushed, short_taken}
use Rattle.cert_lexer.proofs.packed.Packed.push_short.Goals as goal

pub invariant_of-self-in-Ok : goal.invariant_of-self-in-Ok
invariant_of-self-in-Ok c =
    let old = c.args.self.now in
    let t = short_taken old.marks.items in
    let a = ap shorts_taken c.in-Ok.ensures.items in
    let b = t.0 in
    let h = old.short in
    let d = ap length c.in_ok-push.ensures.items in
    let e = length-append old.shorts.items (c.args.short ∷ []) in
    record { short = omega (arith, a, b, h, d, e); long = ap longs_taken c.in-Ok.ensures.items ∙ t.1 ∙ old.long }

pub returns-in-Ok : goal.returns-in-Ok
returns-in-Ok c =
    let old = c.args.self.now in
    ap (λ (ms : List Mark). unpacked ms c.push.new.self.items old.longs.items) c.in-Ok.ensures.items
    ∙ ap (λ (xs : List Short). unpacked (old.marks.items ++ mark.Short ∷ []) xs old.longs.items) c.in_ok-push.ensures.items
    ∙ short_pushed old.marks.items old.shorts.items old.longs.items c.args.short old.short old.long
