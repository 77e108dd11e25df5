use Rattle.std.proofs.Common.{List, ap, ◌∙◌, is_ok}
use Rattle.cert_lexer.specs.declared.marks.Mark.{Mark}
use Rattle.cert_lexer.specs.Packing.{unpacked}
use Rattle.cert_lexer.proofs.PackedLaws.{known_pushed, known_taken}
use Rattle.cert_lexer.proofs.packed.Packed.push_known.Goals as goal

pub invariant_of-self : goal.invariant_of-self
invariant_of-self c =
    let old = c.args.self.now in
    let t = known_taken (is_ok c.push.result) old.marks.items c.push.new.self.items c.args.mark c.args.inner
    c.requires.known c.push.ensures.items in
    record { short = t.0 ∙ old.short; long = t.1 ∙ old.long }

pub returns : goal.returns
returns c =
    let old = c.args.self.now in
    ap (λ (ms : List Mark). unpacked ms old.shorts.items old.longs.items) c.in_ok-push.ensures.items
    ∙ known_pushed old.marks.items old.shorts.items old.longs.items c.args.mark c.args.inner c.requires.known old.short old.long
