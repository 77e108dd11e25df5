use Rattle.std.proofs.Common.{◌≡◌, ◌++◌, length, min, take, drop, subst, ap, sym, ◌∙◌, arith}
use Rattle.std.specs.Prelude.{Bool}
use Rattle.bound_text.specs.Inside.{Marks}
use Rattle.cert_lexer.specs.Levels.{raised, raised_from}
use Rattle.cert_lexer.specs.Representation.{Held, Holds}
use Rattle.cert_lexer.proofs.ShallowLaws.{held_prefix, held_raised}
use Rattle.cert_lexer.proofs.levels.PartLevels.raise.Goals as goal

pub returns : goal.returns
returns c = λ marks at e h.
    let old = c.args.self.now.levels.items in
    let len = c.len.ensures in
    let least = c.min-kept.ensures in
    let o = c.args.self.now.levels.ok.0 in
    let p = c.args.self.now.levels.ok.1 in
    let q = c.args.self.now.levels.small in
    let kept : c.min-kept.result ≡ min (length old) c.args.start = omega (arith, len, least, o) in
    let front = c.in_ok-tail.ensures.items ∙ ap (λ k. take k old) kept in
    let tail = c.in_ok-tail.ensures.tail ∙ ap (λ k. drop k old) kept in
    subst (λ (v : Bool). Held c.push_deeper.new.self.levels.items v (raised_from at marks)) (sym c.either-self.ensures)
    (held_raised old c.split_off.new.self.items c.in_ok-tail.tail.items c.push_deeper.new.self.levels.items
    c.args.self.now.deep c.push_deeper.new.self.deep marks c.args.start at (omega (arith, o, p, q)) e h front tail
    (subst (λ (ms : Marks). Holds c.push_deeper.new.self (c.split_off.new.self.items ++ raised ms)) c.deref.ensures.value
    (c.in_ok-push_deeper.ensures c.split_off.new.self.items
    (held_prefix old c.split_off.new.self.items c.args.self.now.deep marks (min (length old) c.args.start) h front))))
