use Rattle.std.proofs.Common.{◌≡◌, ℕ, ◌-◌, ap, length, take, arith}
use Rattle.cert_lexer.specs.Packed.{inners_in}
use Rattle.cert_text.specs.NumberFaults.{bytes_of}
use Rattle.cert_text.proofs.BoundBytes.{before_taken}
use Rattle.cert_text.proofs.taking.position_in_bound.Goals as goal

pub returns : goal.returns
returns c = λ before last e.
    let all = inners_in c.args.pieces in
    let l = c.len.ensures in
    let n = c.saturating_sub-count.ensures in
    let k : c.saturating_sub-count.result ≡ length all - 1 = omega (arith, l, n) in
    let a = c.bytes_of-behind.ensures in
    let h = ap (λ (m : ℕ). bytes_of (take m all)) k in
    let t = ap bytes_of (before_taken all before last e) in
    let f = c.saturating_sub-first.ensures in
    let b = c.bytes_of-before.ensures in
    let s = c.saturating_add.ensures in
    let r = c.ranges.at in
    omega (arith, a, h, t, f, b, s, r)
