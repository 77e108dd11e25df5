use Rattle.std.proofs.Common.{◌≡◌, ℕ, ◌&&◌, Bool, true, ap, sym, ◌∙◌, arith}
use Rattle.std.specs.Prelude.{nat_lt, nat_le}
use Rattle.std.proofs.lemmas.Bool.Decides.{nat_tests}
use Rattle.its_model.specs.model.Programs.{arity_of}
use Rattle.its_model.specs.Views.{program_of}
use Rattle.cert_text.proofs.KeptLaws.{place_there}
use Rattle.cert_text.proofs.faults.has_place.Goals as goal

pub returns-then-number-gt0 : goal.returns-then-number-gt0
returns-then-number-gt0 c =
    let k = c.args.number in
    let most = arity_of (program_of c.args.p.now) c.index.result.now.target in
    let some : nat_lt 0 k ≡ true = (let h = c.if-number-gt0.true in grind (arith, nat_tests)) in
    ap (λ (a : ℕ). nat_le k a) (c.from.ensures ∙ c.arity.ensures)
    ∙ sym (ap (λ (v : Bool). v && nat_le k most) some)
    ∙ sym (place_there c.args.p.now c.args.rule c.index.result.now k
    (let h = c.if-rule-eq0.false in omega (arith, h))
    (let h = c.if-rule-eq0.false in let l = c.if-len-rule.false in let m = c.len.ensures in omega (arith, h, l, m))
    c.index.ensures)
