use Rattle.std.proofs.Common.{ap, sym, ◌∙◌, Bool}
use Rattle.std.specs.Prelude.{pos, negsuc, ◌-ℤ◌, ◌*ℤ◌, if◌then◌else◌}
use Rattle.simplex_core.proofs.Extraction.{one_less-negated, one_less-plain}
use Rattle.simplex_core.proofs.arithmetic.one_less.Goals as goal

pub returns-then-is_negated : goal.returns-then-is_negated
returns-then-is_negated c =
    let n = c.args.number in
    let r = c.difference.result in
    one_less-negated r.num r.den n.num n.den c.whole.result.num c.whole.result.den c.whole.ensures.0 c.whole.ensures.1 c.difference.ensures
    ∙ ap (λ (b : Bool). ((if b then negsuc 0 else pos 1) *ℤ (n.den -ℤ n.num)) *ℤ r.den) (sym c.if-is_negated.true)

pub returns-else-is_negated : goal.returns-else-is_negated
returns-else-is_negated c =
    let n = c.args.number in
    let r = c.difference-else-is_negated.result in
    one_less-plain r.num r.den n.num n.den c.whole-else-is_negated.result.num c.whole-else-is_negated.result.den c.whole-else-is_negated.ensures.0 c.whole-else-is_negated.ensures.1 c.difference-else-is_negated.ensures
    ∙ ap (λ (b : Bool). ((if b then negsuc 0 else pos 1) *ℤ (n.den -ℤ n.num)) *ℤ r.den) (sym c.if-is_negated.false)
