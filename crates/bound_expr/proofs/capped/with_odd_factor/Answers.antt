use Rattle.std.proofs.Common.{◌≡◌, ℕ, ◌*◌, ◌^◌, ◌%◌, min, ap, sym, ◌∙◌, arith}
use Rattle.bound_expr.proofs.Caps.{pow-one}
use Rattle.bound_expr.proofs.capped.with_odd_factor.Goals as goal
use Rattle.bound_expr.specs.Limits.{cap}

pub returns : goal.returns
returns c =
    let odd : c.args.rest % 2 ≡ 1 = omega arith in
    c.capped_multiply.ensures
    ∙ ap (λ (v : ℕ). min (c.args.outcome * v) cap) (sym (ap (λ (k : ℕ). c.args.square ^ k) odd ∙ pow-one c.args.square))
