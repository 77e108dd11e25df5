use Rattle.std.proofs.Common.{◌≡◌, ℕ, ◌+◌, ◌-◌, ◌<◌, ap, sym, ◌∙◌, arith}
use Rattle.bound_expr.specs.Views.{bound_of}
use Rattle.bound_table.proofs.Passes.{passes, passes-step, simplified-same, simplified-done}
use Rattle.bound_table.proofs.TotalOrder.{is_eq-same}
use Rattle.bound_table.proofs.rewriting.rewritten.Goals as goal

pub returns-then-is_same : goal.returns-then-is_same
returns-then-is_same c =
    let next = bound_of c.in_ok-next.next in
    let now = bound_of c.loop.now in
    let more : 0 < 16 - c.loop.counter = omega arith in
    simplified-same (16 - c.loop.counter) c.args.cases.now (bound_of c.args.b.now) now next more c.loop.invariant
    c.in_ok-next.ensures
    (is_eq-same next now (sym c.is_same.ensures ∙ c.if-is_same.true))

pub loop-preserved : goal.loop-preserved
loop-preserved c =
    let cs = c.args.cases.now in
    let n = 16 - c.loop.counter in
    let more : 0 < n = omega arith in
    let less : 16 - (c.loop.counter + 1) ≡ n - 1 = omega arith in
    ap (λ (k : ℕ). passes k cs (bound_of c.in_ok-next.next)) less
    ∙ ap (passes (n - 1) cs) c.in_ok-next.ensures
    ∙ sym (passes-step n cs (bound_of c.loop.now) more)
    ∙ c.loop.invariant

pub returns : goal.returns
returns c =
    simplified-done (16 - c.loop.counter) c.args.cases.now (bound_of c.args.b.now) (bound_of c.loop.now) (omega arith)
    c.loop.invariant
