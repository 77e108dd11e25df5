use Rattle.std.proofs.Common.{◌≡◌, ◌<◌, length, take, drop, ℕ, sym, subst, ◌∙◌, add-one, arith}
use Rattle.signed_bounds.specs.Safe.{expands_to_squares}
use Rattle.signed_bounds.specs.Products as products
use Rattle.signed_bounds.specs.Covers.{used_whole}
use Rattle.signed_within.specs.Views.{signed_at, counted}
use Rattle.signed_within.proofs.Wholes.{behind, whole_fails, whole_passes, whole_none}
use Rattle.signed_within.proofs.covering.whole_position.Goals as goal

pub returns-then-is_enough : goal.returns-then-is_enough
returns-then-is_enough c = (
  omega arith,
  sym c.loop-i.invariant
      ∙ whole_passes (record { times = c.args.n; factors = signed_at c.args.p.now.factors.items }) c.args.qs.now
      c.args.left.now c.loop-i.i c.index-qs-i.result (omega arith) c.requires c.index-qs-i.is
      (sym c.in_ok-is_enough.ensures ∙ c.if-is_enough.true),
)

pub loop-i-preserved : goal.loop-i-preserved
loop-i-preserved c =
    let p : products.Product = record { times = c.args.n; factors = signed_at c.args.p.now.factors.items } in
    let qs = c.args.qs.now in
    let ns = c.args.left.now in
    subst (λ (j : ℕ). behind (counted (take j qs) (take j ns)) (used_whole expands_to_squares p
    (counted (drop j qs) (drop j ns))) ≡ used_whole expands_to_squares p (counted qs ns)) (sym (add-one c.loop-i.i))
    (sym (whole_fails p qs ns c.loop-i.i c.index-qs-i.result (omega arith) c.requires c.index-qs-i.is
    (sym c.in_ok-is_enough.ensures ∙ c.if-is_enough.false))
    ∙ c.loop-i.invariant)

pub returns : goal.returns
returns c =
    sym c.loop-i.invariant
    ∙ whole_none (record { times = c.args.n; factors = signed_at c.args.p.now.factors.items }) c.args.qs.now
    c.args.left.now c.loop-i.i (omega arith)
