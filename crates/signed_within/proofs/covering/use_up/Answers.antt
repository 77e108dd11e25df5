use Rattle.std.proofs.Common.{◌≡◌, ◌+◌, ℕ, length, refl, ap, sym, ◌∙◌, add-one, arith}
use Rattle.std.proofs.lemmas.List.{length_push}
use Rattle.signed_bounds.specs.Covers.{used_up}
use Rattle.signed_within.specs.Tests.{lists_match}
use Rattle.signed_within.specs.Views.{signed_at, counted}
use Rattle.signed_within.proofs.Takings.{missing-more, used-more, missing-none, used-none}
use Rattle.signed_within.proofs.covering.use_up.Goals as goal

pub loop-i-preserved : goal.loop-i-preserved
loop-i-preserved c =
    let test = lists_match c.args.test in
    let fs = signed_at c.args.p.now.factors.items in
    let i = c.loop-i.i in
    record {
      lacking = missing-more test fs c.args.qs.now c.args.left.now i c.index-qs-i.result c.loop-i.missing
          c.in_ok-taken.taken.missing _ (omega arith) c.requires c.index-qs-i.is c.in_ok-taken.ensures.missing
          c.loop-i.invariant.lacking;
      taken = rw c.in_ok-push.ensures.items (used-more test fs c.args.qs.now c.args.left.now c.loop-i.rest.items i
          c.index-qs-i.result c.loop-i.missing c.in_ok-taken.taken.missing c.in_ok-taken.taken.left
          (used_up test c.args.n fs (counted c.args.qs.now c.args.left.now)) (omega arith) c.requires
          c.loop-i.invariant.size c.index-qs-i.is c.in_ok-taken.ensures.missing c.in_ok-taken.ensures.left
          c.loop-i.invariant.taken);
      size = ap length c.in_ok-push.ensures.items
          ∙ (length_push c.loop-i.rest.items c.in_ok-taken.taken.left
          ∙ ap (λ (n : ℕ). n + 1) c.loop-i.invariant.size);
    }

pub returns : goal.returns
returns c =
    let test = lists_match c.args.test in
    let fs = signed_at c.args.p.now.factors.items in
    record {
      left = used-none test fs c.args.qs.now c.args.left.now c.loop-i.rest.items c.loop-i.i c.loop-i.missing _ (omega arith)
          c.loop-i.invariant.taken;
      lacking = missing-none test fs c.args.qs.now c.args.left.now c.loop-i.i c.loop-i.missing _ (omega arith)
          c.loop-i.invariant.lacking;
      size = omega (arith, c.loop-i.invariant.size);
    }
