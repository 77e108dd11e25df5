use Rattle.std.proofs.Common.{◌≡◌, ◌+◌, ℕ, length, map, refl, ap, sym, ◌∙◌, add-one, arith, List}
use Rattle.std.proofs.lemmas.List.{length-map, length_push}
use Rattle.signed_bounds.specs.Products as products
use Rattle.signed_bounds.specs.Covers.{missing_products, all_used_up}
use Rattle.signed_within.specs.declared.test.Test.TheVariants.{Equal}
use Rattle.signed_within.specs.declared.product.Product.{Product}
use Rattle.signed_within.specs.Tests.{lists_match}
use Rattle.signed_within.specs.Views.{products_at, counted, times_of}
use Rattle.signed_within.proofs.Takings.{counted-times, lacking-more, rest-more, lacking-none, rest-none}
use Rattle.signed_within.proofs.covering.without_equal.Goals as goal

pub loop-p-init : goal.loop-p-init
loop-p-init c =
    let start = ap (counted c.args.qs.now) c.in_ok-left.ensures ∙ counted-times c.args.qs.now in
    record {
      lacking = ap (λ (qs : List products.Product). missing_products (lists_match Equal) (products_at c.args.ps.now) qs) start;
      rest = ap (λ (qs : List products.Product). all_used_up (lists_match Equal) (products_at c.args.ps.now) qs) start;
      lacking_size = ap length c.new-missing.ensures.items;
      rest_size = ap length c.in_ok-left.ensures ∙ length-map c.args.qs.now (λ p. p.times);
    }

pub loop-p-preserved : goal.loop-p-preserved
loop-p-preserved c =
    let i = c.loop-p.p-index in
    let p = c.p-item.result in
    let test = lists_match Equal in
    let new = c.in_ok-used.used.left.items in
    let is_lacking = rw c.deref.ensures.value at c.in_ok-used.ensures.lacking in
    let is_left = rw c.deref.ensures.value at c.in_ok-used.ensures.left in
    record {
      lacking = rw c.in_ok-push.ensures.items (lacking-more test c.args.ps.now c.args.qs.now c.loop-p.missing.items
          c.loop-p.left.items new i p c.in_ok-used.used.missing
          (missing_products test (products_at c.args.ps.now) (products_at c.args.qs.now)) c.loop-p-test.true
          c.loop-p.invariant.lacking_size c.p-item.is is_lacking is_left c.loop-p.invariant.lacking);
      rest = rest-more test c.args.ps.now c.args.qs.now c.loop-p.left.items new i p
          (all_used_up test (products_at c.args.ps.now) (products_at c.args.qs.now)) c.loop-p-test.true
          c.p-item.is is_left c.loop-p.invariant.rest;
      lacking_size = ap length c.in_ok-push.ensures.items
          ∙ (length_push c.loop-p.missing.items c.in_ok-used.used.missing
          ∙ ap (λ (n : ℕ). n + 1) c.loop-p.invariant.lacking_size);
      rest_size = c.in_ok-used.ensures.size;
    }

pub returns : goal.returns
returns c = record {
  lacking = lacking-none (lists_match Equal) c.args.ps.now c.args.qs.now c.loop-p.missing.items c.loop-p.left.items
      c.loop-p.p-index _ (omega arith) c.loop-p.invariant.lacking;
  rest = rest-none (lists_match Equal) c.args.ps.now c.args.qs.now c.loop-p.left.items c.loop-p.p-index _ (omega arith)
      c.loop-p.invariant.rest;
  lacking_size = omega (arith, c.loop-p.invariant.lacking_size);
  rest_size = c.loop-p.invariant.rest_size;
}
