use Rattle.std.proofs.Common.{◌≡◌, ◌≤◌, ◌*◌, List, sym, ◌∙◌, subst}
use Rattle.signed_bounds.specs.Limits.{constant_limit}
use Rattle.signed_bounds.specs.Products.{times_sum}
use Rattle.signed_bounds.specs.Views.{signed_of}
use Rattle.signed_within.specs.declared.product.Product.{Product}
use Rattle.signed_within.specs.Views.{products_at}
use Rattle.signed_within.proofs.QuotientLoops.{number-limited, products-limited}
use Rattle.signed_within.proofs.within.is_covered.Goals as goal

pub products_of-requires-2 : goal.products_of-requires-2
products_of-requires-2 c =
    number-limited c.args.den (signed_of c.args.b.now) c.requires
    (sym c.is_multipliable-else-not-is_multipliable.ensures ∙ c.if-not-is_multipliable-2.false)

pub is_covered_rounded-requires : goal.is_covered_rounded-requires
is_covered_rounded-requires c =
    subst (λ (ps : List Product). c.args.den * times_sum (products_at ps) ≤ constant_limit) (sym c.deref-2.ensures.value)
    (products-limited c.args.den (signed_of c.args.b.now) c.in_ok-qs.qs.items
    (sym c.is_multipliable-else-not-is_multipliable.ensures ∙ c.if-not-is_multipliable-2.false) c.in_ok-qs.ensures)

pub is_covered_by_quotient-requires : goal.is_covered_by_quotient-requires
is_covered_by_quotient-requires c =
    subst (λ (ps : List Product). c.args.den * times_sum (products_at ps) ≤ constant_limit) (sym c.deref-5.ensures.value)
    (products-limited c.args.den (signed_of c.args.b.now) c.in_ok-qs.qs.items
    (sym c.is_multipliable-else-not-is_multipliable.ensures ∙ c.if-not-is_multipliable-2.false) c.in_ok-qs.ensures)
