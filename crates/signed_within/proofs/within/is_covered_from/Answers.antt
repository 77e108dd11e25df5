use Rattle.std.proofs.Common.{◌≡◌, ◌++◌, ◌∷◌, ◌+◌, Bool, true, List, take, drop, sym, ap, ◌∙◌, subst, arith}
use Rattle.std.specs.Prelude.{IfOk}
use Rattle.signed_bounds.specs.Bounds as plain
use Rattle.signed_bounds.specs.Safe.{expands_to_squares}
use Rattle.signed_bounds.specs.Products as products
use Rattle.signed_bounds.specs.Products.{products_of, scaled}
use Rattle.signed_bounds.specs.Covers.{covers}
use Rattle.signed_bounds.specs.Within.{once_less}
use Rattle.signed_bounds.specs.Views.{signed_of}
use Rattle.signed_within.specs.declared.product.Product.{Product}
use Rattle.signed_within.specs.Views.{product_of, products_at}
use Rattle.signed_within.specs.Numerators.{is_covered_at}
use Rattle.signed_within.proofs.QuotientLoops.{before-limited, one-limited, behind-limited, others-made, at-some}
use Rattle.signed_within.proofs.within.is_covered_from.Goals as goal

pub push_scaled-requires : goal.push_scaled-requires
push_scaled-requires c = before-limited c.args.den c.args.qs.now c.args.position c.requires.limited

pub scaled_once_less-requires : goal.scaled_once_less-requires
scaled_once_less-requires c =
    one-limited c.args.den c.args.qs.now c.args.position c.index-qs-position.result c.requires.inside c.index-qs-position.is
    c.requires.limited

pub push_scaled-requires-2 : goal.push_scaled-requires-2
push_scaled-requires-2 c = behind-limited c.args.den c.args.qs.now c.args.position c.requires.limited

pub returns : goal.returns
returns c =
    let q = c.index-qs-position.result in
    let b = signed_of c.in-Some.part.now in
    let others = products_of b ++ scaled c.args.den (products_at (take c.args.position c.args.qs.now)
    ++ once_less (product_of q) ∷ products_at (drop (c.args.position + 1) c.args.qs.now)) in
    let made : products_at c.push_scaled-2.new.products.items ≡ others =
    others-made c.args.den c.args.qs.now c.args.position q c.in_ok-less.less b c.in_ok-others.others.items
    c.push_scaled.new.products.items c.push.new.self.items c.push_scaled-2.new.products.items c.in_ok-others.ensures
    c.in_ok-push_scaled.ensures c.in_ok-push.ensures.items c.in_ok-less.ensures.times c.in_ok-less.ensures.factors
    c.in_ok-push_scaled-2.ensures in
    let whole = at-some c.args.den (products_at c.args.ps.now) c.args.qs.now c.args.position q b true c.requires.inside
    c.index-qs-position.is c.in-Some.ensures (sym c.is_multipliable-is_small.ensures ∙ c.if-not-is_small.false) in
    subst (λ (v : Bool). IfOk c.covers.result (λ r. r ≡ v))
    (ap (λ (rs : List Product). covers expands_to_squares (products_at c.args.ps.now) (products_at rs)) c.deref.ensures.value
    ∙ (ap (covers expands_to_squares (products_at c.args.ps.now)) made ∙ sym whole))
    c.covers.ensures
