use Rattle.std.proofs.Common.{◌≡◌, ◌++◌, ◌∷◌, [], List, sym, subst, arith}
use Rattle.std.specs.Prelude.{pos, ◌+ℤ◌}
use Rattle.std.proofs.lemmas.Int.{ints}
use Rattle.poly_terms.specs.declared.keyed.Keyed.{Keyed}
use Rattle.poly_terms.specs.Keys.{IsMergedFrom}
use Rattle.poly_terms.proofs.KeyLaws.{sum-gone, sum-behind}
use Rattle.poly_terms.proofs.key_product.put_sum.Goals as goal

pub returns-in_ok-push : goal.returns-in_ok-push
returns-in_ok-push c =
    subst (λ (ms : List Keyed). IsMergedFrom ms (c.args.f ∷ (c.args.merged.now.items ++ c.args.e ∷ []))) (sym c.in_ok-push.ensures.items)
    (sum-behind c.args.merged.now.items c.args.e c.args.f c.in_ok-sum.sum c.requires c.in_ok-sum.ensures.key c.in_ok-sum.ensures.coefficient)

pub returns-else-sum-ne0 : goal.returns-else-sum-ne0
returns-else-sum-ne0 c =
    let zero : c.args.e.coef +ℤ c.args.f.coef ≡ pos 0 = omega (arith, ints, c.in_ok-sum.ensures.coefficient, c.if-sum-ne0.false) in
    sum-gone c.args.merged.now.items c.args.e c.args.f c.requires zero
