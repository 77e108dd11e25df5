use Rattle.std.proofs.Common.{◌<◌, sym, ◌∙◌, arith}
use Rattle.std.proofs.lemmas.List.{length-map}
use Rattle.poly_terms.specs.Views.{monomial_of, monomials_of}
use Rattle.poly_terms.proofs.PositionLaws.{position-within, behind-at, before-at}
use Rattle.poly_terms.proofs.sum.position_of.Goals as goal
use Rattle.poly_terms.proofs.sum.position_of.Goals.{then-comes_before, else-comes_before}

pub loop-low-init : goal.loop-low-init
loop-low-init c =
    let p = position-within c.args.vars.now.items (monomials_of c.args.terms.now) in
    let n = length-map c.args.terms.now monomial_of in
    record { from = omega arith; upto = omega (arith, p, n); within = omega arith; at_least = omega arith; less = λ h. omega arith }

pub loop-low-preserved : goal.loop-low-preserved
loop-low-preserved c =
    let middle : c.loop-low.middle < c.loop-low.high = c.loop-low.invariant.less c.loop-low-test.true in
    elim c.if-comes_before.branch [
      | then-comes_before w ↦
          let behind = behind-at c.args.vars.now.items c.args.terms.now c.loop-low.middle c.index-terms-middle.result c.requires (omega arith)
          c.index-terms-middle.is (sym c.comes_before.ensures ∙ w.if-comes_before.true) in
          record { from = omega (arith, behind); upto = omega arith; within = omega arith; at_least = omega arith; less = λ h. omega arith }
      | else-comes_before w ↦
          let before = before-at c.args.vars.now.items c.args.terms.now c.loop-low.middle c.index-terms-middle.result (omega arith)
          c.index-terms-middle.is (sym c.comes_before.ensures ∙ w.if-comes_before.false) in
          record { from = omega arith; upto = omega (arith, before); within = omega arith; at_least = omega arith; less = λ h. omega arith }
    ]
