use Rattle.std.proofs.Common.{refl, arith}
use Rattle.check_sizes.proofs.MemberShapes.{ascend-from, ascend-more, next-at}
use Rattle.check_sizes.proofs.looping.ascend.Goals as goal

pub returns-then-not-fits : goal.returns-then-not-fits
returns-then-not-fits c = (
  λ e. absurd (let no : ⊥ = cc in no),
  λ a. absurd (let f = c.precedes-fits.ensures.1 (next-at c.args.members.now c.loop-i.i c.index-members-i.result c.index-members-i-in-loop-i.result a
      c.loop-i.auto.i (omega arith) c.index-members-i.is c.index-members-i-in-loop-i.is) in let no : ⊥ = cc in no),
)

pub loop-i-preserved : goal.loop-i-preserved
loop-i-preserved c =
    ascend-more c.args.members.now c.loop-i.i c.index-members-i.result c.index-members-i-in-loop-i.result c.loop-i.auto.i (omega arith)
    c.index-members-i.is c.index-members-i-in-loop-i.is c.loop-i.invariant (c.precedes-fits.ensures.0 c.if-not-fits.false)

pub returns : goal.returns
returns c = (λ e. ascend-from c.args.members.now (λ k d l. c.loop-i.invariant k d (omega (arith, l, c.loop-i-test.false))), λ a. refl)
