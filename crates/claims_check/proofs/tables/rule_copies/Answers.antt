use Rattle.std.proofs.Common.{◌∙◌, subst, arith}
use Rattle.std.proofs.lemmas.List.{take_all}
use Rattle.claims_check.specs.Tables.{AreCopies}
use Rattle.claims_check.proofs.BelowLaws.{copies-more}
use Rattle.claims_check.proofs.tables.rule_copies.Goals as goal

pub loop-i-init : goal.loop-i-init
loop-i-init c = record {
  counted = c.in_ok-copies.ensures.counted;
  copies = record { each = λ rule low. c.in_ok-copies.ensures.empty rule };
}

pub loop-i-preserved : goal.loop-i-preserved
loop-i-preserved c = record {
  counted = c.push_copy.ensures.size ∙ c.loop-i.invariant.counted;
  copies = copies-more c.args.below.now c.loop-i.i c.loop-i.copies.items c.push_copy.new.lists.items (omega arith)
      c.loop-i.invariant.copies c.push_copy.ensures.size c.in_ok-push_copy.ensures.lists;
}

pub returns-clause-copies : goal.returns-clause-copies
returns-clause-copies c =
    subst (λ xs. AreCopies xs c.loop-i.copies.items) (take_all c.loop-i.i c.args.below.now (omega arith))
    c.loop-i.invariant.copies
