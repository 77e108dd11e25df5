use Rattle.std.proofs.Common.{◌≡◌, List, ◌∙◌, sym, subst, Option, Some, None, arith}
use Rattle.signed_bounds.specs.Safe.{expands_to_squares}
use Rattle.signed_bounds.specs.Covers as covers
use Rattle.signed_within.specs.Taking.{IsWithoutProduct}
use Rattle.signed_within.specs.Views.{signed_at, counted}
use Rattle.signed_within.proofs.Wholes.{dominated-step, dominated-none}
use Rattle.signed_within.proofs.covering.dominated.Goals as goal

pub loop-i-preserved : goal.loop-i-preserved
loop-i-preserved c =
    let found = rw c.in-Some.is at c.in_ok-found.ensures in
    record {
      decided = sym (dominated-step c.args.ps.now c.args.qs.now c.args.missing.now c.loop-i.rest.items c.loop-i.i
          c.index-ps-i.result (Some (counted c.args.qs.now c.in-Some.others.items)) (omega arith) c.requires.first
          c.index-ps-i.is found.0) ∙ c.loop-i.invariant.decided;
      size = found.1;
    }

pub returns-in_default : goal.returns-in_default
returns-in_default c =
    let found = rw c.in_default.is at c.in_ok-found.ensures in
    sym (dominated-step c.args.ps.now c.args.qs.now c.args.missing.now c.loop-i.rest.items c.loop-i.i
    c.index-ps-i.result None (omega arith) c.requires.first c.index-ps-i.is found) ∙ c.loop-i.invariant.decided

pub returns : goal.returns
returns c =
    sym (dominated-none c.args.ps.now c.args.missing.now c.loop-i.i (counted c.args.qs.now c.loop-i.rest.items) (omega arith))
    ∙ c.loop-i.invariant.decided
