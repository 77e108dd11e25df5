use Rattle.std.proofs.Common.{◌≡◌, ◌==◌, ℕ, List, false, Some, None, sym, subst, ap, ◌∙◌, length, arith, rules, Option, Bool}
use Rattle.std.specs.Prelude.{vec_len}
use Rattle.signed_bounds.specs.Bounds as plain
use Rattle.signed_bounds.specs.Views.{signed_of}
use Rattle.signed_within.specs.Tests.{without, lists_match}
use Rattle.signed_within.specs.Positions.{IsTakenOut}
use Rattle.signed_within.specs.Views.{signed_at}
use Rattle.signed_within.proofs.Matchings.{match_more, match_none, is_empty-length}
use Rattle.signed_within.proofs.matching.factors_match.Goals as goal

pub returns : goal.returns
returns c =
    let len : vec_len c.loop-i.left ≡ length c.loop-i.left.items = search rules in
    c.is_empty.ensures
    ∙ ap (λ (n : ℕ). n == 0) len
    ∙ is_empty-length c.loop-i.left.items
    ∙ sym (match_none c.args.test c.args.factors.now c.loop-i.i (signed_at c.loop-i.left.items) (omega arith))
    ∙ c.loop-i.invariant

pub loop-i-preserved : goal.loop-i-preserved
loop-i-preserved c =
    sym (match_more c.args.test c.args.factors.now c.loop-i.i c.index-factors-i.result (signed_at c.loop-i.left.items)
    (Some (signed_at c.take_one.new.left.items)) (omega arith) c.index-factors-i.is
    (subst (λ (t : Bool). IsTakenOut (without c.args.test (signed_of c.index-factors-i.result.now) (signed_at c.loop-i.left.items))
    t (signed_at c.take_one.new.left.items)) c.if-not-is_taken.false c.in_ok-is_taken.ensures))
    ∙ c.loop-i.invariant

pub returns-then-not-is_taken : goal.returns-then-not-is_taken
returns-then-not-is_taken c =
    sym (match_more c.args.test c.args.factors.now c.loop-i.i c.index-factors-i.result (signed_at c.loop-i.left.items)
    None (omega arith) c.index-factors-i.is
    (subst (λ (t : Bool). IsTakenOut (without c.args.test (signed_of c.index-factors-i.result.now) (signed_at c.loop-i.left.items))
    t (signed_at c.take_one.new.left.items)) c.if-not-is_taken.true c.in_ok-is_taken.ensures))
    ∙ c.loop-i.invariant
