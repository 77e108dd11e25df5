use Rattle.std.proofs.Common.{◌≡◌, ◌<◌, length, take, drop, ℕ, sym, subst, ◌∙◌, add-one, arith}
use Rattle.signed_bounds.specs.Views.{signed_of}
use Rattle.signed_bounds.specs.Covers.{without_first}
use Rattle.signed_within.specs.Tests as tests
use Rattle.signed_within.specs.Views.{signed_at}
use Rattle.signed_within.proofs.Positions.{behind, first_fails, first_passes, first_none, signed_at-get, signed_at-length}
use Rattle.signed_within.proofs.matching.first_taken.Goals as goal

pub returns-then-is_taken : goal.returns-then-is_taken
returns-then-is_taken c =
    let others = c.args.others.now in
    let inside : c.loop-i.i < length (signed_at others) = omega (arith, signed_at-length others) in (
      inside,
      sym c.loop-i.invariant
          ∙ first_passes (tests.takes c.args.test (signed_of c.args.factor.now)) (signed_at others) c.loop-i.i
          (signed_of c.index-others-i.result.now) inside
          (signed_at-get others c.loop-i.i c.index-others-i.result (omega arith) c.index-others-i.is)
          (sym c.in_ok-is_taken.ensures ∙ c.if-is_taken.true),
    )

pub loop-i-preserved : goal.loop-i-preserved
loop-i-preserved c =
    let others = c.args.others.now in
    let test = tests.takes c.args.test (signed_of c.args.factor.now) in
    let inside : c.loop-i.i < length (signed_at others) = omega (arith, signed_at-length others) in
    subst (λ (j : ℕ). behind (take j (signed_at others)) (without_first test (drop j (signed_at others)))
    ≡ without_first test (signed_at others)) (sym (add-one c.loop-i.i))
    (sym (first_fails test (signed_at others) c.loop-i.i (signed_of c.index-others-i.result.now) inside
    (signed_at-get others c.loop-i.i c.index-others-i.result (omega arith) c.index-others-i.is)
    (sym c.in_ok-is_taken.ensures ∙ c.if-is_taken.false))
    ∙ c.loop-i.invariant)

pub returns : goal.returns
returns c =
    let others = c.args.others.now in
    sym c.loop-i.invariant
    ∙ first_none (tests.takes c.args.test (signed_of c.args.factor.now)) (signed_at others) c.loop-i.i
    (omega (arith, signed_at-length others))
