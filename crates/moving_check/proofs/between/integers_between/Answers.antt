use Rattle.std.proofs.Common.{sym, ◌∙◌, ap, Option}
use Rattle.std.specs.Prelude.{ℕ}
use Rattle.affine_turns.specs.Affine.{between}
use Rattle.moving_check.specs.Findings.{Found, PassesAt, at_place, first_wide}
use Rattle.moving_check.proofs.Places.{values-next, fitting-next, wide-found}
use Rattle.moving_check.proofs.between.integers_between.Goals as goal

pub loop-i-preserved : goal.loop-i-preserved
loop-i-preserved c =
    let bs = c.args.before.now in
    let cs = c.args.behind.now in
    let i = c.loop-i.i in
    let a = c.in-Some.integer in
    let there = sym c.integer_at.ensures ∙ c.in-Some.is in
    record {
      values = values-next bs cs i a c.loop-i.env.items _ (between bs cs) c.loop-i-test.true there
          c.in_ok-push-in-Some.ensures.items c.loop-i.invariant.values;
      wide = fitting-next bs cs i a (first_wide 1 (between bs cs)) c.loop-i-test.true there c.loop-i.invariant.wide;
    }

pub returns-in-None : goal.returns-in-None
returns-in-None c = λ f.
    let bs = c.args.before.now in
    let cs = c.args.behind.now in
    let missing = sym c.integer_at.ensures ∙ c.in-None.is in
    ap (λ (o : Option ℕ). Found (at_place o PassesAt f))
    (sym (wide-found bs cs c.loop-i.i (first_wide 1 (between bs cs)) c.loop-i-test.true missing c.loop-i.invariant.wide))
