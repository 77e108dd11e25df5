use Rattle.std.proofs.Common.{◌≡◌, ◌-◌, ◌+◌, ℕ, List, ℤ, Option, None, Some, sym, subst, arith}
use Rattle.std.specs.Prelude.{MatchResult}
use Rattle.its_model.specs.model.Programs.{Rule, rule_at}
use Rattle.its_model.specs.Views.{rule_of, program_of}
use Rattle.affine_turns.specs.Stops.{Stops}
use Rattle.affine_turns.specs.Turns.{step_stop, step_affine}
use Rattle.affine_turns.proofs.Loops.{rule_numbered}
use Rattle.affine_turns.proofs.step.step_on.Goals as goal

pub returns : goal.returns
returns c =
    let p = c.args.p.now in
    let n = c.args.step.now.rule in
    let places = c.args.places.now in
    let r = c.index.result.now in
    let next : n ≡ (n - 1) + 1 = omega arith in
    let numbered : rule_at (program_of p) n ≡ Some (rule_of r) =
    rule_numbered p n (n - 1) r next (omega (arith, c.if-number-len.false, c.len.ensures, p.rules.ok.0)) c.index.ensures in
    subst (λ (o : Option Rule). MatchResult c.rule_on.result
    (λ behind. (step_stop o places c.args.step.now.free.items ≡ None)
    × (behind.items ≡ step_affine o places c.args.step.now.free.items))
    (Stops (step_stop o places c.args.step.now.free.items))) (sym numbered)
    (subst (λ (free : List ℤ). MatchResult c.rule_on.result
    (λ behind. (step_stop (Some (rule_of r)) places free ≡ None)
    × (behind.items ≡ step_affine (Some (rule_of r)) places free))
    (Stops (step_stop (Some (rule_of r)) places free))) c.deref.ensures.value c.rule_on.ensures)
