use Rattle.std.proofs.Common.{◌≤◌, ℕ, subst, sym}
use Rattle.its_model.specs.Views.{program_of}
use Rattle.cert_types.specs.Views.{result_variable_of}
use Rattle.check_sizes.proofs.MemberShapes.{no-target, result_variable-at, result_variable-of-target, result_variable-rule}
use Rattle.check_sizes.proofs.members.is_result_variable.Goals as goal

pub returns-then-not-is_rule : goal.returns-then-not-is_rule
returns-then-not-is_rule c = (
  λ e. absurd (let no : ⊥ = cc in no),
  λ h. absurd (let f = c.if-not-is_rule.ensures.1 (result_variable-rule (program_of c.args.p.now) (result_variable_of c.args.result_variable) h) in
      let no : ⊥ = cc in no),
)

pub returns-in-Some : goal.returns-in-Some
returns-in-Some c =
    let p = program_of c.args.p.now in
    let result_variable = result_variable_of c.args.result_variable in
    let is = c.is_rule.ensures.0 c.if-not-is_rule.false in (
      λ e. result_variable-at p result_variable is c.in-Some.target c.in-Some.ensures
          (subst (λ (n : ℕ). (1 ≤ result_variable.place) × (result_variable.place ≤ n)) c.arity_at.ensures (c.is_place.ensures.0 e)),
      λ h. c.is_place.ensures.1
          (subst (λ (n : ℕ). (1 ≤ result_variable.place) × (result_variable.place ≤ n)) (sym c.arity_at.ensures)
          (result_variable-of-target p result_variable is c.in-Some.target c.in-Some.ensures h)),
    )

pub returns-in-None : goal.returns-in-None
returns-in-None c =
    let p = program_of c.args.p.now in
    let result_variable = result_variable_of c.args.result_variable in
    let no = no-target p result_variable (c.is_rule.ensures.0 c.if-not-is_rule.false) c.in-None.ensures in
    (λ e. absurd no, λ h. absurd no)
