use Rattle.std.proofs.Common.{◌≡◌, ℕ, ◌+◌, arith, ap, ◌∙◌, rules}
use Rattle.poly_terms.specs.linear_forms.Forms.{at}
use Rattle.poly_terms.specs.linear_forms.Questions.{listed}
use Rattle.rule_questions.proofs.Lists.{listed-pushed}
use Rattle.rule_questions.proofs.scaled.element_from.Goals as goal

pub loop-unknown-preserved : goal.loop-unknown-preserved
loop-unknown-preserved c =
    listed-pushed c.loop-unknown.unknown (λ u. at c.args.numbers.now (c.args.start + u)) c.loop-unknown.parts.items
    c.push.new.self.items _ c.loop-unknown.invariant c.in_ok-push.ensures.items (search rules)

pub returns-clause-parts : goal.returns-clause-parts
returns-clause-parts c =
    let all : c.loop-unknown.unknown ≡ c.args.unknowns = let a = c.loop-unknown-test.false
    in let b = c.loop-unknown.auto.unknown-end in omega (arith, a, b) in
    c.loop-unknown.invariant ∙ ap (λ (n : ℕ). listed n (λ u. at c.args.numbers.now (c.args.start + u))) all
