use Rattle.std.proofs.Common.{◌≡◌, ℕ, ◌+◌, arith, ap, ◌∙◌, rules}
use Rattle.std.specs.Prelude.{nat_abs}
use Rattle.poly_terms.specs.linear_forms.Forms.{at}
use Rattle.poly_terms.specs.linear_forms.Questions.{listed}
use Rattle.rule_questions.proofs.Lists.{listed-pushed}
use Rattle.rule_questions.proofs.scaled.multipliers_from.Goals as goal

pub loop-row-preserved : goal.loop-row-preserved
loop-row-preserved c =
    listed-pushed c.loop-row.row (λ j. nat_abs (at c.args.numbers.now (c.args.start + j))) c.loop-row.multipliers.items
    c.push.new.self.items _ c.loop-row.invariant c.in_ok-push.ensures.items (search rules)

pub returns : goal.returns
returns c =
    let all : c.loop-row.row ≡ c.args.count = let a = c.loop-row-test.false in let b = c.loop-row.auto.row-end in omega
    (arith, a, b) in
    c.loop-row.invariant ∙ ap (λ (n : ℕ). listed n (λ j. nat_abs (at c.args.numbers.now (c.args.start + j)))) all
