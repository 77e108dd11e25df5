-- Digits have the effect of the number that they write.
use Rattle.std.proofs.Common.{arith, ◌∙◌}
use Rattle.expr_text.specs.Terms.{number_of}
use Rattle.expr_reader.specs.Views.{operand_of}
use Rattle.expr_reader.proofs.Numbers.{capped}
use Rattle.expr_reader.proofs.expression.Expression.take_digits.Goals as goal

pub returns-clause-operand : goal.returns-clause-operand
returns-clause-operand c =
    c.take_value.ensures.operand
    ∙ capped (operand_of c.args.self.now.operand) (number_of c.args.digits.now) c.value_up_to.result
    (omega (arith, c.value_up_to.ensures, c.from.ensures))
