-- A word is taken as the value of an option or as an operand, or is refused.
use Rattle.std.proofs.Common.{◌≡◌, true, false, subst}
use Rattle.command_line.specs.Lines.{Word, is_value}
use Rattle.command_line.specs.Steps.{HasOneValue}
use Rattle.command_line.proofs.StepLaws.{positional_taken, value_taken, value_refused}
use Rattle.command_line.proofs.line.accept_word.Goals as goal

pub returns-in_ok-push_positional-in-Positional : goal.returns-in_ok-push_positional-in-Positional
returns-in_ok-push_positional-in-Positional c =
    positional_taken c.args.line.now c.push_positional.new.line c.args.word.now c.in-Positional.is
    c.in_ok-push_positional-in-Positional.ensures

pub returns-in_ok-push_value-in-Value : goal.returns-in_ok-push_value-in-Value
returns-in_ok-push_value-in-Value c =
    let proper : is_value c.args.word.now ≡ true = cc
    (c.as_bytes.ensures.value, c.is_value.ensures, c.if-is_value.true) in
    value_taken c.args.line.now c.push_value.new.line c.args.word.now c.in-Value.is proper
    (subst (λ (w : Word). HasOneValue c.args.line.now w c.push_value.new.line) c.as_bytes-then-is_value.ensures.value
    c.in_ok-push_value-in-Value.ensures)

pub returns-else-is_value : goal.returns-else-is_value
returns-else-is_value c =
    let improper : is_value c.args.word.now ≡ false = cc
    (c.as_bytes.ensures.value, c.is_value.ensures, c.if-is_value.false) in
    value_refused c.args.line.now c.args.word.now c.in-Value.is improper
