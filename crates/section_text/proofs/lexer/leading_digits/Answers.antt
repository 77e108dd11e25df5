use Rattle.std.specs.Char.{is_ascii_digit}
use Rattle.section_text.proofs.LexingLaws.{take_prefix, all_digits}
use Rattle.section_text.proofs.lexer.leading_digits.Goals as goal

pub returns-clause-digits : goal.returns-clause-digits
returns-clause-digits c =
    take_prefix is_ascii_digit c.args.bytes.now c.args.others.now c.args.first c.digits_len.result c.requires.begins
    c.digits_len.ensures.value

pub returns-clause-all : goal.returns-clause-all
returns-clause-all c =
    all_digits c.args.bytes.now c.args.others.now c.args.first c.digits_len.result c.requires.begins
    c.digits_len.ensures.value c.requires.digit
