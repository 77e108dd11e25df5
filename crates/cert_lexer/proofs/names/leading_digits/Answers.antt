use Rattle.std.specs.Char.{is_ascii_digit}
use Rattle.bound_text.proofs.LexingLaws.{take_with_first, all_digits}
use Rattle.cert_lexer.proofs.names.leading_digits.Goals as goal

pub returns-clause-digits : goal.returns-clause-digits
returns-clause-digits c =
    take_with_first is_ascii_digit c.args.bytes.now c.args.others.now c.args.first c.digits_len.result c.requires.begins c.digits_len.ensures.value

pub returns-clause-all : goal.returns-clause-all
returns-clause-all c =
    all_digits c.args.bytes.now c.args.others.now c.args.first c.digits_len.result c.requires.begins c.digits_len.ensures.value c.requires.digit
