use Rattle.std.proofs.Common.{sym, ◌∙◌}
use Rattle.its_reader.proofs.GrammarStates.{named_at, counted_at}
use Rattle.its_reader.proofs.lexer.lexeme_at.Goals as goal

pub returns-then-begins_name : goal.returns-then-begins_name
returns-then-begins_name c =
    c.found.ensures ∙ named_at c.args.first c.name_len-len.result c.args.others.now c.args.text.now
    (sym c.is_white_space.ensures ∙ c.if-is_white_space.false) (sym c.begins_name.ensures ∙ c.if-begins_name.true)
    c.name_len-len.ensures.value c.requires

pub returns-then-is_ascii_digit : goal.returns-then-is_ascii_digit
returns-then-is_ascii_digit c =
    c.found-then-is_ascii_digit.ensures
    ∙ counted_at c.args.first c.digits_len-len.result c.args.others.now c.args.text.now
    (sym c.is_white_space.ensures ∙ c.if-is_white_space.false) (sym c.begins_name.ensures ∙ c.if-begins_name.false)
    (sym c.is_ascii_digit.ensures.value ∙ c.if-is_ascii_digit.true) c.digits_len-len.ensures.value c.requires
