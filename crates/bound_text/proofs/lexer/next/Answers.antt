use Rattle.std.proofs.Common.{refl, sym, ◌∙◌}
use Rattle.bound_text.proofs.LexingLaws.{all_digits, word_found, number_found}
use Rattle.bound_text.proofs.lexer.next.Goals as goal

pub number-requires : goal.number-requires
number-requires c = all_digits c.args.text.now c.args.others.now c.args.first c.digits_len.result c.requires c.digits_len.ensures.value (sym c.is_ascii_digit.ensures.value ∙ c.if-is_ascii_digit.true)

pub returns-then-begins_name-clause-piece : goal.returns-then-begins_name-clause-piece
returns-then-begins_name-clause-piece c =
    word_found _ c.args.text.now c.args.others.now _ _ c.args.first c.name_len.result c.word.result c.requires c.name_len.ensures.value
    c.split_at.ensures.front c.split_at.ensures.back (sym c.begins_name.ensures ∙ c.if-begins_name.true) c.word.ensures.piece

pub returns-then-is_ascii_digit-clause-piece : goal.returns-then-is_ascii_digit-clause-piece
returns-then-is_ascii_digit-clause-piece c =
    number_found _ c.args.text.now c.args.others.now _ c.args.first c.digits_len.result c.number.result c.requires c.digits_len.ensures.value
    refl (sym c.begins_name.ensures ∙ c.if-begins_name.false) (sym c.is_ascii_digit.ensures.value ∙ c.if-is_ascii_digit.true) c.number.ensures.piece
