use Rattle.text_grammar.specs.text_core.Names.{continues_name}
use Rattle.section_text.proofs.LexingLaws.{take_prefix}
use Rattle.section_text.proofs.lexer.leading_name.Goals as goal

pub returns : goal.returns
returns c =
    take_prefix continues_name c.args.bytes.now c.args.others.now c.args.first c.name_len.result c.requires
    c.name_len.ensures.value
