use Rattle.std.proofs.Common.{◌∙◌}
use Rattle.text_grammar.specs.text_core.Names.{continues_name}
use Rattle.bound_text.proofs.LexingLaws.{take_with_first, drop_with_first}
use Rattle.cert_lexer.proofs.names.leading_name.Goals as goal

pub returns-clause-name : goal.returns-clause-name
returns-clause-name c =
    c.split_at.ensures.front ∙ take_with_first continues_name c.args.bytes.now c.args.others.now c.args.first c.name_len.result c.requires c.name_len.ensures.value

pub returns-clause-behind : goal.returns-clause-behind
returns-clause-behind c =
    c.split_at.ensures.back ∙ drop_with_first continues_name c.args.bytes.now c.args.others.now c.args.first c.name_len.result c.requires c.name_len.ensures.value
