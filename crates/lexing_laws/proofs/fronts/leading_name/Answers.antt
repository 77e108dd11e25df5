use Rattle.text_core.specs.Names.{continues_name}
use Rattle.lexing_laws.proofs.FrontLaws.{take_prefix}
use Rattle.lexing_laws.proofs.fronts.leading_name.Goals as goal

pub returns : goal.returns
returns c =
    take_prefix continues_name c.args.bytes.now c.args.others.now c.args.first c.name_len.result c.requires
    c.name_len.ensures.value
