use Rattle.koat_cli.proofs.while_reader.WhileProgramsFileCommand.answer.Goals as goal

pub executions-requires : goal.executions-requires
executions-requires c = c.requires.read.1.within

pub translation-requires : goal.translation-requires
translation-requires c = c.requires.read.1.within
