use Rattle.koat_cli.proofs.lp_reader.LinearProgramsFileCommand.answer.Goals as goal

pub answer_lp-requires : goal.answer_lp-requires
answer_lp-requires c = c.requires.read.1.within
