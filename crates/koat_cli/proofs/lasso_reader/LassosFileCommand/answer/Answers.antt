use Rattle.its_model.specs.Views.{program_of}
use Rattle.lasso_forms.specs.Views.{file_of}
use Rattle.lasso_forms.proofs.FileTexts.{text_within}
use Rattle.koat_cli.proofs.lasso_reader.LassosFileCommand.answer.Goals as goal

pub lasso_answer-requires-clause-within : goal.lasso_answer-requires-clause-within
lasso_answer-requires-clause-within c =
    text_within (program_of c.args.self.now.program.now) c.requires.read.0 (file_of c.args.meaning.now) c.requires.read.1
