use Rattle.std.proofs.Common.{map}
use Rattle.its_model.specs.Views.{program_of}
use Rattle.potential_types.specs.Views.{lemma_of}
use Rattle.potential_text.specs.declared.kind.Part.TheVariants.{Lemmas}
use Rattle.potential_text.specs.Reading.{lemmas_in}
use Rattle.potential_text.specs.SymbolNames.{symbol_names}
use Rattle.potential_text.proofs.JudgedLines.{tells_answer}
use Rattle.potential_text.proofs.reading.read_signed.Goals as goal

pub returns : goal.returns
returns c =
    tells_answer lemmas_in Lemmas (symbol_names (program_of c.args.program.now)) c.args.bytes.now
    (λ made. map lemma_of made.items) c.judge_lemmas.result c.judge_lemmas.ensures
