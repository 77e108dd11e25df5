use Rattle.std.proofs.Common.{◌∙◌, ℕ, ap}
use Rattle.std.specs.Prelude.{option_map}
use Rattle.its_model.specs.Views.{program_of}
use Rattle.potential_text.specs.Refusals as errors
use Rattle.proof_parts.specs.Views.{parts_of}
use Rattle.refined_text.specs.Kinds.{kind_of_line}
use Rattle.refined_text.specs.Outcomes.{text_refusal}
use Rattle.refined_text.specs.Parts.{lemma_text}
use Rattle.refined_text.specs.Results.{refusal_in}
use Rattle.refined_text.proofs.Placed.{lemmas-placed}
use Rattle.refined_text.proofs.Steps.{refused-says}
use Rattle.refined_text.proofs.reading.lemmas_of.Goals as goal

pub returns-in-Err : goal.returns-in-Err
returns-in-Err c =
    refused-says (lemma_text (program_of c.args.spelled_program.now) (parts_of c.args.parts.now))
    (errors.refusal_in c.in-Err.error) (refusal_in c.of_lines.result)
    (c.of_lines.ensures
    ∙ ap (λ (n : ℕ). option_map (text_refusal kind_of_line n) (errors.refusal_in c.in-Err.error))
    (lemmas-placed c.requires.placed.0 c.args.parts.now c.requires.placed.1))
    c.in-Err.ensures
