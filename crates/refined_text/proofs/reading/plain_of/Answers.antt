use Rattle.std.proofs.Common.{◌∙◌, ℕ, ap}
use Rattle.std.specs.Prelude.{option_map}
use Rattle.its_model.specs.Views.{program_of}
use Rattle.cert_text.specs.StatedErrors as errors
use Rattle.proof_parts.specs.Views.{parts_of}
use Rattle.refined_text.specs.Kinds.{same_kind}
use Rattle.refined_text.specs.Outcomes.{text_refusal}
use Rattle.refined_text.specs.Parts.{plain_text}
use Rattle.refined_text.specs.Results.{refusal_in}
use Rattle.refined_text.proofs.Placed.{plain-placed}
use Rattle.refined_text.proofs.Steps.{refused-says}
use Rattle.refined_text.proofs.reading.plain_of.Goals as goal

pub returns-in-Err : goal.returns-in-Err
returns-in-Err c =
    refused-says (plain_text (program_of c.args.spelled_program.now) (parts_of c.args.parts.now))
    (errors.refusal_in c.in-Err.error) (refusal_in c.of_plain.result)
    (c.of_plain.ensures
    ∙ ap (λ (n : ℕ). option_map (text_refusal same_kind n) (errors.refusal_in c.in-Err.error))
    (plain-placed c.requires.placed.0 c.args.parts.now c.requires.placed.1))
    c.in-Err.ensures.answer
