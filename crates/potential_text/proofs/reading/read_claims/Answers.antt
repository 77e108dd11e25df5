use Rattle.std.specs.Prelude.{[]}
use Rattle.claim_types.specs.Views.{claims_of}
use Rattle.potential_text.specs.declared.kind.Part.TheVariants.{Claims}
use Rattle.potential_text.specs.Reading.{claims_in}
use Rattle.potential_text.proofs.JudgedLines.{tells_answer}
use Rattle.potential_text.proofs.reading.read_claims.Goals as goal

pub returns : goal.returns
returns c =
    tells_answer claims_in Claims [] c.args.bytes.now (λ made. claims_of made.items) c.judge_claims.result
    c.judge_claims.ensures
