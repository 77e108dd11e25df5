use Rattle.std.proofs.Common.{◌∙◌, List, ℕ, ap, sym}
use Rattle.std.specs.List.{concat}
use Rattle.text_core.specs.Prefixes.{prefix, rest}
use Rattle.proof_parts.specs.Lines.{lines_of}
use Rattle.proof_parts.specs.Kinds.{is_end_line, is_signed_line}
use Rattle.proof_parts.specs.Parts.{through, past}
use Rattle.proof_parts.proofs.CutLaws.{parts-by}
use Rattle.proof_parts.proofs.LineLaws.{concat-lines}
use Rattle.proof_parts.proofs.cutting.parts_behind.Goals as goal

pub returns-clause-parts : goal.returns-clause-parts
returns-clause-parts c =
    let behind_plain = c.split_through.ensures.back
    ∙ ap (past is_end_line) c.split_leading.ensures.back in
    parts-by (lines_of c.args.bytes.now) c.split_leading.result.0.now c.split_through.result.0.now
    c.split_leading-2.result.0.now
    c.split_leading-2.result.1.now c.split_leading.ensures.front
    (c.split_through.ensures.front
    ∙ ap (λ (lines : List (List ℕ)). concat (through is_end_line lines)) c.split_leading.ensures.back)
    (c.split_leading-2.ensures.front
    ∙ ap (λ (lines : List (List ℕ)). concat (prefix is_signed_line lines)) behind_plain)
    (sym (concat-lines c.split_leading-2.result.1.now)
    ∙ (ap concat c.split_leading-2.ensures.back
    ∙ ap (λ (lines : List (List ℕ)). concat (rest is_signed_line lines)) behind_plain))
