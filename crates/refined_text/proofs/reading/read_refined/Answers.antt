use Rattle.std.proofs.Common.{ℕ, ◌<◌, length, ap, subst, inl}
use Rattle.its_model.specs.Views.{program_of}
use Rattle.cert_text.specs.cert_lexer.declared.kind.ProofKind.TheVariants.{Syntax}
use Rattle.proof_parts.specs.Views.{parts_of}
use Rattle.refined_types.specs.Views.{file_view}
use Rattle.refined_text.specs.Outcomes.{AtText}
use Rattle.refined_text.specs.Files.{CutReads, PartsRead}
use Rattle.refined_text.proofs.Steps.{next-says}
use Rattle.refined_text.proofs.reading.read_refined.Goals as goal

pub read_parts-requires-clause-placed : goal.read_parts-requires-clause-placed
read_parts-requires-clause-placed c = (length c.args.bytes.now, c.in-Ok.ensures.placed)

pub returns-in-Ok : goal.returns-in-Ok
returns-in-Ok c =
    next-says file_view (CutReads c.args.bytes.now) (PartsRead (program_of c.args.program.now)) (parts_of c.in-Ok.parts)
    c.read_parts.result c.in-Ok.ensures.cut c.read_parts.ensures

pub returns-in-Err : goal.returns-in-Err
returns-in-Err c =
    let e = c.in-Err.ensures.cut.0 in
    inl (
      subst (λ (n : ℕ). n < 13) e c.in-Err.ensures.cut.1,
      ap (λ (n : ℕ). AtText (record { kind = Syntax; at = n }))
          e,
    )
