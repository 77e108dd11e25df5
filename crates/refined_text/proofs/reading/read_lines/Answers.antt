use Rattle.std.proofs.Common.{◌∙◌, Err, ap, map}
use Rattle.std.proofs.lemmas.Result.{err_from_is_err_and}
use Rattle.its_model.specs.Views.{program_of}
use Rattle.cert_types.specs.AnswerViews.{file_of}
use Rattle.potential_types.specs.Views.{lemma_of}
use Rattle.proof_parts.specs.Views.{parts_of}
use Rattle.refined_types.specs.Views.{section_view}
use Rattle.refined_text.proofs.Lines.{lemmas-refused, claims-refused}
use Rattle.refined_text.proofs.reading.read_lines.Goals as goal

pub returns-in_err-signed : goal.returns-in_err-signed
returns-in_err-signed c =
    let p = err_from_is_err_and c.from_residual-in_err-signed.result c.from_residual-in_err-signed.ensures.1 in
    lemmas-refused (program_of c.args.spelled_program.now) (parts_of c.args.parts.now) (section_view c.args.section)
    (file_of c.in_ok-plain.plain) c.in_ok-plain.ensures c.from_residual-in_err-signed.result _ (p.1 ∙ ap Err p.2)
    c.in_err-signed.ensures

pub returns-in_err-claims : goal.returns-in_err-claims
returns-in_err-claims c =
    let p = err_from_is_err_and c.from_residual-in_err-claims.result c.from_residual-in_err-claims.ensures.1 in
    claims-refused (program_of c.args.spelled_program.now) (parts_of c.args.parts.now) (section_view c.args.section)
    (file_of c.in_ok-plain.plain) c.in_ok-plain.ensures (map lemma_of c.in_ok-signed.signed.items)
    c.in_ok-signed.ensures
    c.from_residual-in_err-claims.result _ (p.1 ∙ ap Err p.2) c.in_err-claims.ensures
