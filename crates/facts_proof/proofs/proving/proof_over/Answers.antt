use Rattle.std.proofs.Common.{refl}
use Rattle.its_model.specs.Views.{program_of}
use Rattle.outcome.specs.Views.{report_of}
use Rattle.refined_types.specs.Views.{section_view}
use Rattle.facts_proof.proofs.WholeFiles.{proved-over, names_kept}
use Rattle.facts_proof.proofs.proving.proof_over.Goals as goal

pub returns : goal.returns
returns c =
    proved-over (program_of c.args.p.now) (program_of c.args.spelled_program.now) c.args.section (report_of c.args.outcome.now) _
    c.accepted_proof.result c.accepted_proof.ensures.same c.accepted_proof.ensures.states c.accepted_proof.ensures.holds refl
    c.in_ok-claims.ensures c.in_ok-plain.ensures
    (names_kept (program_of c.args.p.now) (program_of c.args.spelled_program.now) (section_view c.args.section)
    c.requires.spelled.program)
