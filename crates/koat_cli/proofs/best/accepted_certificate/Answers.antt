use Rattle.std.proofs.Common.{inl, refl}
use Rattle.its_model.specs.Views.{program_of}
use Rattle.koat_cli.proofs.Certified.{proved_certifies}
use Rattle.koat_cli.proofs.best.accepted_certificate.Goals as goal

-- the proof file of the analysis is accepted
pub returns : goal.returns
returns c =
    let p = program_of c.args.program.now in
    inl (refl, proved_certifies p c.args.pivots c.in_ok-text-2.field-0.status c.in_ok-text-2.field-0.text.items c.in_ok-text-2.ensures)
