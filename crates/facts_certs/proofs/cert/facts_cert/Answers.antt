use Rattle.its_model.specs.Views.{program_of}
use Rattle.facts_certs.proofs.RefinedLaws.{accepted_refines}
use Rattle.facts_certs.proofs.cert.facts_cert.Goals as goal

-- an accepted section refines the program that facts strengthen
pub returns-in-Ok-clause-refined : goal.returns-in-Ok-clause-refined
returns-in-Ok-clause-refined c =
    accepted_refines (program_of c.args.p.now) c.in_ok-section.section c.args.f.now.kept.items c.requires.valid
    c.requires.held c.in-Ok.ensures
