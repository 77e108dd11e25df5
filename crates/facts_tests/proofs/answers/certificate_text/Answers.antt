use Rattle.its_model.specs.Views.{program_of}
use Rattle.location_facts.specs.Faults.{proofs_of}
use Rattle.location_facts.proofs.ProvedFacts.{facts-hold}
use Rattle.facts_tests.proofs.answers.certificate_text.Goals as goal

-- facts that are kept are proved, and so they are tried and hold
pub facts_cert-requires-clause-held : goal.facts_cert-requires-clause-held
facts_cert-requires-clause-held c =
    facts-hold.proved (program_of c.args.p.now) c.in_ok-found.found.kept.items
    (proofs_of c.in_ok-found.found) c.requires
    c.in_ok-found.ensures.proved
