-- The facts hold, so that the analysis of the stronger program is proved by its section and its lemmas.
use Rattle.its_model.specs.Views.{program_of}
use Rattle.outcome.specs.Views.{report_of}
use Rattle.location_facts.specs.Faults.{proofs_of}
use Rattle.location_facts.proofs.ProvedFacts.{facts-hold}
use Rattle.facts_report.proofs.StrengthenedReports.{found_with}
use Rattle.facts_proof.proofs.WholeFiles.{proved-facts}
use Rattle.facts_proof.proofs.proving.facts_proof.Goals as goal

pub strengthen-requires-clause-held : goal.strengthen-requires-clause-held
strengthen-requires-clause-held c =
    facts-hold.proved (program_of c.args.p.now) c.in_ok-found.found.kept.items (proofs_of c.in_ok-found.found) c.requires
    (c.in_ok-found.ensures {u = tt}).proved

pub returns : goal.returns
returns c =
    proved-facts (program_of c.args.p.now) c.args.pivots c.in_ok-found.found.kept.items c.in_ok-section.section
    (report_of c.in_ok-outcome.outcome) c.proof_of_outcome.result
    (found_with (program_of c.args.p.now) (program_of c.in_ok-stronger.stronger) c.args.pivots
    c.in_ok-found.found.kept.items (proofs_of c.in_ok-found.found) (report_of c.in_ok-outcome.outcome) c.requires
    (c.in_ok-found.ensures {u = tt}).kept (c.in_ok-found.ensures {u = tt}).proved
    (c.in_ok-stronger.ensures {u = tt}).exact (c.in_ok-outcome.ensures {u = tt}).found
    (c.in_ok-outcome.ensures {u = tt}).holds (c.in_ok-outcome.ensures {u = tt}).reasons
    (c.in_ok-outcome.ensures {u = tt}).fits)
    c.in_ok-section.ensures.of_facts c.proof_of_outcome.ensures
