use Rattle.std.proofs.Common.{Option, subst}
use Rattle.std.specs.Prelude.{MatchOption}
use Rattle.its_model.specs.Views.{program_of}
use Rattle.location_facts.specs.declared.fact.FactFault.{FactFault}
use Rattle.location_facts.specs.Faults.{proofs_of, AreProved, IsFirstFault}
use Rattle.location_facts.proofs.ProvedFacts.{facts-hold}
use Rattle.facts_tests.proofs.answers.strengthened_text.Goals as goal

-- facts without a fault are among those that are tried, and hold
pub strengthen-requires-clause-held : goal.strengthen-requires-clause-held
strengthen-requires-clause-held c =
    facts-hold.proved (program_of c.args.p.now) c.args.facts.now.kept.items (proofs_of c.args.facts.now) c.requires
    (subst (λ (o : Option FactFault). MatchOption o
    (AreProved (program_of c.args.p.now) c.args.facts.now.kept.items (proofs_of c.args.facts.now))
    (IsFirstFault (program_of c.args.p.now) c.args.facts.now.kept.items (proofs_of c.args.facts.now))) c.in-None.is
    (c.in_ok-facts_fault.ensures {u = tt}))
