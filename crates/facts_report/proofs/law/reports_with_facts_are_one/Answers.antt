use Rattle.facts_report.proofs.OneDerivation.{one_derivation_each}
use Rattle.facts_report.proofs.law.reports_with_facts_are_one.Goals as goal

pub returns : goal.returns
returns c = one_derivation_each
