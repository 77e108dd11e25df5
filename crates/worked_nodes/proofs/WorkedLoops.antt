-- The lemmas on nested loops and on a doubling loop, computed.
use Rattle.std.proofs.Common.{refl}
use Rattle.cert_program.specs.bound_table.Below.{below}
use Rattle.cert_program.specs.bound_table.InForce.{rewritten}
use Rattle.cert_program.specs.bound_table.Rewriting.{simplified, passes_until_same, at_node, parts_passed}
use Rattle.cert_program.specs.guard_prep.Tightening.{divisor_of}
use Rattle.cert_program.specs.cert_rules.Acceptance.{facts_of_lemmas}
use Rattle.cert_program.specs.Setting.{setting_of}
use Rattle.worked_nodes.specs.WorkedPrograms.{nested_loops, doubling}
use Rattle.worked_nodes.specs.WorkedLoops.{nested_lemmas, doubling_lemmas, NestedLoopsAreJudged, DoublingIsJudged}
use Rattle.cert_program.proofs.cert_rules.Refusals.{lemmas-decided}

pub nested_judged : NestedLoopsAreJudged
unfolding rewritten simplified passes_until_same at_node parts_passed divisor_of facts_of_lemmas below
nested_judged = record {
  accepted = (lemmas-decided.each (setting_of nested_loops) nested_lemmas).0 refl;
  facts = refl;
  composed = refl;
}

pub doubling_judged : DoublingIsJudged
unfolding rewritten simplified passes_until_same at_node parts_passed divisor_of facts_of_lemmas below
doubling_judged = record {
  accepted = (lemmas-decided.each (setting_of doubling) doubling_lemmas).0 refl;
  facts = refl;
  composed = refl;
}
