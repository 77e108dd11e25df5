-- The lemmas on programs with one loop or none, computed.
use Rattle.std.proofs.Common.{[], ◌∷◌, refl}
use Rattle.cert_program.specs.bound_table.Below.{below}
use Rattle.cert_program.specs.bound_table.InForce.{rewritten}
use Rattle.cert_program.specs.bound_table.Rewriting.{simplified, passes_until_same, at_node, parts_passed}
use Rattle.cert_program.specs.guard_prep.Tightening.{divisor_of}
use Rattle.cert_program.specs.cert_rules.Acceptance.{facts_of_lemmas}
use Rattle.cert_program.specs.Setting.{setting_of}
use Rattle.cert_program.specs.cert_rules.Nodes.{Empty, Unreached, NoProof}
use Rattle.worked_nodes.specs.WorkedPrograms.{counting_down, looping_start, by_twos, guarded_entry, contradicted}
use Rattle.worked_nodes.specs.WorkedPrograms.{between_integers, apart, squaring, squaring_loop}
use Rattle.worked_nodes.specs.WorkedLemmas.{counting_lemmas, start_lemmas, halved_lemmas, guarded_lemmas, dead_lemmas}
use Rattle.worked_nodes.specs.WorkedLemmas.{squared_lemmas, squaring_lemmas, FallingLoopsAreJudged}
use Rattle.worked_nodes.specs.WorkedLemmas.{DeadRulesAreJudged, SquaresAreJudged}
use Rattle.cert_program.proofs.cert_rules.Refusals.{lemmas-decided}

pub falling_loops_judged : FallingLoopsAreJudged
unfolding rewritten simplified passes_until_same at_node parts_passed divisor_of facts_of_lemmas below
falling_loops_judged = record {
  counting = (lemmas-decided.each (setting_of counting_down) counting_lemmas).0 refl;
  counting_stated = refl;
  start = (lemmas-decided.each (setting_of looping_start) start_lemmas).0 refl;
  start_stated = refl;
  halved = (lemmas-decided.each (setting_of by_twos) halved_lemmas).0 refl;
  halved_stated = refl;
  no_floor = refl;
  too_little = refl;
  guarded = (lemmas-decided.each (setting_of guarded_entry) guarded_lemmas).0 refl;
  guarded_stated = refl;
}

pub dead_rules_judged : DeadRulesAreJudged
unfolding rewritten simplified passes_until_same at_node parts_passed divisor_of facts_of_lemmas below
dead_rules_judged = record {
  empty = (lemmas-decided.each (setting_of contradicted) (dead_lemmas (Empty 2 (1 ∷ 1 ∷ [])))).0 refl;
  empty_stated = refl;
  between = (lemmas-decided.each (setting_of between_integers) (dead_lemmas (Empty 2 (1 ∷ 1 ∷ [])))).0 refl;
  between_stated = refl;
  unreached = (lemmas-decided.each (setting_of apart) (dead_lemmas (Unreached 2 NoProof))).0 refl;
  unreached_stated = refl;
}

pub squares_judged : SquaresAreJudged
unfolding rewritten simplified passes_until_same at_node parts_passed divisor_of facts_of_lemmas below
squares_judged = record {
  once = (lemmas-decided.each (setting_of squaring) squared_lemmas).0 refl;
  once_stated = refl;
  others = (lemmas-decided.each (setting_of squaring_loop) squaring_lemmas).0 refl;
  looped = refl;
  missing = refl;
}
