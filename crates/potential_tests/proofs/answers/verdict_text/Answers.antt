use Rattle.std.proofs.Common.{List, map, ap, ◌∙◌}
use Rattle.check_potentials.specs.declared.ground.PreparedRule.{PreparedRule}
use Rattle.check_potentials.specs.Grounds.{rule_prepared_of}
use Rattle.potential_tests.proofs.answers.verdict_text.Goals as goal

pub check_lemmas-requires : goal.check_lemmas-requires
check_lemmas-requires c = record {
  valid = c.requires;
  rows = ap (λ (rs : List PreparedRule). map rule_prepared_of rs) c.deref.ensures.value ∙ c.in_ok-rules.ensures;
}
