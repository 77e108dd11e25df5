-- When members loop: one of them reads one of them.
use Rattle.std.specs.Prelude.{◌-◌, ◌&&◌, ◌||◌, Bool, List}
use Rattle.std.specs.List.{list_any}
use Rattle.rule_questions.specs.model.Entries.{is_in}
use Rattle.rule_questions.specs.model.Paths.{pre}
use Rattle.rule_questions.specs.cert_rules.Nodes.{Member}
use Rattle.rule_questions.specs.cert_rules.ComposedSizes.{poly_at, reads}
use Rattle.rule_questions.specs.cert_rules.Setting.{Setting}

-- a member reads another one: the other one's rule can come just before its own, and one of its side bounds reads that
-- place
abbrev pub reads_member : Setting → Member → Member → Bool
reads_member s n m = is_in m.result_variable.rule (pre s.program n.result_variable.rule)
    && (reads (poly_at s n.result_variable) n.local.up (m.result_variable.place - 1)
    || reads (poly_at s n.result_variable) n.local.low (m.result_variable.place - 1))

-- these members loop: one of them reads one of them
abbrev pub do_loop : Setting → List Member → Bool
do_loop s members = list_any (λ n. list_any (λ m. reads_member s n m) members) members
