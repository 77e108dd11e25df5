use Rattle.std.proofs.Common.{◌≡◌, map, take}
use Rattle.its_model.specs.Views.{rule_of}
use Rattle.guard_prep.specs.Prepared.{prepared}
use Rattle.guard_prep.specs.Views.{prepared_of}
use Rattle.facts_report.proofs.analysis.all_rows.Given as goal

-- the rows of the rules so far
abbrev pub invariant-loop-rule : goal.invariant-loop-rule
invariant-loop-rule l = map prepared_of l.prepared_rules.items
    ≡ map prepared (map rule_of (take l.rule-index l.p.rules.items))
