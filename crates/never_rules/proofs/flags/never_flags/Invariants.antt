use Rattle.std.proofs.Common.{◌≡◌, length, map, take}
use Rattle.potential_types.specs.Views.{fact_view}
use Rattle.never_rules.specs.Never.{TellNever}
use Rattle.never_rules.proofs.flags.never_flags.Given as goal

-- as many flags as are wanted, and they are those of the facts so far
abbrev pub invariant-loop-fact : goal.invariant-loop-fact
invariant-loop-fact l = record {
  counted : length l.never.items ≡ l.count;
  tell : TellNever (map fact_view (take l.fact-index l.facts)) l.never.items;
}
