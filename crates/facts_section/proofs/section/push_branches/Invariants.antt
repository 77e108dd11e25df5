use Rattle.std.proofs.Common.{◌≡◌, ◌+◌, ◌++◌, drop, map}
use Rattle.its_model.specs.Views.{program_of, rule_of}
use Rattle.facts_section.specs.Counted.{counted_at}
use Rattle.facts_section.specs.Lists.{counted_of, needed_count}
use Rattle.facts_section.proofs.section.push_branches.Given as goal

-- the branches of the rules passed and those of the rules left, after the branches before, are all
abbrev pub invariant-loop-i : goal.invariant-loop-i
invariant-loop-i l =
    map counted_of l.branches.items
    ++ counted_at (program_of l.p) (map needed_count l.certified.symbols.now) l.symbol (l.i + 1)
    (map rule_of (drop l.i l.p.rules.items))
    ≡ map counted_of l.fn.branches.items
    ++ counted_at (program_of l.p) (map needed_count l.certified.symbols.now) l.symbol 1 (map rule_of l.p.rules.items)
