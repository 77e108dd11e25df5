use Rattle.std.proofs.Common.{◌≡◌, ◌++◌, drop, map}
use Rattle.its_model.specs.Views.{rule_of}
use Rattle.refinement.specs.Sections.{rule_along}
use Rattle.refined_programs.specs.Ends.{end_of, paths_of}
use Rattle.refined_programs.proofs.spelling.push_rules.Given as goal

-- the rules of the ends passed and those of the ends left, after the rules before, are all
abbrev pub invariant-loop-end : goal.invariant-loop-end
invariant-loop-end l =
    map rule_of l.rules.items
    ++ map (rule_along l.source (rule_of l.rule)) (paths_of (map end_of (drop l.end-index l.ends)))
    ≡ map rule_of l.fn.rules.items ++ map (rule_along l.source (rule_of l.rule)) (paths_of (map end_of l.ends))
