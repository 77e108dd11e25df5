use Rattle.std.proofs.Common.{◌≡◌, ◌++◌, List, map, ap, ◌∙◌}
use Rattle.refinement.specs.model.Programs.{Rule}
use Rattle.refinement.specs.Sections.{rule_along, copies_by}
use Rattle.its_model.specs.Views.{rule_of, program_of}
use Rattle.refined_programs.specs.declared.ends.End.{End}
use Rattle.refined_programs.specs.Ends.{end_of, paths_of}
use Rattle.refined_programs.specs.Views.{branch_of, section_of}
use Rattle.refined_programs.proofs.EndLaws.{branch-rules, ok-then}
use Rattle.refined_programs.proofs.spelling.push_branch.Goals as goal

pub returns-in_ok-ends-in-Some : goal.returns-in_ok-ends-in-Some
returns-in_ok-ends-in-Some c =
    let p = program_of c.args.p.now in
    let s = section_of c.args.section.now in
    let b = c.args.branch.now in
    let r : Rule = rule_of c.in-Some.rule.now in
    let old : List Rule = map rule_of c.args.rules.now.items in
    let rules : map (rule_along b.source r) (paths_of (map end_of c.deref.result.now)) ≡ map (λ x. x.rule) (copies_by p s (branch_of b)) =
    branch-rules p s b r (map end_of c.deref.result.now)
    (ap (λ (es : List End). map end_of es) c.deref.ensures.value ∙ c.in_ok-ends-in-Some.ensures) c.in-Some.ensures in
    ok-then c.push_rules.result
    (map rule_of c.push_rules.new.rules.items ≡ old ++ map (rule_along b.source r) (paths_of (map end_of c.deref.result.now)))
    (map rule_of c.push_rules.new.rules.items ≡ old ++ map (λ x. x.rule) (copies_by p s (branch_of b)))
    (λ e. e ∙ ap (λ (rs : List Rule). old ++ rs) rules) c.push_rules.ensures
