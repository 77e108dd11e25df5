use Rattle.std.proofs.Common.{map, ◌∙◌, ap, arith}
use Rattle.std.specs.Prelude.{nat_eq}
use Rattle.std.specs.List.{list_any}
use Rattle.refined_programs.specs.its_model.Views.{program_of}
use Rattle.refinement_check.specs.Views.{numbered_end_of}
use Rattle.refinement_check.proofs.EndLists.{rules-over, rules-few}
use Rattle.refinement_check.proofs.ends.rules_are_right.Goals as goal

pub returns-then-len-gt-RULE_LIMIT : goal.returns-then-len-gt-RULE_LIMIT
returns-then-len-gt-RULE_LIMIT c =
    rules-over (program_of c.args.p.now) (map numbered_end_of c.args.ends.now) _ c.in_ok-sources.ensures (omega arith)

pub returns : goal.returns
returns c =
    rules-few (program_of c.args.p.now) (map numbered_end_of c.args.ends.now) _ _ c.in_ok-sources.ensures (omega arith)
    (c.has_zero.ensures ∙ ap (list_any (λ n. nat_eq n 0)) c.deref.ensures.value)
