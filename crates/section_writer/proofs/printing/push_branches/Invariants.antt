use Rattle.std.proofs.Common.{◌≡◌, ◌++◌, map, drop}
use Rattle.refined_programs.specs.Views.{annotated_branch, annotated_copy}
use Rattle.section_writer.specs.Texts.{branch_lines}
use Rattle.section_writer.proofs.printing.push_branches.Given as goal

-- the text so far and that of the remaining branches are the whole text
abbrev pub invariant-loop-branch : goal.invariant-loop-branch
invariant-loop-branch l =
    l.text.items ++ branch_lines (map annotated_copy l.copies) (map annotated_branch (drop l.branch-index l.branches))
    ≡ l.initial.text.items ++ branch_lines (map annotated_copy l.copies) (map annotated_branch l.branches)
