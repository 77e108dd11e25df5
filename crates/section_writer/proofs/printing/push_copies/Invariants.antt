use Rattle.std.proofs.Common.{◌≡◌, ◌++◌, map, drop}
use Rattle.its_model.specs.Views.{program_of}
use Rattle.refined_programs.specs.Views.{annotated_copy}
use Rattle.section_writer.specs.Texts.{copy_lines}
use Rattle.section_writer.proofs.printing.push_copies.Given as goal

-- the text so far and that of the remaining copies are the whole text
abbrev pub invariant-loop-copy : goal.invariant-loop-copy
invariant-loop-copy l =
    l.text.items ++ copy_lines (program_of l.p) (map annotated_copy (drop l.copy-index l.copies))
    ≡ l.initial.text.items ++ copy_lines (program_of l.p) (map annotated_copy l.copies)
