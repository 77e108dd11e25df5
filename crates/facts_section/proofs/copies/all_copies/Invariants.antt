use Rattle.std.proofs.Common.{◌≡◌, ◌∷◌, map, filter}
use Rattle.std.specs.List.{range_with_len}
use Rattle.its_model.specs.Views.{program_of}
use Rattle.refined_programs.specs.Views.{annotated_copy}
use Rattle.facts_section.specs.Counted.{form_copy_at, is_other_form_copy}
use Rattle.facts_section.proofs.copies.all_copies.Given as goal

-- the copies are that of the start symbol and those of the other symbols passed
abbrev pub invariant-loop-symbol : goal.invariant-loop-symbol
invariant-loop-symbol l =
    map annotated_copy l.copies.items
    ≡ form_copy_at (program_of l.p) l.kept l.p.start
    ∷ filter (is_other_form_copy (program_of l.p))
    (map (form_copy_at (program_of l.p) l.kept) (range_with_len 0 l.symbol))
