use Rattle.std.proofs.Common.{◌≡◌, take}
use Rattle.refined_programs.specs.Ends.{lists_of}
use Rattle.refined_programs.proofs.ends.copied_lists.Given as goal

-- the lists passed are copied
abbrev pub invariant-loop-list : goal.invariant-loop-list
invariant-loop-list l = lists_of l.copies.items ≡ lists_of (take l.list-index l.by)
