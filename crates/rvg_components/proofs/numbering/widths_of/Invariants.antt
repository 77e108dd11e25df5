use Rattle.std.proofs.Common.{◌≡◌, ◌++◌, drop}
use Rattle.rvg_components.specs.Listing.{answer_lists}
use Rattle.rvg_components.specs.Numbering.{widths}
use Rattle.rvg_components.proofs.numbering.widths_of.Given as goal

-- the widths so far and those of the remaining rules are all
abbrev pub invariant-loop-position : goal.invariant-loop-position
invariant-loop-position l =
    l.found.items ++ widths (answer_lists (drop l.position l.locals)) (drop l.position l.live) ≡ widths (answer_lists l.locals) l.live
