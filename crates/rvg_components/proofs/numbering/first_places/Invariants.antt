use Rattle.std.proofs.Common.{◌≡◌, ◌+◌, ◌++◌, drop}
use Rattle.std.specs.List.{sum}
use Rattle.rvg_components.specs.Numbering.{firsts_from}
use Rattle.rvg_components.proofs.numbering.first_places.Given as goal

-- the positions so far and those of the remaining widths are all
abbrev pub invariant-loop-width : goal.invariant-loop-width
invariant-loop-width l = record {
  listed : l.firsts.items ++ firsts_from l.next (drop l.width-index l.widths) ≡ firsts_from 0 l.widths;
  added : l.next + sum (drop l.width-index l.widths) ≡ sum l.widths;
}
