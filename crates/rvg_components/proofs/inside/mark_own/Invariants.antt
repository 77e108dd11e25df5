use Rattle.std.proofs.Common.{◌≡◌, drop}
use Rattle.rvg_components.specs.Inside.{marked}
use Rattle.rvg_components.proofs.inside.mark_own.Given as goal

-- setting the remaining flags in the current list gives the same flags as setting all of them in the first list
abbrev pub invariant-loop-from : goal.invariant-loop-from
invariant-loop-from l = marked (drop l.from-index l.edges) l.own ≡ marked l.edges l.fn.own
