use Rattle.std.proofs.Common.{◌≡◌, ◌++◌, map, take}
use Rattle.poly_terms.specs.Views.{form_of}
use Rattle.location_facts.specs.Rows.{row_before}
use Rattle.location_facts.proofs.rows.push_facts.Given as goal

-- the facts so far are appended
abbrev pub invariant-loop-fact : goal.invariant-loop-fact
invariant-loop-fact l =
    map form_of l.rows.items ≡ map form_of l.fn.rows.items ++ map row_before (take l.fact-index l.facts)
