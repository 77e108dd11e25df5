use Rattle.std.proofs.Common.{◌≡◌, take, filter}
use Rattle.std.specs.Prelude.{not}
use Rattle.std.specs.List.{list_any}
use Rattle.facts_section.specs.Needed.{is_weaker}
use Rattle.facts_section.proofs.needed.strongest_among.Given as goal

-- the facts found are those passed that are weaker than none
abbrev pub invariant-loop-fact : goal.invariant-loop-fact
invariant-loop-fact l =
    l.found.items ≡ filter (λ f. not (list_any (is_weaker f) l.facts)) (take l.fact-index l.facts)
