use Rattle.std.proofs.Common.{◌≡◌, ◌+◌, ◌++◌, map, codes, decimal}
use Rattle.std.specs.List.{range_with_len}
use Rattle.text_core.specs.Names.{name_of}
use Rattle.claims_text.proofs.terms.place_names.Given as goal

-- the names so far are those of the places passed
abbrev pub invariant-loop-place : goal.invariant-loop-place
invariant-loop-place l =
    map name_of l.names.items ≡ map (λ place. codes "x" ++ decimal (place + 1)) (range_with_len 0 l.place)
