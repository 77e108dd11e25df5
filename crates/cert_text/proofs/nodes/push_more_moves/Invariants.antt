use Rattle.std.proofs.Common.{◌≡◌, ◌++◌, map, drop, codes}
use Rattle.cert_text.specs.Lists.{each_behind, numbers_text}
use Rattle.cert_text.proofs.nodes.push_more_moves.Given as goal

-- the text so far and that of the remaining multipliers are the whole text
abbrev pub invariant-loop-multipliers : goal.invariant-loop-multipliers
invariant-loop-multipliers l =
    l.text.items ++ each_behind (codes "; ") (map numbers_text (map (λ m. m.items) (drop l.multipliers-index l.moves)))
    ≡ l.initial.text.items ++ each_behind (codes "; ") (map numbers_text (map (λ m. m.items) l.moves))
