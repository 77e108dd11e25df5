use Rattle.std.proofs.Common.{◌≡◌, ◌+◌, ◌++◌, drop}
use Rattle.koat_cli.specs.ReplayTexts.{lines_beside}
use Rattle.koat_cli.specs.Steps.{place_lines}
use Rattle.koat_cli.proofs.replay_text.push_greatest.Given as goal

-- the written lines and the remaining ones are the whole
abbrev pub invariant-loop-i : goal.invariant-loop-i
invariant-loop-i l =
    l.text.items ++ lines_beside (λ rule numbers places. place_lines l.at rule 1 numbers.items places.items) (l.i + 1)
    (drop l.i l.rows) (drop l.i l.sizes)
    ≡ l.initial.text.items
    ++ lines_beside (λ rule numbers places. place_lines l.at rule 1 numbers.items places.items) 1 l.rows l.sizes
