use Rattle.std.proofs.Common.{◌≡◌, ◌+◌, ◌++◌, drop}
use Rattle.koat_cli.specs.Steps.{place_lines}
use Rattle.koat_cli.proofs.replay_text.push_places.Given as goal

-- the written lines and the remaining ones are the whole
abbrev pub invariant-loop-i : goal.invariant-loop-i
invariant-loop-i l =
    l.text.items ++ place_lines l.at l.rule (l.i + 1) (drop l.i l.numbers) (drop l.i l.sizes)
    ≡ l.initial.text.items ++ place_lines l.at l.rule 1 l.numbers l.sizes
