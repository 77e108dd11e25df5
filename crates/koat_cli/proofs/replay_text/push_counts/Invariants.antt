use Rattle.std.proofs.Common.{◌≡◌, ◌+◌, ◌++◌, drop}
use Rattle.koat_cli.specs.Steps.{entry_lines}
use Rattle.koat_cli.proofs.replay_text.push_counts.Given as goal

-- the written lines and the remaining ones are the whole
abbrev pub invariant-loop-i : goal.invariant-loop-i
invariant-loop-i l =
    l.text.items ++ entry_lines l.at (l.i + 1) (drop l.i l.counts) (drop l.i l.times)
    ≡ l.initial.text.items ++ entry_lines l.at 1 l.counts l.times
