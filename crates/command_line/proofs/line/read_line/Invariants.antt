use Rattle.std.proofs.Common.{drop, map, string_bytes}
use Rattle.command_line.specs.Steps.{IsStateBefore, state_of}
use Rattle.command_line.proofs.line.read_line.Given as goal

-- reading the remaining words from the current state gives the result of reading all words
abbrev pub invariant-loop-word : goal.invariant-loop-word
invariant-loop-word l = IsStateBefore (map string_bytes l.words) (state_of l.line)
    (map string_bytes (drop l.word-index l.words))
