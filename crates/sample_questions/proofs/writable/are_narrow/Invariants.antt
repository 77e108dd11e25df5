use Rattle.std.proofs.Common.{◌<◌, ◌^◌, take}
use Rattle.std.specs.Prelude.{unsigned_abs}
use Rattle.std.specs.List.{All}
use Rattle.sample_questions.proofs.writable.are_narrow.Given as goal

-- the numbers before this one are narrow
abbrev pub invariant-loop-number : goal.invariant-loop-number
invariant-loop-number l = All (λ a. unsigned_abs a < 2 ^ 127) (take l.number-index l.numbers)
