use Rattle.std.proofs.Common.{map, take}
use Rattle.cert_types.specs.Views.{proof_of}
use Rattle.cert_context.specs.CheckContexts.{program, setting}
use Rattle.check_file.specs.Judging.{IsKeptOf}
use Rattle.check_file.proofs.lemmas.judge_lemmas.Given as goal

-- the lemmas before this one are accepted, and their facts are stored
abbrev pub invariant-loop-i : goal.invariant-loop-i
invariant-loop-i l = IsKeptOf (program l.context) (setting l.context) (map proof_of (take l.i l.lemmas)) l.kept
