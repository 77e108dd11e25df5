use Rattle.std.proofs.Common.{map, take}
use Rattle.std.specs.List.{AllByRecursion}
use Rattle.cert_types.specs.AnswerViews.{shut_of}
use Rattle.report_text.specs.Printable.{IsShort}
use Rattle.koat_cli.proofs.fitting.shut_fit.Given as goal

-- the places before this one fit
abbrev pub invariant-loop-place : goal.invariant-loop-place
invariant-loop-place l = AllByRecursion (λ s. IsShort s.place) (map shut_of (take l.place-index l.shut))
