use Rattle.std.proofs.Common.{◌≡◌, ◌+◌, ◌++◌, map, drop}
use Rattle.its_model.specs.Views.{symbol_of}
use Rattle.cert_types.specs.AnswerViews.{shut_of}
use Rattle.report_text.specs.Reasons.{shut_lines}
use Rattle.report_text.proofs.gaps.push_shut_lines.Given as goal

-- the written text and the remaining one are the whole
abbrev pub invariant-loop-place : goal.invariant-loop-place
invariant-loop-place l = l.text.items ++ shut_lines (map symbol_of l.symbols) (map shut_of (drop l.place-index l.shut)) ≡ l.initial.text.items ++ shut_lines (map symbol_of l.symbols) (map shut_of l.shut)
