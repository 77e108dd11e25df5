use Rattle.std.proofs.Common.{◌≡◌, take, map}
use Rattle.cert_types.specs.Views.{result_variable_of}
use Rattle.time_bounds.specs.Attempts.{why_of}
use Rattle.time_bounds.specs.SizeSaid.{seen_rows, put_why, KeepPlaces}
use Rattle.time_bounds.proofs.size_reasons.write_reason.Given as goal

abbrev pub invariant-loop-result_variable : goal.invariant-loop-result_variable
invariant-loop-result_variable l = record {
  sizes : seen_rows (map (λ row. row.items) l.entries.items)
      ≡ put_why (seen_rows (map (λ row. row.items) l.initial.entries.items)) (map result_variable_of (take l.result_variable-index l.candidate.result_variables.items))
      (why_of l.candidate l.attempt);
  kept : KeepPlaces (map (λ row. row.items) l.initial.entries.items) (map (λ row. row.items) l.entries.items);
}
