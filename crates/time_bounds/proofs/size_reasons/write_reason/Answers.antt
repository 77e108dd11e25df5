use Rattle.std.proofs.Common.{◌≡◌, ◌+◌, List, [], ◌∷◌, ◌++◌, map, take, get_or, Option, sym, ◌∙◌, ap}
use Rattle.std.proofs.lemmas.List.{take_more, map-append}
use Rattle.std.specs.Option.{option_map}
use Rattle.outcome.specs.Reports.{Size, Unsized}
use Rattle.cert_types.specs.cert_rules.Nodes as nodes
use Rattle.cert_types.specs.Views.{result_variable_of}
use Rattle.cert_types.specs.declared.side_bound.ResultVariable.{ResultVariable}
use Rattle.time_bounds.specs.Attempts.{why_of}
use Rattle.time_bounds.specs.SizeSaid.{seen_rows, put_some, put_why}
use Rattle.time_bounds.proofs.SaidRows.{why_more, why_nowhere}
use Rattle.time_bounds.proofs.SizeNumbers.{kept_all, kept_on}
use Rattle.time_bounds.proofs.size_reasons.write_reason.Goals as goal

pub loop-result_variable-init : goal.loop-result_variable-init
loop-result_variable-init c = record {
  sizes = sym (why_nowhere (seen_rows (map (λ row. row.items) c.args.entries.now.items)) (why_of c.args.candidate.now c.args.attempt.now));
  kept = kept_all (map (λ row. row.items) c.args.entries.now.items);
}

pub write_some-requires : goal.write_some-requires
write_some-requires c = record { why = why_of c.args.candidate.now c.args.attempt.now; is_why = c.in_ok-entry.ensures }

pub loop-result_variable-preserved : goal.loop-result_variable-preserved
loop-result_variable-preserved c =
    let rows = seen_rows (map (λ row. row.items) c.args.entries.now.items) in
    let why = why_of c.args.candidate.now c.args.attempt.now in
    let i = c.loop-result_variable.result_variable-index in
    let result_variables = c.deref-result_variable-items.result.now in
    let same : result_variables ≡ c.args.candidate.now.result_variables.items = c.deref-result_variable-items.ensures.value in
    let d : ResultVariable = record { rule = 0; place = 0 } in
    let result_variable = get_or result_variables i d in
    let one : map result_variable_of (take (i + 1) c.args.candidate.now.result_variables.items) ≡ map result_variable_of (take i c.args.candidate.now.result_variables.items) ++ result_variable_of result_variable ∷ [] =
    ap (λ (ss : List ResultVariable). map result_variable_of (take (i + 1) ss)) (sym same)
    ∙ (ap (map result_variable_of) (take_more result_variables i d c.loop-result_variable-test.true)
    ∙ (map-append result_variable_of (take i result_variables) (result_variable ∷ [])
    ∙ ap (λ (ss : List ResultVariable). map result_variable_of (take i ss) ++ result_variable_of result_variable ∷ []) same)) in
    record {
      sizes =
          c.write_some.ensures.sizes
          ∙ (ap (λ (o : Option Size). put_some (seen_rows (map (λ row. row.items) c.loop-result_variable.entries.items)) (result_variable_of result_variable) o) c.in_ok-entry.ensures
          ∙ (ap (λ (rs : List (List (Option Size))). put_some rs (result_variable_of result_variable) (option_map Unsized why)) c.loop-result_variable.invariant.sizes
          ∙ (sym (why_more rows (map result_variable_of (take i c.args.candidate.now.result_variables.items)) (result_variable_of result_variable) why)
          ∙ ap (λ (ss : List nodes.ResultVariable). put_why rows ss why) (sym one))));
      kept =
          kept_on (map (λ row. row.items) c.args.entries.now.items) (map (λ row. row.items) c.loop-result_variable.entries.items) _ c.loop-result_variable.invariant.kept
          c.write_some.ensures.kept;
    }
