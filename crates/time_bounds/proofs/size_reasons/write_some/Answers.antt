use Rattle.std.proofs.Common.{subst, sym, ◌∙◌, ap, map, Option, option_map}
use Rattle.outcome.specs.declared.entry.SizeEntry.{SizeEntry}
use Rattle.outcome.specs.Views.{size_of}
use Rattle.cert_types.specs.Views.{result_variable_of}
use Rattle.time_bounds.specs.SizeSaid.{seen_rows, put_some}
use Rattle.time_bounds.specs.SizeSaid.{IsReason}
use Rattle.time_bounds.proofs.SaidRows.{seen_place}
use Rattle.time_bounds.proofs.SizeNumbers.{reason_kept, kept_all}
use Rattle.time_bounds.proofs.size_reasons.write_some.Goals as goal

pub returns-in-Some-clause-sizes : goal.returns-in-Some-clause-sizes
returns-in-Some-clause-sizes c =
    ap seen_rows c.put_place.ensures
    ∙ (seen_place (map (λ row. row.items) c.args.entries.now.items) c.args.result_variable.rule c.args.result_variable.place c.in-Some.e
    ∙ ap (λ (o : Option SizeEntry). put_some (seen_rows (map (λ row. row.items) c.args.entries.now.items)) (result_variable_of c.args.result_variable) (option_map size_of o))
    (sym c.in-Some.is))

pub returns-in-None-clause-sizes : goal.returns-in-None-clause-sizes
returns-in-None-clause-sizes c =
    ap (λ (o : Option SizeEntry). put_some (seen_rows (map (λ row. row.items) c.args.entries.now.items)) (result_variable_of c.args.result_variable) (option_map size_of o))
    (sym c.in-None.is)

pub returns-in-Some-clause-kept : goal.returns-in-Some-clause-kept
returns-in-Some-clause-kept c =
    reason_kept (map (λ row. row.items) c.args.entries.now.items) _ c.args.result_variable.rule c.args.result_variable.place c.in-Some.e c.put_place.ensures
    (subst IsReason c.in-Some.is c.requires)

pub returns-in-None-clause-kept : goal.returns-in-None-clause-kept
returns-in-None-clause-kept c = kept_all (map (λ row. row.items) c.args.entries.now.items)
