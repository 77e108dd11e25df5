use Rattle.std.proofs.Common.{◌≡◌, drop, map, Some}
use Rattle.cert_program.specs.cert_rules.Composed.{rank_form}
use Rattle.cert_types.specs.Views.{form_of}
use Rattle.cert_types.proofs.ranking.rank_form.Given as goal

abbrev pub invariant-loop-form : goal.invariant-loop-form
invariant-loop-form l = rank_form (map form_of (drop l.form-index l.forms)) (Some l.number) ≡ rank_form (map form_of l.forms) (Some l.number)
