use Rattle.std.proofs.Common.{drop}
use Rattle.cert_types.specs.FormLookups.{HasForms}
use Rattle.cert_types.proofs.form_lookup.first_forms.Given as goal

-- the map has the first form at each symbol among the forms from this position on
abbrev pub invariant-loop-position : goal.invariant-loop-position
invariant-loop-position l = HasForms (drop l.position l.forms) l.firsts
