use Rattle.std.proofs.Common.{◌∙◌, Bool, ap, map, sym, arith}
use Rattle.potential_types.specs.Views.{charge_of, fact_view}
use Rattle.claims_check.specs.Tables.{zero_bound_if}
use Rattle.claims_check.proofs.BoundLaws.{charge-uncited, charge-cited}
use Rattle.claims_check.proofs.sums.charge_bound.Goals as goal

pub returns-then-number-eq0 : goal.returns-then-number-eq0
returns-then-number-eq0 c =
    c.zero_if.ensures
    ∙ (ap (λ (v : Bool). zero_bound_if v) c.is_never.ensures
    ∙ sym (charge-uncited (map fact_view c.args.known.facts.now) (charge_of c.args.charge.now) c.args.number
    (omega arith)))

pub returns : goal.returns
returns c =
    c.in_ok-found.ensures
    ∙ (c.sum_of_form.ensures
    ∙ sym (charge-cited (map fact_view c.args.known.facts.now) (charge_of c.args.charge.now) c.args.number
    (λ e. omega (arith, e))))
