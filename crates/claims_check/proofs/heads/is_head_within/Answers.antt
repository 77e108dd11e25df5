use Rattle.std.proofs.Common.{◌∙◌, Bool, Option, ap, map, sym, arith}
use Rattle.poly_terms.specs.Views.{poly_of}
use Rattle.signed_bounds.specs.Bounds as plain
use Rattle.signed_bounds.specs.Views.{signed_of}
use Rattle.potential_types.specs.Views.{fact_view}
use Rattle.program_claims.specs.Heads.{is_head_within}
use Rattle.claims_check.specs.Tables.{zero_bound_if}
use Rattle.claims_check.proofs.BoundLaws.{head-uncited, head-cited}
use Rattle.claims_check.proofs.heads.is_head_within.Goals as goal

pub returns-then-number-eq0 : goal.returns-then-number-eq0
returns-then-number-eq0 c =
    let facts = map fact_view c.args.known.facts.now in
    let form = poly_of c.args.head.form.now in
    let place = c.args.head.place in
    let bound = signed_of c.args.head.bound.now in
    c.in_ok-is_high.ensures
    ∙ ap (λ (o : Option plain.Signed). is_head_within bound o)
    (ap (λ (v : Bool). zero_bound_if v) c.is_never.ensures
    ∙ sym (head-uncited facts form place c.args.copy c.args.number (omega arith)))

pub returns-in_ok-is_high-in-Some : goal.returns-in_ok-is_high-in-Some
returns-in_ok-is_high-in-Some c =
    let facts = map fact_view c.args.known.facts.now in
    let form = poly_of c.args.head.form.now in
    let place = c.args.head.place in
    let bound = signed_of c.args.head.bound.now in
    c.in_ok-is_high-in-Some.ensures
    ∙ ap (λ (o : Option plain.Signed). is_head_within bound o)
    (c.in-Some.ensures ∙ sym (head-cited facts form place c.args.copy c.args.number (λ e. omega (arith, e))))

pub returns-in-None : goal.returns-in-None
returns-in-None c =
    let facts = map fact_view c.args.known.facts.now in
    let form = poly_of c.args.head.form.now in
    let place = c.args.head.place in
    let bound = signed_of c.args.head.bound.now in
    ap (λ (o : Option plain.Signed). is_head_within bound o)
    (c.in-None.ensures ∙ sym (head-cited facts form place c.args.copy c.args.number (λ e. omega (arith, e))))
