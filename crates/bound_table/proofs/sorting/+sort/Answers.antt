use Rattle.std.proofs.Common.{◌≡◌, List, ◌/◌, ap, ◌∙◌, arith}
use Rattle.std.proofs.lemmas.Result.{IfOk-weaker}
use Rattle.bound_expr.specs.declared.bound.Bound.{Bound}
use Rattle.bound_table.specs.Sorting.{sorted, merged}
use Rattle.std.proofs.lemmas.List.{length-map}
use Rattle.bound_expr.specs.Views.{bound_of, bounds_of}
use Rattle.bound_table.proofs.Merging.{sorted-short, merged-halves}
use Rattle.bound_table.proofs.sorting.+sort.Goals as goal

pub returns-then-len-lt2 : goal.returns-then-len-lt2
returns-then-len-lt2 t c =
    sorted-short c.args.kind (bounds_of c.args.parts.items) (omega (arith, length-map c.args.parts.items bound_of))

pub returns : goal.returns
returns t c =
    let k = c.args.kind in
    IfOk-weaker c.merge.result
    (λ r. bounds_of r.items ≡ merged k (bounds_of c.in_ok-prefix.prefix.items) (bounds_of c.in_ok-rest-2.rest.items))
    (λ r. bounds_of r.items ≡ sorted k (bounds_of c.args.parts.items))
    (λ r is. is ∙ merged-halves k c.args.parts.items (c.len-half.result / 2) _ _ (c.in_ok-prefix.ensures ∙ ap (λ (bs : List Bound). sorted k (bounds_of bs)) c.in_ok-rest.ensures.items) (c.in_ok-rest-2.ensures ∙ ap (λ (bs : List Bound). sorted k (bounds_of bs)) c.in_ok-rest.ensures.tail))
    c.merge.ensures
