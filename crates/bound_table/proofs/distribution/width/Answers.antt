use Rattle.std.proofs.Common.{length, List, ap, sym, ◌∙◌}
use Rattle.std.proofs.lemmas.List.{length-map}
use Rattle.bound_expr.specs.model.Bounds as plain
use Rattle.bound_expr.specs.declared.bound.Bound.{Bound}
use Rattle.bound_expr.specs.Views.{bound_of, bounds_of}
use Rattle.bound_expr.proofs.Views.{bound_of-Sum}
use Rattle.bound_expr.proofs.PartLists.{list_of-parts_of}
use Rattle.bound_table.specs.Distribution.{width}
use Rattle.bound_table.proofs.distribution.width.Goals as goal

pub returns-in-Sum : goal.returns-in-Sum
returns-in-Sum c =
    let items = c.in-Sum.parts.items in
    c.len.ensures
    ∙ c.in-Sum.parts.ok.0
    ∙ sym (length-map items bound_of)
    ∙ sym (ap (λ (ps : List plain.Bound). length ps) (list_of-parts_of (bounds_of items)))
    ∙ sym (ap (λ (b : Bound). width (bound_of b)) c.in-Sum.is ∙ ap width (bound_of-Sum c.in-Sum.parts))
