use Rattle.std.proofs.Common.{ap, sym, ◌∙◌, Bool}
use Rattle.std.specs.Prelude.{◌&&◌}
use Rattle.simplex_core.specs.Bland.{has_artificial}
use Rattle.simplex_core.proofs.Entering.{some-negative, none-negative}
use Rattle.simplex_core.proofs.sparse_table.method.SparseTableSimplexTable.is_infeasible.Goals as goal

pub returns-in-Some : goal.returns-in-Some
returns-in-Some c p t shows =
    sym (ap (λ (b : Bool). b && has_artificial p t)
    (some-negative p t c.in-Some.field-0 (sym (c.least_entering.ensures p t shows.shows) ∙ c.in-Some.is)))

pub returns-in-None : goal.returns-in-None
returns-in-None c p t shows =
    c.has_artificial.ensures p t shows.shows
    ∙ sym (ap (λ (b : Bool). b && has_artificial p t) (none-negative p t (sym (c.least_entering.ensures p t shows.shows) ∙ c.in-None.is)))
