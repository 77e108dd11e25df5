use Rattle.std.proofs.Common.{◌∙◌, ℕ, Option, ap, map}
use Rattle.signed_bounds.specs.Bounds as plain
use Rattle.potential_nodes.specs.Lookup.{numbered}
use Rattle.potential_nodes.specs.PlainPeaks.{size_in, first_of_two}
use Rattle.potential_types.specs.Views.{fact_view}
use Rattle.claims_check.proofs.heads.cited_bound.Goals as goal

pub returns-in-Some : goal.returns-in-Some
returns-in-Some c =
    ap (λ (o : Option plain.Signed). first_of_two o
    (size_in c.args.copy c.args.head.place (numbered (map fact_view c.args.facts.now) c.args.number))) c.in-Some.ensures

pub returns-in-None : goal.returns-in-None
returns-in-None c =
    c.size_bound.ensures
    ∙ (ap (λ (i : ℕ). size_in c.args.copy i (numbered (map fact_view c.args.facts.now) c.args.number)) c.from.ensures
    ∙ ap (λ (o : Option plain.Signed). first_of_two o
    (size_in c.args.copy c.args.head.place (numbered
    (map fact_view c.args.facts.now) c.args.number))) c.in-None.ensures)
