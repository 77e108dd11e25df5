use Rattle.std.proofs.Common.{Bool, List, map, sym, subst}
use Rattle.potential_types.specs.Views.{fact_view}
use Rattle.never_rules.specs.Never.{TellNever}
use Rattle.claims_check.proofs.stating.known.Goals as goal

pub returns-clause-known : goal.returns-clause-known
returns-clause-known c =
    subst (λ (flags : List Bool). TellNever (map fact_view c.args.prepared.evidence.facts.now) flags)
    (sym c.deref.ensures.value) c.requires.tables.never
