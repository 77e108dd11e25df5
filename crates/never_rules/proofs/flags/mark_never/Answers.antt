use Rattle.std.proofs.Common.{◌∙◌, List, map, sym, ap}
use Rattle.potential_nodes.specs.Facts.{is_never}
use Rattle.potential_types.specs.declared.facts.SignedFact.{SignedFact}
use Rattle.potential_types.specs.Views.{fact_view}
use Rattle.never_rules.proofs.NeverLaws.{marked, unmarked}
use Rattle.never_rules.proofs.flags.mark_never.Goals as goal

pub returns-clause-tell : goal.returns-clause-tell
returns-clause-tell c = λ facts tell.
    marked facts c.args.never.now.items c.set_if.new.flags.items (fact_view c.args.fact.now) c.in-Some.rule
    c.is_never-is_said.result tell (sym c.in-Some.ensures)
    (c.is_never-is_said.ensures
    ∙ ap (λ (fs : List SignedFact). is_never (map fact_view fs) c.in-Some.rule) c.from_ref.ensures.value)
    c.set_if.ensures.length c.set_if.ensures.flags

pub returns-in_default-clause-tell : goal.returns-in_default-clause-tell
returns-in_default-clause-tell c = λ facts tell.
    unmarked facts c.args.never.now.items (fact_view c.args.fact.now) tell (sym c.in_default.ensures)
