use Rattle.std.proofs.Common.{Bool, List, length, sym, ◌∙◌, ap, subst}
use Rattle.its_graph.specs.Graphs.{flagged, HaveSameSets}
use Rattle.its_model.specs.Views.{program_of}
use Rattle.time_bounds.specs.Questions.{AreUntimed}
use Rattle.time_bounds.proofs.UntimedRules.{are_untimed}
use Rattle.time_bounds.proofs.PartSets.{parts_begin}
use Rattle.time_bounds.proofs.parts.parts_of.Goals as goal

pub returns : goal.returns
returns c =
    let p = program_of c.args.cx.now.program.now in
    parts_begin p c.args.table.now c.args.cx.now.graph.symbols _
    (subst (λ (xs : List Bool). AreUntimed p c.args.table.now xs) (sym c.in_ok-untimed.ensures)
    (are_untimed p c.args.table.now c.args.cx.now.empties.items c.requires.table))
    (c.in_ok-of_rules.ensures.one_each ∙ ap (λ (xs : List Bool). length xs) c.deref.ensures.value)
    c.in_ok-of_rules.ensures.within
    (subst (λ (xs : List Bool). HaveSameSets p (flagged xs) c.in_ok-of_rules.of_rules.items) c.deref.ensures.value
    (c.in_ok-of_rules.ensures.sets p c.requires.ready.graph))
    c.in_ok-found.ensures
