use Rattle.std.proofs.Common.{◌≡◌, Some, None, get_or, refl, sym, ◌∙◌}
use Rattle.std.proofs.lemmas.List.{get_or_default}
use Rattle.its_model.specs.Views.{program_of}
use Rattle.time_bounds.proofs.SetLaws.{open_rule}
use Rattle.time_bounds.proofs.PartSets.{found_more, open_copy}
use Rattle.time_bounds.proofs.parts.set_of_part.Goals as goal

-- the stored set is right for this rule
pub returns-in-Some-clause-set : goal.returns-in-Some-clause-set
returns-in-Some-clause-set c =
    let p = program_of c.args.cx.now.program.now in
    let tab = c.args.table.now in
    let parts = c.args.parts.now in
    let low = c.requires.parts.within c.args.rule c.args.part c.requires.part in
    let there : get_or parts.found.items c.args.part None ≡ Some c.in-Some.known =
    get_or_default parts.found.items c.args.part None c.index.result.now low ∙ (sym c.index.ensures ∙ c.in-Some.is) in
    let open_is = open_rule p tab c.args.parts.now.untimed.items c.args.rule c.requires.parts.flags c.requires.table.start c.requires.untimed in
    open_copy p tab c.args.rule c.in-Some.known c.in_ok-copy.copy c.in_ok-copy.ensures.set c.in_ok-copy.ensures.shut
    (c.requires.parts.found c.args.rule c.args.part c.in-Some.known open_is.untimed c.requires.part there)

-- the set computed for this rule is right for the others of its component
pub returns-clause-parts : goal.returns-clause-parts
returns-clause-parts c =
    let p = program_of c.args.cx.now.program.now in
    let tab = c.args.table.now in
    let open_is = open_rule p tab c.args.parts.now.untimed.items c.args.rule c.requires.parts.flags c.requires.table.start c.requires.untimed in
    let copy = c.in_ok-copy-2.copy in
    found_more p tab c.args.parts.now _ c.args.rule c.args.part copy refl refl refl open_is.untimed c.requires.part
    (open_copy p tab c.args.rule c.in_ok-made.made copy c.in_ok-copy-2.ensures.set c.in_ok-copy-2.ensures.shut c.in_ok-made.ensures)
    c.requires.parts
