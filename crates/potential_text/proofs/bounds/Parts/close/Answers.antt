use Rattle.std.proofs.Common.{map, sym, ◌∙◌}
use Rattle.lexing_laws.proofs.LastLaws.{map_popped}
use Rattle.potential_text.specs.Views.{opened_of, parts_read}
use Rattle.potential_text.proofs.ClosedBounds.{closes_last}
use Rattle.potential_text.proofs.bounds.Parts.close.Goals as goal

pub returns-in_ok-end_parts : goal.returns-in_ok-end_parts
returns-in_ok-end_parts c =
    let old = c.args.self.now in
    let new = c.pop.new.self.items in
    c.in_ok-end_parts.ensures
    ∙ sym (closes_last c.args.divisor (parts_read old) (map opened_of new) (opened_of c.in-Some.opened)
    (map_popped opened_of old.opened.items new c.in-Some.opened c.in-Some.ensures.items))
