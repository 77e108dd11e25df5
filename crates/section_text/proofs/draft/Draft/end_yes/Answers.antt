use Rattle.std.proofs.Common.{map, sym, ◌∙◌}
use Rattle.section_text.specs.Views.{open_of, draft_of}
use Rattle.section_text.proofs.LastLaws.{map_popped, no_last}
use Rattle.section_text.proofs.draft.Draft.end_yes.Goals as goal

pub returns-in_ok-begin_no : goal.returns-in_ok-begin_no
returns-in_ok-begin_no c =
    let old = c.args.self.now in
    let new = c.pop.new.self.items in
    c.in_ok-begin_no.ensures
    ∙ sym (no_last (draft_of old) (map open_of new) (open_of c.in-Some.test)
    (map_popped open_of old.tests.items new c.in-Some.test c.in-Some.ensures.items))
