use Rattle.std.proofs.Common.{map, sym, ◌∙◌}
use Rattle.while_text.specs.while_tree.Views.{stmt_of}
use Rattle.while_text.specs.Views.{draft_of}
use Rattle.while_text.proofs.Pops.{map_popped, second_last}
use Rattle.while_text.proofs.draft.Draft.open_second.Goals as goal

pub returns-in_ok-reopen : goal.returns-in_ok-reopen
returns-in_ok-reopen c =
    let old = c.args.self.now in
    let new = c.pop.new.self.items in
    c.in_ok-reopen.ensures
    ∙ sym (second_last (draft_of old) (map stmt_of new) (stmt_of c.in-Some.last)
    (map_popped stmt_of old.body.items new c.in-Some.last c.in-Some.ensures.items))
