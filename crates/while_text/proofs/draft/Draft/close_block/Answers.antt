use Rattle.std.proofs.Common.{map, sym, ◌∙◌}
use Rattle.while_text.specs.Views.{block_of, draft_of}
use Rattle.while_text.proofs.Pops.{map_popped, closes_last}
use Rattle.while_text.proofs.draft.Draft.close_block.Goals as goal

pub returns-in_ok-close : goal.returns-in_ok-close
returns-in_ok-close c =
    let old = c.args.self.now in
    let new = c.pop.new.self.items in
    c.in_ok-close.ensures
    ∙ sym (closes_last (draft_of old) (map block_of new) (block_of c.in-Some.block)
    (map_popped block_of old.blocks.items new c.in-Some.block c.in-Some.ensures.items))
