use Rattle.std.proofs.Common.{List, length, map, Some, ◌∙◌, ap}
use Rattle.std.proofs.lemmas.Iterator.Adapters.{YieldsList-from_vec}
use Rattle.std.proofs.lemmas.Iterator.Consumers.{YieldsList-turn}
use Rattle.outcome.specs.declared.entry.SizeEntry.{SizeEntry}
use Rattle.time_bounds.proofs.SaidRows.{there_at, entry_more}
use Rattle.time_bounds.proofs.size_reasons.entry_row.Goals as goal

pub there-requires : goal.there-requires
there-requires c =
    let gives = c.into_iter-entry-iterator.ensures.into_iter_gives in
    let turn =
    YieldsList-turn (YieldsList-from_vec {s = c.into_iter-entry-iterator.result} c.args.row.items gives.0 (gives.1 ∙ c.args.row.ok.0))
    c.loop-entry.yielded c.loop-entry.entry-iterator c.loop-entry.yielded_by c.next.result c.next.new.self c.in-Some.entry c.in-Some.is
    c.next.ensures.steps in
    there_at c.args.row.items (length c.loop-entry.yielded) c.in-Some.entry c.requires turn.0 turn.1

pub loop-entry-preserved : goal.loop-entry-preserved
loop-entry-preserved c =
    ap (λ (es : List SizeEntry). map (λ e. Some e) es) c.in_ok-push.ensures.items
    ∙ entry_more c.loop-entry.said.items c.loop-entry.yielded c.there.result c.in-Some.entry c.loop-entry.invariant c.there.ensures
