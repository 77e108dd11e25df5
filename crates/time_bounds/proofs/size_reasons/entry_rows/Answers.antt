use Rattle.std.proofs.Common.{List, length, map, Vec, Option, Some, sym, ◌∙◌, ap, subst}
use Rattle.std.specs.declared.alloc.Global.{Global}
use Rattle.std.proofs.lemmas.Iterator.Adapters.{YieldsList-from_vec}
use Rattle.std.proofs.lemmas.Iterator.Consumers.{YieldsList-turn}
use Rattle.outcome.specs.declared.entry.SizeEntry.{SizeEntry}
use Rattle.time_bounds.specs.SizeSaid.{seen_row, AreThere}
use Rattle.time_bounds.proofs.SaidRows.{said_more}
use Rattle.time_bounds.proofs.size_reasons.entry_rows.Goals as goal

pub entry_row-requires : goal.entry_row-requires
entry_row-requires c =
    let gives = c.into_iter-row-iterator.ensures.into_iter_gives in
    let turn =
    YieldsList-turn (YieldsList-from_vec {s = c.into_iter-row-iterator.result} c.args.entries.items gives.0 (gives.1 ∙ c.args.entries.ok.0))
    c.loop-row.yielded c.loop-row.row-iterator c.loop-row.yielded_by c.next.result c.next.new.self c.in-Some.row c.in-Some.is
    c.next.ensures.steps in
    subst (λ (row : Vec (Option SizeEntry) Global). AreThere (seen_row row.items)) (sym turn.1)
    (c.requires (length c.loop-row.yielded) c.in-Some.row turn.0)

pub loop-row-preserved : goal.loop-row-preserved
loop-row-preserved c =
    ap (λ (rs : List (Vec SizeEntry Global)). map (λ row. map (λ e. Some e) row.items) rs) c.in_ok-push.ensures.items
    ∙ said_more c.loop-row.rows.items c.loop-row.yielded c.in_ok-entry_row.field-0 c.in-Some.row c.loop-row.invariant c.in_ok-entry_row.ensures
