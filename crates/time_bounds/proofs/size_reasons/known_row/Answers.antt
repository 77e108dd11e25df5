use Rattle.std.proofs.Common.{List, [], ◌∷◌, Option, length, ◌∙◌, ap, arith}
use Rattle.std.proofs.lemmas.List.{length-append}
use Rattle.outcome.specs.declared.entry.SizeEntry.{SizeEntry}
use Rattle.outcome.specs.Views.{size_of}
use Rattle.std.specs.Option.{option_map}
use Rattle.time_bounds.specs.SizeSaid.{seen_row, said_stored}
use Rattle.time_bounds.proofs.SaidRows.{seen_more}
use Rattle.time_bounds.proofs.SizeNumbers.{row_nothing, row_carried}
use Rattle.time_bounds.proofs.size_reasons.known_row.Goals as goal

pub loop-stored-init : goal.loop-stored-init
loop-stored-init c = record {
  sizes = ap seen_row c.new-entries.ensures.items;
  long = ap (λ (es : List (Option SizeEntry)). length es) c.new-entries.ensures.items;
  carried = row_nothing c.args.row.now c.new-entries.result.items c.new-entries.ensures.items;
}

pub loop-stored-preserved : goal.loop-stored-preserved
loop-stored-preserved c =
    let pushed = c.in_ok-push.ensures.items in
    let before = c.loop-stored.entries.items in
    let long = ap (λ (es : List (Option SizeEntry)). length es) pushed ∙ length-append before (c.in_ok-known_size.field-0 ∷ []) in
    record {
      sizes =
          ap seen_row pushed
          ∙ seen_more (λ o. option_map size_of o) said_stored before c.args.row.now c.loop-stored.stored-index c.in_ok-known_size.field-0
          c.stored-item.result c.loop-stored.invariant.sizes c.in_ok-known_size.ensures.size c.loop-stored-test.true c.stored-item.is;
      long = omega (arith, long, c.loop-stored.invariant.long);
      carried =
          row_carried c.args.row.now before _ c.in_ok-known_size.field-0 c.loop-stored.stored-index c.stored-item.result c.loop-stored.invariant.carried
          pushed c.loop-stored.invariant.long c.loop-stored-test.true c.stored-item.is c.in_ok-known_size.ensures.carries;
    }
