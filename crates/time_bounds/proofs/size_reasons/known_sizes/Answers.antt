use Rattle.std.proofs.Common.{◌≡◌, ◌+◌, ◌<◌, List, [], ◌∷◌, Option, Vec, length, take, map, get_or, sym, ◌∙◌, ap, subst}
use Rattle.std.proofs.Common.{arith}
use Rattle.std.proofs.lemmas.List.{length-append}
use Rattle.std.specs.declared.alloc.Global.{Global}
use Rattle.outcome.specs.declared.entry.SizeEntry.{SizeEntry}
use Rattle.outcome.specs.declared.entry.Stored.{Stored}
use Rattle.time_bounds.specs.SizeSaid.{seen_rows, said_stored, CarryRow}
use Rattle.time_bounds.proofs.SaidRows.{row_more}
use Rattle.time_bounds.proofs.SizeNumbers.{places_nothing, rows_carried}
use Rattle.time_bounds.proofs.size_reasons.known_sizes.Goals as goal

pub loop-row-init : goal.loop-row-init
loop-row-init c = record {
  sizes = ap (λ (rs : List (Vec (Option SizeEntry) Global)). seen_rows (map (λ row. row.items) rs)) c.new-rows.ensures.items;
  long = ap (λ (rs : List (Vec (Option SizeEntry) Global)). length rs) c.new-rows.ensures.items;
  carried = places_nothing c.args.table.now c.new-rows.result.items c.new-rows.ensures.items;
}

pub loop-row-preserved : goal.loop-row-preserved
loop-row-preserved c =
    let rows = c.deref-row-items.result.now in
    let i = c.loop-row.row-index in
    let same : rows ≡ c.args.table.now.sizes.items = c.deref-row-items.ensures.value in
    let pushed = c.in_ok-push.ensures.items in
    let before = c.loop-row.rows.items in
    let long = ap (λ (rs : List (Vec (Option SizeEntry) Global)). length rs) pushed ∙ length-append before (c.in_ok-known_row.field-0 ∷ []) in
    record {
      sizes =
          ap (λ (rs : List (Vec (Option SizeEntry) Global)). seen_rows (map (λ row. row.items) rs)) pushed
          ∙ (row_more before rows i c.in_ok-known_row.field-0 c.row-item.result
          (c.loop-row.invariant.sizes
          ∙ ap (λ (xs : List (Vec (Option Stored) Global)). map (λ row. map said_stored row) (map (λ row. row.items) (take i xs))) (sym same))
          (c.in_ok-known_row.ensures.sizes ∙ ap (map said_stored) c.deref.ensures.value) c.loop-row-test.true c.row-item.is
          ∙ ap (λ (xs : List (Vec (Option Stored) Global)). map (λ row. map said_stored row) (map (λ row. row.items) (take (i + 1) xs))) same);
      long = omega (arith, long, c.loop-row.invariant.long);
      carried =
          rows_carried c.args.table.now before _ c.in_ok-known_row.field-0 i c.row-item.result c.loop-row.invariant.carried pushed
          c.loop-row.invariant.long (subst (λ (xs : List (Vec (Option Stored) Global)). i < length xs) same c.loop-row-test.true)
          (c.row-item.is ∙ ap (λ (xs : List (Vec (Option Stored) Global)). get_or xs i c.row-item.result) same)
          (subst (λ (row : List (Option Stored)). CarryRow row c.in_ok-known_row.field-0.items) c.deref.ensures.value c.in_ok-known_row.ensures.carried);
    }
