-- The entries of the rows so far are written, and each row keeps to the limits.
use Rattle.std.proofs.Common.{◌≤◌, ap, arith, length, map, subst, sym, ◌∙◌, List}
use Rattle.std.specs.Prelude.{ℤ}
use Rattle.std.proofs.lemmas.List.{take_all}
use Rattle.lp_builder.specs.Entries.{entries_of}
use Rattle.lp_text.specs.declared.written.WrittenRow.{WrittenRow}
use Rattle.lp_text.specs.Lps.{size_limit}
use Rattle.lp_text.specs.Spelled.{AreNumbers}
use Rattle.lp_text.proofs.LpEntries.{rows-more}
use Rattle.lp_text.proofs.problem.entries_of.Goals as goal

pub put_numbers-requires-clause-few : goal.put_numbers-requires-clause-few
put_numbers-requires-clause-few c =
    let row = c.row-item.result in
    let short : length row.numbers.items ≤ size_limit =
    subst (λ (r : WrittenRow). length r.numbers.items ≤ size_limit) (sym c.row-item.is)
    (c.requires.within c.loop-row.row-index row c.loop-row-test.true).0 in
    let same = ap (λ (zs : List ℤ). length zs) c.deref.ensures.value in
    omega (arith, short, same, c.loop-row.invariant.2)

pub put_numbers-requires-clause-small : goal.put_numbers-requires-clause-small
put_numbers-requires-clause-small c =
    let row = c.row-item.result in
    subst AreNumbers (sym c.deref.ensures.value)
    (subst (λ (r : WrittenRow). AreNumbers r.numbers.items) (sym c.row-item.is)
    (c.requires.within c.loop-row.row-index row c.loop-row-test.true).1)

pub loop-row-preserved : goal.loop-row-preserved
loop-row-preserved c =
    let inv = c.loop-row.invariant in
    let w = c.in_ok-put_numbers.ensures in
    let g = c.next_row.ensures in
    let row = c.row-item.result in (
      rows-more (λ (r : WrittenRow). r.numbers.items) c.args.rows.now c.loop-row.row-index row _ _ _ _ inv.0 inv.1 inv.2 w g
          (c.deref.ensures.value ∙ ap (λ (r : WrittenRow). r.numbers.items) c.row-item.is) c.loop-row-test.true,
      omega (arith, g.row, w.row, inv.1),
      g.col,
    )

pub returns : goal.returns
returns c =
    let past : length c.args.rows.now ≤ c.loop-row.row-index = omega (arith, c.loop-row-test.false) in
    c.loop-row.invariant.0
    ∙ ap (λ (rs : List WrittenRow). entries_of 0 (map (λ (r : WrittenRow). r.numbers.items) rs))
    (take_all c.loop-row.row-index c.args.rows.now past)
