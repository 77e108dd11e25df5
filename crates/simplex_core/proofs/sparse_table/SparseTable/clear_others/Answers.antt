use Rattle.std.proofs.Common.{◌≡◌, ◌≢◌, ℕ, ◌+◌, arith, ◌∙◌, subst, sym, Bool}
use Rattle.std.specs.Prelude.{MatchBool}
use Rattle.simplex_core.specs.Cells.{AreSmallBut, HasLargeBut}
use Rattle.simplex_core.proofs.SmallRows.{small-step}
use Rattle.simplex_core.proofs.CellLaws.{IsRowBelow-same, KeepsRow-more, cleared-step}
use Rattle.simplex_core.proofs.sparse_table.SparseTable.clear_others.Goals as goal

pub clear_by-requires-clause-small : goal.clear_by-requires-clause-small
clear_by-requires-clause-small c apart =
    let kept = c.loop-row.invariant.kept in
    let within = c.loop-row-test.true in
    IsRowBelow-same 31 c.args.self.now c.loop-row.self c.loop-row.row kept.rows kept.columns
    (λ j l. c.loop-row.invariant.rest c.loop-row.row j (omega arith) l)
    (c.requires.small c.loop-row.row apart (omega arith))

pub clear_by-requires-clause-bounded : goal.clear_by-requires-clause-bounded
clear_by-requires-clause-bounded c =
    let kept = c.loop-row.invariant.kept in
    IsRowBelow-same 62 c.args.self.now c.loop-row.self c.args.pivot kept.rows kept.columns kept.row c.requires.bounded

pub loop-row-preserved : goal.loop-row-preserved
loop-row-preserved c =
    let first = c.args.self.now in
    let before = c.loop-row.self in
    let kept = c.loop-row.invariant.kept in
    let rows = kept.rows in
    let columns = kept.columns in
    let changes = c.in_ok-is_small.ensures.changes in
    record {
      kept = KeepsRow-more first before _ c.args.pivot c.loop-row.row kept changes c.in_ok-is_small.ensures.pivot_row;
      rest = λ i j l w.
          let apart : i ≢ c.loop-row.row = omega arith in
          changes.others i j apart (omega (arith, rows, columns, w)) ∙ c.loop-row.invariant.rest i j (omega arith) w;
      small = subst (λ (b : Bool). MatchBool b (AreSmallBut c.clear_by.new.self c.args.pivot (c.loop-row.row + 1)) (HasLargeBut c.clear_by.new.self c.args.pivot (c.loop-row.row + 1))) (sym c.both-are_small.ensures)
          (small-step before c.clear_by.new.self c.args.pivot c.loop-row.row c.in_ok-is_small.is_small c.loop-row.are_small changes c.in_ok-is_small.ensures.tested c.loop-row.invariant.small);
      done = cleared-step first before _ c.args.pivot c.args.column c.loop-row.row (let l = c.requires.column in omega arith) kept changes
          c.loop-row.invariant.rest c.loop-row.invariant.done c.in_ok-is_small.ensures.cleared;
    }

pub returns-clause-tested : goal.returns-clause-tested
returns-clause-tested c =
    let all : c.loop-row.row ≡ c.loop-row.self.rows + 3 =
    let a = c.loop-row-test.false in let b = c.loop-row.auto.row-end in let e = c.loop-row.invariant.kept.rows in omega arith in
    subst (λ (m : ℕ). MatchBool c.loop-row.are_small (AreSmallBut c.loop-row.self c.args.pivot m) (HasLargeBut c.loop-row.self c.args.pivot m)) all c.loop-row.invariant.small
