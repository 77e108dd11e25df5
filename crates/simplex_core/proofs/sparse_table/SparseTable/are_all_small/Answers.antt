use Rattle.std.proofs.Common.{◌+◌, subst, Bool}
use Rattle.std.specs.Prelude.{MatchBool}
use Rattle.simplex_core.specs.Cells.{AreSmallBut, HasLargeBut}
use Rattle.simplex_core.proofs.SmallRows.{large-but, small-all}
use Rattle.simplex_core.proofs.sparse_table.SparseTable.are_all_small.Goals as goal

pub returns-then-not-are_others_small : goal.returns-then-not-are_others_small
returns-then-not-are_others_small c =
    let t = c.args.self.now in
    large-but t c.args.row (t.rows + 3)
    (subst (λ (b : Bool). MatchBool b (AreSmallBut t c.args.row (t.rows + 3)) (HasLargeBut t c.args.row (t.rows + 3))) c.if-not-are_others_small.true c.requires.others)

pub returns : goal.returns
returns c =
    let t = c.args.self.now in
    small-all t c.args.row c.is_row_small.result
    (subst (λ (b : Bool). MatchBool b (AreSmallBut t c.args.row (t.rows + 3)) (HasLargeBut t c.args.row (t.rows + 3))) c.if-not-are_others_small.false c.requires.others)
    c.is_row_small.ensures
