use Rattle.std.proofs.Common.{ℕ, ◌+◌, ap, arith, sym, ◌∙◌, subst, rules}
use Rattle.int_laws.specs.Sums.{sum_to}
use Rattle.simplex_core.specs.Building.{HoldsWhole, with_costs}
use Rattle.simplex_core.proofs.sparse_table.SparseTable.write_costs.Goals as goal

pub loop-column-preserved : goal.loop-column-preserved
loop-column-preserved c =
    let inv = c.loop-column.invariant in
    let step = c.in_ok-write_cost.ensures in
    let before = c.loop-column.self in
    let after = c.write_cost.new.self in
    let column = c.loop-column.column in
    let first = c.args.first.now in
    let second = c.args.second.now in
    let rows = inv.shape.rows in
    let within = c.loop-column-test.true in
    record {
      shape = record { rows = step.shape.rows ∙ rows; columns = step.shape.columns ∙ inv.shape.columns; basis = step.shape.basis ∙ inv.shape.basis };
      none = step.none;
      whole = λ g held sums.
          let sum = sums.each column (omega arith) ∙ ap (λ (m : ℕ). sum_to m (λ i. g i column)) (sym rows) in
          subst (λ (m : ℕ). HoldsWhole after (with_costs m g first second (column + 1))) rows
          (step.whole g first second (search (rules, sum)) (search rules) (search rules)
          (subst (λ (m : ℕ). HoldsWhole before (with_costs m g first second column)) (sym rows) (inv.whole g held sums)));
    }
