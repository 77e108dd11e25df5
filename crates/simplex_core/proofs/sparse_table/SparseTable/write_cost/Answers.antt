use Rattle.std.proofs.Common.{◌≡◌, ℕ, ◌+◌, arith, ap, sym, ◌∙◌, refl, subst, to_z, of_z}
use Rattle.std.specs.Int.{w128}
use Rattle.std.specs.Prelude.{ℤ, pos, ◌-ℤ◌}
use Rattle.std.proofs.lemmas.Int.{ints, to_z-of_z}
use Rattle.simplex_core.specs.Building.{WritesWhole, IsZeroAt, cost_number}
use Rattle.simplex_core.proofs.WrittenNumbers.{costs-step}
use Rattle.simplex_core.proofs.TableLines.{when-ok, zero-kept, costs-kept}
use Rattle.simplex_core.proofs.sparse_table.SparseTable.write_cost.Goals as goal

pub write-requires-3-clause-none : goal.write-requires-3-clause-none
write-requires-3-clause-none c =
    let a = c.args.self.now in
    let one = c.in_ok-write.ensures in
    let two = c.in_ok-write-2.ensures in
    let rows_one = one.changes.rows in
    let rows_two = two.changes.rows in
    let columns_one = one.changes.columns in
    let columns_two = two.changes.columns in
    let column = c.requires.column in
    let first = zero-kept a c.write.new.self a.rows c.args.column _ (a.rows + 2) c.args.column one (omega arith) (λ e _. absurd (omega arith)) (c.requires.none.each 2 c.args.column (omega arith) (omega arith) column) in
    let second = zero-kept c.write.new.self c.write-2.new.self (c.write.new.self.rows + 1) c.args.column _ (a.rows + 2) c.args.column two (omega arith) (λ e _. absurd (omega arith)) first in
    subst (λ (k : ℕ). IsZeroAt c.write-2.new.self (k + 2) c.args.column) (sym (rows_two ∙ rows_one)) second

pub returns-clause-none : goal.returns-clause-none
returns-clause-none c =
    let a = c.args.self.now in
    let one = c.in_ok-write.ensures in
    let two = c.in_ok-write-2.ensures in
    let rows_one = one.changes.rows in
    let rows_two = two.changes.rows in
    let columns_one = one.changes.columns in
    let columns_two = two.changes.columns in
    when-ok _ _ c.write-3.result
    (λ three.
    costs-kept a c.write-3.new.self c.args.column c.requires.none (three.changes.rows ∙ (rows_two ∙ rows_one)) (three.changes.columns ∙ (columns_two ∙ columns_one))
    (λ q j few l m.
    three.changes.others (a.rows + q) j (omega arith) (λ _ e. absurd (omega arith))
    ∙ (two.changes.others (a.rows + q) j (omega arith) (λ _ e. absurd (omega arith))
    ∙ one.changes.others (a.rows + q) j (omega arith) (λ _ e. absurd (omega arith))))) c.write-3.ensures

pub returns-clause-whole : goal.returns-clause-whole
returns-clause-whole c =
    let table = c.args.self.now in
    let m = table.rows in
    let k = c.args.column in
    let one = c.write.new.self in
    let two = c.write-2.new.self in
    let last = c.write-3.new.self in
    let rows_one = c.in_ok-write.ensures.changes.rows in
    let rows_two = c.in_ok-write-2.ensures.changes.rows ∙ rows_one in
    let first = to_z-of_z w128 c.args.first c.ranges.first in
    let second = to_z-of_z w128 c.args.second c.ranges.second in
    let bounded = c.requires.sum_small in
    let negated : to_z w128 (of_z w128 (pos 0 -ℤ to_z w128 (of_z w128 c.args.sum))) ≡ pos 0 -ℤ c.args.sum = omega (arith, ints) in
    when-ok _ _ c.write-3.result
    (λ three g f s sum is_first is_second holds.
    let write_one : WritesWhole table one m k (cost_number m g f s 0 k) =
    subst (λ (z : ℤ). WritesWhole table one m k z) (negated ∙ ap (λ (z : ℤ). pos 0 -ℤ z) sum) c.in_ok-write.ensures in
    let write_two : WritesWhole one two (m + 1) k (cost_number m g f s 1 k) =
    subst (λ (z : ℤ). WritesWhole one two (m + 1) k z) (first ∙ sym is_first)
    (subst (λ (r : ℕ). WritesWhole one two (r + 1) k (to_z w128 (of_z w128 c.args.first))) rows_one c.in_ok-write-2.ensures) in
    let write_three : WritesWhole two last (m + 2) k (cost_number m g f s 2 k) =
    subst (λ (z : ℤ). WritesWhole two last (m + 2) k z) (second ∙ sym is_second)
    (subst (λ (r : ℕ). WritesWhole two last (r + 2) k (to_z w128 (of_z w128 c.args.second))) rows_two three) in
    costs-step m g f s k table one two last refl rows_one rows_two holds write_one write_two write_three) c.write-3.ensures
