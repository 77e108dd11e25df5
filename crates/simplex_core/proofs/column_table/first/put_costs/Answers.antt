use Rattle.std.proofs.Common.{rules, ◌≡◌, ℕ, ◌∙◌, subst, refl, length, arith, to_z, of_z}
use Rattle.std.specs.Int.{w128}
use Rattle.std.specs.Prelude.{ℤ, pos, slice_index_or, FitsSigned}
use Rattle.std.proofs.lemmas.Int.{to_z-of_z}
use Rattle.std.proofs.lemmas.List.{length-set}
use Rattle.std.proofs.lemmas.Option.{slice_get_read}
use Rattle.simplex_core.specs.ColumnBuilding.{AreColumns, with_cost_columns, IsCosted}
use Rattle.simplex_core.proofs.ColumnLists.{costs-more, costs-none}
use Rattle.simplex_core.proofs.column_table.first.put_costs.Goals as goal

pub loop-position-init : goal.loop-position-init
loop-position-init c = record {
  lengths = refl;
  costed = λ g are outside. costs-none c.args.columns.now.items (length c.args.first.now) c.args.rows g c.args.first.now c.args.second.now are;
}

pub loop-position-preserved : goal.loop-position-preserved
loop-position-preserved c =
    let items = c.loop-position.columns.items in
    let k = c.loop-position.position in
    let x = c.index_mut.result.now in
    let lengths = c.loop-position.invariant.lengths in
    let within = c.loop-position-test.true in
    let same = c.requires.first in
    let is = slice_get_read items (length items) k x refl (omega (arith, lengths, within, same)) c.index_mut.ensures.value in
    let first = c.args.first.now in
    let second = c.args.second.now in
    let y = c.put_column_costs.new.column in
    let fits_first : FitsSigned w128 (slice_index_or first k (pos 0)) = search rules in
    let fits_second : FitsSigned w128 (slice_index_or second k (pos 0)) = search rules in
    let costed : IsCosted x y c.args.rows (slice_index_or first k (pos 0)) (slice_index_or second k (pos 0)) =
    subst (λ (z : ℤ). IsCosted x y c.args.rows (slice_index_or first k (pos 0)) z) (to_z-of_z w128 (slice_index_or second k (pos 0)) fits_second)
    (subst (λ (z : ℤ). IsCosted x y c.args.rows z (to_z w128 (of_z w128 (slice_index_or second k (pos 0))))) (to_z-of_z w128 (slice_index_or first k (pos 0)) fits_first) (c.in_ok-put_column_costs.ensures c.if-not-branch.false)) in
    record {
      lengths = length-set items k y ∙ lengths;
      costed = λ g are outside. costs-more items (length first) c.args.rows k g first second x y (c.loop-position.invariant.costed g are outside) outside is costed;
    }

pub returns : goal.returns
returns c _ g are outside =
    let end = c.loop-position.auto.position-end in
    let done = c.loop-position-test.false in
    let all : c.loop-position.position ≡ length c.args.first.now = omega (arith, end, done) in
    subst (λ (m : ℕ). AreColumns c.loop-position.columns.items (length c.args.first.now) (with_cost_columns c.args.rows g c.args.first.now c.args.second.now m)) all
    (c.loop-position.invariant.costed g are outside)
