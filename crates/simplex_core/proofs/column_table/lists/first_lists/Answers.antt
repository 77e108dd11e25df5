use Rattle.std.proofs.Common.{◌≡◌, ℕ, sym, ◌∙◌, subst, length, refl, arith}
use Rattle.std.proofs.lemmas.Option.{slice_get_read}
use Rattle.simplex_core.specs.ColumnListing.{AreListed}
use Rattle.simplex_core.proofs.ColumnListings.{listed-more}
use Rattle.simplex_core.proofs.column_table.lists.first_lists.Goals as goal

pub loop-position-init : goal.loop-position-init
loop-position-init c = record {
  size = c.in_ok-lists.ensures;
  listed = record { each = λ i j x l lj is d. absurd (omega arith) };
}

pub put_cells-requires : goal.put_cells-requires
put_cells-requires c = record {
  each = λ k e is. (let below = c.before-cells.ensures.lists.within k e is in let size = c.loop-position.invariant.size in omega (arith, below, size));
}

pub loop-position-preserved : goal.loop-position-preserved
loop-position-preserved c =
    let columns = c.args.columns.now in
    let x = c.index-columns-position.result in
    let is = slice_get_read columns (length columns) c.loop-position.position x refl c.loop-position-test.true c.index-columns-position.is in
    let cells = c.before-cells.result.now in
    record {
      size = c.in_ok-put_cells.ensures.size ∙ c.loop-position.invariant.size;
      listed = listed-more columns c.loop-position.lists.items c.put_cells.new.lists.items c.args.rows c.loop-position.position x cells
          c.loop-position.invariant.listed c.in_ok-put_cells.ensures.puts is
          (λ i l d. c.before-cells.ensures.lists.all i l (λ e. d (sym (c.cells.ensures i) ∙ e)));
    }

pub returns-clause-length : goal.returns-clause-length
returns-clause-length c = c.loop-position.invariant.size

pub returns-clause-listed : goal.returns-clause-listed
returns-clause-listed c =
    let below = c.loop-position-test.false in
    let end = c.loop-position.auto.position-end in
    let all : c.loop-position.position ≡ length c.args.columns.now = omega (arith, below, end) in
    subst (λ (m : ℕ). AreListed c.args.columns.now c.loop-position.lists.items c.args.rows m) all c.loop-position.invariant.listed
