use Rattle.std.proofs.Common.{◌≡◌, ◌≤◌, ap, sym, ◌∙◌, arith, Bool, refl, length, to_z, of_z}
use Rattle.std.specs.Int.{w64}
use Rattle.std.specs.Prelude.{ℤ, pos, int_lt, ◌&&◌}
use Rattle.std.proofs.lemmas.Int.{ints}
use Rattle.std.proofs.lemmas.Option.{slice_get_read, get_or_from_slice_get}
use Rattle.std.proofs.lemmas.Bool.{le-leb}
use Rattle.simplex_core.specs.Tableau.{unknowns}
use Rattle.simplex_core.proofs.Signs.{positive-shows}
use Rattle.simplex_core.proofs.column_table.ColumnTable.is_artificial_over_zero.Goals as goal

pub returns : goal.returns
returns c p t shows =
    let rows = shows.rows in
    let columns = shows.columns in
    let row = c.requires in
    let items = c.args.self.now.basis.items in
    let based = c.args.self.now.based in
    let at = get_or_from_slice_get items c.args.row c.index.result.now 0 (slice_get_read items (length items) c.args.row c.index.result.now refl (omega arith) c.index.ensures) in
    let basis_is = sym at ∙ shows.basis c.args.row (omega arith) in
    let above : p.columns ≤ t.basis c.args.row = omega arith in
    let right = c.args.self.now.right in
    let bounded = c.at.ensures.bounded in
    let plain : to_z w64 (of_z w64 c.at.result) ≡ c.at.result = omega (arith, ints, bounded) in
    ap (λ (z : ℤ). int_lt (pos 0) z) (plain ∙ c.at.ensures.value)
    ∙ (positive-shows _ right.den (t.entry c.args.row (unknowns p)) (t.scale c.args.row) right.positive (shows.positive c.args.row (omega arith)) (shows.right c.args.row (omega arith))
    ∙ sym (ap (λ (b : Bool). b && int_lt (pos 0) (t.entry c.args.row (unknowns p))) (le-leb p.columns (t.basis c.args.row) above)))
