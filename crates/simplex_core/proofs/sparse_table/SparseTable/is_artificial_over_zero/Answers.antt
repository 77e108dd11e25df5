use Rattle.std.proofs.Common.{◌≡◌, ℕ, ◌+◌, ◌≤◌, ap, sym, ◌∙◌, arith, Bool, refl, length}
use Rattle.std.specs.Prelude.{pos, int_lt, ◌&&◌}
use Rattle.std.proofs.lemmas.Option.{slice_get_read, get_or_from_slice_get}
use Rattle.std.proofs.lemmas.Bool.{le-leb}
use Rattle.simplex_core.specs.Tableau.{unknowns}
use Rattle.simplex_core.proofs.sparse_table.SparseTable.is_artificial_over_zero.Goals as goal

pub returns : goal.returns
returns c p t shows =
    let rows = shows.rows in
    let columns = shows.columns in
    let row = c.requires in
    let items = c.args.self.now.basis.items in
    let based = c.args.self.now.based in
    let at = get_or_from_slice_get items c.args.row c.index.result.now 0 (slice_get_read items (length items) c.args.row c.index.result.now refl (omega arith) c.index.ensures) in
    let basis_is = sym at ∙ shows.basis c.args.row (omega arith) in
    let position : c.args.self.now.columns + c.args.self.now.rows ≡ unknowns p = omega arith in
    let above : p.columns ≤ t.basis c.args.row = omega arith in
    c.is_positive_at.ensures p t shows
    ∙ (ap (λ (k : ℕ). int_lt (pos 0) (t.entry c.args.row k)) position
    ∙ sym (ap (λ (b : Bool). b && int_lt (pos 0) (t.entry c.args.row (unknowns p))) (le-leb p.columns (t.basis c.args.row) above)))
