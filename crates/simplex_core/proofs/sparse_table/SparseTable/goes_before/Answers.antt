use Rattle.std.proofs.Common.{ℕ, ap, sym, ◌∙◌, arith, refl}
use Rattle.std.specs.Prelude.{nat_lt}
use Rattle.std.proofs.Common.{length}
use Rattle.std.proofs.lemmas.Option.{slice_get_read, get_or_from_slice_get}
use Rattle.simplex_core.proofs.Choices.{columns-decide}
use Rattle.simplex_core.proofs.sparse_table.SparseTable.goes_before.Goals as goal

pub returns : goal.returns
returns c p t shows =
    let rows = shows.rows in
    let li = c.requires.i in
    let lr = c.requires.r in
    let first = sym (c.has_lesser_quotient.ensures p t shows) ∙ c.if-has_lesser_quotient.false in
    let second = sym (c.has_lesser_quotient-2.ensures p t shows) ∙ c.if-has_lesser_quotient-2.false in
    let items = c.args.self.now.basis.items in
    let based = c.args.self.now.based in
    let at_i = get_or_from_slice_get items c.args.i c.index.result.now 0 (slice_get_read items (length items) c.args.i c.index.result.now refl (omega arith) c.index.ensures) in
    let at_r = get_or_from_slice_get items c.args.r c.index-2.result.now 0 (slice_get_read items (length items) c.args.r c.index-2.result.now refl (omega arith) c.index-2.ensures) in
    let basis_i = sym at_i ∙ shows.basis c.args.i (omega arith) in
    let basis_r = sym at_r ∙ shows.basis c.args.r (omega arith) in
    ap (λ (k : ℕ). nat_lt k c.index-2.result.now) basis_i
    ∙ (ap (λ (k : ℕ). nat_lt (t.basis c.args.i) k) basis_r
    ∙ columns-decide _ _ (nat_lt (t.basis c.args.i) (t.basis c.args.r)) first second)
