use Rattle.std.proofs.Common.{◌≡◌, arith, refl, subst, length}
use Rattle.std.proofs.lemmas.Option.{slice_get_read}
use Rattle.frac128.specs.declared.frac.Frac.{Frac}
use Rattle.simplex_core.specs.Cells.{IsLessMultiple}
use Rattle.simplex_core.proofs.TableLines.{side-read}
use Rattle.simplex_core.proofs.sparse_table.SparseTable.clear_side.Goals as goal

pub returns : goal.returns
returns c =
    let a = c.args.self.now in
    let items = a.right.items in
    let sides = a.sides in
    let factor = c.args.factor in
    let side = c.less_multiple-side.result in
    let own = c.requires.row in
    let other = c.requires.pivot in
    record {
      changes = c.set_side.ensures.changes;
      cleared = λ f b g is_f is_b is_g.
          let same_f = side-read a c.args.row f c.index.result.now (slice_get_read items (length items) c.args.row c.index.result.now refl (omega arith) c.index.ensures) is_f in
          let same_b = side-read a c.args.pivot b c.index-2.result.now (slice_get_read items (length items) c.args.pivot c.index-2.result.now refl (omega arith) c.index-2.ensures) is_b in
          let written = c.set_side.ensures.written in
          let same_g : side ≡ g = cc in
          subst (λ (x : Frac). IsLessMultiple x factor b g) same_f
          (subst (λ (x : Frac). IsLessMultiple c.index.result.now factor x g) same_b
          (subst (λ (x : Frac). IsLessMultiple c.index.result.now factor c.index-2.result.now x) same_g c.less_multiple-side.ensures));
    }
