use Rattle.std.proofs.Common.{◌≡◌, subst, to_z, of_z}
use Rattle.std.specs.Int.{w128}
use Rattle.std.specs.Prelude.{ℤ, pos, negsuc, ◌-ℤ◌, ◌*ℤ◌, int_lt, if◌then◌else◌}
use Rattle.std.proofs.lemmas.Int.{to_z-of_z}
use Rattle.frac128.specs.declared.frac.Frac.{Frac}
use Rattle.frac128.specs.Fraction.{IsFraction}
use Rattle.simplex_core.proofs.sparse_table.SparseTable.dual_number.Goals as goal

pub returns : goal.returns
returns c x is =
    let read = c.at.ensures in
    let same : c.at.result ≡ x = cc in
    let right = to_z-of_z w128 c.args.right c.ranges.right in
    subst (λ (z : ℤ). IsFraction c.one_less.result ((if int_lt z (pos 0) then negsuc 0 else pos 1) *ℤ (x.den -ℤ x.num)) x.den) right
    (subst (λ (h : Frac). IsFraction c.one_less.result ((if int_lt (to_z w128 (of_z w128 c.args.right)) (pos 0) then negsuc 0 else pos 1) *ℤ (h.den -ℤ h.num)) h.den) same c.one_less.ensures)
