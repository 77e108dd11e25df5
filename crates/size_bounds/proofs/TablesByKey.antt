-- The table of times and sizes over which nodes are judged, by key.
use Rattle.std.proofs.Common.{◌≡◌, ℕ, zero, suc, refl, ap}
use Rattle.cert_types.specs.cert_rules.Known as nodes
use Rattle.bound_fixpoint.specs.Keys.{Bounds, size_by, over}
use Rattle.size_bounds.specs.declared.table.Table.{Table}
use Rattle.size_bounds.specs.Tables.{bound_stored, stored_size, table_of, bounds_in}

-- the size that is stored of a place is that by key; place 0 is none
sizes_by_key : (tab : Table) (t i : ℕ) → bound_stored (stored_size tab t i) ≡ size_by (bounds_in tab) t i
sizes_by_key tab t zero = refl
sizes_by_key tab t (suc i) = refl

-- the times and sizes of a table are its bounds by key
pub table_by_key : (tab : Table) → table_of tab ≡ over (bounds_in tab)
table_by_key tab = ap whole (λ j t i. sizes_by_key tab t i j)
  where
    whole : Bounds → nodes.Table
    whole size = record { time = λ t. bounds_in tab t 0; size = size }
