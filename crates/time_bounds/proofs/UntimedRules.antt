-- Which rules have no time, read off a table.
use Rattle.std.proofs.Common.{◌≡◌, ℕ, zero, suc, ◌<◌, false, List, [], ◌∷◌, length, map, get_or, Option, Some, None}
use Rattle.std.proofs.Common.{refl, ◌∙◌, arith}
use Rattle.std.proofs.lemmas.List.{length-map}
use Rattle.model.specs.Programs.{Program}
use Rattle.outcome.specs.declared.entry.Stored.{Stored}
use Rattle.cert_types.specs.declared.answer.GuardFeasibility.{GuardFeasibility}
use Rattle.bound_fixpoint.specs.Keys.{lacks}
use Rattle.size_bounds.specs.declared.table.Table.{Table}
use Rattle.size_bounds.specs.Tables.{entry_at, is_unstored, bound_stored}
use Rattle.time_bounds.specs.Questions.{AreUntimed, IsTable}

lacks_stored : (o : Option Stored) → is_unstored o ≡ lacks (bound_stored o)
lacks_stored None = refl
lacks_stored (Some s) = refl

flag_at : (xs : List (Option Stored)) (t : ℕ) → t < length xs → get_or (map is_unstored xs) t false ≡ lacks (bound_stored (entry_at xs t))
flag_at [] t l = absurd (omega (arith, l))
flag_at (o ∷ xs) zero l = lacks_stored o
flag_at (o ∷ xs) (suc t) l = flag_at xs t (omega (arith, l))

-- the flags of times that aren't stored say which rules have no time
pub are_untimed : (p : Program) (tab : Table) (empties : List GuardFeasibility) → IsTable p tab empties
    → AreUntimed p tab (map is_unstored tab.times.items)
are_untimed p tab empties h = record {
  one_each = length-map tab.times.items is_unstored ∙ h.one_each;
  each = λ t l. flag_at tab.times.items t (omega (arith, l, h.one_each));
}
