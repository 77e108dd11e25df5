-- Scaled points as numerators over a denominator.
use Rattle.std.specs.Prelude.{ℕ, List, ℤ, pos, slice_index_or}
use Rattle.farkas_cert.specs.declared.scaled.Scaled.{Scaled}

-- the numerators of a list, which are 0 past its end
abbrev pub numbers_at : List ℤ → ℕ → ℤ
numbers_at parts unknown = slice_index_or parts unknown (pos 0)

-- the numerators of a scaled point
abbrev pub numerators_of : Scaled → ℕ → ℤ
numerators_of point = numbers_at point.parts.items
