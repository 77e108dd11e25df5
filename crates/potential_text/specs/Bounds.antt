-- The bound that is being read.
use Rattle.std.specs.Prelude.{ℕ, List, [], ◌∷◌, ◌++◌, Option, Some, None}
use Rattle.signed_bounds.specs.Bounds.{Signed, Constant, SumOf, ProductOf, MaximumOf, MinimumOf, Quotient, Root, PowerOf}
use Rattle.signed_bounds.specs.Views.{parts_of}
use Rattle.lexing_laws.specs.Lasts.{before_last}
use Rattle.potential_text.specs.declared.action.Opener.{Opener}
use Rattle.potential_text.specs.declared.action.Opener.TheVariants as kinds

-- a bound whose parts are being read: its kind, its base if it is a power, and the bounds that were read before it
pub record Opened : Type 0 where
  pub kind : Opener
  pub base : ℕ
  pub before : List Signed

-- the bounds that were read last, and the bounds around them, the innermost last
pub record Parts : Type 0 where
  pub parts : List Signed
  pub opened : List Opened

abbrev pub no_parts : Parts
no_parts = record { parts = []; opened = [] }

-- one bound more
abbrev pub with_bound : Signed → Parts → Parts
with_bound b p = record p { parts = p.parts ++ b ∷ [] }

-- the parts of a bound begin
abbrev pub with_opened : Opener → ℕ → Parts → Parts
with_opened kind base p =
    record { parts = []; opened = p.opened ++ record { kind = kind; base = base; before = p.parts } ∷ [] }

-- the first of some bounds, or 0
abbrev pub first_part : List Signed → Signed
first_part [] = Constant 0
first_part (b ∷ bs) = b

-- the lesser of the first of some bounds and of the others
abbrev pub minimum : List Signed → Signed
minimum [] = MinimumOf (Constant 0) (parts_of [])
minimum (b ∷ bs) = MinimumOf b (parts_of bs)

-- the bound of a kind with these parts, with this base if it is a power, and divided by this if it is a quotient
abbrev pub made_bound : Opener → ℕ → ℕ → List Signed → Signed
made_bound kinds.Sum base divisor bs = SumOf (parts_of bs)
made_bound kinds.Product base divisor bs = ProductOf (parts_of bs)
made_bound kinds.Maximum base divisor bs = MaximumOf (parts_of bs)
made_bound kinds.Minimum base divisor bs = minimum bs
made_bound kinds.Quotient base divisor bs = Quotient (first_part bs) divisor
made_bound kinds.Root base divisor bs = Root (first_part bs)
made_bound kinds.Power base divisor bs = PowerOf base (first_part bs)

-- a bound ends whose parts were read
abbrev pub parts_ended : ℕ → Opened → Parts → Parts
parts_ended divisor o p = record p { parts = o.before ++ made_bound o.kind o.base divisor p.parts ∷ [] }

abbrev pub closed : ℕ → Option Opened → Parts → Parts
closed divisor None p = p
closed divisor (Some o) p = parts_ended divisor o (record p { opened = before_last p.opened })

-- the bound of the next line begins
abbrev pub without_parts : Parts → Parts
without_parts p = record p { parts = [] }
