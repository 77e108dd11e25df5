-- The numbers that were read last.
use Rattle.std.specs.Prelude.{ℕ, suc, ◌-◌, ◌^◌, min, Bool, true, false, ◌&&◌, if◌then◌else◌, ℤ, pos, neg_ℤ}
use Rattle.potential_text.specs.declared.action.Field.{Field}
use Rattle.potential_text.specs.declared.action.Field.TheVariants as fields
use Rattle.potential_text.specs.declared.action.Role.{Role}
use Rattle.potential_text.specs.declared.action.Role.TheVariants as roles
use Rattle.potential_text.specs.declared.numbers.Numbers.{Numbers}

-- no number was read
abbrev pub no_numbers : Numbers
no_numbers = record {
  negative = false;
  size = 0;
  rule = 0;
  step = 0;
  place = 0;
  first = 0;
  second = 0;
  row = 0;
  other = 0;
  variable = 0;
  symbol = 0;
  den = 0;
  amount = 0;
  base = 0;
  divisor = 0;
  bounding = false;
  nodes = 0;
}

-- a number as 32 bits hold it, and as 64 bits do, or the greatest that they hold
abbrev pub in_32 : ℕ → ℕ
in_32 n = min n (2 ^ 32 - 1)

abbrev pub in_64 : ℕ → ℕ
in_64 n = min n (2 ^ 64 - 1)

-- a number that is counted from 1 on, as it is counted from 0 on
abbrev pub index_of : ℕ → ℕ
index_of n = in_32 (n - 1)

-- a number with its sign, up to 2^63-1 in absolute value
abbrev pub signed : Bool → ℕ → ℤ
signed negative n = if negative then neg_ℤ (pos (min n (2 ^ 63 - 1))) else pos (min n (2 ^ 63 - 1))

-- the last number with a sign
abbrev pub signed_size : Numbers → ℤ
signed_size s = signed s.negative s.size

-- a number of a field was read
abbrev pub with_field : Field → ℕ → Numbers → Numbers
with_field fields.Size n s = record s { size = in_64 n }
with_field fields.Rule n s = record s { rule = in_32 n }
with_field fields.Step n s = record s { step = in_32 n }
with_field fields.Place n s = record s { place = in_32 n }
with_field fields.First n s = record s { first = in_32 n }
with_field fields.Second n s = record s { second = in_32 n }
with_field fields.Row n s = record s { row = index_of n }
with_field fields.Other n s = record s { other = index_of n }
with_field fields.Variable n s = record s { variable = index_of n }
with_field fields.Den n s = record s { den = in_64 n }
with_field fields.Amount n s = record s { amount = in_64 n }
with_field fields.Base n s = record s { base = in_64 n }
with_field fields.Divisor n s = record s { divisor = n }

-- whether a piece in this role is a node of a bound: a number, a word, a monomial or a factor of one
abbrev pub is_node : Role → Bool
is_node roles.Plain = false
is_node roles.LineWord = false
is_node roles.Symbol = false
is_node (roles.Number fields.Size) = true
is_node (roles.Number field) = false
is_node roles.Factor = true
is_node roles.Listed = false
is_node roles.Constant = true
is_node roles.BoundWord = true

-- a piece was read in a role, within a bound or outside of it; nodes are counted up to 4,097
abbrev pub with_node : Role → Numbers → Numbers
with_node role s = if s.bounding && is_node role then record s { nodes = min (suc s.nodes) 4097 } else s

-- a bound begins, and a line ends
abbrev pub bound_begun : Numbers → Numbers
bound_begun s = record s { bounding = true; nodes = 0 }

abbrev pub line_ended : Numbers → Numbers
line_ended s = record s { bounding = false }

-- the next number has a `-`, and a number with a sign was read
abbrev pub with_minus : Numbers → Numbers
with_minus s = record s { negative = true }

abbrev pub without_minus : Numbers → Numbers
without_minus s = record s { negative = false }
