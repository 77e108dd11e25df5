use Rattle.std.proofs.Common.{◌≡◌, ◌≤◌, min, drop}
use Rattle.std.specs.Str.Parse.{digits_value_after}
use Rattle.std.specs.Prelude.{IsTrue}
use Rattle.std.specs.List.{list_all}
use Rattle.std.specs.Char.{is_ascii_digit}
use Rattle.text_core.specs.Bytes.{value_up_to}
use Rattle.text_core.proofs.bytes.value_up_to.Given as goal

-- the value so far with the remaining digits is the value of all digits
abbrev pub invariant-loop-byte : goal.invariant-loop-byte
invariant-loop-byte l = (min (digits_value_after 10 l.value (drop l.byte-index l.digits)) l.limit ≡ value_up_to l.limit l.digits) × (l.value ≤ l.limit) × IsTrue (list_all is_ascii_digit (drop l.byte-index l.digits))
