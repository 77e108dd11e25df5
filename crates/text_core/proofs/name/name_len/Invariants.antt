use Rattle.std.proofs.Common.{◌≡◌, ◌+◌, length, drop}
use Rattle.text_core.specs.Names.{continues_name}
use Rattle.text_core.specs.Prefixes.{prefix}
use Rattle.text_core.proofs.name.name_len.Given as goal

-- the bytes passed continue the name, and those at the front of the remaining bytes do so further
abbrev pub invariant-loop-i : goal.invariant-loop-i
invariant-loop-i l = l.i + length (prefix continues_name (drop l.i l.bytes)) ≡ length (prefix continues_name l.bytes)
