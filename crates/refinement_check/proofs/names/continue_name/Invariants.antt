use Rattle.std.proofs.Common.{◌≡◌, drop}
use Rattle.std.specs.List.{list_all}
use Rattle.text_core.specs.Names.{continues_name}
use Rattle.refinement_check.proofs.names.continue_name.Given as goal

-- whether a name can continue with all bytes depends on the bytes left
abbrev pub invariant-loop-byte : goal.invariant-loop-byte
invariant-loop-byte l = list_all continues_name (drop l.byte-index l.bytes) ≡ list_all continues_name l.bytes
