use Rattle.std.proofs.Common.{◌≡◌, take}
use Rattle.potential_types.specs.Views.{summands_of}
use Rattle.potential_types.proofs.copies.copied_certificate.Given as goal

-- the summands passed are copied
abbrev pub invariant-loop-summand : goal.invariant-loop-summand
invariant-loop-summand l = summands_of l.copies.items ≡ summands_of (take l.summand-index l.certificate)
