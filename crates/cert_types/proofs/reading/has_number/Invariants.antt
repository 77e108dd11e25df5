use Rattle.std.proofs.Common.{◌≡◌, drop}
use Rattle.poly_terms.specs.model.Entries.{is_in}
use Rattle.cert_types.proofs.reading.has_number.Given as goal

abbrev pub invariant-loop-other : goal.invariant-loop-other
invariant-loop-other l = is_in l.number (drop l.other-index l.numbers) ≡ is_in l.number l.numbers
