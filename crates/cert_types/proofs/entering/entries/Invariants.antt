use Rattle.std.proofs.Common.{◌≡◌, filter}
use Rattle.std.specs.List.{range_with_len}
use Rattle.its_model.specs.Views.{program_of}
use Rattle.poly_terms.specs.model.Entries.{enters}
use Rattle.cert_types.proofs.entering.entries.Given as goal

abbrev pub invariant-loop-rule : goal.invariant-loop-rule
invariant-loop-rule l = l.found.items ≡ filter (enters (program_of l.p) l.set) (range_with_len 0 l.rule)
