use Rattle.std.proofs.Common.{◌≡◌}
use Rattle.bound_text.specs.Steps.{with_copies}
use Rattle.bound_text.specs.Views.{parts_in}
use Rattle.bound_text.proofs.measured.Measured.push_copies.Given as goal

-- the factors end with as many copies as were counted
abbrev pub invariant-loop-copy : goal.invariant-loop-copy
invariant-loop-copy l = parts_in l.self ≡ with_copies l._copy l.variable (parts_in l.fn.self)
