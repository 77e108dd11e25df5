use Rattle.std.proofs.Common.{◌≡◌, ◌-◌}
use Rattle.bound_expr.specs.Views.{bound_of}
use Rattle.bound_table.proofs.Passes.{passes}
use Rattle.bound_table.proofs.rewriting.rewritten.Given as goal

abbrev pub invariant-loop : goal.invariant-loop
invariant-loop l = passes (16 - l.counter) l.cases (bound_of l.now) ≡ passes 16 l.cases (bound_of l.fn.b)
