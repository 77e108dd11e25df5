use Rattle.std.proofs.Common.{◌≡◌, ◌++◌, map, drop}
use Rattle.text_core.specs.Names.{name_of}
use Rattle.signed_text.specs.Passes.{factors_after_times}
use Rattle.signed_text.proofs.polynomials.write_factors_after_times.Given as goal

-- what is written, followed by the text of the variables left, is the whole
abbrev pub invariant-loop-variable : goal.invariant-loop-variable
invariant-loop-variable l =
    l.text.items ++ factors_after_times (map name_of l.names) (drop l.variable-index l.vars)
    ≡ l.initial.text.items ++ factors_after_times (map name_of l.names) l.vars
