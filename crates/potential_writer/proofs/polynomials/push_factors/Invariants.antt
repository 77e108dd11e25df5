use Rattle.std.proofs.Common.{◌≡◌, ◌++◌, drop}
use Rattle.potential_writer.specs.Parts.{factors_text}
use Rattle.potential_writer.proofs.polynomials.push_factors.Given as goal

-- the text so far and that of the remaining variables are the whole text
abbrev pub invariant-loop-variable : goal.invariant-loop-variable
invariant-loop-variable l =
    l.text.items ++ factors_text (drop l.variable-index l.vars)
    ≡ l.initial.text.items ++ factors_text l.vars
