use Rattle.std.proofs.Common.{◌≡◌, ◌++◌, map, drop, codes}
use Rattle.its_model.specs.Views.{program_of}
use Rattle.section_writer.specs.Lists.{each_behind}
use Rattle.potential_types.specs.Views.{function_of}
use Rattle.potential_writer.specs.Lemmas.{function_text}
use Rattle.potential_writer.proofs.moves.push_more_functions.Given as goal

-- the text so far and that of the remaining functions are the whole text
abbrev pub invariant-loop-function : goal.invariant-loop-function
invariant-loop-function l =
    l.text.items ++ each_behind (codes "; ") (map (function_text (program_of l.p)) (map function_of (drop l.function-index l.functions)))
    ≡ l.initial.text.items ++ each_behind (codes "; ") (map (function_text (program_of l.p)) (map function_of l.functions))
