use Rattle.std.proofs.Common.{◌≡◌, ◌++◌, map, drop, codes}
use Rattle.refined_programs.specs.Views.{affine_form}
use Rattle.section_writer.specs.Lists.{each_behind}
use Rattle.section_writer.specs.Texts.{form_text}
use Rattle.section_writer.proofs.numbers.push_more_facts.Given as goal

-- the text so far and that of the remaining facts are the whole text
abbrev pub invariant-loop-fact : goal.invariant-loop-fact
invariant-loop-fact l =
    l.text.items ++ each_behind (codes "; ") (map form_text (map affine_form (drop l.fact-index l.facts)))
    ≡ l.initial.text.items ++ each_behind (codes "; ") (map form_text (map affine_form l.facts))
