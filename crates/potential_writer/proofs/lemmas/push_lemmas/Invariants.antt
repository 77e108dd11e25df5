use Rattle.std.proofs.Common.{◌≡◌, ◌++◌, map, drop}
use Rattle.its_model.specs.Views.{program_of}
use Rattle.potential_types.specs.Views.{lemma_of}
use Rattle.potential_writer.specs.Lemmas.{lemma_lines}
use Rattle.potential_writer.proofs.lemmas.push_lemmas.Given as goal

-- the text so far and that of the remaining lemmas are the whole text
abbrev pub invariant-loop-lemma : goal.invariant-loop-lemma
invariant-loop-lemma l =
    l.text.items ++ lemma_lines (program_of l.p) (map lemma_of (drop l.lemma-index l.lemmas))
    ≡ l.initial.text.items ++ lemma_lines (program_of l.p) (map lemma_of l.lemmas)
