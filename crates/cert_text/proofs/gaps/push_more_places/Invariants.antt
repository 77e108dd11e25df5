use Rattle.std.proofs.Common.{◌≡◌, ◌++◌, map, drop, codes}
use Rattle.its_model.specs.Views.{program_of}
use Rattle.cert_types.specs.AnswerViews.{shut_of}
use Rattle.cert_text.specs.Lists.{each_behind}
use Rattle.cert_text.specs.Texts.{symbol_place_text}
use Rattle.cert_text.proofs.gaps.push_more_places.Given as goal

-- the text so far and that of the remaining places are the whole text
abbrev pub invariant-loop-place : goal.invariant-loop-place
invariant-loop-place l =
    l.text.items ++ each_behind (codes " ") (map (symbol_place_text (program_of l.p)) (map shut_of (drop l.place-index l.places)))
    ≡ l.initial.text.items ++ each_behind (codes " ") (map (symbol_place_text (program_of l.p)) (map shut_of l.places))
