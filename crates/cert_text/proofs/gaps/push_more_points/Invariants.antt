use Rattle.std.proofs.Common.{◌≡◌, ◌++◌, map, drop, codes}
use Rattle.cert_types.specs.AnswerViews.{scaled_of}
use Rattle.cert_text.specs.Lists.{each_behind}
use Rattle.cert_text.specs.Texts.{point_text}
use Rattle.cert_text.proofs.gaps.push_more_points.Given as goal

-- the text so far and that of the remaining points are the whole text
abbrev pub invariant-loop-point : goal.invariant-loop-point
invariant-loop-point l =
    l.text.items ++ each_behind (codes "; ") (map point_text (map scaled_of (drop l.point-index l.points)))
    ≡ l.initial.text.items ++ each_behind (codes "; ") (map point_text (map scaled_of l.points))
