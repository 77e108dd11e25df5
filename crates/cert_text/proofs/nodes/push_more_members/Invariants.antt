use Rattle.std.proofs.Common.{◌≡◌, ◌++◌, map, drop, codes}
use Rattle.cert_types.specs.Views.{member_of}
use Rattle.cert_text.specs.Lists.{each_behind}
use Rattle.cert_text.specs.Texts.{member_text}
use Rattle.cert_text.proofs.nodes.push_more_members.Given as goal

-- the text so far and that of the remaining members are the whole text
abbrev pub invariant-loop-member : goal.invariant-loop-member
invariant-loop-member l =
    l.text.items ++ each_behind (codes "; ") (map member_text (map member_of (drop l.member-index l.members)))
    ≡ l.initial.text.items ++ each_behind (codes "; ") (map member_text (map member_of l.members))
