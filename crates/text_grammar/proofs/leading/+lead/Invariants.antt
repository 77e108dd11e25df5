use Rattle.std.proofs.Common.{◌≡◌, ◌+◌, ◌*◌, length}
use Rattle.text_grammar.specs.Leads.{behind, better, lead, lead_among, row_after}
use Rattle.text_grammar.specs.Spelled.{alternatives_of, body_of}
use Rattle.text_grammar.specs.Views.{lead_of, alternatives_in, rules_view}
use Rattle.text_grammar.proofs.leading.+lead.Given as goal

-- from a nonterminal to its bodies the number of rounds decreases, and from a body to a nonterminal it stays
abbrev pub decreases-lead_of_nonterminal : goal.decreases-lead_of_nonterminal
decreases-lead_of_nonterminal l = 3 * l.rounds

abbrev pub decreases-lead_of_bodies : goal.decreases-lead_of_bodies
decreases-lead_of_bodies l = 3 * l.rounds + 2

abbrev pub decreases-lead_of_body : goal.decreases-lead_of_body
decreases-lead_of_body l = 3 * l.rounds + 1

-- the better one of the lead found and that of the remaining alternatives is the lead of all
abbrev pub invariant-lead_of_bodies-loop-next : goal.invariant-lead_of_bodies-loop-next
invariant-lead_of_bodies-loop-next l =
    better (lead_of l.found) (lead_among l.class (row_after (rules_view l.rules) l.class l.rounds) (alternatives_in l.next))
    ≡ lead_among l.class (row_after (rules_view l.rules) l.class l.rounds) (alternatives_of l.bodies)

abbrev pub decreases-lead_of_bodies-loop-next : goal.decreases-lead_of_bodies-loop-next
decreases-lead_of_bodies-loop-next l = length (alternatives_in l.next)

-- the lead of the remaining symbols, after the marks so far, is that of the whole body
abbrev pub invariant-lead_of_body-loop-item : goal.invariant-lead_of_body-loop-item
invariant-lead_of_body-loop-item l =
    behind l.marks.items (lead l.class (row_after (rules_view l.rules) l.class l.rounds) (body_of l.left))
    ≡ lead l.class (row_after (rules_view l.rules) l.class l.rounds) (body_of l.fn.body)

abbrev pub decreases-lead_of_body-loop-item : goal.decreases-lead_of_body-loop-item
decreases-lead_of_body-loop-item l = length l.left
