use Rattle.std.proofs.Common.{◌≡◌, List, drop}
use Rattle.text_grammar.specs.Leads.{Lead, Stuck, lead}
use Rattle.text_grammar.specs.Spelled.{body_of}
use Rattle.text_grammar.proofs.leading.begins_with_another.Given as goal

-- if the remaining items are stuck, so are all items: only marks come before them
abbrev pub invariant-loop-item : goal.invariant-loop-item
invariant-loop-item l =
    (row : List Lead) → lead l.class row (body_of (drop l.item-index l.body)) ≡ Stuck → lead l.class row (body_of l.body) ≡ Stuck
