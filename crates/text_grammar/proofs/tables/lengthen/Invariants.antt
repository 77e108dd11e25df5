use Rattle.std.proofs.Common.{◌≡◌, ◌-◌, ℕ, length}
use Rattle.text_grammar.specs.Leads.{entry}
use Rattle.text_grammar.specs.Views.{leads_of}
use Rattle.text_grammar.proofs.tables.lengthen.Given as goal

-- a longer row has the same leads
abbrev pub invariant-loop-row : goal.invariant-loop-row
invariant-loop-row l = (n : ℕ) → entry (leads_of l.row.items) n ≡ entry (leads_of l.initial.row.items) n

abbrev pub decreases-loop-row : goal.decreases-loop-row
decreases-loop-row l = l.places - length l.row.items
