use Rattle.std.proofs.Common.{◌≡◌, ℕ, [], map, length, slice_index_or}
use Rattle.text_grammar.specs.Leads.{Stuck, entry}
use Rattle.text_grammar.specs.Views.{leads_of}
use Rattle.text_grammar.proofs.tables.Tables.new.Given as goal

-- there are as many rows as classes so far, and they have no stored lead
abbrev pub invariant-loop : goal.invariant-loop
invariant-loop l = record {
  counted : length l.rows.items ≡ l.counter;
  empty : (c n : ℕ) → entry (slice_index_or (map (λ row. leads_of row.items) l.rows.items) c []) n ≡ Stuck;
}
