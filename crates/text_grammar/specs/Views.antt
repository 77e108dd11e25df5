-- The types of the code as plain data.
use Rattle.std.specs.Prelude.{ℕ, List, [], map}
use Rattle.std.specs.Prelude.{Option, Some, None}
use Rattle.std.specs.Borrow.{Bor}
use Rattle.text_core.specs.Readers.{onto}
use Rattle.text_grammar.specs.declared.symbol.Symbol.{Symbol}
use Rattle.text_grammar.specs.declared.symbol.Item.{Item}
use Rattle.text_grammar.specs.declared.entry.Entry as code
use Rattle.text_grammar.specs.declared.entry.Entry.TheVariants as an
use Rattle.text_grammar.specs.declared.stack.Meeting.{Meeting}
use Rattle.text_grammar.specs.declared.stack.Meeting.TheVariants.{Matched, Passed, Refused}
use Rattle.text_grammar.specs.Spelled.{alternatives_of}
use Rattle.text_grammar.specs.Leads.{Lead, Matches, Passes, Stuck}

-- the plain lead of an entry; the code stores the expected symbols with the next one last
abbrev pub lead_of : code.Entry → Lead
lead_of (an.Matches ms rest) = Matches ms.items (onto rest.items [])
lead_of (an.Passes ms) = Passes ms.items
lead_of an.Stuck = Stuck

-- the plain leads of entries
abbrev pub leads_of : List code.Entry → List Lead
leads_of entries = map lead_of entries

-- the lead found on the stack, given the marks that were passed and the symbols that are left
abbrev pub met : Meeting → List ℕ → List Symbol → Lead
met Matched ms stack = Matches ms (onto stack [])
met Passed ms stack = Passes ms
met Refused ms stack = Stuck

-- the alternatives at the front of optional items
abbrev pub alternatives_in : Option (Bor (List Item)) → List (List Symbol)
alternatives_in None = []
alternatives_in (Some items) = alternatives_of items.now

-- the rules of the code as plain data; each is given by the items from its first alternative on
abbrev pub rules_view : List (Bor (List Item)) → List (List (List Symbol))
rules_view rules = map (λ items. alternatives_of items.now) rules
