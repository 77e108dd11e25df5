-- Which grammar a table belongs to, and which of its entries are stored.
use Rattle.std.specs.Prelude.{◌≡◌, ◌≢◌, ℕ, ◌+◌, ◌⊎◌, List, [], map, length, slice_index_or}
use Rattle.text_grammar.specs.declared.symbol.Symbol.{Symbol}
use Rattle.text_grammar.specs.declared.tables.Tables.{Tables}
use Rattle.text_grammar.specs.Grammars.{Grammar}
use Rattle.text_grammar.specs.Leads.{Lead, Stuck, entry, row_after}
use Rattle.text_grammar.specs.Views.{leads_of, rules_view}

-- the row of a class, by the rules of a table
abbrev pub row_in : Tables → ℕ → List Lead
row_in t c = row_after (rules_view t.rules.items) c t.rounds

-- the stored leads in the row of a class
abbrev pub kept_row : Tables → ℕ → List Lead
kept_row t c = slice_index_or (map (λ row. leads_of row.items) t.rows.items) c []

-- there is a row for each class and one for the end of the text, and each stored lead is that of the rules; where none
-- is stored, the row has `Stuck`
pub record IsSound (t : Tables) : Type 0 where
  pub counted : length t.rows.items ≡ t.end + 1
  pub entries : (c n : ℕ) → (entry (kept_row t c) n ≡ Stuck) ⊎ (entry (kept_row t c) n ≡ entry (row_in t c) n)

-- a table, and a later one of the same rules, classes and rounds that has all leads of the first; all its leads are
-- those of the rules
pub record Remains (s t : Tables) : Type 0 where
  pub rules : t.rules ≡ s.rules
  pub end : t.end ≡ s.end
  pub rounds : t.rounds ≡ s.rounds
  pub kept : (c n : ℕ) → entry (kept_row s c) n ≢ Stuck → entry (kept_row t c) n ≡ entry (kept_row s c) n
  pub sound : IsSound t

-- the table is one of these rules, classes and rounds, and its leads are those of the rules
pub record IsTable (t : Tables) (rules : List (List (List Symbol))) (classes rounds : ℕ) : Type 0 where
  pub of_rules : rules_view t.rules.items ≡ rules
  pub of_classes : t.end ≡ classes
  pub of_rounds : t.rounds ≡ rounds
  pub sound : IsSound t

-- the table is the grammar's
abbrev pub IsTableOf : {P : Type 0} → Tables → Grammar P → Type 0
IsTableOf t g = IsTable t g.rules g.classes g.rounds

-- a row, and the same row with lead l at index n
pub record HasPut (row : List Lead) (n : ℕ) (l : Lead) (next : List Lead) : Type 0 where
  pub put : entry next n ≡ l
  pub others : (k : ℕ) → k ≢ n → entry next k ≡ entry row k
