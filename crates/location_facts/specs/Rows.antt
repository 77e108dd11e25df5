-- Facts as rows over the unknowns of a rule: those at its source, and one at its target.
use Rattle.std.specs.Prelude.{ℕ, zero, suc, nat_eq, List, ◌++◌, map, filter, slice_index_or, ℤ, ◌-ℤ◌}
use Rattle.poly_terms.specs.linear_forms.Forms.{Form}
use Rattle.poly_terms.specs.linear_forms.Combinations.{zero_form, less}
use Rattle.poly_terms.specs.linear_forms.RuleQuestions.{RuleForms, unknown_form}
use Rattle.location_facts.specs.declared.fact.LocFact.{LocFact}

-- the value at a place before a rule: places count from 1 and have the rule's left variables, and place 0 stands for
-- the number 0
abbrev pub value_before : ℕ → Form
value_before zero = zero_form
value_before (suc i) = unknown_form i

-- the value at a place after a rule with these new values
abbrev pub value_after : List Form → ℕ → Form
value_after new_values zero = zero_form
value_after new_values (suc i) = slice_index_or new_values i zero_form

-- a form less a number
abbrev pub lowered : Form → ℤ → Form
lowered f k = record { coefs = f.coefs; constant = f.constant -ℤ k }

-- the margin of a fact, given the values at its places: the fact is satisfied if this is at least 0
abbrev pub margin : Form → Form → ℤ → Form
margin plus minus least = lowered (less plus minus) least

-- a fact at the source of a rule, as a row
abbrev pub row_before : LocFact → Form
row_before f = margin (value_before f.plus) (value_before f.minus) f.least

-- a fact at the target of a rule with these new values, as a goal
abbrev pub row_after : List Form → LocFact → Form
row_after new_values f = margin (value_after new_values f.plus) (value_after new_values f.minus) f.least

-- the facts of a symbol, in order
abbrev pub facts_at : ℕ → List LocFact → List LocFact
facts_at s kept = filter (λ f. nat_eq f.symbol s) kept

-- the combined rows of a rule under a list of facts: its own rows, followed by those of the facts at its source, in
-- order
abbrev pub combined : RuleForms → List LocFact → List Form
combined r kept = r.rows ++ map row_before (facts_at r.source kept)
