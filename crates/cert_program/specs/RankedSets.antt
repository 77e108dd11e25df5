-- The rules of a program as the definitions of acceptance and of questions use them: each rule as forms, and sets of
-- rules with their shut places and the symbols that are entered.
use Rattle.std.specs.Prelude.{ℕ, Bool, List, [], length, Option, Some, None}
use Rattle.std.specs.List.{list_any}
use Rattle.guard_prep.specs.model.Programs.{Program, Rule, rule_at, arity_of}
use Rattle.guard_prep.specs.model.Paths.{target_of, same_symbol}
use Rattle.guard_prep.specs.model.Entries.{entries}
use Rattle.guard_prep.specs.linear_forms.RuleQuestions.{RuleForms, RankedSet}
use Rattle.guard_prep.specs.Prepared.{Prepared, prepared}
use Rattle.cert_rules.specs.Gaps.{SymbolPlace, is_shut}

-- the forms of a rule from one symbol to another, with these prepared rows
abbrev pub forms_of : ℕ → ℕ → Prepared → RuleForms
forms_of source target m = record {
  source = source;
  target = target;
  left = m.left;
  unknowns = m.unknowns;
  rows = m.rows;
  new_values = m.new_values;
}

-- the forms of a rule, if there is one
abbrev pub forms_in : Option Rule → RuleForms
forms_in None = record { source = 0; target = 0; left = 0; unknowns = 0; rows = []; new_values = [] }
forms_in (Some r) = forms_of r.source r.target (prepared r)

-- the forms of the rule with a number
abbrev pub forms_at : Program → ℕ → RuleForms
forms_at p t = forms_in (rule_at p t)

-- the symbol is entered: a rule outside the set, or the virtual entry, leads to it, and a rule of the set leaves it
abbrev pub is_entered : Program → List ℕ → ℕ → Bool
is_entered p set a = list_any (λ e. same_symbol (Some a) (target_of p e)) (entries p set)

-- a set of rules of a program, one of which is strict, with shut places
abbrev pub ranked_set : Program → List ℕ → ℕ → List SymbolPlace → RankedSet
ranked_set p set strict shut = record {
  symbols = length p.symbols;
  arity = arity_of p;
  rule = forms_at p;
  set = set;
  strict = strict;
  shut = is_shut shut;
  entered = is_entered p set;
}
