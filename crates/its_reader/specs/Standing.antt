-- Which written state the code's knowledge of a text represents: the sections, the rules so far, and the rule that is
-- being read.
use Rattle.std.specs.Prelude.{◌≡◌, ℕ, ◌+◌, List, [], ◌∷◌, ◌++◌, map, length, Option, Some, None, option_map, ⊤}
use Rattle.model.specs.Programs as plain
use Rattle.model.specs.Programs.{Name, Symbol}
use Rattle.model.specs.Terms.{Term}
use Rattle.its_model.specs.Views.{rule_of}
use Rattle.its_text.specs.expr_text.Trees.{Sum}
use Rattle.its_text.specs.expr_text.Terms.{with_sum, sum_term}
use Rattle.its_text.specs.expr_text.TermGrammarStates.{limited}
use Rattle.expr_reader.specs.Variables.{names_in}
use Rattle.expr_reader.specs.Standing.{IsFresh}
use Rattle.expr_reader.specs.GuardRepresentation.{IsWanting, limited_atom}
use Rattle.its_text.specs.expr_text.GuardGrammarStates.{no_atoms}
use Rattle.poly_terms.specs.Views.{term_of}
use Rattle.its_text.specs.GrammarStates.{Aimed, Headed}
use Rattle.its_text.specs.Written.{LeftTerm, WrittenRule, Section, Goal, Start, Variables, Rules, Comment}
use Rattle.its_text.specs.Written.{pieces_behind}
use Rattle.its_text.specs.Numbering.{names_of, symbols_of, with_right, number_of, left_names, arrow_names, with_sums}
use Rattle.its_text.specs.Numbering.{term_in, rules_of, rule_numbered}
use Rattle.its_text.specs.GrammarStates.{Ruling, ArrowRead}
use Rattle.its_text.specs.Answers.{at_index}
use Rattle.its_text.specs.StateFaults.{Tokens, has, is_goal, is_variables, is_rules}
use Rattle.its_text.specs.StateNames.{symbols_behind}
use Rattle.its_reader.specs.declared.draft.Start as code
use Rattle.its_reader.specs.declared.draft.Sections.{Sections}
use Rattle.its_reader.specs.declared.draft.RuleDraft.{RuleDraft}
use Rattle.its_reader.specs.declared.draft.Draft.{Draft}
use Rattle.its_reader.specs.declared.symbols.Symbols.{Symbols}

-- the start symbol, if its section has been read, and its position in the text
pub record Started : Type 0 where
  pub name : Name
  pub at : ℕ

abbrev pub started_of : Option code.Start → Option Started
started_of None = None
started_of (Some s) = Some (record { name = s.name.now; at = s.at })

-- the start symbol after one more section: its name is the fifth token of the section of the start symbol
abbrev pub or_started : Option Started → Tokens → ℕ → Section → Option Started
or_started found ts before (Start name) = Some (record { name = name; at = at_index ts (before + 4) })
or_started found ts before Goal = found
or_started found ts before (Variables names) = found
or_started found ts before (Rules rules) = found
or_started found ts before (Comment bytes) = found

abbrev pub started : Tokens → List Section → Option Started
started ts [] = None
started ts (s ∷ sections) = or_started (started ts sections) ts (length (pieces_behind sections)) s

-- the draft records which sections there are, and the start symbol
pub record KnowsSections (ts : Tokens) (ss : List Section) (s : Sections) : Type 0 where
  pub goal : s.goal ≡ has is_goal ss
  pub variables : s.variables ≡ has is_variables ss
  pub rules : s.rules ≡ has is_rules ss
  pub start : started_of s.start ≡ started ts ss

-- the table of the code has these symbols
pub record KnowsSymbols (symbols : List Symbol) (s : Symbols) : Type 0 where
  pub names : names_in s.names ≡ names_of symbols
  pub arities : s.arities.items ≡ map (λ (x : Symbol). x.arity) symbols

-- a rule whose exponents are limited: those over 8 count as 9
abbrev pub limited_rule : plain.Rule → plain.Rule
limited_rule r = record {
  source = r.source;
  target = r.target;
  left = r.left;
  free = r.free;
  names = r.names;
  updates = map limited r.updates;
  guard = map limited_atom r.guard;
  cost = option_map limited r.cost;
}

-- the rules with numbered symbols; each is numbered by the symbols known once it is read
abbrev pub rules_so_far : List WrittenRule → List plain.Rule
rules_so_far [] = []
rules_so_far (r ∷ earlier) = rules_so_far earlier ++ limited_rule (rule_numbered (symbols_of (r ∷ earlier)) r) ∷ []

-- the draft has these rules and their symbols
pub record KnowsRules (rules : List WrittenRule) (d : Draft) : Type 0 where
  pub symbols : KnowsSymbols (symbols_of rules) d.symbols
  pub rules_are : map rule_of d.rules.items ≡ rules_so_far rules

abbrev pub KnowsLast : Option (List WrittenRule) → Draft → Type 0
KnowsLast None d = ⊤
KnowsLast (Some rules) d = KnowsRules rules d

-- between sections, the draft represents the sections so far, and the rules of the last section of rules
pub record KnowsBetween (ts : Tokens) (ss : List Section) (d : Draft) : Type 0 where
  pub sections : KnowsSections ts ss d.sections
  pub last : KnowsLast (rules_of ss) d

-- nothing of a rule has been read
pub record IsFreshRule (r : RuleDraft) : Type 0 where
  pub variables : names_in r.variables ≡ []
  pub updates : r.updates.items ≡ []
  pub expression : IsFresh r.expression
  pub guard : (before : List Name) → IsWanting before no_atoms before r.guard
  pub cost : r.cost ≡ None

-- between rules, the draft represents the rules so far
pub record KnowsRuling (ts : Tokens) (r : Ruling) (d : Draft) : Type 0 where
  pub sections : KnowsSections ts r.sections d.sections
  pub rules : KnowsRules r.rules d

-- the left term is being read: its name, and its arguments so far
pub record KnowsSource (ts : Tokens) (r : Ruling) (name : Name) (arguments : List Name) (d : Draft) : Type 0 where
  pub ruling : KnowsRuling ts r d
  pub name_is : d.rule.name.now ≡ name
  pub arguments_are : names_in d.rule.variables ≡ left_names (record { name = name; arguments = arguments })
  pub updates : d.rule.updates.items ≡ []
  pub expression : IsFresh d.rule.expression
  pub guard : (before : List Name) → IsWanting before no_atoms before d.rule.guard
  pub cost : d.rule.cost ≡ None

-- the cost with numbered variables, which are those known once the cost is read
abbrev pub cost_of : List Name → Option Sum → Option Term
cost_of names None = None
cost_of names (Some c) = Some (limited (sum_term (with_sum names c) c))

-- the left term and its arrow have been read
pub record KnowsArrow (ts : Tokens) (l : ArrowRead) (d : Draft) : Type 0 where
  pub sections : KnowsSections ts l.ruling.sections d.sections
  pub rules_are : map rule_of d.rules.items ≡ rules_so_far l.ruling.rules
  pub source_is : d.rule.source ≡ number_of (symbols_behind l) l.left.name
  pub left_is : d.rule.left ≡ length l.left.arguments
  pub cost_is : option_map term_of d.rule.cost ≡ cost_of (left_names l.left) l.cost

pub record KnowsLeft (ts : Tokens) (l : ArrowRead) (d : Draft) : Type 0 where
  pub led : KnowsArrow ts l d
  pub symbols : KnowsSymbols (symbols_behind l) d.symbols
  pub names_are : names_in d.rule.variables ≡ arrow_names l.left l.cost
  pub updates : d.rule.updates.items ≡ []
  pub expression : IsFresh d.rule.expression
  pub guard : (before : List Name) → IsWanting before no_atoms before d.rule.guard

-- a left term whose arrow has no cost
abbrev pub without_cost : Ruling → LeftTerm → ArrowRead
without_cost r t = record { ruling = r; left = t; cost = None }

-- the right arguments with numbered variables; each is numbered by the variables known once it is read
abbrev pub updates_of : List Name → List Sum → List Term
updates_of names [] = []
updates_of names (s ∷ earlier) = updates_of names earlier ++ limited (sum_term (with_sums names (s ∷ earlier)) s) ∷ []

-- the right term is being read: its name, and arguments so far
pub record KnowsAimed (ts : Tokens) (a : Aimed) (arguments : List Sum) (d : Draft) : Type 0 where
  pub led : KnowsArrow ts a.led d
  pub symbols : KnowsSymbols (symbols_behind a.led) d.symbols
  pub name_is : d.rule.name.now ≡ a.name
  pub updates_are : map term_of d.rule.updates.items ≡ updates_of (arrow_names a.led.left a.led.cost) arguments
  pub guard : (before : List Name) → IsWanting before no_atoms before d.rule.guard

-- the symbols known once a target is read
abbrev pub symbols_headed : Headed → List Symbol
symbols_headed h = with_right (symbols_behind h.led) (term_in h.target)

-- the target has been read
pub record KnowsHeaded (ts : Tokens) (h : Headed) (d : Draft) : Type 0 where
  pub led : KnowsArrow ts h.led d
  pub symbols : KnowsSymbols (symbols_headed h) d.symbols
  pub target_is : d.rule.target ≡ number_of (symbols_headed h) (term_in h.target).name
  pub updates_are : map term_of d.rule.updates.items ≡ updates_of
      (arrow_names h.led.left h.led.cost) (term_in h.target).arguments
