-- The contracts of the code's parts after a target: a whole rule ends, and a piece leads to the same state as in the
-- written guard.
use Rattle.std.specs.Prelude.{◌≡◌, ◌-◌, Bool, true, false, not, ◌&&◌, nat_lt, if◌then◌else◌, [], ◌∷◌, ◌++◌, map}
use Rattle.std.specs.Prelude.{length, Option, Some, None, option_map}
use Rattle.std.specs.List.{list_all}
use Rattle.std.specs.Char.{is_ascii_digit}
use Rattle.model.specs.Programs as plain
use Rattle.model.specs.Programs.{Name}
use Rattle.model.specs.Limits.{coefficient_limit}
use Rattle.poly_terms.specs.Views.{term_of}
use Rattle.its_model.specs.Views.{rule_of}
use Rattle.its_text.specs.expr_text.Pieces as inner
use Rattle.its_text.specs.expr_text.Terms.{number_of}
use Rattle.its_text.specs.expr_text.TermGrammarStates.{goes_on_from}
use Rattle.expr_reader.specs.Variables.{names_in}
use Rattle.expr_reader.specs.Views.{grammar_state_of}
use Rattle.expr_reader.specs.GuardParts.{is_read}
use Rattle.expr_reader.specs.GuardRepresentation.{atoms_in, limited_atom, Takes}
use Rattle.expr_reader.specs.declared.guard.GuardReader.{GuardReader}
use Rattle.its_text.specs.Pieces.{Piece}
use Rattle.its_text.specs.Written.{Guard}
use Rattle.its_text.specs.Numbering.{rule_names, guard_terms}
use Rattle.its_text.specs.GrammarStates as grammar_states
use Rattle.its_text.specs.GrammarStates.{Headed, rule_with, ruling_with}
use Rattle.its_text.specs.Steps.{step}
use Rattle.its_text.specs.StateFaults.{Tokens}
use Rattle.its_reader.specs.Tests as tests
use Rattle.its_reader.specs.Standing.{KnowsHeaded, IsFreshRule}
use Rattle.its_reader.specs.Places.{LeadsTo}
use Rattle.its_reader.specs.declared.parser_state.GuardOpening.{GuardOpening}
use Rattle.its_reader.specs.declared.parser_state.GuardOpening.TheVariants as openings
use Rattle.its_reader.specs.declared.parser_state.TailState.TheVariants as tails
use Rattle.its_reader.specs.declared.parser_state.SourceState.TheVariants as lefts
use Rattle.its_reader.specs.declared.parser_state.ParserState.{ParserState}
use Rattle.its_reader.specs.declared.parser_state.ParserState.TheVariants as places
use Rattle.its_reader.specs.declared.draft.RuleDraft.{RuleDraft}
use Rattle.its_reader.specs.declared.draft.Draft.{Draft}

-- the rule that the code has read, with numbered variables
abbrev pub rule_in : RuleDraft → plain.Rule
rule_in r = record {
  source = r.source;
  target = r.target;
  left = r.left;
  free = length (names_in r.variables) - r.left;
  names = names_in r.variables;
  updates = map term_of r.updates.items;
  guard = atoms_in r.guard;
  cost = option_map term_of r.cost;
}

-- all parts of a rule have been read
pub record KnowsWhole (ts : Tokens) (h : Headed) (guard : Guard) (d : Draft) : Type 0 where
  pub headed : KnowsHeaded ts h d
  pub names_are : names_in d.rule.variables ≡ rule_names (rule_with h guard)
  pub atoms_are : atoms_in d.rule.guard ≡ map limited_atom (guard_terms (rule_names (rule_with h guard)) guard)

-- the rule that has been read is appended to the rules, and nothing of a next rule has been read
pub record RuleEnds (old new : Draft) : Type 0 where
  pub sections : new.sections ≡ old.sections
  pub symbols : new.symbols ≡ old.symbols
  pub rules : map rule_of new.rules.items ≡ map rule_of old.rules.items ++ rule_in old.rule ∷ []
  pub fresh : IsFreshRule new.rule

-- a whole rule ends before a piece, which continues the rules; a name begins another rule
pub record WholeLeads (old : Draft) (p : Piece) (result : Option ParserState) (new : Draft) : Type 0 where
  pub each : (ts : Tokens) (next : Option Piece) (h : Headed) (guard : Guard) → KnowsWhole ts h guard old
      → LeadsTo ts next (step (grammar_states.AfterRule (ruling_with h guard)) p) result new
  pub sourced : (name : Name) → tests.word p ≡ Some name → result ≡ Some (places.InLeft lefts.SourceNamed)

-- a literal is within the limit on coefficients
abbrev pub is_modest : inner.Piece → Bool
is_modest (inner.Digits ds) = list_all is_ascii_digit ds && not (nat_lt coefficient_limit (number_of ds))
is_modest (inner.Word name) = true
is_modest inner.Open = true
is_modest inner.Close = true
is_modest inner.Plus = true
is_modest inner.Minus = true
is_modest inner.Times = true
is_modest inner.Caret = true
is_modest (inner.Related sign) = true
is_modest (inner.Joining joint) = true

-- a piece continues the expression of an atom
abbrev pub goes_on_in : GuardReader → inner.Piece → Bool
goes_on_in r p = not (is_read r.state) && goes_on_from (grammar_state_of r.expression).outer
    (grammar_state_of r.expression).operand p

-- the state within a guard, if a test passes
abbrev pub guarding_if : Bool → GuardOpening → Option ParserState
guarding_if test opening = if test then Some (places.InTail (tails.Guarding opening)) else None

-- a modest piece leads to the same state as in the written guard; a literal that is too large is taken if it continues
-- an expression
abbrev pub TakesInner : Bool → GuardOpening → RuleDraft → inner.Piece → Option inner.Piece → Option ParserState
    → RuleDraft → Type 0
TakesInner true opening old p behind result new =
    (taken : Bool) × ((result ≡ guarding_if taken opening)
    × Takes (names_in old.variables) old.guard p behind taken (names_in new.variables) new.guard)
TakesInner false opening old p behind result new = result ≡ guarding_if (goes_on_in old.guard p) opening

abbrev pub TakesAtom : GuardOpening → RuleDraft → Option inner.Piece → Option inner.Piece → Option ParserState
    → RuleDraft → Type 0
TakesAtom opening old (Some p) behind result new = TakesInner (is_modest p) opening old p behind result new
TakesAtom opening old None behind result new = result ≡ None

-- the contract `TakesInner` as a record, so that its arguments can be inferred
pub record TakesPiece (opening : GuardOpening) (old : RuleDraft) (p : inner.Piece) (behind : Option inner.Piece)
    (result : Option ParserState) (new : RuleDraft) : Type 0 where
  pub by : TakesInner (is_modest p) opening old p behind result new

-- all but the variables and the guard of a rule is unchanged
pub record StaysInGuard (old new : RuleDraft) : Type 0 where
  pub name : new.name ≡ old.name
  pub left : new.left ≡ old.left
  pub source : new.source ≡ old.source
  pub target : new.target ≡ old.target
  pub updates : new.updates ≡ old.updates
  pub expression : new.expression ≡ old.expression
  pub cost : new.cost ≡ old.cost

pub record TakesMaybe (opening : GuardOpening) (old : RuleDraft) (p behind : Option inner.Piece)
    (result : Option ParserState)
    (new : RuleDraft) : Type 0 where
  pub by : TakesAtom opening old p behind result new

-- the draft and the state after a piece of a guard
pub record AtomTakes (opening : GuardOpening) (old : Draft) (p : Piece) (behind : Option Piece)
    (result : Option ParserState)
    (new : Draft) : Type 0 where
  pub takes : TakesMaybe opening old.rule (tests.inner_in p) (tests.inner_next behind) result new.rule
  pub stays : StaysInGuard old.rule new.rule
  pub sections : new.sections ≡ old.sections
  pub rules : new.rules ≡ old.rules
  pub symbols : new.symbols ≡ old.symbols

-- the rule ends at the `]` after its guard; any other piece is rejected
abbrev pub ClosesIf : Bool → Draft → Option ParserState → Draft → Type 0
ClosesIf true old result new = (result ≡ Some (places.InLeft lefts.AfterRule)) × RuleEnds old new
ClosesIf false old result new = (result ≡ None) × (new ≡ old)

pub record SquareEnds (old : Draft) (p : Piece) (result : Option ParserState) (new : Draft) : Type 0 where
  pub has_closed : ClosesIf (tests.is_square_close p) old result new

-- the draft and the state after the piece that follows a guard: after `:|:` one that follows a rule, in square brackets
-- the closing one
abbrev pub GuardEnds : GuardOpening → Draft → Piece → Option ParserState → Draft → Type 0
GuardEnds openings.Mark old p result new = WholeLeads old p result new
GuardEnds openings.Square old p result new = SquareEnds old p result new

pub record GuardIsEnded (opening : GuardOpening) (old : Draft) (p : Piece) (result : Option ParserState) (new : Draft) :
    Type 0 where
  pub by : GuardEnds opening old p result new
