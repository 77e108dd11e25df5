-- The contracts of the code's parts at each state: a piece leads to the same state as in the written text.
use Rattle.std.specs.Prelude.{◌≡◌, ℕ, Bool, true, false, not, ◌==◌, nat_lt, if◌then◌else◌, slice_index, List, [], ◌∷◌}
use Rattle.std.specs.Prelude.{◌++◌, length, Option, Some, None, ⊤}
use Rattle.model.specs.Programs.{Name}
use Rattle.text_core.specs.Names.{is_among, position_of}
use Rattle.its_text.specs.expr_text.Terms.{with_name}
use Rattle.expr_reader.specs.Variables.{names_in}
use Rattle.its_text.specs.GrammarStates as grammar_states
use Rattle.its_text.specs.GrammarStates.{Ruling}
use Rattle.its_reader.specs.Tests as tests
use Rattle.its_reader.specs.Standing.{KnowsRuling, IsFreshRule}
use Rattle.its_reader.specs.declared.parser_state.SourceState.TheVariants as lefts
use Rattle.its_reader.specs.declared.parser_state.ParserState.TheVariants as places
use Rattle.its_reader.specs.declared.parser_state.TargetState.TheVariants as rights
use Rattle.its_reader.specs.declared.parser_state.CostState.{CostState}
use Rattle.its_reader.specs.declared.parser_state.Wrap.{Wrap}
use Rattle.its_reader.specs.declared.draft.RuleDraft.{RuleDraft}
use Rattle.its_text.specs.expr_text.Pieces as inner
use Rattle.its_text.specs.expr_text.TermGrammarStates.{goes_on_from}
use Rattle.expr_reader.specs.Standing.{Leads}
use Rattle.expr_reader.specs.Views.{grammar_state_of}
use Rattle.its_text.specs.Pieces.{Piece, In}
use Rattle.expr_reader.specs.Standing.{IsModest}
use Rattle.its_text.specs.GrammarStates.{GrammarState, pieces_read}
use Rattle.its_text.specs.Answers.{at_index}
use Rattle.its_text.specs.Steps.{step}
use Rattle.its_text.specs.StateFaults.{Tokens}
use Rattle.its_reader.specs.Places.{InSections, InLeft, CostPartEnded, RightPartEnded, TailPartEnded, LeadsTo}
use Rattle.its_reader.specs.declared.draft.Draft.{Draft}
use Rattle.its_reader.specs.declared.parser_state.SectionState.{SectionState}
use Rattle.its_reader.specs.declared.parser_state.SourceState.{SourceState}
use Rattle.its_reader.specs.declared.parser_state.TargetState.{TargetState}
use Rattle.its_reader.specs.declared.parser_state.TailState.{TailState}
use Rattle.its_reader.specs.declared.parser_state.ParserState.{ParserState}

-- the draft and the state after a piece outside rules
pub record SectionLeads (state : SectionState) (old : Draft) (p : Piece) (result : Option ParserState)
    (new : Draft) : Type 0 where
  pub each : (ts : Tokens) (next : Option Piece) (f : GrammarState) → InSections ts state old f
      → LeadsTo ts next (step f p) result new

-- the draft and the state after a piece outside rules at this position, which is recorded for the start symbol
pub record StartLeads (state : SectionState) (old : Draft) (p : Piece) (at : ℕ) (result : Option ParserState)
    (new : Draft) : Type 0 where
  pub each : (ts : Tokens) (next : Option Piece) (f : GrammarState) → InSections ts state old f
      → at ≡ at_index ts (length (pieces_read f)) → LeadsTo ts next (step f p) result new

-- no left argument is named again by a piece
abbrev pub IsNew : List Name → Option Name → Type 0
IsNew names None = ⊤
IsNew names (Some name) = is_among name names ≡ false

-- both accept the piece, or both reject it
abbrev pub GoTogether : Option GrammarState → Option ParserState → Type 0
GoTogether None None = ⊤
GoTogether None (Some state) = ⊥
GoTogether (Some g) None = ⊥
GoTogether (Some g) (Some state) = ⊤

-- the draft and the state after a piece up to the end of a left term
pub record LeftLeads (state : SourceState) (old : Draft) (p : Piece) (result : Option ParserState) (new : Draft) : Type
    0 where
  pub together : (ts : Tokens) (f : GrammarState) → InLeft ts (Some p) state old f → GoTogether (step f p) result
  pub each : (ts : Tokens) (next : Option Piece) (f : GrammarState) → InLeft ts (Some p) state old f
      → IsNew (names_in old.rule.variables) (tests.word p) → LeadsTo ts next (step f p) result new

-- the draft and the state after a piece between rules
pub record RuleLeads (old : Draft) (p : Piece) (result : Option ParserState) (new : Draft) : Type 0 where
  pub each : (ts : Tokens) (next : Option Piece) (r : Ruling) → KnowsRuling ts r old → IsFreshRule old.rule
      → LeadsTo ts next (step (grammar_states.AfterRule r) p) result new

-- the parts of a draft that are unchanged while an argument is read
pub record StaysAround (old new : Draft) : Type 0 where
  pub sections : new.sections ≡ old.sections
  pub rules : new.rules ≡ old.rules
  pub symbols : new.symbols ≡ old.symbols
  pub name : new.rule.name ≡ old.rule.name
  pub updates : new.rule.updates ≡ old.rule.updates
  pub expression : new.rule.expression ≡ old.rule.expression
  pub guard : new.rule.guard ≡ old.rule.guard
  pub cost : new.rule.cost ≡ old.rule.cost

-- a piece names a left argument, or is rejected
abbrev pub Named : Option Name → Option ParserState → Draft → Draft → Type 0
Named None result old new = (result ≡ None) × (new ≡ old)
Named (Some name) result old new = (result ≡ Some (places.InLeft lefts.LeftRead)) × (StaysAround old new
    × (names_in new.rule.variables ≡ with_name (names_in old.rule.variables) name))

pub record ArgumentLeads (old : Draft) (p : Piece) (result : Option ParserState) (new : Draft) : Type 0 where
  pub each : Named (tests.word p) result old new

-- the parts of a draft that are unchanged while a term's symbol is numbered
pub record StaysBeside (old new : Draft) : Type 0 where
  pub sections : new.sections ≡ old.sections
  pub rules : new.rules ≡ old.rules
  pub variables : new.rule.variables ≡ old.rule.variables
  pub updates : new.rule.updates ≡ old.rule.updates
  pub expression : new.rule.expression ≡ old.rule.expression
  pub guard : new.rule.guard ≡ old.rule.guard
  pub cost : new.rule.cost ≡ old.rule.cost

-- the symbol of a term with this many arguments has its number
pub record IsNumbered (name : Name) (arity : ℕ) (old new : Draft) : Type 0 where
  pub names : names_in new.symbols.names ≡ with_name (names_in old.symbols.names) name
  pub arities : new.symbols.arities.items ≡ (if nat_lt (position_of name (names_in old.symbols.names))
      (length old.symbols.arities.items) then old.symbols.arities.items else old.symbols.arities.items
      ++ arity ∷ [])

-- the left term has ended
pub record AfterLeft (old new : Draft) : Type 0 where
  pub stays : StaysBeside old new
  pub numbered : IsNumbered old.rule.name.now (length (names_in old.rule.variables)) old new
  pub left : new.rule.left ≡ length (names_in old.rule.variables)
  pub source : new.rule.source ≡ position_of old.rule.name.now (names_in old.symbols.names)
  pub differs : new.rule.differs ≡ not (slice_index new.symbols.arities.items new.rule.source == length
      (names_in old.rule.variables))

-- a piece isn't this word
abbrev pub IsOther : Name → Piece → Type 0
IsOther wanted p = tests.is_word wanted p ≡ false

-- all but the name of the term, and whether its arguments differ in number, is unchanged
pub record StaysBut (old new : Draft) : Type 0 where
  pub sections : new.sections ≡ old.sections
  pub rules : new.rules ≡ old.rules
  pub symbols : new.symbols ≡ old.symbols
  pub variables : new.rule.variables ≡ old.rule.variables
  pub left : new.rule.left ≡ old.rule.left
  pub source : new.rule.source ≡ old.rule.source
  pub target : new.rule.target ≡ old.rule.target
  pub updates : new.rule.updates ≡ old.rule.updates
  pub expression : new.rule.expression ≡ old.rule.expression
  pub guard : new.rule.guard ≡ old.rule.guard
  pub cost : new.rule.cost ≡ old.rule.cost

-- if the piece is a literal, it consists of digits and isn't too large
abbrev pub IsModestPiece : Piece → Type 0
IsModestPiece (In p) = IsModest p
IsModestPiece _ = ⊤

-- the draft and the state after a piece within the braces of a cost
pub record CostLeads (state : CostState) (old : Draft) (p : Piece) (result : Option ParserState) (new : Draft) : Type 0
  where
    pub together : (ts : Tokens) (f : GrammarState) → CostPartEnded ts (Some p) state old f
        → GoTogether (step f p) result
    pub each : (ts : Tokens) (next : Option Piece) (f : GrammarState) → CostPartEnded ts (Some p) state old f
        → IsModestPiece p → LeadsTo ts next (step f p) result new

-- the draft and the state after a piece from the arrow to the end of the target
pub record RightLeads (state : TargetState) (old : Draft) (p : Piece) (result : Option ParserState)
    (new : Draft) : Type 0 where
  pub together : (ts : Tokens) (f : GrammarState) → RightPartEnded ts (Some p) state old f
      → GoTogether (step f p) result
  pub each : (ts : Tokens) (next : Option Piece) (f : GrammarState) → RightPartEnded ts (Some p) state old f
      → IsModestPiece p → LeadsTo ts next (step f p) result new

-- the draft and the state after a piece after the target
pub record TailLeads (state : TailState) (old : Draft) (p : Piece) (behind : Option Piece) (result : Option ParserState)
    (new : Draft) : Type 0 where
  pub together : (ts : Tokens) (f : GrammarState) → TailPartEnded ts (Some p) state old f → GoTogether (step f p) result
  pub each : (ts : Tokens) (f : GrammarState) → TailPartEnded ts (Some p) state old f → IsModestPiece p
      → LeadsTo ts behind (step f p) result new

-- a piece names the target, or is rejected
abbrev pub Targets : Option Name → Wrap → Option ParserState → Draft → Draft → Type 0
Targets None w result old new = (result ≡ None) × (new ≡ old)
Targets (Some name) w result old new = (result ≡ Some (places.InRight (rights.TargetNamed w))) × (StaysBut old new
    × (new.rule.name.now ≡ name))

pub record TargetNames (w : Wrap) (old : Draft) (p : Piece) (result : Option ParserState) (new : Draft) : Type 0 where
  pub each : Targets (tests.word p) w result old new

-- all but the variables and the expression of a rule is unchanged
pub record StaysInRule (old new : RuleDraft) : Type 0 where
  pub name : new.name ≡ old.name
  pub left : new.left ≡ old.left
  pub source : new.source ≡ old.source
  pub target : new.target ≡ old.target
  pub updates : new.updates ≡ old.updates
  pub guard : new.guard ≡ old.guard
  pub cost : new.cost ≡ old.cost

-- an inner piece continues the argument or the cost, or is rejected
pub record GoesOn (old : Draft) (p : inner.Piece) (new : Draft) : Type 0 where
  pub leads : Leads (names_in old.rule.variables) old.rule.expression p
      (names_in new.rule.variables) new.rule.expression
  pub stays : StaysInRule old.rule new.rule
  pub sections : new.sections ≡ old.sections
  pub rules : new.rules ≡ old.rules
  pub symbols : new.symbols ≡ old.symbols

abbrev pub Takes : Bool → ParserState → Draft → inner.Piece → Option ParserState → Draft → Type 0
Takes true within old p result new = (result ≡ Some within) × GoesOn old p new
Takes false within old p result new = (result ≡ None) × (new ≡ old)

abbrev pub TakesPiece : ParserState → Draft → Piece → Option ParserState → Draft → Type 0
TakesPiece within old (In p) result new = Takes (goes_on_from (grammar_state_of old.rule.expression).outer
    (grammar_state_of old.rule.expression).operand p) within old p result new
TakesPiece within old _ result new = (result ≡ None) × (new ≡ old)

pub record ExpressionTakes (within : ParserState) (old : Draft) (p : Piece) (result : Option ParserState)
    (new : Draft) : Type 0 where
  pub each : TakesPiece within old p result new

-- the right term has ended
pub record AfterRight (old new : Draft) : Type 0 where
  pub stays : StaysBeside old new
  pub left : new.rule.left ≡ old.rule.left
  pub source : new.rule.source ≡ old.rule.source
  pub numbered : IsNumbered old.rule.name.now (length old.rule.updates.items) old new
  pub target : new.rule.target ≡ position_of old.rule.name.now (names_in old.symbols.names)
  pub differs : new.rule.differs ≡ not
      (slice_index new.symbols.arities.items new.rule.target == length old.rule.updates.items)
