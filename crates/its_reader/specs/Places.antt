-- For each state of the parser's code, the written states that it represents, with the next piece in sight.
use Rattle.std.specs.Prelude.{◌≡◌, ◌⊎◌, true, false, List, [], ◌∷◌, length, Option, Some, None, ⊤}
use Rattle.model.specs.Programs.{Name}
use Rattle.its_text.specs.expr_text.Trees.{Sum}
use Rattle.its_text.specs.expr_text.GrammarStates as expression
use Rattle.its_text.specs.expr_text.Steps as expression_steps
use Rattle.its_text.specs.expr_text.GuardGrammarStates as guards
use Rattle.its_text.specs.expr_text.GuardGrammarStates.{GuardGrammarState}
use Rattle.expr_reader.specs.Variables.{names_in}
use Rattle.expr_reader.specs.Standing as expressions
use Rattle.expr_reader.specs.GuardRepresentation.{IsWanting, Reads, IsPartEnded}
use Rattle.its_text.specs.Pieces.{Piece, open_bracket}
use Rattle.its_text.specs.Written.{Section, Start, LeftTerm, RightTerm, Marked, BehindMark}
use Rattle.its_text.specs.GrammarStates as grammar_states
use Rattle.its_text.specs.GrammarStates.{GrammarState, Ruling, ArrowRead, Aimed, Headed, ruling_with}
use Rattle.its_text.specs.Steps.{guard_named}
use Rattle.its_text.specs.StateFaults.{Tokens, other_arity, is_open, ends_expression, bare_differs}
use Rattle.its_text.specs.Numbering.{with_right, left_names, arrow_names}
use Rattle.its_text.specs.StateNames.{symbols_of_arrow, symbols_behind, names_with, headed_names}
use Rattle.its_reader.specs.Tests.{inner_next}
use Rattle.its_reader.specs.Standing.{KnowsBetween, KnowsRuling, KnowsSource, KnowsSymbols, KnowsArrow, KnowsLeft}
use Rattle.its_reader.specs.Standing.{KnowsAimed, KnowsHeaded, IsFreshRule, without_cost}
use Rattle.its_reader.specs.declared.draft.Draft.{Draft}
use Rattle.its_reader.specs.declared.parser_state.Wrap.{Wrap}
use Rattle.its_reader.specs.declared.parser_state.Wrap.TheVariants as wraps
use Rattle.its_reader.specs.declared.parser_state.GuardOpening.{GuardOpening}
use Rattle.its_reader.specs.declared.parser_state.GuardOpening.TheVariants as openings
use Rattle.its_reader.specs.declared.parser_state.SectionState.{SectionState}
use Rattle.its_reader.specs.declared.parser_state.SectionState.TheVariants as sections
use Rattle.its_reader.specs.declared.parser_state.SourceState.{SourceState}
use Rattle.its_reader.specs.declared.parser_state.SourceState.TheVariants as lefts
use Rattle.its_reader.specs.declared.parser_state.CostState.{CostState}
use Rattle.its_reader.specs.declared.parser_state.CostState.TheVariants as costs
use Rattle.its_reader.specs.declared.parser_state.TargetState.{TargetState}
use Rattle.its_reader.specs.declared.parser_state.TargetState.TheVariants as rights
use Rattle.its_reader.specs.declared.parser_state.TailState.{TailState}
use Rattle.its_reader.specs.declared.parser_state.TailState.TheVariants as tails
use Rattle.its_reader.specs.declared.parser_state.ParserState.{ParserState}
use Rattle.its_reader.specs.declared.parser_state.ParserState.TheVariants as places

-- the written states that a state outside rules represents
abbrev pub InSections : Tokens → SectionState → Draft → GrammarState → Type 0
InSections ts sections.Between d f = (ss : List Section) × ((f ≡ grammar_states.Between ss) × KnowsBetween ts ss d)
InSections ts sections.Opened d f = (ss : List Section) × ((f ≡ grammar_states.Opened ss) × KnowsBetween ts ss d)
InSections ts sections.GoalNamed d f = (ss : List Section) × ((f ≡ grammar_states.GoalNamed ss) × KnowsBetween ts ss d)
InSections ts sections.GoalRead d f = (ss : List Section) × ((f ≡ grammar_states.GoalRead ss) × KnowsBetween ts ss d)
InSections ts sections.StartNamed d f = (ss : List Section)
    × ((f ≡ grammar_states.StartNamed ss) × KnowsBetween ts ss d)
InSections ts sections.StartOpened d f = (ss : List Section)
    × ((f ≡ grammar_states.StartOpened ss) × KnowsBetween ts ss d)
InSections ts sections.StartListed d f = (ss : List Section)
    × ((f ≡ grammar_states.StartListed ss) × KnowsBetween ts ss d)
InSections ts sections.StartRead d f = (ss : List Section) × ((name : Name) × ((f ≡ grammar_states.StartRead ss name)
    × KnowsBetween ts (Start name ∷ ss) d))
InSections ts sections.StartClosed d f = (ss : List Section)
    × ((name : Name) × ((f ≡ grammar_states.StartClosed ss name)
    × KnowsBetween ts (Start name ∷ ss) d))
InSections ts sections.Listing d f = (ss : List Section) × ((names : List Name) × ((f ≡ grammar_states.Listing ss names)
    × KnowsBetween ts ss d))
InSections ts sections.CommentNamed d f = (ss : List Section)
    × ((f ≡ grammar_states.CommentNamed ss) × KnowsBetween ts ss d)

-- a rule's source has been read; a name after `:|:` is one if the next piece is an opening bracket
abbrev pub IsSource : Option Piece → Ruling → Name → GrammarState → Type 0
IsSource next r name f = (f ≡ grammar_states.SourceNamed r name) ⊎ ((h : Headed) × ((f ≡ grammar_states.WordRead h name)
    × ((r ≡ ruling_with h (BehindMark None)) × (next ≡ Some open_bracket))))

-- the written states that a state from the beginning of a rule to the end of its left term represents
abbrev pub InLeft : Tokens → Option Piece → SourceState → Draft → GrammarState → Type 0
InLeft ts next lefts.AfterRule d f = (r : Ruling)
    × ((f ≡ grammar_states.AfterRule r) × (KnowsRuling ts r d × IsFreshRule d.rule))
InLeft ts next lefts.SourceNamed d f = (r : Ruling) × ((name : Name) × (IsSource next r name f
    × KnowsSource ts r name [] d))
InLeft ts next lefts.LeftOpened d f = (r : Ruling) × ((name : Name) × ((f ≡ grammar_states.LeftOpened r name)
    × KnowsSource ts r name [] d))
InLeft ts next lefts.LeftRead d f = (r : Ruling) × ((name : Name) × ((a : Name) × ((earlier : List Name)
    × ((f ≡ grammar_states.LeftRead r name a earlier) × KnowsSource ts r name (a ∷ earlier) d))))
InLeft ts next lefts.LeftParted d f = (r : Ruling) × ((name : Name) × ((a : Name) × ((earlier : List Name)
    × ((f ≡ grammar_states.LeftParted r name a earlier) × KnowsSource ts r name (a ∷ earlier) d))))
InLeft ts next lefts.SourceClosed d f = (r : Ruling) × ((t : LeftTerm) × ((f ≡ grammar_states.SourceClosed r t)
    × (KnowsLeft ts (without_cost r t) d
    × (d.rule.differs ≡ other_arity (symbols_of_arrow r t) t.name (length t.arguments)))))

-- part of a cost has been read
pub record IsCosting (ts : Tokens) (r : Ruling) (t : LeftTerm) (e : expression.GrammarState) (d : Draft) : Type 0 where
  pub led : KnowsArrow ts (without_cost r t) d
  pub symbols : KnowsSymbols (symbols_of_arrow r t) d.symbols
  pub updates : d.rule.updates.items ≡ []
  pub guard : (before : List Name) → IsWanting before guards.no_atoms before d.rule.guard
  pub expression : expressions.RepresentsExpression (left_names t) e (names_in d.rule.variables) d.rule.expression

-- a cost has ended before the next piece
pub record IsCosted (ts : Tokens) (next : Option Piece) (r : Ruling) (t : LeftTerm) (e : expression.GrammarState)
    (c : Sum)
    (d : Draft) : Type 0 where
  pub finish_is : expression_steps.finish e ≡ Some c
  pub ends : ends_expression e next ≡ true
  pub left : KnowsLeft ts (record { ruling = r; left = t; cost = Some c }) d

-- the written states that a state within the braces of a cost represents
abbrev pub InCost : Tokens → CostState → Draft → GrammarState → Type 0
InCost ts costs.Costing d f = (r : Ruling)
    × ((t : LeftTerm) × ((e : expression.GrammarState) × ((f ≡ grammar_states.Costing r t e)
    × IsCosting ts r t e d)))
InCost ts costs.Costed d f = ⊥

-- the form of a target of the code, as plain data
abbrev pub wrap_of : Wrap → grammar_states.Wrap
wrap_of wraps.InCom = grammar_states.InCom
wrap_of wraps.Alone = grammar_states.Alone

-- the parser's state after the right term
abbrev pub behind_wrap : Wrap → ParserState
behind_wrap wraps.InCom = places.InRight rights.TargetClosed
behind_wrap wraps.Alone = places.InTail tails.Targeted

-- the target's name has been read, and no argument
pub record IsAimed (ts : Tokens) (w : Wrap) (a : Aimed) (d : Draft) : Type 0 where
  pub wrap_is : a.wrap ≡ wrap_of w
  pub aimed : KnowsAimed ts a [] d
  pub names_are : names_in d.rule.variables ≡ arrow_names a.led.left a.led.cost
  pub expression : expressions.IsFresh d.rule.expression

-- part of an argument has been read, after these other ones
pub record IsArguing (ts : Tokens) (w : Wrap) (a : Aimed) (arguments : List Sum) (e : expression.GrammarState)
    (d : Draft) : Type 0 where
  pub wrap_is : a.wrap ≡ wrap_of w
  pub aimed : KnowsAimed ts a arguments d
  pub expression : expressions.RepresentsExpression (names_with a.led arguments) e (names_in d.rule.variables)
      d.rule.expression

-- an argument has ended before the next piece
pub record IsArgued (ts : Tokens) (next : Option Piece) (w : Wrap) (a : Aimed) (arguments : List Sum)
    (e : expression.GrammarState) (s : Sum) (d : Draft) : Type 0 where
  pub wrap_is : a.wrap ≡ wrap_of w
  pub finish_is : expression_steps.finish e ≡ Some s
  pub ends : ends_expression e next ≡ true
  pub aimed : KnowsAimed ts a (s ∷ arguments) d
  pub names_are : names_in d.rule.variables ≡ names_with a.led (s ∷ arguments)
  pub expression : expressions.IsFresh d.rule.expression

-- the target has been read, and nothing of a guard
pub record IsHeaded (ts : Tokens) (h : Headed) (d : Draft) : Type 0 where
  pub headed : KnowsHeaded ts h d
  pub names_are : names_in d.rule.variables ≡ headed_names h
  pub expression : expressions.IsFresh d.rule.expression
  pub guard : (before : List Name) → IsWanting before guards.no_atoms before d.rule.guard

-- the written states that a state from the arrow to the end of the target represents
abbrev pub InRight : Tokens → Option Piece → TargetState → Draft → GrammarState → Type 0
InRight ts next rights.Arrowed d f = (l : ArrowRead) × ((f ≡ grammar_states.Arrowed l) × KnowsLeft ts l d)
InRight ts next rights.ComNamed d f = (l : ArrowRead) × ((f ≡ grammar_states.ComNamed l) × KnowsLeft ts l d)
InRight ts next rights.ComOpened d f = (l : ArrowRead) × ((f ≡ grammar_states.ComOpened l) × KnowsLeft ts l d)
InRight ts next (rights.TargetNamed w) d f = (a : Aimed) × ((f ≡ grammar_states.TargetNamed a) × IsAimed ts w a d)
InRight ts next (rights.RightOpened w) d f = (a : Aimed) × ((f ≡ grammar_states.RightOpened a) × IsAimed ts w a d)
InRight ts next (rights.Arguing w) d f = (a : Aimed) × ((arguments : List Sum) × ((e : expression.GrammarState)
    × ((f ≡ grammar_states.Arguing a arguments e) × IsArguing ts w a arguments e d)))
InRight ts next (rights.Argued w) d f = ⊥
InRight ts next rights.TargetClosed d f =
    (l : ArrowRead) × ((t : RightTerm)
    × ((f ≡ grammar_states.TargetClosed l t) × (IsHeaded ts (record { led = l; target = Marked t }) d
    × (d.rule.differs ≡ other_arity (with_right (symbols_behind l) t) t.name (length t.arguments)))))

-- part of a guard has been read; a name after `:|:` begins one if the next piece isn't an opening bracket
abbrev pub IsGuard : Option Piece → GuardOpening → Headed → GuardGrammarState → GrammarState → Type 0
IsGuard next openings.Mark h g f = (f ≡ grammar_states.MarkGuarding h g)
    ⊎ ((name : Name) × ((f ≡ grammar_states.WordRead h name)
    × ((g ≡ guard_named name) × (is_open next ≡ false))))
IsGuard next openings.Square h g f = f ≡ grammar_states.SquareGuarding h g

-- the written states that a state after the target represents, before the parts that end here have been ended
abbrev pub InTail : Tokens → Option Piece → TailState → Draft → GrammarState → Type 0
InTail ts next tails.Targeted d f = (h : Headed) × ((f ≡ grammar_states.Targeted h) × (IsHeaded ts h d
    × (d.rule.differs ≡ bare_differs h.led h.target)))
InTail ts next tails.GuardMarked d f = (h : Headed) × ((f ≡ grammar_states.GuardMarked h) × IsHeaded ts h d)
InTail ts next tails.SquareOpened d f = (h : Headed) × ((f ≡ grammar_states.SquareOpened h) × IsHeaded ts h d)
InTail ts next (tails.Guarding opening) d f =
    (h : Headed) × ((g : GuardGrammarState) × (IsGuard next opening h g f × (KnowsHeaded ts h d
    × (expressions.IsFresh d.rule.expression
    × Reads (inner_next next) (headed_names h) g (names_in d.rule.variables) d.rule.guard))))

-- the written states that a state after the target represents, after the parts that end here have been ended
abbrev pub TailPartEnded : Tokens → Option Piece → TailState → Draft → GrammarState → Type 0
TailPartEnded ts next tails.Targeted d f = InTail ts next tails.Targeted d f
TailPartEnded ts next tails.GuardMarked d f = InTail ts next tails.GuardMarked d f
TailPartEnded ts next tails.SquareOpened d f = InTail ts next tails.SquareOpened d f
TailPartEnded ts next (tails.Guarding opening) d f =
    (h : Headed) × ((g : GuardGrammarState) × (IsGuard next opening h g f × (KnowsHeaded ts h d
    × (expressions.IsFresh d.rule.expression
    × IsPartEnded (inner_next next) (headed_names h) g (names_in d.rule.variables) d.rule.guard))))

-- the written states within the braces of a cost after the parts that end here have been ended: a cost that continues,
-- or one that has ended
abbrev pub CostPartEnded : Tokens → Option Piece → CostState → Draft → GrammarState → Type 0
CostPartEnded ts next costs.Costing d f =
    (r : Ruling) × ((t : LeftTerm) × ((e : expression.GrammarState) × ((f ≡ grammar_states.Costing r t e)
    × (IsCosting ts r t e d × (ends_expression e next ≡ true → expression_steps.finish e ≡ None)))))
CostPartEnded ts next costs.Costed d f =
    (r : Ruling) × ((t : LeftTerm) × ((e : expression.GrammarState) × ((c : Sum) × ((f ≡ grammar_states.Costing r t e)
    × IsCosted ts next r t e c d))))

-- the written states in a right term after the parts that end here have been ended: an argument that continues, or one
-- that has ended
abbrev pub RightPartEnded : Tokens → Option Piece → TargetState → Draft → GrammarState → Type 0
RightPartEnded ts next (rights.Arguing w) d f =
    (a : Aimed) × ((arguments : List Sum) × ((e : expression.GrammarState) × ((f ≡ grammar_states.Arguing a arguments e)
    × (IsArguing ts w a arguments e d × (ends_expression e next ≡ true → expression_steps.finish e ≡ None)))))
RightPartEnded ts next (rights.Argued w) d f =
    (a : Aimed) × ((arguments : List Sum) × ((e : expression.GrammarState) × ((s : Sum)
    × ((f ≡ grammar_states.Arguing a arguments e) × IsArgued ts next w a arguments e s d))))
RightPartEnded ts next state d f = InRight ts next state d f

-- the code's state represents a written state, before and after parts that end here have been ended
abbrev pub RepresentsAt : Tokens → Option Piece → ParserState → Draft → GrammarState → Type 0
RepresentsAt ts next (places.InSections state) d f = InSections ts state d f
RepresentsAt ts next (places.InLeft state) d f = InLeft ts next state d f
RepresentsAt ts next (places.InCost state) d f = InCost ts state d f
RepresentsAt ts next (places.InRight state) d f = InRight ts next state d f
RepresentsAt ts next (places.InTail state) d f = InTail ts next state d f

abbrev pub PartEndedAt : Tokens → Option Piece → ParserState → Draft → GrammarState → Type 0
PartEndedAt ts next (places.InSections state) d f = InSections ts state d f
PartEndedAt ts next (places.InLeft state) d f = InLeft ts next state d f
PartEndedAt ts next (places.InCost state) d f = CostPartEnded ts next state d f
PartEndedAt ts next (places.InRight state) d f = RightPartEnded ts next state d f
PartEndedAt ts next (places.InTail state) d f = TailPartEnded ts next state d f

-- the code's state after a piece represents the written state after it, and both reject the same pieces
abbrev pub LeadsTo : Tokens → Option Piece → Option GrammarState → Option ParserState → Draft → Type 0
LeadsTo ts next None None d = ⊤
LeadsTo ts next None (Some state) d = ⊥
LeadsTo ts next (Some g) None d = ⊥
LeadsTo ts next (Some g) (Some state) d = RepresentsAt ts next state d g
