-- The contracts of the code's parts where something ends before the next piece.
use Rattle.std.specs.Prelude.{◌≡◌, ℕ, Bool, true, false, not, ◌&&◌, [], ◌∷◌, ◌++◌, map, Option, Some, None, option_map}
use Rattle.model.specs.Terms.{Term}
use Rattle.poly_terms.specs.Views.{term_of}
use Rattle.poly_terms.specs.Faults.{first_fault}
use Rattle.poly_terms.specs.Faults as polynomials
use Rattle.its_text.specs.expr_text.Pieces as inner
use Rattle.expr_reader.specs.declared.expression.Expression.{Expression}
use Rattle.expr_reader.specs.GuardParts.{can_end, goes_on}
use Rattle.expr_reader.specs.Standing.{Ends, Clears}
use Rattle.expr_reader.specs.GuardRepresentation as standing
use Rattle.its_text.specs.Pieces.{Piece}
use Rattle.its_text.specs.Kinds.{ArityDiffers}
use Rattle.its_text.specs.StateFaults.{FaultList, fault_if, expansion_faults}
use Rattle.its_reader.specs.Tests.{inner_next}
use Rattle.its_reader.specs.Faults.{maybe_kind}
use Rattle.its_reader.specs.FaultTests.{is_costing}
use Rattle.its_reader.specs.TailSteps.{StaysInGuard}
use Rattle.its_reader.specs.declared.fault.Kind.{Kind}
use Rattle.its_reader.specs.declared.parser_state.Wrap.{Wrap}
use Rattle.its_reader.specs.declared.parser_state.SourceState.{SourceState}
use Rattle.its_reader.specs.declared.parser_state.SourceState.TheVariants as lefts
use Rattle.its_reader.specs.declared.parser_state.CostState.{CostState}
use Rattle.its_reader.specs.declared.parser_state.CostState.TheVariants as costs
use Rattle.its_reader.specs.declared.parser_state.TargetState.{TargetState}
use Rattle.its_reader.specs.declared.parser_state.TargetState.TheVariants as rights
use Rattle.its_reader.specs.declared.parser_state.TailState.{TailState}
use Rattle.its_reader.specs.declared.parser_state.TailState.TheVariants as tails
use Rattle.its_reader.specs.declared.parser_state.ParserState.{ParserState}
use Rattle.its_reader.specs.declared.parser_state.ParserState.TheVariants as places
use Rattle.its_reader.specs.declared.draft.RuleDraft.{RuleDraft}

-- a term whose arguments are counted has just ended
abbrev pub closes_left : SourceState → Bool
closes_left lefts.SourceClosed = true
closes_left _ = false

abbrev pub closes_right : TargetState → Bool
closes_right rights.TargetClosed = true
closes_right _ = false

abbrev pub closes_target : TailState → Bool
closes_target tails.Targeted = true
closes_target _ = false

-- the form of the target whose argument is being read, and the opening of the guard that is being read
abbrev pub wrap_of_argument : TargetState → Option Wrap
wrap_of_argument (rights.Arguing w) = Some w
wrap_of_argument _ = None

abbrev pub is_guarding : TailState → Bool
is_guarding (tails.Guarding opening) = true
is_guarding _ = false

-- an argument or a cost ends before the next piece
abbrev pub ends_in : Expression → Option inner.Piece → Bool
ends_in e next = can_end e && not (goes_on e next)

-- no part ends, and these faults are found
pub record IsStill (state : ParserState) (found : ℕ
    → FaultList) (old : RuleDraft) (now : ParserState) (refusal : Option Kind) (new : RuleDraft) : Type 0 where
  pub now_is : now ≡ state
  pub found_is : (at : ℕ) → maybe_kind refusal at ≡ found at
  pub new_is : new ≡ old

-- the draft and the state after an argument that has ended
pub record AfterArgument (old : RuleDraft) (refusal : Option Kind) (new : RuleDraft) : Type 0 where
  pub made : Term
  pub ends : Ends old.expression made
  pub clears : Clears old.expression new.expression
  pub updates : map term_of new.updates.items ≡ map term_of old.updates.items ++ made ∷ []
  pub found_is : (at : ℕ) → maybe_kind refusal at ≡ expansion_faults at (first_fault made)
  pub name : new.name ≡ old.name
  pub left : new.left ≡ old.left
  pub source : new.source ≡ old.source
  pub variables : new.variables ≡ old.variables
  pub guard : new.guard ≡ old.guard
  pub cost : new.cost ≡ old.cost

abbrev pub ArgumentEndsPart : Bool → Wrap → RuleDraft → ParserState → Option Kind → RuleDraft → Type 0
ArgumentEndsPart true w old now refusal new = (now ≡ places.InRight (rights.Argued w)) × AfterArgument old refusal new
ArgumentEndsPart false w old now refusal new = (now ≡ places.InRight (rights.Arguing w)) × ((refusal ≡ None)
    × (new ≡ old))

pub record ArgumentIsPartEnded (w : Wrap) (old : RuleDraft) (next : Option inner.Piece) (now : ParserState)
    (refusal : Option Kind) (new : RuleDraft) : Type 0 where
  pub by : ArgumentEndsPart (ends_in old.expression next) w old now refusal new

-- the draft and the state after a cost that has ended
pub record AfterCost (old : RuleDraft) (refusal : Option Kind) (new : RuleDraft) : Type 0 where
  pub made : Term
  pub ends : Ends old.expression made
  pub clears : Clears old.expression new.expression
  pub cost : option_map term_of new.cost ≡ Some made
  pub found_is : (at : ℕ) → maybe_kind refusal at ≡ expansion_faults at (first_fault made)
  pub left : new.left ≡ old.left
  pub source : new.source ≡ old.source
  pub variables : new.variables ≡ old.variables
  pub updates : new.updates ≡ old.updates
  pub guard : new.guard ≡ old.guard

-- the parts that end within the braces of a cost
abbrev pub CostEndsPartBy : Bool → CostState → RuleDraft → ParserState → Option Kind → RuleDraft → Type 0
CostEndsPartBy true state old now refusal new = (now ≡ places.InCost costs.Costed) × AfterCost old refusal new
CostEndsPartBy false state old now refusal new = (now ≡ places.InCost state) × ((refusal ≡ None) × (new ≡ old))

pub record CostEndsPart (state : CostState) (old : RuleDraft) (next : Option Piece) (now : ParserState)
    (refusal : Option Kind) (new : RuleDraft) : Type 0 where
  pub by : CostEndsPartBy (is_costing state && ends_in old.expression (inner_next next)) state old now refusal new

-- the parts that end in a right term
abbrev pub RightEndsPartBy : Option Wrap → TargetState → RuleDraft → Option Piece → ParserState → Option Kind
    → RuleDraft
    → Type 0
RightEndsPartBy (Some w) state old next now refusal new = ArgumentEndsPart (ends_in old.expression
    (inner_next next)) w old now refusal new
RightEndsPartBy None state old next now refusal new = IsStill (places.InRight state) (λ at. fault_if
    (closes_right state && old.differs) ArityDiffers at) old now refusal new

pub record RightEndsPart (state : TargetState) (old : RuleDraft) (next : Option Piece) (now : ParserState)
    (refusal : Option Kind) (new : RuleDraft) : Type 0 where
  pub by : RightEndsPartBy (wrap_of_argument state) state old next now refusal new

-- the parts that end in a guard
pub record RepresentsGuard (state : TailState) (old : RuleDraft) (next : Option Piece) (now : ParserState)
    (refusal : Option Kind) (new : RuleDraft) : Type 0 where
  pub fault : Option polynomials.Fault
  pub now_is : now ≡ places.InTail state
  pub settles : standing.EndsPart (inner_next next) old.guard fault new.guard
  pub found_is : (at : ℕ) → maybe_kind refusal at ≡ expansion_faults at fault
  pub stays : StaysInGuard old new
  pub variables : new.variables ≡ old.variables

-- the parts that end after a target
abbrev pub TailEndsPartBy : Bool → TailState → RuleDraft → Option Piece → ParserState → Option Kind → RuleDraft → Type 0
TailEndsPartBy true state old next now refusal new = RepresentsGuard state old next now refusal new
TailEndsPartBy false state old next now refusal new = IsStill (places.InTail state) (λ at. fault_if
    (closes_target state && old.differs) ArityDiffers at) old now refusal new

pub record TailEndsPart (state : TailState) (old : RuleDraft) (next : Option Piece) (now : ParserState)
    (refusal : Option Kind) (new : RuleDraft) : Type 0 where
  pub by : TailEndsPartBy (is_guarding state) state old next now refusal new
