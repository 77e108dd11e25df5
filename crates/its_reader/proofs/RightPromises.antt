-- The contracts of the functions for each state from the arrow to the end of a target.
use Rattle.std.specs.Prelude.{◌≡◌, Bool, true, false, not, if◌then◌else◌, List, [], codes, Option, Some, None, refl}
use Rattle.std.proofs.Common.{sym, ap, subst}
use Rattle.model.specs.Programs.{Name}
use Rattle.expr_reader.proofs.Standing.{fresh_stands}
use Rattle.its_reader.specs.Places.{behind_wrap}
use Rattle.its_reader.specs.StateSteps.{AfterRight, RightLeads, Targets, TakesPiece, GoTogether, IsModestPiece}
use Rattle.its_text.specs.expr_text.TermGrammarStates.{goes_on_from}
use Rattle.expr_reader.specs.Views.{grammar_state_of}
use Rattle.expr_reader.proofs.Endings.{goes_on_is}
use Rattle.its_reader.specs.declared.parser_state.TargetState.{TargetState}
use Rattle.its_reader.proofs.LeftLaws.{leads_together}
use Rattle.its_text.specs.expr_text.Pieces as inner
use Rattle.expr_reader.specs.Variables.{names_in}
use Rattle.expr_reader.specs.Standing.{RepresentsExpression}
use Rattle.its_text.specs.expr_text.Trees.{Sum}
use Rattle.its_text.specs.expr_text.GrammarStates as expression
use Rattle.its_text.specs.expr_text.Steps as expression_steps
use Rattle.its_text.specs.expr_text.StateNames.{is_state, goes_on_with}
use Rattle.its_text.specs.StateNames.{names_with}
use Rattle.its_text.specs.StateFaults.{ends_expression}
use Rattle.its_text.specs.Steps.{argument_step}
use Rattle.its_reader.specs.Places.{IsArguing}
use Rattle.its_reader.specs.StateSteps.{Takes}
use Rattle.its_text.specs.Pieces.{Piece, In, Comma}
use Rattle.its_text.specs.GrammarStates as grammar_states
use Rattle.its_text.specs.GrammarStates.{GrammarState, Aimed}
use Rattle.its_text.specs.StateFaults.{Tokens}
use Rattle.its_text.specs.Steps.{step}
use Rattle.its_reader.specs.Tests as tests
use Rattle.its_reader.specs.Places.{RightPartEnded, LeadsTo, IsAimed}
use Rattle.its_reader.specs.declared.draft.Draft.{Draft}
use Rattle.its_reader.specs.declared.parser_state.Wrap.{Wrap}
use Rattle.its_reader.specs.declared.parser_state.Wrap.TheVariants as wraps
use Rattle.its_reader.specs.declared.parser_state.TargetState.TheVariants as rights
use Rattle.its_reader.specs.declared.parser_state.ParserState.{ParserState}
use Rattle.its_reader.specs.declared.parser_state.ParserState.TheVariants as places
use Rattle.its_reader.proofs.RightLaws.{com_named_leads, target_named_leads, bare_leads, arrowed_stops, within_leads}
use Rattle.its_reader.proofs.RightLaws.{within_stops, argument_leads, opened_right_ends, argued_ends, argued_parts}

-- a step that is right in each context satisfies the contract of its state in a right term
pub always_right : (state : TargetState) (p : Piece) (old new : Draft) (result : Option ParserState)
    → ((ts : Tokens) (next : Option Piece) (f : GrammarState) → RightPartEnded ts (Some p) state old f
    → LeadsTo ts next (step f p) result new) → RightLeads state old p result new
always_right state p old new result h = record {
  together = λ ts f k. leads_together ts None (step f p) result new (h ts None f k);
  each = λ ts next f k modest. h ts next f k;
}

-- a state between the arrow and the end of the target that is equal to a known one satisfies the known state's contract
pub in_right_state : (state known : TargetState) (old new : Draft) (p : Piece) (result : Option ParserState)
    → state ≡ known → RightLeads known old p result new → RightLeads state old p result new
in_right_state state known old new p result e h = subst (λ (q : TargetState). RightLeads q old p result new) (sym e) h

-- after `Com_1` the code steps as the written state does
pub com_named_promise : (p : Piece) (old : Draft) (result : Option ParserState) (v : Bool) → v ≡ tests.is_open_bracket p
    → result ≡ (if v then Some (places.InRight rights.ComOpened) else None)
    → RightLeads rights.ComNamed old p result old
com_named_promise p old result v e h = always_right rights.ComNamed p old old result
    (λ ts next f k. rw (h, e) (com_named_leads ts next p f old k))

-- after the target's name the code steps as the written state does
pub target_named_promise : (w : Wrap) (p : Piece) (old : Draft) (result : Option ParserState) (v : Bool)
    → v ≡ tests.is_open_bracket p → result ≡ (if v then Some (places.InRight (rights.RightOpened w)) else None)
    → RightLeads (rights.TargetNamed w) old p result old
target_named_promise w p old result v e h = always_right (rights.TargetNamed w) p old old result
    (λ ts next f k. rw (h, e) (target_named_leads ts next w p f old k))

-- after an argument that has ended, at a piece other than the closing bracket, the code steps as the written state does
pub argued_promise : (w : Wrap) (p : Piece) (old : Draft) (result : Option ParserState) (v : Bool)
    → tests.is_close_bracket p ≡ false → v ≡ tests.is_comma p
    → result ≡ (if v then Some (places.InRight (rights.Arguing w)) else None)
    → RightLeads (rights.Argued w) old p result old
argued_promise w p old result v c e h = always_right (rights.Argued w) p old old result
    (λ ts next f k. rw (h, e) (argued_parts ts next w p f old k c))

-- after the arrow, at any piece but `Com_1`, the code steps as the written state does
pub arrowed_promise : (p : Piece) (old new : Draft) (result : Option ParserState)
    → tests.is_word (codes "Com_1") p ≡ false → Targets (tests.word p) wraps.Alone result old new
    → RightLeads rights.Arrowed old p result new
arrowed_promise p old new result c t = go (tests.word p) refl t
  where
    go : (o : Option Name) → tests.word p ≡ o → Targets o wraps.Alone result old new
        → RightLeads rights.Arrowed old p result new
    go None e t = rw (t.0, t.1)
        (always_right rights.Arrowed p old old None (λ ts next f k. arrowed_stops ts next p f old k e))
    go (Some name) e t = rw t.0
        (always_right rights.Arrowed p old new _ (λ ts next f k. bare_leads ts next p f old new name k c e t.1.0 t.1.1))

-- within `Com_1` the code steps as the written state does
pub within_promise : (p : Piece) (old new : Draft) (result : Option ParserState)
    → Targets (tests.word p) wraps.InCom result old new → RightLeads rights.ComOpened old p result new
within_promise p old new result t = go (tests.word p) refl t
  where
    go : (o : Option Name) → tests.word p ≡ o → Targets o wraps.InCom result old new
        → RightLeads rights.ComOpened old p result new
    go None e t = rw (t.0, t.1)
        (always_right rights.ComOpened p old old None (λ ts next f k. within_stops ts next p f old k e))
    go (Some name) e t = rw t.0
        (always_right rights.ComOpened p old new _
        (λ ts next f k. within_leads ts next p f old new name k e t.1.0 t.1.1))

-- both accept a piece within an argument, or both reject it
argument_together : (w : Wrap) (a : Aimed) (arguments : List Sum) (e : expression.GrammarState) (p : inner.Piece)
    (old new : Draft) (result : Option ParserState)
    → (ends_expression e (Some (In p)) ≡ true → expression_steps.finish e ≡ None)
    → Takes (goes_on_with e p) (places.InRight (rights.Arguing w)) old p result new
    → GoTogether (argument_step a arguments e (expression_steps.step e p) p) result
argument_together w a arguments e p old new result stops t = go (expression_steps.step e p) refl t
  where
    go : (o : Option expression.GrammarState) → expression_steps.step e p ≡ o
        → Takes (is_state o) (places.InRight (rights.Arguing w)) old p result new
        → GoTogether (argument_step a arguments e o p) result
    go (Some more) h t = rw t.0 tt
    go None h t =
        let none : expression_steps.finish e ≡ None = stops
        (ap (λ (o : Option expression.GrammarState). not (is_state o)) h) in
        rw (none, t.0) tt

-- the code takes exactly the pieces that continue the written expression
pub takes_written : (within : ParserState) (before : List Name) (e : expression.GrammarState) (p : inner.Piece)
    (old new : Draft) (result : Option ParserState) → RepresentsExpression before e (names_in old.rule.variables)
    old.rule.expression
    → Takes (goes_on_from (grammar_state_of old.rule.expression).outer (grammar_state_of old.rule.expression).operand p)
    within old p result new → Takes (goes_on_with e p) within old p result new
takes_written within before e p old new result s t = subst (λ (v : Bool). Takes v within old p result new)
    (goes_on_is before e (names_in old.rule.variables) old.rule.expression p s) t

-- in an argument that continues, the code steps as the written state does
pub arguing_promise : (w : Wrap) (p : Piece) (old new : Draft) (result : Option ParserState)
    → TakesPiece (places.InRight (rights.Arguing w)) old p result new → RightLeads (rights.Arguing w) old p result new
arguing_promise w p old new result t = record {
  together = λ ts f k. rw k.1.1.1.0 (together p t (k.0) (k.1.0) (k.1.1.0) (k.1.1.1.1.0.expression) (k.1.1.1.1.1));
  each = λ ts next f k modest. rw k.1.1.1.0 (each ts next p t modest k.0 k.1.0 k.1.1.0 k.1.1.1.1.0 k.1.1.1.1.1);
}
  where
    together : (p : Piece) → TakesPiece (places.InRight (rights.Arguing w)) old p result new
        → (a : Aimed) (arguments : List Sum) (e : expression.GrammarState)
        → RepresentsExpression (names_with a.led arguments) e (names_in old.rule.variables) old.rule.expression
        → (ends_expression e (Some p) ≡ true → expression_steps.finish e ≡ None)
        → GoTogether (step (grammar_states.Arguing a arguments e) p) result
    together (In q) t a arguments e s stops = argument_together w a arguments e q old new result stops
        (takes_written (places.InRight (rights.Arguing w)) (names_with a.led arguments) e q old new result s t)
    together Comma t a arguments e s stops = rw (stops refl, t.0) tt
    together _ t a arguments e s stops = rw t.0 tt

    each : (ts : Tokens) (next : Option Piece) (p : Piece)
        → TakesPiece (places.InRight (rights.Arguing w)) old p result new → IsModestPiece p
        → (a : Aimed) (arguments : List Sum) (e : expression.GrammarState) → IsArguing ts w a arguments e old
        → (ends_expression e (Some p) ≡ true → expression_steps.finish e ≡ None)
        → LeadsTo ts next (step (grammar_states.Arguing a arguments e) p) result new
    each ts next (In q) t modest a arguments e k stops =
        argument_leads ts next w a arguments e q old new result k.wrap_is k.aimed k.expression stops modest
        (takes_written (places.InRight (rights.Arguing w)) (names_with a.led arguments) e q old new result
        k.expression t)
    each ts next Comma t modest a arguments e k stops = rw (stops refl, t.0) tt
    each ts next _ t modest a arguments e k stops = rw t.0 tt

-- at the beginning of an argument, no part of it has been read
pub first_stands : (ts : Tokens) (w : Wrap) (a : Aimed) (d : Draft) → IsAimed ts w a d
    → RepresentsExpression (names_with a.led []) expression.beginning (names_in d.rule.variables) d.rule.expression
first_stands ts w a d k = subst
    (λ (b : List Name). RepresentsExpression b expression.beginning (names_in d.rule.variables) d.rule.expression)
    k.names_are (fresh_stands (names_in d.rule.variables) d.rule.expression k.expression)

-- after the target's opening bracket, at a piece other than the closing bracket, the code steps as the written state
-- does
pub opened_right_promise : (w : Wrap) (p : Piece) (old new : Draft) (result : Option ParserState)
    → tests.is_close_bracket p ≡ false → TakesPiece (places.InRight (rights.Arguing w)) old p result new
    → RightLeads (rights.RightOpened w) old p result new
opened_right_promise w p old new result c t = record {
  together = λ ts f k. rw k.1.0 (together p c t k.0 (first_stands ts w k.0 old k.1.1));
  each = λ ts next f k modest. rw k.1.0 (each ts next p c t modest k.0 k.1.1);
}
  where
    together : (p : Piece) → tests.is_close_bracket p ≡ false
        → TakesPiece (places.InRight (rights.Arguing w)) old p result new → (a : Aimed)
        → RepresentsExpression (names_with a.led []) expression.beginning (names_in old.rule.variables)
        old.rule.expression → GoTogether (step (grammar_states.RightOpened a) p) result
    together (In inner.Close) c t a s = cc
    together (In q) c t a s = argument_together w a [] expression.beginning q old new result (λ h. refl)
        (takes_written (places.InRight (rights.Arguing w)) (names_with a.led []) expression.beginning q old new result s
        t)
    together _ c t a s = rw t.0 tt

    each : (ts : Tokens) (next : Option Piece) (p : Piece) → tests.is_close_bracket p ≡ false
        → TakesPiece (places.InRight (rights.Arguing w)) old p result new → IsModestPiece p → (a : Aimed)
        → IsAimed ts w a old → LeadsTo ts next (step (grammar_states.RightOpened a) p) result new
    each ts next (In inner.Close) c t modest a k = cc
    each ts next (In q) c t modest a k =
        argument_leads ts next w a [] expression.beginning q old new result k.wrap_is k.aimed
        (first_stands ts w a old k) (λ h. refl) modest
        (takes_written (places.InRight (rights.Arguing w)) (names_with a.led []) expression.beginning q old new
        result (first_stands ts w a old k) t)
    each ts next _ c t modest a k = rw t.0 tt

-- after the target's opening bracket, at the closing bracket, the code steps as the written state does
pub opened_right_closes : (w : Wrap) (p : Piece) (old new : Draft) (state : ParserState) → state ≡ behind_wrap w
    → tests.is_close_bracket p ≡ true → AfterRight old new → RightLeads (rights.RightOpened w) old p (Some state) new
opened_right_closes w p old new state e c h = rw e
    (always_right (rights.RightOpened w) p old new (Some (behind_wrap w))
    (λ ts next f k. opened_right_ends ts next w p f old new k c h))

-- after an argument that has ended, at the closing bracket, the code steps as the written state does
pub argued_closes : (w : Wrap) (p : Piece) (old new : Draft) (state : ParserState) → state ≡ behind_wrap w
    → tests.is_close_bracket p ≡ true → AfterRight old new → RightLeads (rights.Argued w) old p (Some state) new
argued_closes w p old new state e c h = rw e
    (always_right (rights.Argued w) p old new (Some (behind_wrap w))
    (λ ts next f k. argued_ends ts next w p f old new k c h))
