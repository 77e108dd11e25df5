-- Each token that is read is written last in the new state.
use Rattle.std.specs.Prelude.{◌≡◌, List, [], ◌∷◌, codes, Bool, true, false, if◌then◌else◌, Option, Some, None, ⊤, refl}
use Rattle.std.proofs.Common.{sym, ◌∙◌, ap}
use Rattle.expr_text.specs.model.Programs.{Name}
use Rattle.expr_text.specs.text_core.Names.{is_same}
use Rattle.expr_text.proofs.text_core.NameLaws.{same_equal}
use Rattle.expr_text.specs.Pieces as inner
use Rattle.expr_text.specs.Trees.{Sum, sum_behind}
use Rattle.expr_text.specs.GrammarStates as expression
use Rattle.expr_text.specs.Steps as expression_steps
use Rattle.expr_text.specs.Guards.{Atoms}
use Rattle.expr_text.specs.GuardGrammarStates as guards
use Rattle.expr_text.proofs.StepLaws.{step_adds, finish_written, Adds, IsWritten}
use Rattle.expr_text.proofs.GuardLaws.{guard_step_adds, guard_finish_written, GuardAdds, AreWritten}
use Rattle.its_text.specs.Pieces.{Piece, In, Comma, CostOpen, CostClose, GuardMark, SquareOpen, SquareClose, word}
use Rattle.its_text.specs.Pieces.{open_bracket, close_bracket}
use Rattle.its_text.specs.Written.{LeftTerm, RightTerm, NoGuard, BehindMark, Section, sums_behind, left_behind}
use Rattle.its_text.specs.Written.{pieces_behind}
use Rattle.its_text.specs.GrammarStates.{Ruling, ArrowRead, Wrap, InCom, Alone, Aimed, Headed, GrammarState, GoalNamed, GoalRead}
use Rattle.its_text.specs.GrammarStates.{StartNamed, StartListed, Listing, CommentNamed, AfterRule, Costing, Arrowed, ComNamed}
use Rattle.its_text.specs.GrammarStates.{RightOpened}
use Rattle.its_text.specs.GrammarStates.{Arguing, GuardMarked, WordRead, MarkGuarding, SquareGuarding, ruling_with}
use Rattle.its_text.specs.GrammarStates.{ruling_pieces, aimed_pieces, headed_pieces, parted_behind, pieces_read}
use Rattle.expr_text.specs.text_core.Choices.{when}
use Rattle.its_text.specs.Steps.{cost_step, cost_ended}
use Rattle.its_text.specs.Steps.{section_named, behind_target_name, behind_arrow, shut_by, behind_rule, behind_comma}
use Rattle.its_text.specs.Steps.{behind_argument, argument_step, guard_ended, mark_guard_step, square_guard_step}
use Rattle.its_text.specs.Steps.{square_ended, guard_named, behind_mark, behind_word, behind_open, step}
use Rattle.its_text.proofs.StepCases.{HoldsOfSteps}
use Rattle.its_text.proofs.EveryStep.{of_step}

-- The state after a token is written as the tokens before it and this one.
abbrev pub Leads : List Piece → Piece → Option GrammarState → Type 0
Leads written p None = ⊤
Leads written p (Some g) = pieces_read g ≡ p ∷ written

-- If a name equals a word, a state written with the word is written with the name.
when_named : (name wanted : Name) (g : GrammarState) (written : List Piece) → pieces_read g ≡ word wanted ∷ written → Leads written (word name) (when (is_same name wanted) g)
when_named name wanted g written e = go (is_same name wanted) refl
  where
    go : (v : Bool) → is_same name wanted ≡ v → Leads written (word name) (when v g)
    go true same = e ∙ ap (λ n. word n ∷ written) (sym (same_equal name wanted same))
    go false other = tt

-- A choice by a word of two states written with the name is written with it.
named_or : (name wanted : Name) (g : GrammarState) (o : Option GrammarState) (written : List Piece) → pieces_read g ≡ word wanted ∷ written → Leads written (word name) o
    → Leads written (word name) (if is_same name wanted then Some g else o)
named_or name wanted g o written e other = go (is_same name wanted) refl
  where
    go : (v : Bool) → is_same name wanted ≡ v → Leads written (word name) (if v then Some g else o)
    go true same = e ∙ ap (λ n. word n ∷ written) (sym (same_equal name wanted same))
    go false differs = other

section_named_leads : (ss : List Section) (name : Name) → Leads (open_bracket ∷ pieces_behind ss) (word name) (section_named ss name)
section_named_leads ss name =
    named_or name (codes "GOAL") (GoalNamed ss) _ (open_bracket ∷ pieces_behind ss) refl
    (named_or name (codes "STARTTERM") (StartNamed ss) _ (open_bracket ∷ pieces_behind ss) refl
    (named_or name (codes "VAR") (Listing ss []) _ (open_bracket ∷ pieces_behind ss) refl
    (named_or name (codes "RULES") (AfterRule (record { sections = ss; rules = [] })) _ (open_bracket ∷ pieces_behind ss) refl
    (named_or name (codes "COMMENT") (CommentNamed ss) _ (open_bracket ∷ pieces_behind ss) refl tt))))

behind_arrow_leads : (l : ArrowRead) (name : Name) → pieces_read (behind_arrow l name) ≡ word name ∷ pieces_read (Arrowed l)
behind_arrow_leads l name = go (is_same name (codes "Com_1")) refl
  where
    go : (v : Bool) → is_same name (codes "Com_1") ≡ v → pieces_read (if v then ComNamed l else behind_target_name l Alone name) ≡ word name ∷ pieces_read (Arrowed l)
    go true same = ap (λ n. word n ∷ pieces_read (Arrowed l)) (sym (same_equal name (codes "Com_1") same))
    go false other = refl

behind_rule_leads : (r : Ruling) (p : inner.Piece) (written : List Piece) → ruling_pieces r ≡ written → Leads written (In p) (behind_rule r p)
behind_rule_leads r (inner.Word name) written e = ap (λ before. word name ∷ before) e
behind_rule_leads r inner.Close written e = ap (λ before. close_bracket ∷ before) e
behind_rule_leads r (inner.Digits ds) written e = tt
behind_rule_leads r inner.Open written e = tt
behind_rule_leads r inner.Plus written e = tt
behind_rule_leads r inner.Minus written e = tt
behind_rule_leads r inner.Times written e = tt
behind_rule_leads r inner.Caret written e = tt
behind_rule_leads r (inner.Related sign) written e = tt
behind_rule_leads r (inner.Joining joint) written e = tt

-- The tokens of arguments with one more.
pub parted_sums : (s : Sum) (arguments : List Sum) (before : List Piece) → sums_behind (s ∷ arguments) before ≡ sum_behind In s (parted_behind arguments before)
parted_sums s [] before = refl
parted_sums s (r ∷ arguments) before = refl

closed_leads : (l : ArrowRead) (wrap : Wrap) (t : RightTerm) → pieces_read (shut_by l wrap t)
    ≡ close_bracket ∷ sums_behind t.arguments (open_bracket ∷ aimed_pieces (record { led = l; wrap = wrap; name = t.name }))
closed_leads l InCom t = refl
closed_leads l Alone t = refl

argued_leads : (a : Aimed) (arguments : List Sum) (e : expression.GrammarState) (o : Option Sum) (p : inner.Piece)
    → IsWritten In (parted_behind arguments (open_bracket ∷ aimed_pieces a)) e o → Leads (pieces_read (Arguing a arguments e)) (In p) (behind_argument a arguments o p)
argued_leads a arguments e None p w = tt
argued_leads a arguments e (Some s) inner.Close w =
    closed_leads a.led a.wrap (record { name = a.name; arguments = s ∷ arguments })
    ∙ ap (λ before. close_bracket ∷ before) (parted_sums s arguments (open_bracket ∷ aimed_pieces a) ∙ w)
argued_leads a arguments e (Some s) (inner.Word name) w = tt
argued_leads a arguments e (Some s) (inner.Digits ds) w = tt
argued_leads a arguments e (Some s) inner.Open w = tt
argued_leads a arguments e (Some s) inner.Plus w = tt
argued_leads a arguments e (Some s) inner.Minus w = tt
argued_leads a arguments e (Some s) inner.Times w = tt
argued_leads a arguments e (Some s) inner.Caret w = tt
argued_leads a arguments e (Some s) (inner.Related sign) w = tt
argued_leads a arguments e (Some s) (inner.Joining joint) w = tt

parted_leads : (a : Aimed) (arguments : List Sum) (e : expression.GrammarState) (o : Option Sum)
    → IsWritten In (parted_behind arguments (open_bracket ∷ aimed_pieces a)) e o → Leads (pieces_read (Arguing a arguments e)) Comma (behind_comma a arguments o)
parted_leads a arguments e None w = tt
parted_leads a arguments e (Some s) w = ap (λ before. Comma ∷ before) (parted_sums s arguments (open_bracket ∷ aimed_pieces a) ∙ w)

arguing_leads : (a : Aimed) (arguments : List Sum) (e : expression.GrammarState) (o : Option expression.GrammarState) (p : inner.Piece)
    → Adds In (parted_behind arguments (open_bracket ∷ aimed_pieces a)) e p o → Leads (pieces_read (Arguing a arguments e)) (In p) (argument_step a arguments e o p)
arguing_leads a arguments e (Some more) p w = w
arguing_leads a arguments e None p w = argued_leads a arguments e (expression_steps.finish e) p (finish_written In e (parted_behind arguments (open_bracket ∷ aimed_pieces a)))

-- a piece of a cost is written after the pieces before it
costing_leads : (r : Ruling) (t : LeftTerm) (e : expression.GrammarState) (o : Option expression.GrammarState) (p : inner.Piece)
    → Adds In (CostOpen ∷ left_behind t (ruling_pieces r)) e p o → Leads (pieces_read (Costing r t e)) (In p) (cost_step r t o)
costing_leads r t e None p w = tt
costing_leads r t e (Some more) p w = w

cost_ended_leads : (r : Ruling) (t : LeftTerm) (e : expression.GrammarState) (o : Option Sum)
    → IsWritten In (CostOpen ∷ left_behind t (ruling_pieces r)) e o → Leads (pieces_read (Costing r t e)) CostClose (cost_ended r t o)
cost_ended_leads r t e None w = tt
cost_ended_leads r t e (Some c) w = ap (λ before. CostClose ∷ before) w

guard_ended_leads : (h : Headed) (g : guards.GuardGrammarState) (o : Option Atoms) (p : inner.Piece)
    → AreWritten In (GuardMark ∷ headed_pieces h) g o → Leads (pieces_read (MarkGuarding h g)) (In p) (guard_ended h o p)
guard_ended_leads h g None p w = tt
guard_ended_leads h g (Some atoms) p w = behind_rule_leads (ruling_with h (BehindMark (Some atoms))) p _ w

guarding_leads : (h : Headed) (g : guards.GuardGrammarState) (o : Option guards.GuardGrammarState) (p : inner.Piece)
    → GuardAdds In (GuardMark ∷ headed_pieces h) g p o → Leads (pieces_read (MarkGuarding h g)) (In p) (mark_guard_step h g o p)
guarding_leads h g (Some more) p w = w
guarding_leads h g None p w = guard_ended_leads h g (guards.finish g) p (guard_finish_written In g (GuardMark ∷ headed_pieces h))

squared_leads : (h : Headed) (g : guards.GuardGrammarState) (o : Option guards.GuardGrammarState) (p : inner.Piece)
    → GuardAdds In (SquareOpen ∷ headed_pieces h) g p o → Leads (pieces_read (SquareGuarding h g)) (In p) (square_guard_step h o)
squared_leads h g None p w = tt
squared_leads h g (Some more) p w = w

square_ended_leads : (h : Headed) (g : guards.GuardGrammarState) (o : Option Atoms)
    → AreWritten In (SquareOpen ∷ headed_pieces h) g o → Leads (pieces_read (SquareGuarding h g)) SquareClose (square_ended h o)
square_ended_leads h g None w = tt
square_ended_leads h g (Some atoms) w = ap (λ before. SquareClose ∷ before) w

guarding_step_leads : (h : Headed) (g : guards.GuardGrammarState) (p : inner.Piece) → Leads (pieces_read (MarkGuarding h g)) (In p) (mark_guard_step h g (guards.step g p) p)
guarding_step_leads h g p = guarding_leads h g (guards.step g p) p (guard_step_adds In g p (GuardMark ∷ headed_pieces h))

behind_mark_leads : (h : Headed) (p : inner.Piece) → Leads (pieces_read (GuardMarked h)) (In p) (behind_mark h p)
behind_mark_leads h (inner.Word name) = refl
behind_mark_leads h inner.Close = refl
behind_mark_leads h (inner.Digits ds) = guarding_step_leads h guards.no_atoms (inner.Digits ds)
behind_mark_leads h inner.Open = guarding_step_leads h guards.no_atoms inner.Open
behind_mark_leads h inner.Plus = guarding_step_leads h guards.no_atoms inner.Plus
behind_mark_leads h inner.Minus = guarding_step_leads h guards.no_atoms inner.Minus
behind_mark_leads h inner.Times = guarding_step_leads h guards.no_atoms inner.Times
behind_mark_leads h inner.Caret = guarding_step_leads h guards.no_atoms inner.Caret
behind_mark_leads h (inner.Related sign) = guarding_step_leads h guards.no_atoms (inner.Related sign)
behind_mark_leads h (inner.Joining joint) = guarding_step_leads h guards.no_atoms (inner.Joining joint)

behind_word_leads : (h : Headed) (name : Name) (p : inner.Piece) → Leads (pieces_read (WordRead h name)) (In p) (behind_word h name p)
behind_word_leads h name inner.Open = refl
behind_word_leads h name (inner.Word other) = guarding_step_leads h (guard_named name) (inner.Word other)
behind_word_leads h name inner.Close = guarding_step_leads h (guard_named name) inner.Close
behind_word_leads h name (inner.Digits ds) = guarding_step_leads h (guard_named name) (inner.Digits ds)
behind_word_leads h name inner.Plus = guarding_step_leads h (guard_named name) inner.Plus
behind_word_leads h name inner.Minus = guarding_step_leads h (guard_named name) inner.Minus
behind_word_leads h name inner.Times = guarding_step_leads h (guard_named name) inner.Times
behind_word_leads h name inner.Caret = guarding_step_leads h (guard_named name) inner.Caret
behind_word_leads h name (inner.Related sign) = guarding_step_leads h (guard_named name) (inner.Related sign)
behind_word_leads h name (inner.Joining joint) = guarding_step_leads h (guard_named name) (inner.Joining joint)

arguing_step_leads : (a : Aimed) (arguments : List Sum) (e : expression.GrammarState) (p : inner.Piece) → Leads (pieces_read (Arguing a arguments e)) (In p) (argument_step a arguments e (expression_steps.step e p) p)
arguing_step_leads a arguments e p = arguing_leads a arguments e (expression_steps.step e p) p (step_adds In e p (parted_behind arguments (open_bracket ∷ aimed_pieces a)))

behind_open_leads : (a : Aimed) (p : inner.Piece) → Leads (pieces_read (RightOpened a)) (In p) (behind_open a p)
behind_open_leads a inner.Close = closed_leads a.led a.wrap (record { name = a.name; arguments = [] })
behind_open_leads a inner.Open = arguing_step_leads a [] expression.beginning inner.Open
behind_open_leads a (inner.Word other) = arguing_step_leads a [] expression.beginning (inner.Word other)
behind_open_leads a (inner.Digits ds) = arguing_step_leads a [] expression.beginning (inner.Digits ds)
behind_open_leads a inner.Plus = arguing_step_leads a [] expression.beginning inner.Plus
behind_open_leads a inner.Minus = arguing_step_leads a [] expression.beginning inner.Minus
behind_open_leads a inner.Times = arguing_step_leads a [] expression.beginning inner.Times
behind_open_leads a inner.Caret = arguing_step_leads a [] expression.beginning inner.Caret
behind_open_leads a (inner.Related sign) = arguing_step_leads a [] expression.beginning (inner.Related sign)
behind_open_leads a (inner.Joining joint) = arguing_step_leads a [] expression.beginning (inner.Joining joint)

-- a piece is written after those read before
abbrev LeadsOn : GrammarState → Piece → Option GrammarState → Type 0
LeadsOn f p o = Leads (pieces_read f) p o

-- each accepting step writes its piece after those read before
leads_each : HoldsOfSteps LeadsOn
leads_each = record {
  nowhere = λ f p. tt;
  between_open = λ ss. refl;
  opened_word = λ ss name. section_named_leads ss name;
  goal_named_word = λ ss name. when_named name (codes "COMPLEXITY") (GoalRead ss) _ refl;
  goal_said_close = λ ss. refl;
  start_named_open = λ ss. refl;
  start_opened_word = λ ss name. when_named name (codes "FUNCTIONSYMBOLS") (StartListed ss) _ refl;
  start_listed_word = λ ss name. refl;
  start_said_close = λ ss start. refl;
  start_closed_close = λ ss start. refl;
  listing_word = λ ss names name. refl;
  listing_close = λ ss names. refl;
  comment_named_remark = λ ss bytes. refl;
  ruled_piece = λ r p. behind_rule_leads r p _ refl;
  source_named_open = λ r source. refl;
  left_opened_word = λ r source name. refl;
  left_opened_close = λ r source. refl;
  left_read_comma = λ r source a earlier. refl;
  left_read_close = λ r source a earlier. refl;
  left_parted_word = λ r source a earlier name. refl;
  left_closed_arrow = λ r t. refl;
  left_closed_cost = λ r t. refl;
  costing_piece = λ r t e p. costing_leads r t e (expression_steps.step e p) p (step_adds In e p (CostOpen ∷ left_behind t (ruling_pieces r)));
  costing_close = λ r t e. cost_ended_leads r t e (expression_steps.finish e) (finish_written In e (CostOpen ∷ left_behind t (ruling_pieces r)));
  arrowed_word = λ l name. behind_arrow_leads l name;
  com_named_open = λ l. refl;
  com_opened_word = λ l name. refl;
  target_named_open = λ a. refl;
  right_opened_piece = λ a p. behind_open_leads a p;
  in_argument_piece = λ a arguments e p. arguing_step_leads a arguments e p;
  in_argument_comma = λ a arguments e. parted_leads a arguments e (expression_steps.finish e) (finish_written In e (parted_behind arguments (open_bracket ∷ aimed_pieces a)));
  right_closed_close = λ l t. refl;
  targeted_piece = λ h p. behind_rule_leads (ruling_with h NoGuard) p _ refl;
  targeted_mark = λ h. refl;
  targeted_square = λ h. refl;
  guard_marked_piece = λ h p. behind_mark_leads h p;
  word_read_piece = λ h name p. behind_word_leads h name p;
  mark_guarding_piece = λ h g p. guarding_step_leads h g p;
  square_opened_piece = λ h p. squared_leads h guards.no_atoms (guards.step guards.no_atoms p) p (guard_step_adds In guards.no_atoms p (SquareOpen ∷ headed_pieces h));
  square_opened_square_close = λ h. refl;
  square_guarding_piece = λ h g p. squared_leads h g (guards.step g p) p (guard_step_adds In g p (SquareOpen ∷ headed_pieces h));
  square_guarding_square_close = λ h g. square_ended_leads h g (guards.finish g) (guard_finish_written In g (SquareOpen ∷ headed_pieces h));
}

-- each piece is written after those read before
pub step_leads : (f : GrammarState) (p : Piece) → Leads (pieces_read f) p (step f p)
step_leads f p = of_step LeadsOn leads_each f p
