-- Each written program can be read: its tokens lead from state to state.
use Rattle.std.specs.Prelude.{◌≡◌, List, [], ◌∷◌, codes, if◌then◌else◌, Option, Some, None, ◌⊎◌, refl, IsFalse}
use Rattle.std.proofs.Common.{sym, ◌∙◌, ap, subst, inl, inr}
use Rattle.expr_text.specs.model.Programs.{Name}
use Rattle.expr_text.specs.text_core.Names.{is_same}
use Rattle.expr_text.specs.text_core.Readers.{next, walk}
use Rattle.expr_text.proofs.text_core.Walks.{walk-onto}
use Rattle.expr_text.specs.Pieces as inner
use Rattle.expr_text.specs.Trees.{Sum, sum_behind}
use Rattle.expr_text.specs.GrammarStates as expression
use Rattle.expr_text.specs.Steps as expression_steps
use Rattle.expr_text.specs.Guards.{Atoms, atoms_behind}
use Rattle.expr_text.specs.GuardGrammarStates as guards
use Rattle.expr_text.proofs.Ending.{word_ends_guard, close_ends_guard}
use Rattle.expr_text.proofs.Reading.{behind_sum, sum_finish, expression_is_read}
use Rattle.expr_text.proofs.GuardReading.{behind_atoms, atoms_finish, guard_is_read}
use Rattle.its_text.specs.Pieces.{Piece, In, Comma, Arrow, CostOpen, CostClose, GuardMark, SquareOpen, SquareClose}
use Rattle.its_text.specs.Pieces.{Remark, word, open_bracket, close_bracket}
use Rattle.its_text.specs.Written.{LeftTerm, Target, Marked, Bare, Guard, NoGuard, BehindMark, InSquares, WrittenRule}
use Rattle.its_text.specs.Written.{Section, Goal, Start, Variables, Rules, Comment, names_behind, sums_behind}
use Rattle.its_text.specs.Written.{left_behind, right_behind, arrow_behind, target_behind, guard_behind, rules_behind}
use Rattle.its_text.specs.Written.{words_behind, section_behind, pieces_behind}
use Rattle.its_text.specs.GrammarStates.{Ruling, ArrowRead, InCom, Alone, Aimed, Headed, GrammarState, Between, Opened, Listing, AfterRule}
use Rattle.its_text.specs.GrammarStates.{SourceNamed, LeftOpened, LeftRead, SourceClosed, Costing, Arrowed, ComNamed, ComOpened}
use Rattle.its_text.specs.GrammarStates.{RightOpened, Arguing, TargetClosed, Targeted, GuardMarked, WordRead, MarkGuarding}
use Rattle.its_text.specs.GrammarStates.{SquareOpened, SquareGuarding, ruling_with, section_of}
use Rattle.its_text.specs.Steps.{behind_target_name, behind_comma, argument_step, guard_ended, mark_guard_step}
use Rattle.its_text.specs.Steps.{guard_named, square_guard_step, square_ended, right_closed, behind_arrow, step}
use Rattle.its_text.specs.Steps.{left_closed, behind_left, cost_ended, beginning, finish}
use Rattle.its_text.specs.Grammar.{IsTarget, HaveTargets, IsSection, AreSections, Writes, programs}
use Rattle.its_text.proofs.Completing.{At, onward, costing_steps, argument_closes}

-- an optional value is this one, if there is one
abbrev pub Is : {X : Type 0} → X → Option X → Type 0
Is x None = ⊥
Is x (Some y) = x ≡ y

-- `None` isn't `Some`.
pub none_is_some : {X : Type 0} {x : X} → None ≡ Some x → ⊥
none_is_some {x = x} e = subst (λ o. Is x o) (sym e) refl

-- equal optional values have equal contents
pub some_is : {X : Type 0} {x y : X} → Some x ≡ Some y → x ≡ y
some_is {x = x} e = subst (λ o. Is x o) e refl

-- A rule's left term with its arrow, and its head, with the sections and rules before.
abbrev pub arrow_at : List Section → List WrittenRule → WrittenRule → ArrowRead
arrow_at ss rules r = record { ruling = record { sections = ss; rules = rules }; left = r.left; cost = r.cost }

abbrev pub headed_at : List Section → List WrittenRule → WrittenRule → Headed
headed_at ss rules r = record { led = arrow_at ss rules r; target = r.target }

-- The left arguments are read.
names_read : (r : Ruling) (name a : Name) (earlier : List Name) (done : List Piece) → At done (LeftOpened r name) → At (names_behind (a ∷ earlier) done) (LeftRead r name a earlier)
names_read r name a [] done at = onward done (LeftOpened r name) (LeftRead r name a []) (word a) at refl
names_read r name a (b ∷ earlier) done at =
    onward (Comma ∷ names_behind (b ∷ earlier) done) _ (LeftRead r name a (b ∷ earlier)) (word a)
    (onward (names_behind (b ∷ earlier) done) (LeftRead r name b earlier) _ Comma (names_read r name b earlier done at) refl) refl

left_read : (r : Ruling) (name : Name) (arguments : List Name) (done : List Piece) → At done (LeftOpened r name)
    → At (close_bracket ∷ names_behind arguments done) (left_closed r name arguments)
left_read r name [] done at = onward done (LeftOpened r name) _ close_bracket at refl
left_read r name (a ∷ earlier) done at = onward (names_behind (a ∷ earlier) done) (LeftRead r name a earlier) _ close_bracket (names_read r name a earlier done at) refl

-- An arrow, with or without a cost, is read.
arrow_read : (r : Ruling) (t : LeftTerm) (cost : Option Sum) (done : List Piece) → At done (SourceClosed r t)
    → At (arrow_behind cost done) (behind_left r t cost)
arrow_read r t None done at = onward done (SourceClosed r t) (behind_left r t None) Arrow at refl
arrow_read r t (Some c) done at =
    onward (sum_behind In c (CostOpen ∷ done)) (Costing r t (behind_sum [] c)) (behind_left r t (Some c)) CostClose
    (expression_is_read In (λ behind e. At behind (Costing r t e)) (costing_steps r t) c (CostOpen ∷ done)
    (onward done (SourceClosed r t) (Costing r t expression.beginning) CostOpen at refl))
    (ap (λ o. cost_ended r t o) (sum_finish c))

-- an argument must follow or has begun: after the bracket, or after a comma
abbrev pub Argues : Aimed → List Sum → List Piece → expression.GrammarState → Type 0
Argues a arguments done e = (At done (Arguing a arguments e)) ⊎ ((At done (RightOpened a)) × (arguments ≡ []) × (e ≡ expression.beginning))

opened_step : (a : Aimed) (p : inner.Piece) (f : expression.GrammarState) → expression_steps.step expression.beginning p ≡ Some f → step (RightOpened a) (In p) ≡ Some (Arguing a [] f)
opened_step a (inner.Word name) f same = ap (λ o. argument_step a [] expression.beginning o (inner.Word name)) same
opened_step a (inner.Digits ds) f same = ap (λ o. argument_step a [] expression.beginning o (inner.Digits ds)) same
opened_step a inner.Open f same = ap (λ o. argument_step a [] expression.beginning o inner.Open) same
opened_step a inner.Close f same = absurd (none_is_some same)
opened_step a inner.Plus f same = ap (λ o. argument_step a [] expression.beginning o inner.Plus) same
opened_step a inner.Minus f same = ap (λ o. argument_step a [] expression.beginning o inner.Minus) same
opened_step a inner.Times f same = ap (λ o. argument_step a [] expression.beginning o inner.Times) same
opened_step a inner.Caret f same = ap (λ o. argument_step a [] expression.beginning o inner.Caret) same
opened_step a (inner.Related sign) f same =
    ap (λ o. argument_step a [] expression.beginning o (inner.Related sign)) same
opened_step a (inner.Joining joint) f same =
    ap (λ o. argument_step a [] expression.beginning o (inner.Joining joint)) same

argues_step : (a : Aimed) (arguments : List Sum) (done : List Piece) (e f : expression.GrammarState) (p : inner.Piece)
    → Argues a arguments done e → expression_steps.step e p ≡ Some f → Argues a arguments (In p ∷ done) f
argues_step a arguments done e f p (inl at) same = inl (onward done (Arguing a arguments e) (Arguing a arguments f) (In p) at (ap (λ o. argument_step a arguments e o p) same))
argues_step a arguments done e f p (inr at) same =
    inl (onward done (RightOpened a) (Arguing a arguments f) (In p) at.0
    (opened_step a p f (subst (λ g. expression_steps.step g p ≡ Some f) at.2 same) ∙ ap (λ sums. Some (Arguing a sums f)) (sym at.1)))

-- an argument is read
argument_read : (a : Aimed) (arguments : List Sum) (s : Sum) (done : List Piece) → Argues a arguments done expression.beginning
    → Argues a arguments (sum_behind In s done) (behind_sum [] s)
argument_read a arguments s done at = expression_is_read In (Argues a arguments) (argues_step a arguments) s done at

-- in a state where an argument can end, the argument has begun
argued_at : (a : Aimed) (arguments : List Sum) (done : List Piece) (e : expression.GrammarState) (s : Sum) → expression_steps.finish e ≡ Some s → Argues a arguments done e → At done (Arguing a arguments e)
argued_at a arguments done e s same (inl at) = at
argued_at a arguments done e s same (inr at) = absurd (none_is_some (subst (λ g. expression_steps.finish g ≡ Some s) at.2 same))

sums_read : (a : Aimed) (s : Sum) (arguments : List Sum) (done : List Piece) → At done (RightOpened a) → At (sums_behind (s ∷ arguments) done) (Arguing a arguments (behind_sum [] s))
sums_read a s [] done at = argued_at a [] (sum_behind In s done) (behind_sum [] s) s (sum_finish s) (argument_read a [] s done (inr (at, refl, refl)))
sums_read a s (r ∷ arguments) done at =
    argued_at a (r ∷ arguments) (sum_behind In s (Comma ∷ sums_behind (r ∷ arguments) done)) (behind_sum [] s) s (sum_finish s)
    (argument_read a (r ∷ arguments) s (Comma ∷ sums_behind (r ∷ arguments) done)
    (inl (onward (sums_behind (r ∷ arguments) done) (Arguing a arguments (behind_sum [] r)) (Arguing a (r ∷ arguments) expression.beginning) Comma
    (sums_read a r arguments done at) (ap (λ o. behind_comma a arguments o) (sum_finish r)))))

right_read : (a : Aimed) (arguments : List Sum) (done : List Piece) → At done (RightOpened a) → At (close_bracket ∷ sums_behind arguments done) (right_closed a arguments)
right_read a [] done at = onward done (RightOpened a) (right_closed a []) close_bracket at refl
right_read a (s ∷ arguments) done at =
    onward (sums_behind (s ∷ arguments) done) (Arguing a arguments (behind_sum [] s)) (right_closed a (s ∷ arguments)) close_bracket (sums_read a s arguments done at) (argument_closes a arguments (behind_sum [] s) s (sum_finish s))

-- A target's name other than `Com_1` leads to the state after that name.
bare_name : (l : ArrowRead) (name : Name) → IsFalse (is_same name (codes "Com_1")) → behind_arrow l name ≡ behind_target_name l Alone name
bare_name l name other = ap (λ v. if v then ComNamed l else behind_target_name l Alone name) other

target_read : (l : ArrowRead) (t : Target) (done : List Piece) → IsTarget t → At done (Arrowed l) → At (target_behind t done) (Targeted (record { led = l; target = t }))
target_read l (Marked t) done is at =
    onward (right_behind t (open_bracket ∷ word (codes "Com_1") ∷ done)) (TargetClosed l t) _ close_bracket
    (right_read (record { led = l; wrap = InCom; name = t.name }) t.arguments (open_bracket ∷ word t.name ∷ open_bracket ∷ word (codes "Com_1") ∷ done)
    (onward (word t.name ∷ open_bracket ∷ word (codes "Com_1") ∷ done) (behind_target_name l InCom t.name) _ open_bracket
    (onward (open_bracket ∷ word (codes "Com_1") ∷ done) (ComOpened l) (behind_target_name l InCom t.name) (word t.name)
    (onward (word (codes "Com_1") ∷ done) (ComNamed l) (ComOpened l) open_bracket (onward done (Arrowed l) (ComNamed l) (word (codes "Com_1")) at refl) refl) refl) refl))
    refl
target_read l (Bare t) done is at =
    right_read (record { led = l; wrap = Alone; name = t.name }) t.arguments (open_bracket ∷ word t.name ∷ done)
    (onward (word t.name ∷ done) (behind_target_name l Alone t.name) _ open_bracket
    (onward done (Arrowed l) (behind_target_name l Alone t.name) (word t.name) at (ap (λ f. Some f) (bare_name l t.name is))) refl)

-- the state within a guard after `:|:`, or just before it
abbrev pub Marks : Headed → List Piece → guards.GuardGrammarState → Type 0
Marks h done g = (At done (MarkGuarding h g)) ⊎ (((At done (GuardMarked h)) × (g ≡ guards.no_atoms)) ⊎ ((name : Name) × (At done (WordRead h name)) × (g ≡ guard_named name)))

marked_step : (h : Headed) (done : List Piece) (p : inner.Piece) (k : guards.GuardGrammarState) → At done (GuardMarked h) → guards.step guards.no_atoms p ≡ Some k → Marks h (In p ∷ done) k
marked_step h done (inner.Word name) k at same = inr (inr (name, onward done (GuardMarked h) (WordRead h name) (word name) at refl, sym (some_is same)))
marked_step h done inner.Close k at same = absurd (none_is_some same)
marked_step h done (inner.Digits ds) k at same = inl (onward done (GuardMarked h) (MarkGuarding h k) (In (inner.Digits ds)) at (ap (λ o. mark_guard_step h guards.no_atoms o (inner.Digits ds)) same))
marked_step h done inner.Open k at same = inl (onward done (GuardMarked h) (MarkGuarding h k) (In inner.Open) at (ap (λ o. mark_guard_step h guards.no_atoms o inner.Open) same))
marked_step h done inner.Plus k at same = inl (onward done (GuardMarked h) (MarkGuarding h k) (In inner.Plus) at (ap (λ o. mark_guard_step h guards.no_atoms o inner.Plus) same))
marked_step h done inner.Minus k at same = inl (onward done (GuardMarked h) (MarkGuarding h k) (In inner.Minus) at (ap (λ o. mark_guard_step h guards.no_atoms o inner.Minus) same))
marked_step h done inner.Times k at same = inl (onward done (GuardMarked h) (MarkGuarding h k) (In inner.Times) at (ap (λ o. mark_guard_step h guards.no_atoms o inner.Times) same))
marked_step h done inner.Caret k at same = inl (onward done (GuardMarked h) (MarkGuarding h k) (In inner.Caret) at (ap (λ o. mark_guard_step h guards.no_atoms o inner.Caret) same))
marked_step h done (inner.Related sign) k at same = inl (onward done (GuardMarked h) (MarkGuarding h k) (In (inner.Related sign)) at (ap (λ o. mark_guard_step h guards.no_atoms o (inner.Related sign)) same))
marked_step h done (inner.Joining joint) k at same = inl (onward done (GuardMarked h) (MarkGuarding h k) (In (inner.Joining joint)) at (ap (λ o. mark_guard_step h guards.no_atoms o (inner.Joining joint)) same))

word_step : (h : Headed) (name : Name) (done : List Piece) (p : inner.Piece) (k : guards.GuardGrammarState) → At done (WordRead h name) → guards.step (guard_named name) p ≡ Some k → Marks h (In p ∷ done) k
word_step h name done inner.Open k at same = absurd (none_is_some same)
word_step h name done (inner.Word other) k at same = inl (onward done (WordRead h name) (MarkGuarding h k) (In (inner.Word other)) at (ap (λ o. mark_guard_step h (guard_named name) o (inner.Word other)) same))
word_step h name done inner.Close k at same = inl (onward done (WordRead h name) (MarkGuarding h k) (In inner.Close) at (ap (λ o. mark_guard_step h (guard_named name) o inner.Close) same))
word_step h name done (inner.Digits ds) k at same = inl (onward done (WordRead h name) (MarkGuarding h k) (In (inner.Digits ds)) at (ap (λ o. mark_guard_step h (guard_named name) o (inner.Digits ds)) same))
word_step h name done inner.Plus k at same = inl (onward done (WordRead h name) (MarkGuarding h k) (In inner.Plus) at (ap (λ o. mark_guard_step h (guard_named name) o inner.Plus) same))
word_step h name done inner.Minus k at same = inl (onward done (WordRead h name) (MarkGuarding h k) (In inner.Minus) at (ap (λ o. mark_guard_step h (guard_named name) o inner.Minus) same))
word_step h name done inner.Times k at same = inl (onward done (WordRead h name) (MarkGuarding h k) (In inner.Times) at (ap (λ o. mark_guard_step h (guard_named name) o inner.Times) same))
word_step h name done inner.Caret k at same = inl (onward done (WordRead h name) (MarkGuarding h k) (In inner.Caret) at (ap (λ o. mark_guard_step h (guard_named name) o inner.Caret) same))
word_step h name done (inner.Related sign) k at same = inl (onward done (WordRead h name) (MarkGuarding h k) (In (inner.Related sign)) at (ap (λ o. mark_guard_step h (guard_named name) o (inner.Related sign)) same))
word_step h name done (inner.Joining joint) k at same = inl (onward done (WordRead h name) (MarkGuarding h k) (In (inner.Joining joint)) at (ap (λ o. mark_guard_step h (guard_named name) o (inner.Joining joint)) same))

marks_step : (h : Headed) (done : List Piece) (g k : guards.GuardGrammarState) (p : inner.Piece) → Marks h done g → guards.step g p ≡ Some k → Marks h (In p ∷ done) k
marks_step h done g k p (inl at) same = inl (onward done (MarkGuarding h g) (MarkGuarding h k) (In p) at (ap (λ o. mark_guard_step h g o p) same))
marks_step h done g k p (inr (inl at)) same = marked_step h done p k at.0 (subst (λ j. guards.step j p ≡ Some k) at.1 same)
marks_step h done g k p (inr (inr at)) same = word_step h at.0 done p k at.1 (subst (λ j. guards.step j p ≡ Some k) at.2 same)

-- A guard that can end is followed by a name or the end of the section.
mark_ends : (h : Headed) (g : guards.GuardGrammarState) (atoms : Atoms) (p : inner.Piece) (f : GrammarState) (done : List Piece) → guards.finish g ≡ Some atoms → guards.step g p ≡ None
    → guard_ended h (Some atoms) p ≡ Some f → ((name : Name) → step (WordRead h name) (In p) ≡ mark_guard_step h (guard_named name) (guards.step (guard_named name) p) p) → Marks h done g → At (In p ∷ done) f
mark_ends h g atoms p f done ends stops same word_goes (inl at) =
    onward done (MarkGuarding h g) f (In p) at (ap (λ o. mark_guard_step h g o p) stops ∙ (ap (λ o. guard_ended h o p) ends ∙ same))
mark_ends h g atoms p f done ends stops same word_goes (inr (inl at)) = absurd (none_is_some (subst (λ k. guards.finish k ≡ Some atoms) at.1 ends))
mark_ends h g atoms p f done ends stops same word_goes (inr (inr at)) =
    onward done (WordRead h at.0) f (In p) at.1
    (word_goes at.0 ∙ (ap (λ o. mark_guard_step h (guard_named at.0) o p) (subst (λ k. guards.step k p ≡ None) at.2 stops)
    ∙ (ap (λ o. guard_ended h o p) (subst (λ k. guards.finish k ≡ Some atoms) at.2 ends) ∙ same)))

-- pieces lead to the state after a rule, by its guard, and after rules
abbrev pub Behind : Headed → Guard → List Piece → Type 0
Behind h NoGuard done = At done (Targeted h)
Behind h (BehindMark None) done = At done (GuardMarked h)
Behind h (BehindMark (Some atoms)) done = Marks h done (behind_atoms atoms)
Behind h (InSquares atoms) done = At done (AfterRule (ruling_with h (InSquares atoms)))

abbrev pub BehindRules : List Section → List WrittenRule → List Piece → Type 0
BehindRules ss [] done = At done (AfterRule (record { sections = ss; rules = [] }))
BehindRules ss (r ∷ rules) done = Behind (headed_at ss rules r) r.guard done

-- the next rule can begin after a rule
opens_behind : (h : Headed) (guard : Guard) (name : Name) (done : List Piece) → Behind h guard done
    → At (open_bracket ∷ word name ∷ done) (LeftOpened (ruling_with h guard) name)
opens_behind h NoGuard name done at =
    onward (word name ∷ done) (SourceNamed (ruling_with h NoGuard) name) _ open_bracket (onward done (Targeted h) (SourceNamed (ruling_with h NoGuard) name) (word name) at refl) refl
opens_behind h (BehindMark None) name done at =
    onward (word name ∷ done) (WordRead h name) _ open_bracket (onward done (GuardMarked h) (WordRead h name) (word name) at refl) refl
opens_behind h (BehindMark (Some atoms)) name done at =
    onward (word name ∷ done) (SourceNamed (ruling_with h (BehindMark (Some atoms))) name) _ open_bracket
    (mark_ends h (behind_atoms atoms) atoms (inner.Word name) (SourceNamed (ruling_with h (BehindMark (Some atoms))) name) done (atoms_finish atoms)
    (word_ends_guard (behind_atoms atoms) atoms name (atoms_finish atoms)) refl (λ other. refl) at)
    refl
opens_behind h (InSquares atoms) name done at =
    onward (word name ∷ done) (SourceNamed (ruling_with h (InSquares atoms)) name) _ open_bracket (onward done (AfterRule (ruling_with h (InSquares atoms))) (SourceNamed (ruling_with h (InSquares atoms)) name) (word name) at refl) refl

-- after a rule the section can end
closes_behind : (h : Headed) (guard : Guard) (done : List Piece) → Behind h guard done → At (close_bracket ∷ done) (Between (section_of (ruling_with h guard)))
closes_behind h NoGuard done at = onward done (Targeted h) _ close_bracket at refl
closes_behind h (BehindMark None) done at = onward done (GuardMarked h) _ close_bracket at refl
closes_behind h (BehindMark (Some atoms)) done at =
    mark_ends h (behind_atoms atoms) atoms inner.Close (Between (section_of (ruling_with h (BehindMark (Some atoms))))) done (atoms_finish atoms)
    (close_ends_guard (behind_atoms atoms) atoms (atoms_finish atoms)) refl (λ other. refl) at
closes_behind h (InSquares atoms) done at = onward done (AfterRule (ruling_with h (InSquares atoms))) _ close_bracket at refl

rule_opens : (ss : List Section) (rules : List WrittenRule) (name : Name) (done : List Piece) → BehindRules ss rules done
    → At (open_bracket ∷ word name ∷ done) (LeftOpened (record { sections = ss; rules = rules }) name)
rule_opens ss [] name done at =
    onward (word name ∷ done) (SourceNamed (record { sections = ss; rules = [] }) name) _ open_bracket (onward done (AfterRule (record { sections = ss; rules = [] })) _ (word name) at refl) refl
rule_opens ss (r ∷ rules) name done at = opens_behind (headed_at ss rules r) r.guard name done at

rules_close : (ss : List Section) (rules : List WrittenRule) (done : List Piece) → BehindRules ss rules done → At (close_bracket ∷ done) (Between (Rules rules ∷ ss))
rules_close ss [] done at = onward done (AfterRule (record { sections = ss; rules = [] })) _ close_bracket at refl
rules_close ss (r ∷ rules) done at = closes_behind (headed_at ss rules r) r.guard done at

-- the state within a guard in square brackets, or just before it
abbrev pub Squares : Headed → List Piece → guards.GuardGrammarState → Type 0
Squares h done g = (At done (SquareGuarding h g)) ⊎ ((At done (SquareOpened h)) × (g ≡ guards.no_atoms))

squares_step : (h : Headed) (done : List Piece) (g k : guards.GuardGrammarState) (p : inner.Piece) → Squares h done g → guards.step g p ≡ Some k → Squares h (In p ∷ done) k
squares_step h done g k p (inl at) same = inl (onward done (SquareGuarding h g) (SquareGuarding h k) (In p) at (ap (λ o. square_guard_step h o) same))
squares_step h done g k p (inr at) same =
    inl (onward done (SquareOpened h) (SquareGuarding h k) (In p) at.0 (ap (λ o. square_guard_step h o) (subst (λ j. guards.step j p ≡ Some k) at.1 same)))

squares_close : (h : Headed) (g : guards.GuardGrammarState) (atoms : Atoms) (done : List Piece) → guards.finish g ≡ Some atoms → Squares h done g → At (SquareClose ∷ done) (AfterRule (ruling_with h (InSquares (Some atoms))))
squares_close h g atoms done ends (inl at) = onward done (SquareGuarding h g) (AfterRule (ruling_with h (InSquares (Some atoms)))) SquareClose at (ap (λ o. square_ended h o) ends)
squares_close h g atoms done ends (inr at) = absurd (none_is_some (subst (λ k. guards.finish k ≡ Some atoms) at.1 ends))

-- A guard after a target is read.
guard_read : (h : Headed) (guard : Guard) (done : List Piece) → At done (Targeted h) → Behind h guard (guard_behind guard done)
guard_read h NoGuard done at = at
guard_read h (BehindMark None) done at = onward done (Targeted h) (GuardMarked h) GuardMark at refl
guard_read h (BehindMark (Some atoms)) done at =
    guard_is_read In (Marks h) (marks_step h) atoms (GuardMark ∷ done) (inr (inl (onward done (Targeted h) (GuardMarked h) GuardMark at refl, refl)))
guard_read h (InSquares None) done at = onward (SquareOpen ∷ done) (SquareOpened h) _ SquareClose (onward done (Targeted h) (SquareOpened h) SquareOpen at refl) refl
guard_read h (InSquares (Some atoms)) done at =
    squares_close h (behind_atoms atoms) atoms (atoms_behind In atoms (SquareOpen ∷ done)) (atoms_finish atoms)
    (guard_is_read In (Squares h) (squares_step h) atoms (SquareOpen ∷ done) (inr (onward done (Targeted h) (SquareOpened h) SquareOpen at refl, refl)))

-- Rules are read one after the other.
rules_read : (ss : List Section) (rules : List WrittenRule) (done : List Piece) → HaveTargets rules → At done (AfterRule (record { sections = ss; rules = [] })) → BehindRules ss rules (rules_behind rules done)
rules_read ss [] done are at = at
rules_read ss (r ∷ rules) done are at =
    guard_read (headed_at ss rules r) r.guard (target_behind r.target (arrow_behind r.cost (left_behind r.left (rules_behind rules done))))
    (target_read (arrow_at ss rules r) r.target (arrow_behind r.cost (left_behind r.left (rules_behind rules done))) are.0
    (arrow_read (record { sections = ss; rules = rules }) r.left r.cost (left_behind r.left (rules_behind rules done))
    (left_read (record { sections = ss; rules = rules }) r.left.name r.left.arguments (open_bracket ∷ word r.left.name ∷ rules_behind rules done)
    (rule_opens ss rules r.left.name (rules_behind rules done) (rules_read ss rules done are.1 at)))))

-- The variables of a list are read.
words_read : (ss : List Section) (names : List Name) (done : List Piece) → At done (Listing ss []) → At (words_behind names done) (Listing ss names)
words_read ss [] done at = at
words_read ss (a ∷ names) done at = onward (words_behind names done) (Listing ss names) (Listing ss (a ∷ names)) (word a) (words_read ss names done at) refl

-- The bracket that opens a section is read after other sections.
section_opens : (ss : List Section) (done : List Piece) → At done (Between ss) → At (open_bracket ∷ done) (Opened ss)
section_opens ss done at = onward done (Between ss) (Opened ss) open_bracket at refl

section_read : (s : Section) (ss : List Section) (done : List Piece) → IsSection s → At done (Between ss) → At (section_behind s done) (Between (s ∷ ss))
section_read Goal ss done is at =
    ap (λ o. next step (next step (next step o (word (codes "GOAL"))) (word (codes "COMPLEXITY"))) close_bracket) (section_opens ss done at)
section_read (Start name) ss done is at =
    ap (λ o. next step (next step (next step (next step (next step (next step o (word (codes "STARTTERM"))) open_bracket) (word (codes "FUNCTIONSYMBOLS"))) (word name)) close_bracket) close_bracket) (section_opens ss done at)
section_read (Variables names) ss done is at =
    onward (words_behind names (word (codes "VAR") ∷ open_bracket ∷ done)) (Listing ss names) (Between (Variables names ∷ ss)) close_bracket
    (words_read ss names (word (codes "VAR") ∷ open_bracket ∷ done) (onward (open_bracket ∷ done) (Opened ss) (Listing ss []) (word (codes "VAR")) (section_opens ss done at) refl)) refl
section_read (Rules rules) ss done is at =
    rules_close ss rules (rules_behind rules (word (codes "RULES") ∷ open_bracket ∷ done))
    (rules_read ss rules (word (codes "RULES") ∷ open_bracket ∷ done) is (onward (open_bracket ∷ done) (Opened ss) (AfterRule (record { sections = ss; rules = [] })) (word (codes "RULES")) (section_opens ss done at) refl))
section_read (Comment bytes) ss done is at =
    ap (λ o. next step (next step o (word (codes "COMMENT"))) (Remark bytes)) (section_opens ss done at)

sections_read : (ss : List Section) → AreSections ss → At (pieces_behind ss) (Between ss)
sections_read [] are = refl
sections_read (s ∷ ss) are = section_read s ss (pieces_behind ss) are.0 (sections_read ss are.1)

-- The tokens of a program lead to a state that ends with the program's sections.
pub reads : (ss : List Section) (ps : List Piece) → Writes ss ps → (f : GrammarState) × (walk step (Some beginning) ps ≡ Some f) × (finish f ≡ Some ss)
reads ss ps w = (Between ss, subst (λ qs. walk step (Some beginning) qs ≡ Some (Between ss)) w.pieces (walk-onto programs (pieces_behind ss) [] ∙ sections_read ss w.are), refl)
