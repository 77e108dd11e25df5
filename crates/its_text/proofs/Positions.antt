-- A state shows faults only at the last byte that was read, or at the next token.
use Rattle.std.specs.Prelude.{◌≡◌, ℕ, ◌≤◌, Bool, true, false, nat_le, length, if◌then◌else◌, List, [], ◌∷◌, ◌++◌}
use Rattle.std.specs.Prelude.{Option, Some, None, ◌⊎◌, ⊤, refl}
use Rattle.std.proofs.Common.{◌∙◌, ap, inl, inr, arith}
use Rattle.expr_text.specs.model.Programs.{Name}
use Rattle.expr_text.specs.model.Limits.{place_limit, token_limit}
use Rattle.expr_text.specs.text_core.Readers.{Fault}
use Rattle.expr_text.specs.text_core.Faults.{Among, next_at}
use Rattle.expr_text.specs.text_core.Stopping.{last_at as last_token_at, IsBehind, ShowsBehind}
use Rattle.expr_text.specs.poly_terms.Faults as polynomials
use Rattle.expr_text.specs.Pieces as inner
use Rattle.expr_text.specs.Trees.{Sum}
use Rattle.expr_text.specs.Steps as expression_steps
use Rattle.expr_text.specs.GuardGrammarStates.{GuardGrammarState, LeftSide, RightSide}
use Rattle.expr_text.specs.StateNames.{before_expression, goes_on_with, token_count}
use Rattle.its_text.specs.Pieces.{Piece, In, Comma, Arrow, CostOpen, CostClose, GuardMark, SquareOpen, SquareClose}
use Rattle.its_text.specs.Pieces.{Disjoining, Remark, Wrong, Strange}
use Rattle.its_text.specs.GrammarStates.{GrammarState, Between, Opened, GoalNamed, GoalRead, StartNamed, StartOpened, StartListed}
use Rattle.its_text.specs.GrammarStates.{StartRead, StartClosed, Listing, CommentNamed, AfterRule, SourceNamed, LeftOpened, LeftRead}
use Rattle.its_text.specs.GrammarStates.{LeftParted, SourceClosed, Costing, Arrowed, ComNamed, ComOpened, TargetNamed, RightOpened}
use Rattle.its_text.specs.GrammarStates.{Arguing}
use Rattle.its_text.specs.GrammarStates.{TargetClosed, Targeted, GuardMarked, WordRead, MarkGuarding, SquareOpened}
use Rattle.its_text.specs.GrammarStates.{SquareGuarding}
use Rattle.its_text.specs.Numbering.{left_names}
use Rattle.its_text.specs.StateNames.{names_with, headed_names}
use Rattle.expr_text.specs.text_core.Names.{is_among}
use Rattle.its_text.specs.Kinds.{Kind, TooManyRules, TooManyArguments, TooManyVariables, TooManyAtoms, LongName}
use Rattle.its_text.specs.Kinds.{TooManyTokens, Syntax, RepeatedSection, ManyTargets, LeftNotVariable, LeftRepeated}
use Rattle.its_text.specs.Kinds.{ArityDiffers, NumberTooLarge, Limit}
use Rattle.its_text.specs.Grammar.{programs}
use Rattle.its_text.specs.StateFaults as shown
use Rattle.its_text.specs.StateFaults.{Tokens, FaultList, fault_if, last_byte, next_piece, piece_behind, left_wanted}
use Rattle.its_text.specs.StateFaults.{left_of, expression_faults, token_faults, open_expression, OpenExpression}
use Rattle.its_text.specs.StateFaults.{expansion_faults, argument_faults, right_side_faults, ends_expression}
use Rattle.its_text.specs.StateFaults.{atom_faults, ended_faults, next_faults, last_faults}

-- Every fault of a list is at this position.
abbrev pub AreAllAt : ℕ → FaultList → Type 0
AreAllAt at [] = ⊤
AreAllAt at (x ∷ xs) = (x.at ≡ at) × AreAllAt at xs

both : (at : ℕ) (xs ys : FaultList) → AreAllAt at xs → AreAllAt at ys → AreAllAt at (xs ++ ys)
both at [] ys a b = b
both at (x ∷ xs) ys a b = (a.0, both at xs ys a.1 b)

if_at : (test : Bool) (kind : Kind) (at : ℕ) → AreAllAt at (fault_if test kind at)
if_at true kind at = (refl, tt)
if_at false kind at = tt

then_if : (at : ℕ) (xs : FaultList) (test : Bool) (kind : Kind) → AreAllAt at xs → AreAllAt at (xs ++ fault_if test kind at)
then_if at xs test kind h = both at xs (fault_if test kind at) h (if_at test kind at)

choice_at : (at : ℕ) (test : Bool) (xs : FaultList) → AreAllAt at xs → AreAllAt at (if test then xs else [])
choice_at at true xs h = h
choice_at at false xs h = tt

expansion_at : (at : ℕ) (o : Option polynomials.Fault) → AreAllAt at (expansion_faults at o)
expansion_at at None = tt
expansion_at at (Some fault) = (refl, tt)

argument_at : (at : ℕ) (names : List Name) (o : Option Sum) → AreAllAt at (argument_faults at names o)
argument_at at names None = tt
argument_at at names (Some s) = expansion_at at _

right_side_at : (at : ℕ) (names : List Name) (l : Sum) (sign : inner.Sign) (o : Option Sum) → AreAllAt at (right_side_faults at names l sign o)
right_side_at at names l sign None = tt
right_side_at at names l sign (Some r) = expansion_at at _

atom_at : (at : ℕ) (names : List Name) (g : GuardGrammarState) (next : Option Piece) → AreAllAt at (atom_faults at names g next)
atom_at at names (LeftSide c e) next = tt
atom_at at names (RightSide c l sign e) next = choice_at at (ends_expression e next) _ (right_side_at at (before_expression names (RightSide c l sign e)) l sign (expression_steps.finish e))

left_at : (at : ℕ) (o : Option (List Name)) (next behind : Option Piece) → AreAllAt at (left_of at o next behind)
left_at at None next behind = tt
left_at at (Some arguments) None behind = tt
left_at at (Some arguments) (Some (In (inner.Word name))) behind =
    then_if at (fault_if (shown.is_operator behind) LeftNotVariable at ++ fault_if (is_among name arguments) LeftRepeated at) (nat_le place_limit (length arguments)) (Limit TooManyArguments)
    (then_if at (fault_if (shown.is_operator behind) LeftNotVariable at) (is_among name arguments) LeftRepeated (if_at (shown.is_operator behind) LeftNotVariable at))
left_at at (Some arguments) (Some (In (inner.Digits ds))) behind = tt
left_at at (Some arguments) (Some (In inner.Open)) behind = tt
left_at at (Some arguments) (Some (In inner.Close)) behind = tt
left_at at (Some arguments) (Some (In inner.Plus)) behind = tt
left_at at (Some arguments) (Some (In inner.Minus)) behind = tt
left_at at (Some arguments) (Some (In inner.Times)) behind = tt
left_at at (Some arguments) (Some (In inner.Caret)) behind = tt
left_at at (Some arguments) (Some (In (inner.Related sign))) behind = tt
left_at at (Some arguments) (Some (In (inner.Joining joint))) behind = tt
left_at at (Some arguments) (Some Comma) behind = tt
left_at at (Some arguments) (Some Arrow) behind = tt
left_at at (Some arguments) (Some CostOpen) behind = tt
left_at at (Some arguments) (Some CostClose) behind = tt
left_at at (Some arguments) (Some GuardMark) behind = tt
left_at at (Some arguments) (Some SquareOpen) behind = tt
left_at at (Some arguments) (Some SquareClose) behind = tt
left_at at (Some arguments) (Some Disjoining) behind = tt
left_at at (Some arguments) (Some (Remark bytes)) behind = tt
left_at at (Some arguments) (Some Wrong) behind = tt
left_at at (Some arguments) (Some Strange) behind = tt

going_at : (at : ℕ) (g : OpenExpression) (p : inner.Piece) (behind : Option Piece) → AreAllAt at (expression_faults at g p behind)
going_at at g p behind =
    then_if at (fault_if (shown.is_large p) NumberTooLarge at ++ fault_if (shown.passes_variables g p behind) (Limit TooManyVariables) at) (nat_le token_limit (token_count g.grammar_state)) (Limit TooManyTokens)
    (then_if at (fault_if (shown.is_large p) NumberTooLarge at) (shown.passes_variables g p behind) (Limit TooManyVariables) (if_at (shown.is_large p) NumberTooLarge at))

token_at : (at : ℕ) (o : Option OpenExpression) (next behind : Option Piece) → AreAllAt at (token_faults at o next behind)
token_at at None next behind = tt
token_at at (Some g) None behind = tt
token_at at (Some g) (Some (In p)) behind = choice_at at (goes_on_with g.grammar_state p) (expression_faults at g p behind) (going_at at g p behind)
token_at at (Some g) (Some Comma) behind = tt
token_at at (Some g) (Some Arrow) behind = tt
token_at at (Some g) (Some CostOpen) behind = tt
token_at at (Some g) (Some CostClose) behind = tt
token_at at (Some g) (Some GuardMark) behind = tt
token_at at (Some g) (Some SquareOpen) behind = tt
token_at at (Some g) (Some SquareClose) behind = tt
token_at at (Some g) (Some Disjoining) behind = tt
token_at at (Some g) (Some (Remark bytes)) behind = tt
token_at at (Some g) (Some Wrong) behind = tt
token_at at (Some g) (Some Strange) behind = tt

ended_at : (at : ℕ) (f : GrammarState) (next : Option Piece) → AreAllAt at (ended_faults at f next)
ended_at at (Between ss) next = tt
ended_at at (Opened ss) next = tt
ended_at at (GoalNamed ss) next = tt
ended_at at (GoalRead ss) next = tt
ended_at at (StartNamed ss) next = tt
ended_at at (StartOpened ss) next = tt
ended_at at (StartListed ss) next = tt
ended_at at (StartRead ss start) next = tt
ended_at at (StartClosed ss start) next = tt
ended_at at (Listing ss names) next = tt
ended_at at (CommentNamed ss) next = tt
ended_at at (AfterRule r) next = tt
ended_at at (SourceNamed r source) next = tt
ended_at at (LeftOpened r source) next = tt
ended_at at (LeftRead r source a earlier) next = tt
ended_at at (LeftParted r source a earlier) next = tt
ended_at at (SourceClosed r t) next = tt
ended_at at (Costing r t e) next = choice_at at (ends_expression e next) _ (argument_at at (left_names t) (expression_steps.finish e))
ended_at at (Arrowed l) next = tt
ended_at at (ComNamed l) next = tt
ended_at at (ComOpened l) next = tt
ended_at at (TargetNamed a) next = tt
ended_at at (RightOpened a) next = tt
ended_at at (Arguing a arguments e) next = choice_at at (ends_expression e next) _ (argument_at at (names_with a.led arguments) (expression_steps.finish e))
ended_at at (TargetClosed l t) next = tt
ended_at at (Targeted h) next = tt
ended_at at (GuardMarked h) next = tt
ended_at at (WordRead h name) next = tt
ended_at at (MarkGuarding h g) next = atom_at at (headed_names h) g next
ended_at at (SquareOpened h) next = tt
ended_at at (SquareGuarding h g) next = atom_at at (headed_names h) g next

-- every fault that is shown at the last byte has its position
pub last_at : (at : ℕ) (f : GrammarState) (next : Option Piece) → AreAllAt at (last_faults at f next)
last_at at f next = both at (fault_if (shown.has_other_arity f) ArityDiffers at) (ended_faults at f next) (if_at (shown.has_other_arity f) ArityDiffers at) (ended_at at f next)

-- every fault that is shown at the next token has its position
pub next_stands : (at : ℕ) (f : GrammarState) (next behind : Option Piece) → AreAllAt at (next_faults at f next behind)
next_stands at f next behind =
    both at (fault_if (shown.targets_again f next behind) Syntax at ++ fault_if (shown.repeats_at f next behind) RepeatedSection at ++ fault_if (shown.targets_many f next behind) ManyTargets at ++ left_of at (left_wanted f) next behind ++ fault_if (shown.too_many_rules f next behind) (Limit TooManyRules) at ++ fault_if (shown.passes_arguments f next) (Limit TooManyArguments) at ++ fault_if (shown.another_atom f next) (Limit TooManyAtoms) at ++ fault_if (shown.long_name next) (Limit LongName) at) (token_faults at (open_expression f next behind) next behind)
    (then_if at (fault_if (shown.targets_again f next behind) Syntax at ++ fault_if (shown.repeats_at f next behind) RepeatedSection at ++ fault_if (shown.targets_many f next behind) ManyTargets at ++ left_of at (left_wanted f) next behind ++ fault_if (shown.too_many_rules f next behind) (Limit TooManyRules) at ++ fault_if (shown.passes_arguments f next) (Limit TooManyArguments) at ++ fault_if (shown.another_atom f next) (Limit TooManyAtoms) at) (shown.long_name next) (Limit LongName) (then_if at (fault_if (shown.targets_again f next behind) Syntax at ++ fault_if (shown.repeats_at f next behind) RepeatedSection at ++ fault_if (shown.targets_many f next behind) ManyTargets at ++ left_of at (left_wanted f) next behind ++ fault_if (shown.too_many_rules f next behind) (Limit TooManyRules) at ++ fault_if (shown.passes_arguments f next) (Limit TooManyArguments) at) (shown.another_atom f next) (Limit TooManyAtoms) (then_if at (fault_if (shown.targets_again f next behind) Syntax at ++ fault_if (shown.repeats_at f next behind) RepeatedSection at ++ fault_if (shown.targets_many f next behind) ManyTargets at ++ left_of at (left_wanted f) next behind ++ fault_if (shown.too_many_rules f next behind) (Limit TooManyRules) at) (shown.passes_arguments f next) (Limit TooManyArguments) (then_if at (fault_if (shown.targets_again f next behind) Syntax at ++ fault_if (shown.repeats_at f next behind) RepeatedSection at ++ fault_if (shown.targets_many f next behind) ManyTargets at ++ left_of at (left_wanted f) next behind) (shown.too_many_rules f next behind) (Limit TooManyRules) (both at (fault_if (shown.targets_again f next behind) Syntax at ++ fault_if (shown.repeats_at f next behind) RepeatedSection at ++ fault_if (shown.targets_many f next behind) ManyTargets at) (left_of at (left_wanted f) next behind) (then_if at (fault_if (shown.targets_again f next behind) Syntax at ++ fault_if (shown.repeats_at f next behind) RepeatedSection at) (shown.targets_many f next behind) ManyTargets (then_if at (fault_if (shown.targets_again f next behind) Syntax at) (shown.repeats_at f next behind) RepeatedSection (if_at (shown.targets_again f next behind) Syntax at))) (left_at at (left_wanted f) next behind))))))
    (token_at at (open_expression f next behind) next behind)

-- a fault in a list of faults at one position has that position
pub among_at : (at : ℕ) (x : Fault Kind) (xs : FaultList) → AreAllAt at xs → Among x xs → x.at ≡ at
among_at at x [] h m = absurd m
among_at at x (y ∷ ys) h (inl same) = ap (λ z. z.at) same ∙ h.0
among_at at x (y ∷ ys) h (inr more) = among_at at x ys h.1 more

-- a fault that is among two lists is among the one or the other
pub split : (x : Fault Kind) (xs ys : FaultList) → Among x (xs ++ ys) → (Among x xs) ⊎ (Among x ys)
split x [] ys m = inr m
split x (y ∷ xs) ys (inl same) = inl (inl same)
split x (y ∷ xs) ys (inr more) = go (split x xs ys more)
  where
    go : (Among x xs) ⊎ (Among x ys) → (Among x (y ∷ xs)) ⊎ (Among x ys)
    go (inl m) = inl (inr m)
    go (inr m) = inr m

-- A fault that a state shows is at the last byte that was read, or at the next token.
pub stands : (n : ℕ) (done : Tokens) (f : GrammarState) (rest : Tokens) (x : Fault Kind) → Among x (shown.faults_of_state n done f rest) → (x.at ≡ last_byte done) ⊎ (x.at ≡ next_at n rest)
stands n done f rest x m = go (split x (last_faults (last_byte done) f (next_piece rest)) _ m)
  where
    go : (Among x (last_faults (last_byte done) f (next_piece rest))) ⊎ (Among x (next_faults (next_at n rest) f (next_piece rest) (piece_behind rest))) → (x.at ≡ last_byte done) ⊎ (x.at ≡ next_at n rest)
    go (inl a) = inl (among_at (last_byte done) x _ (last_at (last_byte done) f (next_piece rest)) a)
    go (inr a) = inr (among_at (next_at n rest) x _ (next_stands (next_at n rest) f (next_piece rest) (piece_behind rest)) a)

-- If tokens are in order, no fault is shown before the last token's first byte.
pub shows_behind : ShowsBehind programs
shows_behind = record { each = λ n done f rest x order m. behind done n rest x order (stands n done f rest x m) }
  where
    behind : (done : Tokens) (n : ℕ) (rest : Tokens) (x : Fault Kind) → IsBehind done (next_at n rest) → (x.at ≡ last_byte done) ⊎ (x.at ≡ next_at n rest) → last_token_at done ≤ x.at
    behind [] n rest x order h = omega arith
    behind (t ∷ done) n rest x order (inl e) = let some = order.0 in omega (arith, some, e)
    behind (t ∷ done) n rest x order (inr e) = let some = order.0 in let k = order.1 in omega (arith, some, k, e)
