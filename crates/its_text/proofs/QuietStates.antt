-- A state shows no fault exactly if it is quiet at the next token, and that token is small.
use Rattle.std.proofs.Common.{◌≡◌, ℕ, Bool, true, false, if◌then◌else◌, ◌↔◌, nat_le, List, [], ◌∷◌, ◌++◌, length}
use Rattle.std.proofs.Common.{Option, Some, None, refl, ap, ◌∙◌}
use Rattle.expr_text.specs.model.Programs.{Name}
use Rattle.expr_text.specs.model.Limits.{place_limit, token_limit}
use Rattle.expr_text.specs.poly_terms.Faults as polynomials
use Rattle.expr_text.specs.text_core.Names.{is_among}
use Rattle.expr_text.specs.Pieces as inner
use Rattle.expr_text.specs.Trees.{Sum}
use Rattle.expr_text.specs.Terms.{with_sum}
use Rattle.expr_text.specs.GrammarStates as expression
use Rattle.expr_text.specs.Steps as expression_steps
use Rattle.expr_text.specs.GuardGrammarStates.{GuardGrammarState, LeftSide, RightSide}
use Rattle.expr_text.specs.StateNames.{with_conjoined, token_count, goes_on_with}
use Rattle.its_text.specs.Pieces.{Piece, In, Comma, Arrow, CostOpen, CostClose, GuardMark, SquareOpen, SquareClose}
use Rattle.its_text.specs.Pieces.{Disjoining, Remark, Wrong, Strange}
use Rattle.its_text.specs.GrammarStates.{GrammarState, Between, Opened, GoalNamed, GoalRead, StartNamed, StartOpened}
use Rattle.its_text.specs.GrammarStates.{StartListed, StartRead, StartClosed, Listing, CommentNamed, AfterRule, SourceNamed}
use Rattle.its_text.specs.GrammarStates.{LeftOpened, LeftRead, LeftParted, SourceClosed, Costing, Arrowed, ComNamed, ComOpened}
use Rattle.its_text.specs.GrammarStates.{TargetNamed, RightOpened, Arguing, TargetClosed, Targeted, GuardMarked, WordRead}
use Rattle.its_text.specs.GrammarStates.{MarkGuarding}
use Rattle.its_text.specs.GrammarStates.{SquareOpened, SquareGuarding}
use Rattle.its_text.specs.Numbering.{left_names}
use Rattle.its_text.specs.StateNames.{names_with, headed_names}
use Rattle.its_text.specs.Kinds.{TooManyArguments, TooManyVariables, TooManyTokens, Kind, LeftNotVariable, LeftRepeated}
use Rattle.its_text.specs.Kinds.{NumberTooLarge, Limit}
use Rattle.its_text.specs.StateFaults as shown
use Rattle.its_text.specs.StateFaults.{FaultList, fault_if, left_of, left_wanted, OpenExpression, expression_faults}
use Rattle.its_text.specs.StateFaults.{token_faults}
use Rattle.its_text.specs.StateFaults.{ends_expression, expansion_faults, argument_faults, right_side_faults}
use Rattle.its_text.specs.StateFaults.{atom_faults}
use Rattle.its_text.specs.StateFaults.{ended_faults, last_faults, next_faults}
use Rattle.its_text.proofs.KeptStates.{IsLeftQuiet, IsGoingQuiet, IsGoingSmall, IsArgumentExpanded, IsRightExpanded}
use Rattle.its_text.proofs.KeptStates.{IsAtomExpanded, IsQuiet, IsNextSmall}

-- If two lists together are empty, each is.
neither : (xs ys : FaultList) → xs ++ ys ≡ [] → (xs ≡ []) × (ys ≡ [])
neither [] ys h = (refl, h)
neither (x ∷ xs) ys h = cc

both : (xs ys : FaultList) → xs ≡ [] → ys ≡ [] → xs ++ ys ≡ []
both xs ys a b = ap (λ zs. zs ++ ys) a ∙ b

-- A fault by a test is absent exactly if the test fails.
if_quiet : (test : Bool) (kind : Kind) (at : ℕ) → (fault_if test kind at ≡ []) ↔ (test ≡ false)
if_quiet true kind at = (λ h. cc, λ h. cc)
if_quiet false kind at = (λ h. refl, λ h. refl)

choice_quiet : (test : Bool) (xs : FaultList) → ((if test then xs else []) ≡ []) ↔ (test ≡ true → xs ≡ [])
choice_quiet true xs = (λ h e. h, λ h. h refl)
choice_quiet false xs = (λ h e. cc, λ h. refl)

-- an expansion has no fault exactly if it succeeds
expansion_quiet : (at : ℕ) (o : Option polynomials.Fault) → (expansion_faults at o ≡ []) ↔ (o ≡ None)
expansion_quiet at None = (λ h. refl, λ h. refl)
expansion_quiet at (Some x) = (λ h. cc, λ h. cc)

argument_quiet : (at : ℕ) (names : List Name) (o : Option Sum) → (argument_faults at names o ≡ [])
    ↔ IsArgumentExpanded names o
argument_quiet at names None = (λ h. tt, λ h. refl)
argument_quiet at names (Some s) = expansion_quiet at _

right_quiet : (at : ℕ) (names : List Name) (l : Sum) (sign : inner.Sign) (o : Option Sum)
    → (right_side_faults at names l sign o ≡ []) ↔ IsRightExpanded names l sign o
right_quiet at names l sign None = (λ h. tt, λ h. refl)
right_quiet at names l sign (Some r) = expansion_quiet at _

atom_quiet : (at : ℕ) (names : List Name) (g : GuardGrammarState) (next : Option Piece) → (atom_faults at names g next ≡ [])
    ↔ IsAtomExpanded names g next
atom_quiet at names (LeftSide c e) next = (λ h. tt, λ h. refl)
atom_quiet at names (RightSide c l sign e) next =
    let x =
    choice_quiet (ends_expression e next)
    (right_side_faults at (with_sum (with_conjoined names c) l) l sign (expression_steps.finish e)) in
    let y = right_quiet at (with_sum (with_conjoined names c) l) l sign (expression_steps.finish e) in
    (λ h k. y.0 (x.0 h k), λ h. x.1 (λ k. y.1 (h k)))

-- A left argument shows no fault exactly if it may come.
left_word : (at : ℕ) (arguments : List Name) (name : Name) (behind : Option Piece)
    → (left_of at (Some arguments) (Some (In (inner.Word name))) behind ≡ [])
    ↔ IsLeftQuiet arguments (Some (In (inner.Word name))) behind
left_word at arguments name behind =
    let a = if_quiet (shown.is_operator behind) LeftNotVariable at in
    let b = if_quiet (is_among name arguments) LeftRepeated at in
    let c = if_quiet (nat_le place_limit (length arguments)) (Limit TooManyArguments) at in (
      λ h.
          let x = neither _ _ h in
          let y = neither _ _ x.0 in
          (a.0 y.0, b.0 y.1, c.0 x.1),
      λ h. both _ _ (both _ _ (a.1 h.0) (b.1 h.1)) (c.1 h.2),
    )

left_quiet : (at : ℕ) (arguments : List Name) (next behind : Option Piece)
    → (left_of at (Some arguments) next behind ≡ []) ↔ IsLeftQuiet arguments next behind
left_quiet at arguments None behind = (λ h. tt, λ h. refl)
left_quiet at arguments (Some (In (inner.Word name))) behind = left_word at arguments name behind
left_quiet at arguments (Some (In (inner.Digits ds))) behind = (λ h. tt, λ h. refl)
left_quiet at arguments (Some (In inner.Open)) behind = (λ h. tt, λ h. refl)
left_quiet at arguments (Some (In inner.Close)) behind = (λ h. tt, λ h. refl)
left_quiet at arguments (Some (In inner.Plus)) behind = (λ h. tt, λ h. refl)
left_quiet at arguments (Some (In inner.Minus)) behind = (λ h. tt, λ h. refl)
left_quiet at arguments (Some (In inner.Times)) behind = (λ h. tt, λ h. refl)
left_quiet at arguments (Some (In inner.Caret)) behind = (λ h. tt, λ h. refl)
left_quiet at arguments (Some (In (inner.Related sign))) behind = (λ h. tt, λ h. refl)
left_quiet at arguments (Some (In (inner.Joining joint))) behind = (λ h. tt, λ h. refl)
left_quiet at arguments (Some Comma) behind = (λ h. tt, λ h. refl)
left_quiet at arguments (Some Arrow) behind = (λ h. tt, λ h. refl)
left_quiet at arguments (Some CostOpen) behind = (λ h. tt, λ h. refl)
left_quiet at arguments (Some CostClose) behind = (λ h. tt, λ h. refl)
left_quiet at arguments (Some GuardMark) behind = (λ h. tt, λ h. refl)
left_quiet at arguments (Some SquareOpen) behind = (λ h. tt, λ h. refl)
left_quiet at arguments (Some SquareClose) behind = (λ h. tt, λ h. refl)
left_quiet at arguments (Some Disjoining) behind = (λ h. tt, λ h. refl)
left_quiet at arguments (Some (Remark bytes)) behind = (λ h. tt, λ h. refl)
left_quiet at arguments (Some Wrong) behind = (λ h. tt, λ h. refl)
left_quiet at arguments (Some Strange) behind = (λ h. tt, λ h. refl)

-- The next token of an expression shows no fault exactly if it exceeds no limit and is small.
record IsTokenQuiet (o : Option OpenExpression) (next behind : Option Piece) : Type 0 where
  going : IsGoingQuiet o next behind
  small : IsGoingSmall o next

going_in_quiet : (at : ℕ) (g : OpenExpression) (p : inner.Piece) (behind : Option Piece)
    → (token_faults at (Some g) (Some (In p)) behind ≡ []) ↔ IsTokenQuiet (Some g) (Some (In p)) behind
going_in_quiet at g p behind =
    let o = choice_quiet (goes_on_with g.grammar_state p) (expression_faults at g p behind) in
    let a = if_quiet (shown.is_large p) NumberTooLarge at in
    let b = if_quiet (shown.passes_variables g p behind) (Limit TooManyVariables) at in
    let c = if_quiet (nat_le token_limit (token_count g.grammar_state)) (Limit TooManyTokens) at in (
      λ h.
          record {
            going = λ k. let x = neither _ _ (o.0 h k) in (b.0 (neither _ _ x.0).1, c.0 x.1);
            small = λ k. a.0 (neither _ _ (neither _ _ (o.0 h k)).0).0;
          },
      λ h. o.1 (λ k. both _ _ (both _ _ (a.1 (h.small k)) (b.1 (h.going k).0)) (c.1 (h.going k).1)),
    )

token_quiet : (at : ℕ) (o : Option OpenExpression) (next behind : Option Piece) → (token_faults at o next behind ≡ [])
    ↔ IsTokenQuiet o next behind
token_quiet at None next behind = (λ h. record { going = tt; small = tt }, λ h. refl)
token_quiet at (Some g) None behind = (λ h. record { going = tt; small = tt }, λ h. refl)
token_quiet at (Some g) (Some (In p)) behind = going_in_quiet at g p behind
token_quiet at (Some g) (Some Comma) behind = (λ h. record { going = tt; small = tt }, λ h. refl)
token_quiet at (Some g) (Some Arrow) behind = (λ h. record { going = tt; small = tt }, λ h. refl)
token_quiet at (Some g) (Some CostOpen) behind = (λ h. record { going = tt; small = tt }, λ h. refl)
token_quiet at (Some g) (Some CostClose) behind = (λ h. record { going = tt; small = tt }, λ h. refl)
token_quiet at (Some g) (Some GuardMark) behind = (λ h. record { going = tt; small = tt }, λ h. refl)
token_quiet at (Some g) (Some SquareOpen) behind = (λ h. record { going = tt; small = tt }, λ h. refl)
token_quiet at (Some g) (Some SquareClose) behind = (λ h. record { going = tt; small = tt }, λ h. refl)
token_quiet at (Some g) (Some Disjoining) behind = (λ h. record { going = tt; small = tt }, λ h. refl)
token_quiet at (Some g) (Some (Remark bytes)) behind = (λ h. record { going = tt; small = tt }, λ h. refl)
token_quiet at (Some g) (Some Wrong) behind = (λ h. record { going = tt; small = tt }, λ h. refl)
token_quiet at (Some g) (Some Strange) behind = (λ h. record { going = tt; small = tt }, λ h. refl)

-- Each kind of fault is absent.
record IsSilent (last at : ℕ) (f : GrammarState) (next behind : Option Piece) : Type 0 where
  arity : shown.has_other_arity f ≡ false
  ended : ended_faults last f next ≡ []
  again : shown.targets_again f next behind ≡ false
  repeated : shown.repeats_at f next behind ≡ false
  many : shown.targets_many f next behind ≡ false
  left : left_of at (left_wanted f) next behind ≡ []
  rules : shown.too_many_rules f next behind ≡ false
  arguments : shown.passes_arguments f next ≡ false
  atoms : shown.another_atom f next ≡ false
  name : shown.long_name next ≡ false
  tokens : token_faults at (shown.open_expression f next behind) next behind ≡ []

silent : (last at : ℕ) (f : GrammarState) (next behind : Option Piece)
    → last_faults last f next ++ next_faults at f next behind ≡ [] → IsSilent last at f next behind
silent last at f next behind h =
    let s = neither (last_faults last f next) _ h in
    let l = neither _ _ s.0 in
    let j = neither _ _ s.1 in
    let i = neither _ _ j.0 in
    let g = neither _ _ i.0 in
    let e = neither _ _ g.0 in
    let d = neither _ _ e.0 in
    let c = neither _ _ d.0 in
    let b = neither _ _ c.0 in
    let a = neither _ _ b.0 in
    record {
      arity = (if_quiet _ _ _).0 l.0;
      ended = l.1;
      again = (if_quiet _ _ _).0 a.0;
      repeated = (if_quiet _ _ _).0 a.1;
      many = (if_quiet _ _ _).0 b.1;
      left = c.1;
      rules = (if_quiet _ _ _).0 d.1;
      arguments = (if_quiet _ _ _).0 e.1;
      atoms = (if_quiet _ _ _).0 g.1;
      name = (if_quiet _ _ _).0 i.1;
      tokens = j.1;
    }

shows_none : (last at : ℕ) (f : GrammarState) (next behind : Option Piece) → IsSilent last at f next behind
    → last_faults last f next ++ next_faults at f next behind ≡ []
shows_none last at f next behind s =
    both _ _ (both _ _ ((if_quiet _ _ _).1 s.arity) s.ended)
    (both _ _
    (both _ _
    (both _ _
    (both _ _
    (both _ _
    (both _ _
    (both _ _ (both _ _ ((if_quiet _ _ _).1 s.again) ((if_quiet _ _ _).1 s.repeated)) ((if_quiet _ _ _).1 s.many))
    s.left)
    ((if_quiet _ _ _).1 s.rules))
    ((if_quiet _ _ _).1 s.arguments))
    ((if_quiet _ _ _).1 s.atoms))
    ((if_quiet _ _ _).1 s.name))
    s.tokens)

-- the laws below are stated state by state
module _ (last at : ℕ) (next behind : Option Piece) where
  -- a cost or an argument that has ended shows nothing exactly if it can be expanded
  ended_quiet : (names : List Name) (e : expression.GrammarState)
      → ((if ends_expression e next then argument_faults last names (expression_steps.finish e) else []) ≡ [])
      ↔ (ends_expression e next ≡ true → IsArgumentExpanded names (expression_steps.finish e))
  ended_quiet names e =
      let o = choice_quiet (ends_expression e next) (argument_faults last names (expression_steps.finish e)) in
      let x = argument_quiet last names (expression_steps.finish e) in
      (λ h k. x.0 (o.0 h k), λ h. o.1 (λ k. x.1 (h k)))

  -- the next token of the expression that is being read, if there is one
  going_of : (f : GrammarState) → IsSilent last at f next behind → IsGoingQuiet (shown.open_expression f next behind) next behind
  going_of f s = ((token_quiet at (shown.open_expression f next behind) next behind).0 s.tokens).going

  token_of : (f : GrammarState) → IsGoingQuiet (shown.open_expression f next behind) next behind → IsNextSmall f next behind
      → token_faults at (shown.open_expression f next behind) next behind ≡ []
  token_of f q m =
      (token_quiet at (shown.open_expression f next behind) next behind).1 (record { going = q; small = m.1 })

  -- a silent state is quiet
  quiet_of : (f : GrammarState) → IsSilent last at f next behind → IsQuiet f next behind
  quiet_of (Between ss) s = s.repeated
  quiet_of (Opened ss) s = tt
  quiet_of (GoalNamed ss) s = tt
  quiet_of (GoalRead ss) s = tt
  quiet_of (StartNamed ss) s = tt
  quiet_of (StartOpened ss) s = tt
  quiet_of (StartListed ss) s = tt
  quiet_of (StartRead ss start) s = tt
  quiet_of (StartClosed ss start) s = tt
  quiet_of (Listing ss names) s = tt
  quiet_of (CommentNamed ss) s = tt
  quiet_of (AfterRule r) s = s.rules
  quiet_of (SourceNamed r source) s = tt
  quiet_of (LeftOpened r source) s = (left_quiet at [] next behind).0 s.left
  quiet_of (LeftRead r source a earlier) s = tt
  quiet_of (LeftParted r source a earlier) s = (left_quiet at (a ∷ earlier) next behind).0 s.left
  quiet_of (SourceClosed r t) s = s.arity
  quiet_of (Costing r t e) s =
      record { cost = (ended_quiet (left_names t) e).0 s.ended; going = going_of (Costing r t e) s }
  quiet_of (Arrowed l) s = s.many
  quiet_of (ComNamed l) s = tt
  quiet_of (ComOpened l) s = (s.again, s.many)
  quiet_of (TargetNamed a) s = tt
  quiet_of (RightOpened a) s = going_of (RightOpened a) s
  quiet_of (Arguing a arguments e) s =
      record {
        argument = (ended_quiet (names_with a.led arguments) e).0 s.ended;
        few = s.arguments;
        going = going_of (Arguing a arguments e) s;
      }
  quiet_of (TargetClosed l t) s = s.arity
  quiet_of (Targeted h) s = (s.arity, s.rules)
  quiet_of (GuardMarked h) s =
      (s.rules, going_of (GuardMarked h) s)
  quiet_of (WordRead h name) s =
      (s.rules, going_of (WordRead h name) s)
  quiet_of (MarkGuarding h g) s = (
    s.rules,
    record {
      atom = (atom_quiet last (headed_names h) g next).0 s.ended;
      few = s.atoms;
      going = going_of (MarkGuarding h g) s;
    },
  )
  quiet_of (SquareOpened h) s =
      going_of (SquareOpened h) s
  quiet_of (SquareGuarding h g) s =
      record {
        atom = (atom_quiet last (headed_names h) g next).0 s.ended;
        few = s.atoms;
        going = going_of (SquareGuarding h g) s;
      }

  -- a state that shows no fault of any kind is silent
  all_silent : (f : GrammarState) → shown.has_other_arity f ≡ false → ended_faults last f next ≡ []
      → shown.targets_again f next behind ≡ false
      → shown.repeats_at f next behind ≡ false → shown.targets_many f next behind ≡ false
      → left_of at (left_wanted f) next behind ≡ [] → shown.too_many_rules f next behind ≡ false
      → shown.passes_arguments f next ≡ false → shown.another_atom f next ≡ false → shown.long_name next ≡ false
      → token_faults at (shown.open_expression f next behind) next behind ≡ [] → IsSilent last at f next behind
  all_silent f arity ended again repeated many left rules arguments atoms name tokens =
      record {
        arity = arity;
        ended = ended;
        again = again;
        repeated = repeated;
        many = many;
        left = left;
        rules = rules;
        arguments = arguments;
        atoms = atoms;
        name = name;
        tokens = tokens;
      }

  -- a quiet state, before a small piece, is silent
  silent_of : (f : GrammarState) → IsQuiet f next behind → IsNextSmall f next behind → IsSilent last at f next behind
  silent_of (Between ss) q m = all_silent (Between ss) refl refl refl q refl refl refl refl refl m.0 refl
  silent_of (Opened ss) q m = all_silent (Opened ss) refl refl refl refl refl refl refl refl refl m.0 refl
  silent_of (GoalNamed ss) q m = all_silent (GoalNamed ss) refl refl refl refl refl refl refl refl refl m.0 refl
  silent_of (GoalRead ss) q m = all_silent (GoalRead ss) refl refl refl refl refl refl refl refl refl m.0 refl
  silent_of (StartNamed ss) q m = all_silent (StartNamed ss) refl refl refl refl refl refl refl refl refl m.0 refl
  silent_of (StartOpened ss) q m = all_silent (StartOpened ss) refl refl refl refl refl refl refl refl refl m.0 refl
  silent_of (StartListed ss) q m = all_silent (StartListed ss) refl refl refl refl refl refl refl refl refl m.0 refl
  silent_of (StartRead ss start) q m =
      all_silent (StartRead ss start) refl refl refl refl refl refl refl refl refl m.0 refl
  silent_of (StartClosed ss start) q m =
      all_silent (StartClosed ss start) refl refl refl refl refl refl refl refl refl m.0 refl
  silent_of (Listing ss names) q m = all_silent (Listing ss names) refl refl refl refl refl refl refl refl refl m.0 refl
  silent_of (CommentNamed ss) q m = all_silent (CommentNamed ss) refl refl refl refl refl refl refl refl refl m.0 refl
  silent_of (AfterRule r) q m = all_silent (AfterRule r) refl refl refl refl refl refl q refl refl m.0 refl
  silent_of (SourceNamed r source) q m =
      all_silent (SourceNamed r source) refl refl refl refl refl refl refl refl refl m.0 refl
  silent_of (LeftOpened r source) q m =
      all_silent (LeftOpened r source) refl refl refl refl refl ((left_quiet at [] next behind).1 q) refl refl refl
      m.0 refl
  silent_of (LeftRead r source a earlier) q m =
      all_silent (LeftRead r source a earlier) refl refl refl refl refl refl refl refl refl m.0 refl
  silent_of (LeftParted r source a earlier) q m =
      all_silent (LeftParted r source a earlier) refl refl refl refl refl
      ((left_quiet at (a ∷ earlier) next behind).1 q) refl refl refl m.0 refl
  silent_of (SourceClosed r t) q m = all_silent (SourceClosed r t) q refl refl refl refl refl refl refl refl m.0 refl
  silent_of (Costing r t e) q m =
      all_silent (Costing r t e) refl ((ended_quiet (left_names t) e).1 q.cost) refl refl refl refl refl refl refl m.0
      (token_of (Costing r t e) q.going m)
  silent_of (Arrowed l) q m = all_silent (Arrowed l) refl refl refl refl q refl refl refl refl m.0 refl
  silent_of (ComNamed l) q m = all_silent (ComNamed l) refl refl refl refl refl refl refl refl refl m.0 refl
  silent_of (ComOpened l) q m = all_silent (ComOpened l) refl refl q.0 refl q.1 refl refl refl refl m.0 refl
  silent_of (TargetNamed a) q m = all_silent (TargetNamed a) refl refl refl refl refl refl refl refl refl m.0 refl
  silent_of (RightOpened a) q m =
      all_silent (RightOpened a) refl refl refl refl refl refl refl refl refl m.0 (token_of (RightOpened a) q m)
  silent_of (Arguing a arguments e) q m =
      all_silent (Arguing a arguments e) refl ((ended_quiet (names_with a.led arguments) e).1 q.argument) refl refl refl refl refl
      q.few refl m.0 (token_of (Arguing a arguments e) q.going m)
  silent_of (TargetClosed l t) q m = all_silent (TargetClosed l t) q refl refl refl refl refl refl refl refl m.0 refl
  silent_of (Targeted h) q m = all_silent (Targeted h) q.0 refl refl refl refl refl q.1 refl refl m.0 refl
  silent_of (GuardMarked h) q m =
      all_silent (GuardMarked h) refl refl refl refl refl refl q.0 refl refl m.0 (token_of (GuardMarked h) q.1 m)
  silent_of (WordRead h name) q m =
      all_silent (WordRead h name) refl refl refl refl refl refl q.0 refl refl m.0 (token_of (WordRead h name) q.1 m)
  silent_of (MarkGuarding h g) q m =
      all_silent (MarkGuarding h g) refl ((atom_quiet last (headed_names h) g next).1 q.1.atom) refl refl refl refl
      q.0 refl q.1.few m.0 (token_of (MarkGuarding h g) q.1.going m)
  silent_of (SquareOpened h) q m =
      all_silent (SquareOpened h) refl refl refl refl refl refl refl refl refl m.0 (token_of (SquareOpened h) q m)
  silent_of (SquareGuarding h g) q m =
      all_silent (SquareGuarding h g) refl ((atom_quiet last (headed_names h) g next).1 q.atom) refl refl refl refl
      refl refl q.few m.0 (token_of (SquareGuarding h g) q.going m)

-- a state shows no fault exactly if it is quiet, and the next piece is small
pub shows_nothing : (last at : ℕ) (f : GrammarState) (next behind : Option Piece)
    → (last_faults last f next ++ next_faults at f next behind ≡ []) ↔ (IsQuiet f next behind × IsNextSmall f next behind)
shows_nothing last at f next behind = (
  λ h.
      let s = silent last at f next behind h in (
        quiet_of last at next behind f s,
        (s.name, ((token_quiet at (shown.open_expression f next behind) next behind).0 s.tokens).small),
      ),
  λ h. shows_none last at f next behind (silent_of last at next behind f h.0 h.1),
)
