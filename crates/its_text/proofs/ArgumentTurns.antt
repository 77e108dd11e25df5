-- Each step within or after the arguments of a right term keeps the limits: what was read is within them after the step
-- exactly if it was before and the state is quiet (it shows no fault at the next token).
use Rattle.std.proofs.Common.{◌≡◌, false, not, ◌↔◌, List, [], ◌∷◌, length, Option, Some, None, refl, ap, sym, subst}
use Rattle.std.proofs.Common.{arith}
use Rattle.expr_text.specs.model.Limits.{place_limit}
use Rattle.expr_text.specs.Pieces as inner
use Rattle.expr_text.specs.Trees.{Sum}
use Rattle.expr_text.specs.Terms.{with_sum}
use Rattle.expr_text.specs.GrammarStates as expression
use Rattle.expr_text.specs.Steps as expression_steps
use Rattle.expr_text.specs.StateNames.{goes_on_with}
use Rattle.expr_text.proofs.Stability.{sum_extends}
use Rattle.expr_text.proofs.StateSteps.{token_ended, ended_there, names_ended}
use Rattle.its_text.specs.Pieces.{Piece, In, Comma}
use Rattle.its_text.specs.Written.{RightTerm, Target, Marked, Bare}
use Rattle.its_text.specs.Numbering.{term_in, arrow_names, with_right}
use Rattle.its_text.specs.GrammarStates.{ArrowRead, Wrap, InCom, Alone, Aimed, RightOpened, Arguing, TargetClosed}
use Rattle.its_text.specs.Steps.{shut_by, behind_comma, behind_argument, argument_step, behind_open, step}
use Rattle.its_text.specs.StateNames.{symbols_behind, names_with}
use Rattle.its_text.specs.StateFaults.{bare_differs}
use Rattle.its_text.proofs.ValidRules.{sums_are_read}
use Rattle.its_text.proofs.RoomLaws.{contrary, passes_not, and_false, arity_same, arguments_stay}
use Rattle.its_text.proofs.KeptStates.{first, IsAimedKept, HasRight, HasTargetArity, IsTargetKept, IsArguingKept}
use Rattle.its_text.proofs.KeptStates.{IsGoingQuiet, IsArgumentExpanded, IsArgumentQuiet, IsKept}
use Rattle.its_text.proofs.SectionTurns.{Turns}
use Rattle.its_text.proofs.ExpressionRoom.{goes_on, goes_off, room_for_token, plain_going, room_for_piece, room_for_one}
use Rattle.its_text.proofs.ExpressionRoom.{some_begun}

-- A step that continues an argument keeps the limits exactly if the state is quiet.
pub argument_goes_on : (a : Aimed) (arguments : List Sum) (e f : expression.GrammarState) (p : inner.Piece)
    (behind : Option Piece) → expression_steps.step e p ≡ Some f
    → IsArguingKept a arguments f ↔ (IsArguingKept a arguments e × IsArgumentQuiet a arguments e (Some (In p)) behind)
argument_goes_on a arguments e f p behind same =
    let names = names_with a.led arguments in
    let few = room_for_one place_limit (length arguments) e f p same in
    let tokens = room_for_token e f p same in
    let variables = room_for_piece names e f p behind same in
    let on = goes_on e f p same in (
      λ h.
          let x = few.0 h.few in
          let y = tokens.0 h.tokens in
          let z = variables.0 h.variables in (
            record { aimed = h.aimed; few = x.0; earlier = h.earlier; tokens = y.0; variables = z.0 },
            record {
              argument = λ ends. contrary (goes_on_with e p) on (passes_not (goes_on_with e p) ends);
              few = x.1;
              going = λ k. (z.1, y.1);
            },
          ),
      λ h.
          let g = h.1.going on in
          record {
            aimed = h.0.aimed;
            few = few.1 (h.0.few, h.1.few);
            earlier = h.0.earlier;
            tokens = tokens.1 (h.0.tokens, g.1);
            variables = variables.1 (h.0.variables, g.0);
          },
    )

-- The state in which an argument must follow is within the limits exactly if the earlier arguments are.
pub argument_wanted : (a : Aimed) (arguments : List Sum) → IsArguingKept a arguments expression.beginning
    ↔ HasRight a.led (record { name = a.name; arguments = arguments })
argument_wanted a arguments = (
  λ h. record {
    led = h.aimed.0;
    symbol = h.aimed.1;
    few = (let few = h.few in omega (arith, few));
    arguments = h.earlier;
    variables = h.variables;
  },
  λ h. record {
    aimed = (h.led, h.symbol);
    few = (let few = h.few in omega (arith, few));
    earlier = h.arguments;
    tokens = omega arith;
    variables = h.variables;
  },
)

-- a right term without arguments is within the limits exactly if what was read before it is
pub no_argument : (a : Aimed) → HasRight a.led (record { name = a.name; arguments = [] }) ↔ IsAimedKept a
no_argument a = (
  λ h. (h.led, h.symbol),
  λ h. record {
    led = h.0;
    symbol = h.1;
    few = omega arith;
    arguments = tt;
    variables = h.0.variables;
  },
)

-- The state after the end of an argument is within the limits exactly if the one before is and the argument can be
-- expanded.
pub argument_ends : (a : Aimed) (arguments : List Sum) (e : expression.GrammarState) (s : Sum)
    → expression_steps.finish e ≡ Some s
    → HasRight a.led (record { name = a.name; arguments = s ∷ arguments })
    ↔ (IsArguingKept a arguments e × IsArgumentExpanded (names_with a.led arguments) (Some s))
argument_ends a arguments e s same =
    let names = names_with a.led arguments in
    let tokens = token_ended e s same in
    let some = some_begun e (ended_there e s same) in
    let named = ap length (names_ended names e s same) in
    let stay = arguments_stay names (with_sum names s) (sum_extends names s) arguments
    (sums_are_read (arrow_names a.led.left a.led.cost) arguments) in (
      λ h. (
        record {
          aimed = (h.led, h.symbol);
          few = (let few = h.few in omega (arith, few));
          earlier = stay.1 h.arguments.1;
          tokens = (let few = h.arguments.0.tokens in omega (arith, few, tokens));
          variables = (let few = h.variables in omega (arith, few, named));
        },
        h.arguments.0.expanded,
      ),
      λ h.
          record {
            led = h.0.aimed.0;
            symbol = h.0.aimed.1;
            few = (let few = h.0.few in omega (arith, few, some));
            arguments = (
              record {
                tokens = (let few = h.0.tokens in omega (arith, few, tokens));
                expanded = h.1;
              },
              stay.0 h.0.earlier,
            );
            variables = (let few = h.0.variables in omega (arith, few, named));
          },
    )

-- The state after a right term is within the limits exactly if the term is.
pub closed_kept : (l : ArrowRead) (wrap : Wrap) (t : RightTerm) (ps : List Piece) → IsKept (shut_by l wrap t) ps ↔ HasRight l t
closed_kept l InCom t ps = (λ h. h, λ h. h)
closed_kept l Alone t ps = (λ h. h, λ h. h)

-- A step that begins an argument after the bracket of a right term keeps the limits exactly if the state is quiet.
opened : (a : Aimed) (f : expression.GrammarState) (p : inner.Piece) (ps : List Piece)
    → expression_steps.step expression.beginning p ≡ Some f → Turns (RightOpened a) (In p) ps (Some (Arguing a [] f))
opened a f p ps same =
    let on = argument_goes_on a [] expression.beginning f p (first ps) same in
    let wanted = argument_wanted a [] in
    let none = no_argument a in (
      λ h. let k = on.0 h in (none.0 (wanted.0 k.0), k.1.going),
      λ h. on.1 (wanted.1 (none.1 h.0), record { argument = λ ends. tt; few = refl; going = h.1 }),
    )

-- after the bracket of a right term each step keeps the limits exactly if the state is quiet
pub opened_turns : (a : Aimed) (p : inner.Piece) (ps : List Piece) → Turns (RightOpened a) (In p) ps (behind_open a p)
opened_turns a (inner.Word n) ps = opened a _ (inner.Word n) ps refl
opened_turns a (inner.Digits ds) ps = opened a _ (inner.Digits ds) ps refl
opened_turns a inner.Open ps = opened a _ inner.Open ps refl
opened_turns a inner.Minus ps = opened a _ inner.Minus ps refl
opened_turns a inner.Close ps =
    let shut = closed_kept a.led a.wrap (record { name = a.name; arguments = [] }) ps in
    let none = no_argument a in
    (λ h. (none.0 (shut.0 h), λ k. cc), λ h. shut.1 (none.1 h.0))
opened_turns a inner.Plus ps = tt
opened_turns a inner.Times ps = tt
opened_turns a inner.Caret ps = tt
opened_turns a (inner.Related sign) ps = tt
opened_turns a (inner.Joining joint) ps = tt

-- If a token doesn't continue an argument, the state shows no fault of the expression.
stop_kind_quiet : (a : Aimed) (arguments : List Sum) (e : expression.GrammarState) (p : inner.Piece) (behind : Option Piece)
    → expression_steps.step e p ≡ None
    → IsGoingQuiet (Some (plain_going (names_with a.led arguments) e)) (Some (In p)) behind
stop_kind_quiet a arguments e p behind same = λ on. contrary (goes_on_with e p) on (goes_off e p same)

argued_by : (a : Aimed) (arguments : List Sum) (e : expression.GrammarState) (p : inner.Piece) (ps : List Piece)
    (o : Option Sum) → expression_steps.finish e ≡ o → expression_steps.step e p ≡ None
    → Turns (Arguing a arguments e) (In p) ps (behind_argument a arguments o p)
argued_by a arguments e p ps None same stop_kind = tt
argued_by a arguments e inner.Close ps (Some s) same stop_kind =
    let shut = closed_kept a.led a.wrap (record { name = a.name; arguments = s ∷ arguments }) ps in
    let ends = argument_ends a arguments e s same in (
      λ h.
          let k = ends.0 (shut.0 h) in (
            k.0,
            record {
              argument = λ _. subst (IsArgumentExpanded (names_with a.led arguments)) (sym same) k.1;
              few = and_false _;
              going = stop_kind_quiet a arguments e inner.Close (first ps) stop_kind;
            },
          ),
      λ h.
          shut.1
          (ends.1 (
            h.0,
            subst (IsArgumentExpanded (names_with a.led arguments)) same
                (h.1.argument (ap not (goes_off e inner.Close stop_kind))),
          )),
    )
argued_by a arguments e (inner.Word n) ps (Some s) same stop_kind = tt
argued_by a arguments e (inner.Digits ds) ps (Some s) same stop_kind = tt
argued_by a arguments e inner.Open ps (Some s) same stop_kind = tt
argued_by a arguments e inner.Plus ps (Some s) same stop_kind = tt
argued_by a arguments e inner.Minus ps (Some s) same stop_kind = tt
argued_by a arguments e inner.Times ps (Some s) same stop_kind = tt
argued_by a arguments e inner.Caret ps (Some s) same stop_kind = tt
argued_by a arguments e (inner.Related sign) ps (Some s) same stop_kind = tt
argued_by a arguments e (inner.Joining joint) ps (Some s) same stop_kind = tt

arguing_by : (a : Aimed) (arguments : List Sum) (e : expression.GrammarState) (p : inner.Piece) (ps : List Piece)
    (o : Option expression.GrammarState) → expression_steps.step e p ≡ o
    → Turns (Arguing a arguments e) (In p) ps (argument_step a arguments e o p)
arguing_by a arguments e p ps (Some f) same = argument_goes_on a arguments e f p (first ps) same
arguing_by a arguments e p ps None same = argued_by a arguments e p ps (expression_steps.finish e) refl same

-- within an argument each step keeps the limits exactly if the state is quiet
pub arguing_turns : (a : Aimed) (arguments : List Sum) (e : expression.GrammarState) (p : inner.Piece) (ps : List Piece)
    → Turns (Arguing a arguments e) (In p) ps (step (Arguing a arguments e) (In p))
arguing_turns a arguments e p ps = arguing_by a arguments e p ps (expression_steps.step e p) refl

parted_by : (a : Aimed) (arguments : List Sum) (e : expression.GrammarState) (ps : List Piece) (o : Option Sum)
    → expression_steps.finish e ≡ o → Turns (Arguing a arguments e) Comma ps (behind_comma a arguments o)
parted_by a arguments e ps None same = tt
parted_by a arguments e ps (Some s) same =
    let wanted = argument_wanted a (s ∷ arguments) in
    let ends = argument_ends a arguments e s same in (
      λ h.
          let k = ends.0 (wanted.0 h) in (
            k.0,
            record {
              argument = λ _. subst (IsArgumentExpanded (names_with a.led arguments)) (sym same) k.1;
              few = and_false _;
              going = tt;
            },
          ),
      λ h. wanted.1 (ends.1 (h.0, subst (IsArgumentExpanded (names_with a.led arguments)) same (h.1.argument refl))),
    )

-- a comma after an argument keeps the limits exactly if the state is quiet
pub parted_turns : (a : Aimed) (arguments : List Sum) (e : expression.GrammarState) (ps : List Piece)
    → Turns (Arguing a arguments e) Comma ps (behind_comma a arguments (expression_steps.finish e))
parted_turns a arguments e ps = parted_by a arguments e ps (expression_steps.finish e) refl

-- A step after `Com_1(` and its term keeps the limits exactly if the state is quiet.
pub right_closed_turns : (l : ArrowRead) (t : RightTerm) (ps : List Piece)
    → Turns (TargetClosed l t) (In inner.Close) ps (step (TargetClosed l t) (In inner.Close))
right_closed_turns l t ps =
    let same = arity_same (with_right (symbols_behind l) t) t.name (length t.arguments) in
    (λ h. (h.0, same.1 h.1), λ h. (h.0, same.0 h.1))

-- a target's term is within the limits and has its symbol's arity exactly if the target is within the limits and no
-- arity differs
pub target_kept : (l : ArrowRead) (target : Target) → (HasRight l (term_in target) × HasTargetArity l (term_in target))
    ↔ (IsTargetKept l target × (bare_differs l target ≡ false))
target_kept l (Marked t) = (λ h. (h, refl), λ h. h.0)
target_kept l (Bare t) =
    let same = arity_same (with_right (symbols_behind l) t) t.name (length t.arguments) in
    (λ h. (h.0, same.1 h.1), λ h. (h.0, same.0 h.1))
