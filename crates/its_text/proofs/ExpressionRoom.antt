-- The limits of an expression with one more token: it is within them exactly if it was before and the test of the limit
-- fails.
use Rattle.std.proofs.Common.{◌≡◌, ℕ, zero, suc, ◌+◌, ◌≤◌, min, Bool, true, false, not, if◌then◌else◌, ◌&&◌, ◌==◌, ◌↔◌}
use Rattle.std.proofs.Common.{nat_le, List, [], ◌∷◌, ◌++◌, length, length-append, Option, Some, None, refl, ap, sym}
use Rattle.std.proofs.Common.{◌∙◌, arith}
use Rattle.expr_text.specs.model.Programs.{Name}
use Rattle.expr_text.specs.model.Limits.{variable_limit, token_limit}
use Rattle.expr_text.specs.text_core.Names.{is_among}
use Rattle.expr_text.specs.Pieces as inner
use Rattle.expr_text.specs.Terms.{with_name}
use Rattle.expr_text.specs.GrammarStates as expression
use Rattle.expr_text.specs.Steps as expression_steps
use Rattle.expr_text.specs.StateNames.{names_with_state, truth_worded, token_count, is_state, goes_on_with, begins_expression}
use Rattle.expr_text.proofs.StateSteps.{token_more, nothing_read, first_begins, with_piece, names_more, begins_truth}
use Rattle.its_text.specs.Pieces.{Piece}
use Rattle.its_text.specs.StateFaults as shown
use Rattle.its_text.specs.StateFaults.{OpenExpression, is_operating}
use Rattle.its_text.proofs.RoomLaws.{below, not_at, is_zero, not_zero, and_true}
use Rattle.its_text.proofs.KeptStates.{begun}

-- a piece continues an expression exactly if its step accepts it
pub goes_on : (e f : expression.GrammarState) (p : inner.Piece) → expression_steps.step e p ≡ Some f → goes_on_with e p ≡ true
goes_on e f p same = ap is_state same

-- a piece that an expression's step rejects doesn't continue it
pub goes_off : (e : expression.GrammarState) (p : inner.Piece) → expression_steps.step e p ≡ None → goes_on_with e p ≡ false
goes_off e p same = ap is_state same

-- With one more token an expression is within the limit exactly if there was room for it.
pub room_for_token : (e f : expression.GrammarState) (p : inner.Piece) → expression_steps.step e p ≡ Some f
    → (token_count f ≤ token_limit) ↔ ((token_count e ≤ token_limit) × (nat_le token_limit (token_count e) ≡ false))
room_for_token e f p same =
    let more = token_more e f p same in (
      λ h. let few : suc (token_count e) ≤ token_limit = omega (arith, h, more) in
          (omega (arith, few), not_at token_limit (token_count e) few),
      λ h. let few = below token_limit (token_count e) h.1 in omega (arith, few, more),
    )

-- With one more name the variables are within the limit exactly if the test for it fails.
name_room : (names : List Name) (n : Name) (v : Bool) → is_among n names ≡ v
    → (length (with_name names n) ≤ variable_limit)
    ↔ ((length names ≤ variable_limit) × ((not v && nat_le variable_limit (length names)) ≡ false))
name_room names n true e =
    let same : length (with_name names n) ≡ length names
    = ap (λ (v : Bool). length (if v then names else names ++ n ∷ [])) e in
    (λ h. (omega (arith, h, same), refl), λ h. let few = h.0 in omega (arith, few, same))
name_room names n false e =
    let same : length (with_name names n) ≡ length names + 1 = ap
    (λ (v : Bool). length (if v then names else names ++ n ∷ [])) e ∙ length-append names (n ∷ []) in (
      λ h. let few : suc (length names) ≤ variable_limit = omega (arith, h, same) in
          (omega (arith, few), not_at variable_limit (length names) few),
      λ h. let few = below variable_limit (length names) h.1 in omega (arith, few, same),
    )

-- with a name the variables are within the limit exactly if they were and there was room for it
pub room_for_name : (names : List Name) (n : Name)
    → (length (with_name names n) ≤ variable_limit)
    ↔ ((length names ≤ variable_limit) × ((not (is_among n names) && nat_le variable_limit (length names)) ≡ false))
room_for_name names n =
    let room = name_room names n (is_among n names) refl in
    (room.0, room.1)

-- The expression that is being read, if the atom that always holds can't come.
abbrev pub plain_going : List Name → expression.GrammarState → OpenExpression
plain_going names e = record { names = names; grammar_state = e; leads_atom = false }

piece_room : (names : List Name) (e : expression.GrammarState) (p : inner.Piece) (behind : Option Piece)
    → (length (with_piece (names_with_state names e) p) ≤ variable_limit)
    ↔ ((length (names_with_state names e) ≤ variable_limit) × (shown.passes_variables (plain_going names e) p behind ≡ false))
piece_room names e (inner.Word n) behind = room_for_name (names_with_state names e) n
piece_room names e (inner.Digits ds) behind = (λ h. (h, refl), λ h. h.0)
piece_room names e inner.Open behind = (λ h. (h, refl), λ h. h.0)
piece_room names e inner.Close behind = (λ h. (h, refl), λ h. h.0)
piece_room names e inner.Plus behind = (λ h. (h, refl), λ h. h.0)
piece_room names e inner.Minus behind = (λ h. (h, refl), λ h. h.0)
piece_room names e inner.Times behind = (λ h. (h, refl), λ h. h.0)
piece_room names e inner.Caret behind = (λ h. (h, refl), λ h. h.0)
piece_room names e (inner.Related sign) behind = (λ h. (h, refl), λ h. h.0)
piece_room names e (inner.Joining joint) behind = (λ h. (h, refl), λ h. h.0)

-- with a piece the variables are within the limit exactly if they were and the test for it fails
pub room_for_piece : (names : List Name) (e f : expression.GrammarState) (p : inner.Piece) (behind : Option Piece)
    → expression_steps.step e p ≡ Some f
    → (length (names_with_state names f) ≤ variable_limit)
    ↔ ((length (names_with_state names e) ≤ variable_limit) × (shown.passes_variables (plain_going names e) p behind ≡ false))
room_for_piece names e f p behind same =
    let more = ap length (names_more names e f p same) in
    let room = piece_room names e p behind in (
      λ h.
          room.0
          (let few : length (with_piece (names_with_state names e) p) ≤ variable_limit = omega (arith, h, more) in few),
      λ h. let few = room.1 h in omega (arith, few, more),
    )

-- With one more argument or atom a limit is kept exactly if there was room, where the token begins the new one.
begun_room : (limit n : ℕ) (e f : expression.GrammarState) (p : inner.Piece) → expression_steps.step e p ≡ Some f → (v : Bool)
    → (token_count e == 0) ≡ v
    → (n + begun f ≤ limit) ↔ ((n + begun e ≤ limit) × ((v && nat_le limit n && begins_expression p) ≡ false))
begun_room limit n e f p same true e0 =
    let more = token_more e f p same in
    let none = is_zero (token_count e) e0 in
    let begins = first_begins e f p none same in
    let test : (nat_le limit n && begins_expression p) ≡ nat_le limit n = ap (λ (v : Bool). nat_le limit n && v) begins
    ∙ and_true (nat_le limit n) in (
      λ h.
          let few : suc n ≤ limit = omega (arith, h, more) in
          (omega (arith, few, none), test ∙ not_at limit n few),
      λ h.
          let few = below limit n (sym test ∙ h.1) in
          omega (arith, few, more),
    )
begun_room limit n e f p same false e0 =
    let more = token_more e f p same in
    let some = not_zero (token_count e) e0 in
    (λ h. (omega (arith, h, some, more), refl), λ h. let few = h.0 in omega (arith, few, some, more))

-- with one more that a piece begins a limit is kept exactly if it was and there was room
pub room_for_one : (limit n : ℕ) (e f : expression.GrammarState) (p : inner.Piece) → expression_steps.step e p ≡ Some f
    → (n + begun f ≤ limit)
    ↔ ((n + begun e ≤ limit) × (((token_count e == 0) && nat_le limit n && begins_expression p) ≡ false))
room_for_one limit n e f p same = begun_room limit n e f p same (token_count e == 0) refl

-- an expression with a token has begun
pub some_begun : (e : expression.GrammarState) → ¬ (token_count e ≡ 0) → begun e ≡ 1
some_begun e some = go (token_count e) some
  where
    go : (n : ℕ) → ¬ (n ≡ 0) → min n 1 ≡ 1
    go zero h = absurd (h refl)
    go (suc n) h = omega arith

-- The expression that is being read, if the atom that always holds can come.
abbrev pub leading : List Name → expression.GrammarState → OpenExpression
leading names e = record { names = names; grammar_state = e; leads_atom = true }

first_holds : (a b c : Bool) → (a && b && c) ≡ true → a ≡ true
first_holds true b c h = refl
first_holds false b c h = cc

word_room : (names : List Name) (e : expression.GrammarState) (n : Name) (behind : Option Piece) (v : Bool)
    → (begins_truth e (inner.Word n) && not (is_operating behind)) ≡ v
    → (length (if v then names else with_piece (names_with_state names e) (inner.Word n)) ≤ variable_limit)
    ↔ ((length (names_with_state names e) ≤ variable_limit) ×
    ((not v && not (is_among n (names_with_state names e)) && nat_le variable_limit (length (names_with_state names e))) ≡ false))
word_room names e n behind true is =
    let none =
    is_zero (token_count e) (first_holds (token_count e == 0) (truth_worded n) (not (is_operating behind)) is) in
    let same : length (names_with_state names e) ≡ length names
    = ap (λ f. length (names_with_state names f)) (nothing_read e none) in
    (λ h. (omega (arith, h, same), refl), λ h. let few = h.0 in omega (arith, few, same))
word_room names e n behind false is = room_for_name (names_with_state names e) n

-- If the atom that always holds can come, the variables are within the limit exactly if they were and the test for it
-- fails.
pub leading_room : (names : List Name) (e : expression.GrammarState) (p : inner.Piece) (behind : Option Piece)
    → (length (if begins_truth e p && not (is_operating behind) then names else with_piece (names_with_state names e) p) ≤
    variable_limit)
    ↔ ((length (names_with_state names e) ≤ variable_limit) × (shown.passes_variables (leading names e) p behind ≡ false))
leading_room names e (inner.Word n) behind =
    word_room names e n behind (begins_truth e (inner.Word n) && not (is_operating behind)) refl
leading_room names e (inner.Digits ds) behind = (λ h. (h, refl), λ h. h.0)
leading_room names e inner.Open behind = (λ h. (h, refl), λ h. h.0)
leading_room names e inner.Close behind = (λ h. (h, refl), λ h. h.0)
leading_room names e inner.Plus behind = (λ h. (h, refl), λ h. h.0)
leading_room names e inner.Minus behind = (λ h. (h, refl), λ h. h.0)
leading_room names e inner.Times behind = (λ h. (h, refl), λ h. h.0)
leading_room names e inner.Caret behind = (λ h. (h, refl), λ h. h.0)
leading_room names e (inner.Related sign) behind = (λ h. (h, refl), λ h. h.0)
leading_room names e (inner.Joining joint) behind = (λ h. (h, refl), λ h. h.0)
