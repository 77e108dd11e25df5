-- Each step after `:|:` and a name after it keeps the limits: what was read is within them after the step exactly if it
-- was before and the state is quiet (it shows no fault at the next token).
use Rattle.std.proofs.Common.{◌≡◌, Bool, true, false, if◌then◌else◌, ◌&&◌, ◌↔◌, nat_le, List, ◌∷◌, length}
use Rattle.std.proofs.Common.{Option, Some, None, refl, ap, sym, subst, ◌∙◌}
use Rattle.expr_text.specs.model.Programs.{Name}
use Rattle.expr_text.specs.model.Limits.{rule_limit}
use Rattle.expr_text.specs.Pieces as inner
use Rattle.expr_text.specs.GuardGrammarStates as guards
use Rattle.expr_text.specs.GuardGrammarStates.{GuardGrammarState}
use Rattle.its_text.specs.Pieces.{Piece, In, word}
use Rattle.its_text.specs.Written.{NoGuard, BehindMark}
use Rattle.its_text.specs.GrammarStates.{Headed, rule_with, ruling_with, GrammarState, GuardMarked, WordRead, MarkGuarding}
use Rattle.its_text.specs.Steps.{guard_named, behind_mark, behind_word}
use Rattle.its_text.specs.StateNames.{headed_names}
use Rattle.its_text.specs.StateFaults as shown
use Rattle.its_text.specs.StateFaults.{open_expression_in, is_open}
use Rattle.its_text.proofs.RoomLaws.{contrary}
use Rattle.its_text.proofs.KeptStates.{first, IsHeadedKept, HasGuardKept, IsGoingQuiet}
use Rattle.its_text.proofs.SectionTurns.{Turns, rules_done}
use Rattle.its_text.proofs.LeftTurns.{room_for_rule}
use Rattle.its_text.proofs.MadeRules.{no_marked}
use Rattle.its_text.proofs.RuleTurns.{guard_first, mark_guarding_turns}

-- a name after `:|:` begins another rule before a bracket, and else an atom
abbrev IsWordQuiet : Headed → Name → Option Piece → Bool → Type 0
IsWordQuiet h name behind opens =
    IsGoingQuiet (if opens then None else open_expression_in (headed_names h) guards.no_atoms) (Some (word name)) behind

marked_word : (h : Headed) (name : Name) (ps : List Piece) (v : Bool) → is_open (first ps) ≡ v
    → Turns (GuardMarked h) (word name) ps (Some (WordRead h name))
marked_word h name ps true e =
    let full : Bool = nat_le rule_limit (length (rule_with h NoGuard ∷ h.led.ruling.rules)) in
    let room = room_for_rule (ruling_with h (BehindMark None)) in
    let made = no_marked h in (
      λ k.
          let most = room.0 (made.1 k.0, k.1.rule e) in (
            k.0,
            (
              ap (λ (v : Bool). v && full) e ∙ most.1,
              subst (IsWordQuiet h name (first ps)) (sym e) tt,
            ),
          ),
      λ k. (
        k.0,
        record {
          rule = λ _. (room.1 (made.1 k.0, sym (ap (λ (v : Bool). v && full) e) ∙ k.1.0)).1;
          atom = λ stop_kind. contrary (is_open (first ps)) e stop_kind;
        },
      ),
    )
marked_word h name ps false e =
    let full : Bool = nat_le rule_limit (length (rule_with h NoGuard ∷ h.led.ruling.rules)) in
    let begins = guard_first h (guard_named name) (inner.Word name) (first ps) refl in (
      λ k. (
        k.0,
        (
          ap (λ (v : Bool). v && full) e,
          subst (IsWordQuiet h name (first ps)) (sym e) (begins.0 (k.0, k.1.atom e)).1,
        ),
      ),
      λ k. (
        k.0,
        record {
          rule = λ on. contrary (is_open (first ps)) on e;
          atom = λ _. (begins.1 (k.0, subst (IsWordQuiet h name (first ps)) e k.1.1)).1;
        },
      ),
    )

marked_first : (h : Headed) (g : GuardGrammarState) (p : inner.Piece) (ps : List Piece)
    → guards.step guards.no_atoms p ≡ Some g
    → (IsHeadedKept h × HasGuardKept h g (first ps))
    ↔ (IsHeadedKept h
    × ((false ≡ false) × IsGoingQuiet (open_expression_in (headed_names h) guards.no_atoms) (Some (In p)) (first ps)))
marked_first h g p ps same =
    let begins = guard_first h g p (first ps) same in
    (λ k. let x = begins.0 k in (x.0, (refl, x.1)), λ k. begins.1 (k.0, k.1.1))

-- directly after `:|:` each step keeps the limits exactly if the state is quiet
pub guard_marked_turns : (h : Headed) (p : inner.Piece) (ps : List Piece)
    → Turns (GuardMarked h) (In p) ps (behind_mark h p)
guard_marked_turns h (inner.Word name) ps = marked_word h name ps (is_open (first ps)) refl
guard_marked_turns h inner.Close ps =
    let done = rules_done (ruling_with h (BehindMark None)) in
    let made = no_marked h in
    (λ k. (made.0 (done.0 k), (refl, λ on. cc)), λ k. done.1 (made.1 k.0))
guard_marked_turns h (inner.Digits ds) ps = marked_first h _ (inner.Digits ds) ps refl
guard_marked_turns h inner.Open ps = marked_first h _ inner.Open ps refl
guard_marked_turns h inner.Minus ps = marked_first h _ inner.Minus ps refl
guard_marked_turns h inner.Plus ps = tt
guard_marked_turns h inner.Times ps = tt
guard_marked_turns h inner.Caret ps = tt
guard_marked_turns h (inner.Related sign) ps = tt
guard_marked_turns h (inner.Joining joint) ps = tt

-- A step after such a name that continues its atom keeps the limits exactly if the state is quiet.
as_guarding : (h : Headed) (name : Name) (p : inner.Piece) (ps : List Piece) → is_open (Some (In p)) ≡ false
    → shown.too_many_rules (WordRead h name) (Some (In p)) (first ps)
    ≡ shown.too_many_rules (MarkGuarding h (guard_named name)) (Some (In p)) (first ps)
    → (o : Option GrammarState) → Turns (MarkGuarding h (guard_named name)) (In p) ps o → Turns (WordRead h name) (In p) ps o
as_guarding h name p ps closed rules None turns = tt
as_guarding h name p ps closed rules (Some g) turns = (
  λ k.
      let x = turns.0 k in (
        (x.0.0, record { rule = λ on. contrary (is_open (Some (In p))) on closed; atom = λ _. x.0.1 }),
        (rules ∙ x.1.0, x.1.1.going),
      ),
  λ k. turns.1 ((k.0.0, k.0.1.atom closed), (sym rules ∙ k.1.0, record { atom = tt; few = refl; going = k.1.1 })),
)

word_opens : (h : Headed) (name : Name) (ps : List Piece)
    → Turns (WordRead h name) (In inner.Open) ps (behind_word h name inner.Open)
word_opens h name ps =
    let made = no_marked h in (
      λ k. ((made.0 k.0, record { rule = λ _. k.1; atom = λ stop_kind. cc }), (refl, λ on. cc)),
      λ k. (made.1 k.0.0, k.0.1.rule refl),
    )

-- after a name directly after `:|:` each step keeps the limits exactly if the state is quiet
pub word_read_turns : (h : Headed) (name : Name) (p : inner.Piece) (ps : List Piece)
    → Turns (WordRead h name) (In p) ps (behind_word h name p)
word_read_turns h name inner.Open ps = word_opens h name ps
word_read_turns h name (inner.Word n) ps =
    as_guarding h name (inner.Word n) ps refl refl (behind_word h name (inner.Word n))
    (mark_guarding_turns h (guard_named name) (inner.Word n) ps)
word_read_turns h name (inner.Digits ds) ps =
    as_guarding h name (inner.Digits ds) ps refl refl (behind_word h name (inner.Digits ds))
    (mark_guarding_turns h (guard_named name) (inner.Digits ds) ps)
word_read_turns h name inner.Close ps =
    as_guarding h name inner.Close ps refl refl (behind_word h name inner.Close)
    (mark_guarding_turns h (guard_named name) inner.Close ps)
word_read_turns h name inner.Plus ps =
    as_guarding h name inner.Plus ps refl refl (behind_word h name inner.Plus)
    (mark_guarding_turns h (guard_named name) inner.Plus ps)
word_read_turns h name inner.Minus ps =
    as_guarding h name inner.Minus ps refl refl (behind_word h name inner.Minus)
    (mark_guarding_turns h (guard_named name) inner.Minus ps)
word_read_turns h name inner.Times ps =
    as_guarding h name inner.Times ps refl refl (behind_word h name inner.Times)
    (mark_guarding_turns h (guard_named name) inner.Times ps)
word_read_turns h name inner.Caret ps =
    as_guarding h name inner.Caret ps refl refl (behind_word h name inner.Caret)
    (mark_guarding_turns h (guard_named name) inner.Caret ps)
word_read_turns h name (inner.Related sign) ps =
    as_guarding h name (inner.Related sign) ps refl refl (behind_word h name (inner.Related sign))
    (mark_guarding_turns h (guard_named name) (inner.Related sign) ps)
word_read_turns h name (inner.Joining joint) ps =
    as_guarding h name (inner.Joining joint) ps refl refl (behind_word h name (inner.Joining joint))
    (mark_guarding_turns h (guard_named name) (inner.Joining joint) ps)
