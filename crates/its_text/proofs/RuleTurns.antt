-- Each step from the target of a rule to the rule's end keeps the limits: what was read is within them after the step
-- exactly if it was before and the state is quiet (it shows no fault at the next token).
use Rattle.std.proofs.Common.{◌≡◌, ℕ, ◌+◌, Bool, true, false, not, ◌&&◌, ◌==◌, ◌↔◌, nat_le, List, ◌∷◌, length}
use Rattle.std.proofs.Common.{Option, Some, None, refl, ap, sym, ◌∙◌, arith}
use Rattle.std.proofs.lemmas.Bool.Decides.{nat_tests}
use Rattle.expr_text.specs.model.Programs.{Name}
use Rattle.expr_text.specs.model.Limits.{rule_limit, atom_limit}
use Rattle.expr_text.specs.Pieces as inner
use Rattle.expr_text.specs.GrammarStates as expression
use Rattle.expr_text.specs.Steps as expression_steps
use Rattle.expr_text.specs.Guards.{Atom, Atoms, count_of}
use Rattle.expr_text.specs.GuardGrammarStates as guards
use Rattle.expr_text.specs.GuardGrammarStates.{NoAtoms, JointAfter, GuardGrammarState, LeftSide, RightSide, truth_of}
use Rattle.expr_text.specs.StateNames.{token_count, is_state, goes_on_with}
use Rattle.expr_text.proofs.StateSteps.{truth_is_one}
use Rattle.its_text.specs.Pieces.{Piece, In, GuardMark, SquareOpen, SquareClose, word}
use Rattle.its_text.specs.Written.{NoGuard, BehindMark}
use Rattle.its_text.specs.Numbering.{atoms_of_cost}
use Rattle.its_text.specs.GrammarStates.{Headed, rule_with, ruling_with, Targeted, GuardMarked, MarkGuarding}
use Rattle.its_text.specs.GrammarStates.{SquareOpened, SquareGuarding}
use Rattle.its_text.specs.Steps.{behind_rule, guard_ended, mark_guard_step, square_guard_step, square_ended, step}
use Rattle.its_text.specs.StateNames.{headed_names}
use Rattle.its_text.specs.StateFaults as shown
use Rattle.its_text.specs.StateFaults.{open_expression_in, can_end, ends_expression, is_full}
use Rattle.its_text.proofs.RoomLaws.{contrary, and_false}
use Rattle.its_text.proofs.KeptStates.{first, IsHeadedKept, HasGuardKept, IsGoingQuiet}
use Rattle.its_text.proofs.SectionTurns.{Turns, rules_done}
use Rattle.its_text.proofs.LeftTurns.{room_for_rule}
use Rattle.its_text.proofs.MadeRules.{no_guard, no_squared, marked, in_squares}
use Rattle.its_text.proofs.ExpressionRoom.{goes_off}
use Rattle.its_text.proofs.ArgumentTurns.{target_kept}
use Rattle.its_text.proofs.GuardTurns.{guard_ends, guard_turns, guard_begins}

-- A step after a target that ends the rule keeps the limits exactly if the state is quiet.
pub targeted_turns : (h : Headed) (p : inner.Piece) (ps : List Piece)
    → Turns (Targeted h) (In p) ps (behind_rule (ruling_with h NoGuard) p)
targeted_turns h (inner.Word name) ps =
    let room = room_for_rule (ruling_with h NoGuard) in
    let made = no_guard h in
    let kept = target_kept h.led h.target in (
      λ k. let x = room.0 k in let y = kept.0 (made.0 x.0) in (y.0, (y.1, x.1)),
      λ k. room.1 (made.1 (kept.1 (k.0, k.1.0)), k.1.1),
    )
targeted_turns h inner.Close ps =
    let done = rules_done (ruling_with h NoGuard) in
    let made = no_guard h in
    let kept = target_kept h.led h.target in (
      λ k. let y = kept.0 (made.0 (done.0 k)) in (y.0, (y.1, refl)),
      λ k. done.1 (made.1 (kept.1 (k.0, k.1.0))),
    )
targeted_turns h (inner.Digits ds) ps = tt
targeted_turns h inner.Open ps = tt
targeted_turns h inner.Plus ps = tt
targeted_turns h inner.Minus ps = tt
targeted_turns h inner.Times ps = tt
targeted_turns h inner.Caret ps = tt
targeted_turns h (inner.Related sign) ps = tt
targeted_turns h (inner.Joining joint) ps = tt

-- `:|:` after a target keeps the limits exactly if the state is quiet
pub marks_turns : (h : Headed) (ps : List Piece) → Turns (Targeted h) GuardMark ps (Some (GuardMarked h))
marks_turns h ps =
    let kept = target_kept h.led h.target in
    (λ k. let y = kept.0 k in (y.0, (y.1, refl)), λ k. kept.1 (k.0, k.1.0))

-- `[` after a target keeps the limits exactly if the state is quiet
pub square_turns : (h : Headed) (ps : List Piece) → Turns (Targeted h) SquareOpen ps (Some (SquareOpened h))
square_turns h ps =
    let kept = target_kept h.led h.target in
    (λ k. let y = kept.0 k in (y.0, (y.1, refl)), λ k. kept.1 (k.0, k.1.0))

-- The first token of a guard keeps the limits exactly if the guard is quiet.
pub guard_first : (h : Headed) (g : GuardGrammarState) (p : inner.Piece) (behind : Option Piece)
    → guards.step guards.no_atoms p ≡ Some g
    → (IsHeadedKept h × HasGuardKept h g behind)
    ↔ (IsHeadedKept h × IsGoingQuiet (open_expression_in (headed_names h) guards.no_atoms) (Some (In p)) behind)
guard_first h g p behind same =
    let turns = guard_turns h.led.cost (headed_names h) guards.no_atoms g p behind same in (
      λ k. (k.0, (turns.0 k.1).1.going),
      λ k.
          let begins = guard_begins h.led.cost (headed_names h) (Some (In p)) k.0.0.variables in
          (k.0, turns.1 (begins, record { atom = tt; few = refl; going = k.1 })),
    )

-- a piece that a guard rejects doesn't continue the expression being read there
stop_kind_within : (g : GuardGrammarState) (p : inner.Piece) → guards.step g p ≡ None
    → expression_steps.step (guards.expression_in g) p ≡ None
stop_kind_within (LeftSide c e) p same = go (expression_steps.step e p) same
  where
    go : (o : Option expression.GrammarState) → guards.within (LeftSide c e) o p ≡ None → o ≡ None
    go None k = refl
    go (Some f) k = cc
stop_kind_within (RightSide c l sign e) p same = go (expression_steps.step e p) same
  where
    go : (o : Option expression.GrammarState) → guards.within (RightSide c l sign e) o p ≡ None → o ≡ None
    go None k = refl
    go (Some f) k = cc

-- a piece that continues a guard within an atom continues the expression being read there
pub goes_within : (g k : GuardGrammarState) (p : inner.Piece) → guards.step_behind g p ≡ None → guards.step g p ≡ Some k
    → goes_on_with (guards.expression_in g) p ≡ true
goes_within (LeftSide c e) k p behind same = go (expression_steps.step e p) same
  where
    go : (o : Option expression.GrammarState) → guards.within (LeftSide c e) o p ≡ Some k → is_state o ≡ true
    go None s = cc
    go (Some f) s = refl
goes_within (RightSide c l sign e) k p behind same = go (expression_steps.step e p) same
  where
    go : (o : Option expression.GrammarState) → guards.within (RightSide c l sign e) o p ≡ Some k → is_state o ≡ true
    go None s = cc
    go (Some f) s = refl

word_within : (g k : GuardGrammarState) (n : Name) → guards.step g (inner.Word n) ≡ Some k
    → goes_on_with (guards.expression_in g) (inner.Word n) ≡ true
word_within (LeftSide c e) k n same = goes_within (LeftSide c e) k (inner.Word n) refl same
word_within (RightSide c l sign e) k n same = goes_within (RightSide c l sign e) k (inner.Word n) refl same

no_rule_within : (h : Headed) (g k : GuardGrammarState) (p : inner.Piece) (behind : Option Piece) → guards.step g p ≡ Some k
    → shown.too_many_rules (MarkGuarding h g) (Some (In p)) behind ≡ false
no_rule_within h g k (inner.Word n) behind same =
    ap
    (λ (v : Bool). not v && can_end (guards.finish g) && nat_le rule_limit
    (length (rule_with h NoGuard ∷ h.led.ruling.rules))) (word_within g k n same)
no_rule_within h g k (inner.Digits ds) behind same = refl
no_rule_within h g k inner.Open behind same = refl
no_rule_within h g k inner.Close behind same = refl
no_rule_within h g k inner.Plus behind same = refl
no_rule_within h g k inner.Minus behind same = refl
no_rule_within h g k inner.Times behind same = refl
no_rule_within h g k inner.Caret behind same = refl
no_rule_within h g k (inner.Related sign) behind same = refl
no_rule_within h g k (inner.Joining joint) behind same = refl

-- atoms that can end don't begin another one
not_full : (others : ℕ) (g : GuardGrammarState) (atoms : Atoms) → guards.finish g ≡ Some atoms → is_full others g ≡ false
not_full others (LeftSide NoAtoms e) atoms same = refl
not_full others (RightSide c l sign e) atoms same = refl
not_full others (LeftSide (JointAfter earlier joint) e) atoms same = go (truth_of e) refl same
  where
    go : (o : Option Atom) → truth_of e ≡ o → guards.ended (JointAfter earlier joint) o ≡ Some atoms
        → is_full others (LeftSide (JointAfter earlier joint) e) ≡ false
    go None t s = cc
    go (Some a) t s =
        let one = (truth_is_one e a t).0 in
        let some : (token_count e == 0) ≡ false = grind (arith, nat_tests, one) in
        ap (λ (v : Bool). v && nat_le atom_limit (count_of earlier + others)) some

-- A guard after `:|:` ends before another rule, or before the end of the section.
module _ (h : Headed) (g : GuardGrammarState) (atoms : Atoms) (ends : guards.finish g ≡ Some atoms) (ps : List Piece) where
  abbrev full : Bool
  full = nat_le rule_limit (length (rule_with h NoGuard ∷ h.led.ruling.rules))

  stop_kind_quiet : (p : inner.Piece) → expression_steps.step (guards.expression_in g) p ≡ None
      → IsGoingQuiet (open_expression_in (headed_names h) g) (Some (In p)) (first ps)
  stop_kind_quiet p stop_kind =
      λ on. contrary (goes_on_with (guards.expression_in g) p) on (goes_off (guards.expression_in g) p stop_kind)

  word_ends : (n : Name) → expression_steps.step (guards.expression_in g) (inner.Word n) ≡ None
      → Turns (MarkGuarding h g) (word n) ps (behind_rule (ruling_with h (BehindMark (Some atoms))) (inner.Word n))
  word_ends n stop_kind =
      let room = room_for_rule (ruling_with h (BehindMark (Some atoms))) in
      let made = marked h atoms in
      let over : ends_expression (guards.expression_in g) (Some (word n)) ≡ true
      = ap not (goes_off (guards.expression_in g) (inner.Word n) stop_kind) in
      let ended = guard_ends h.led.cost (headed_names h) g atoms (Some (word n)) ends refl over in
      let rules : shown.too_many_rules (MarkGuarding h g) (Some (word n)) (first ps) ≡ full
      = ap (λ (v : Bool). v && can_end (guards.finish g) && full) over ∙ ap (λ o. can_end o && full) ends in (
        λ k.
            let x = room.0 k in
            let y = made.0 x.0 in
            let z = ended.0 y.1 in (
              (y.0, z.0),
              (
                rules ∙ x.1,
                record {
                  atom = z.1;
                  few = ap (λ (v : Bool). v && true)
                      (not_full (atoms_of_cost h.led.cost) g atoms ends);
                  going = stop_kind_quiet (inner.Word n) stop_kind;
                },
              ),
            ),
        λ k. room.1 (made.1 (k.0.0, ended.1 (k.0.1, k.1.1.atom)), sym rules ∙ k.1.0),
      )

  close_ends : expression_steps.step (guards.expression_in g) inner.Close ≡ None
      → Turns (MarkGuarding h g) (In inner.Close) ps (behind_rule (ruling_with h (BehindMark (Some atoms))) inner.Close)
  close_ends stop_kind =
      let done = rules_done (ruling_with h (BehindMark (Some atoms))) in
      let made = marked h atoms in
      let ended = guard_ends h.led.cost (headed_names h) g atoms (Some (In inner.Close)) ends refl
      (ap not (goes_off (guards.expression_in g) inner.Close stop_kind)) in (
        λ k.
            let y = made.0 (done.0 k) in
            let z = ended.0 y.1 in
            ((y.0, z.0), (refl, record { atom = z.1; few = and_false _; going = stop_kind_quiet inner.Close stop_kind })),
        λ k. done.1 (made.1 (k.0.0, ended.1 (k.0.1, k.1.1.atom))),
      )

  rule_ends : (p : inner.Piece) → expression_steps.step (guards.expression_in g) p ≡ None
      → Turns (MarkGuarding h g) (In p) ps (behind_rule (ruling_with h (BehindMark (Some atoms))) p)
  rule_ends (inner.Word n) stop_kind = word_ends n stop_kind
  rule_ends inner.Close stop_kind = close_ends stop_kind
  rule_ends (inner.Digits ds) stop_kind = tt
  rule_ends inner.Open stop_kind = tt
  rule_ends inner.Plus stop_kind = tt
  rule_ends inner.Minus stop_kind = tt
  rule_ends inner.Times stop_kind = tt
  rule_ends inner.Caret stop_kind = tt
  rule_ends (inner.Related sign) stop_kind = tt
  rule_ends (inner.Joining joint) stop_kind = tt

  -- the closing square bracket ends a guard in square brackets
  square_ends : Turns (SquareGuarding h g) SquareClose ps (square_ended h (Some atoms))
  square_ends =
      let made = in_squares h atoms in
      let ended = guard_ends h.led.cost (headed_names h) g atoms (Some SquareClose) ends refl refl in (
        λ k.
            let y = made.0 k in
            let z = ended.0 y.1 in
            ((y.0, z.0), record { atom = z.1; few = and_false _; going = tt }),
        λ k. made.1 (k.0.0, ended.1 (k.0.1, k.1.atom)),
      )

-- A step that ends the atoms after `:|:` keeps the limits exactly if the state is quiet.
guard_ended_turns : (h : Headed) (g : GuardGrammarState) (p : inner.Piece) (ps : List Piece) (o : Option Atoms)
    → guards.finish g ≡ o → expression_steps.step (guards.expression_in g) p ≡ None
    → Turns (MarkGuarding h g) (In p) ps (guard_ended h o p)
guard_ended_turns h g p ps None ends stop_kind = tt
guard_ended_turns h g p ps (Some atoms) ends stop_kind = rule_ends h g atoms ends ps p stop_kind

guarding_turns : (h : Headed) (g : GuardGrammarState) (p : inner.Piece) (ps : List Piece) (o : Option GuardGrammarState)
    → guards.step g p ≡ o → Turns (MarkGuarding h g) (In p) ps (mark_guard_step h g o p)
guarding_turns h g p ps (Some k) same =
    let turns = guard_turns h.led.cost (headed_names h) g k p (first ps) same in (
      λ x. let y = turns.0 x.1 in ((x.0, y.0), (no_rule_within h g k p (first ps) same, y.1)),
      λ x. (x.0.0, turns.1 (x.0.1, x.1.1)),
    )
guarding_turns h g p ps None same = guard_ended_turns h g p ps (guards.finish g) refl (stop_kind_within g p same)

-- in a guard after `:|:` each step keeps the limits exactly if the state is quiet
pub mark_guarding_turns : (h : Headed) (g : GuardGrammarState) (p : inner.Piece) (ps : List Piece)
    → Turns (MarkGuarding h g) (In p) ps (mark_guard_step h g (guards.step g p) p)
mark_guarding_turns h g p ps = guarding_turns h g p ps (guards.step g p) refl

-- A step within square brackets keeps the limits exactly if the state is quiet.
pub square_guarding_turns : (h : Headed) (g : GuardGrammarState) (p : inner.Piece) (ps : List Piece)
    → Turns (SquareGuarding h g) (In p) ps (square_guard_step h (guards.step g p))
square_guarding_turns h g p ps = go (guards.step g p) refl
  where
    go : (o : Option GuardGrammarState) → guards.step g p ≡ o → Turns (SquareGuarding h g) (In p) ps (square_guard_step h o)
    go None same = tt
    go (Some k) same =
        let turns = guard_turns h.led.cost (headed_names h) g k p (first ps) same in (
          λ x. let y = turns.0 x.1 in ((x.0, y.0), y.1),
          λ x. (x.0.0, turns.1 (x.0.1, x.1)),
        )

-- `]` after atoms keeps the limits exactly if the state is quiet
pub square_ended_turns : (h : Headed) (g : GuardGrammarState) (ps : List Piece)
    → Turns (SquareGuarding h g) SquareClose ps (square_ended h (guards.finish g))
square_ended_turns h g ps = go (guards.finish g) refl
  where
    go : (o : Option Atoms) → guards.finish g ≡ o → Turns (SquareGuarding h g) SquareClose ps (square_ended h o)
    go None ends = tt
    go (Some atoms) ends = square_ends h g atoms ends ps

-- the first piece in square brackets keeps the limits exactly if the state is quiet
pub square_opened_turns : (h : Headed) (p : inner.Piece) (ps : List Piece)
    → Turns (SquareOpened h) (In p) ps (square_guard_step h (guards.step guards.no_atoms p))
square_opened_turns h p ps = go (guards.step guards.no_atoms p) refl
  where
    go : (o : Option GuardGrammarState) → guards.step guards.no_atoms p ≡ o → Turns (SquareOpened h) (In p) ps (square_guard_step h o)
    go None same = tt
    go (Some g) same =
        let begins = guard_first h g p (first ps) same in
        (begins.0, begins.1)

-- `]` right after `[` keeps the limits exactly if the state is quiet
pub square_closed_turns : (h : Headed) (ps : List Piece)
    → Turns (SquareOpened h) SquareClose ps (step (SquareOpened h) SquareClose)
square_closed_turns h ps =
    let made = no_squared h in
    (λ k. (made.0 k, tt), λ k. made.1 k.0)
