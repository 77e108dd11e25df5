-- The effect of a token that can follow: if the refusal so far isn't final, reading continues; if it is, it is the
-- answer.
use Rattle.std.specs.Prelude.{◌≡◌, ℕ, ◌-◌, ◌≤◌, ◌<◌, ◌⊎◌, Bool, true, false, ◌&&◌, ◌||◌, ◌==◌, nat_lt, nat_le, List}
use Rattle.std.specs.Prelude.{◌∷◌, ◌++◌, length, Option, Some, None, refl}
use Rattle.std.proofs.Common.{sym, ap, subst, ◌∙◌, arith, inl, inr}
use Rattle.std.proofs.lemmas.Bool.Decides.{nat_tests}
use Rattle.model.specs.Programs.{Name}
use Rattle.model.specs.Limits.{coefficient_limit, place_limit}
use Rattle.text_core.specs.Names.{is_among}
use Rattle.text_core.specs.Tokens.{Token, pieces}
use Rattle.text_core.specs.Readers.{Fault, next}
use Rattle.text_core.specs.Faults.{Among}
use Rattle.text_core.specs.Reading.{Refused, first_among}
use Rattle.its_text.specs.expr_text.Pieces as inner
use Rattle.its_text.specs.expr_text.Terms.{number_of}
use Rattle.its_text.specs.expr_text.Trees.{Sum}
use Rattle.its_text.specs.expr_text.GrammarStates as expression
use Rattle.its_text.specs.expr_text.Steps as expression_steps
use Rattle.its_text.specs.expr_text.Guards.{Atoms}
use Rattle.its_text.specs.expr_text.GuardGrammarStates as guards
use Rattle.its_text.specs.expr_text.GuardGrammarStates.{GuardGrammarState, LeftSide, RightSide, expression_in}
use Rattle.its_text.specs.expr_text.StateNames.{goes_on_with, is_state}
use Rattle.its_text.specs.Pieces.{Piece, In}
use Rattle.its_text.specs.Kinds.{Kind, kind_number, Syntax, RepeatedSection, ManyTargets, LeftNotVariable, LeftRepeated}
use Rattle.its_text.specs.Kinds.{NumberTooLarge, Limit, TooManyRules, TooManyArguments, TooManyAtoms, LongName}
use Rattle.its_text.specs.GrammarStates as grammar_states
use Rattle.its_text.specs.GrammarStates.{GrammarState, Ruling, Aimed, Headed, pieces_read}
use Rattle.its_text.specs.Written.{LeftTerm}
use Rattle.its_text.specs.Steps.{step, cost_step, argument_step, behind_argument, mark_guard_step, guard_ended}
use Rattle.its_text.specs.Steps.{guard_named, square_guard_step}
use Rattle.its_text.specs.Grammar.{programs}
use Rattle.its_text.specs.Answers.{verdict}
use Rattle.its_text.specs.StateFaults.{Tokens, OpenExpression, open_expression, fault_if, long_name, targets_again}
use Rattle.its_text.specs.StateFaults.{repeats_at, targets_many, too_many_rules, passes_arguments, another_atom}
use Rattle.its_text.specs.StateFaults.{token_faults, is_operator, left_wanted, left_of, next_piece, last_byte}
use Rattle.its_text.specs.StateFaults.{faults_of_state, last_faults, next_faults}
use Rattle.its_text.proofs.Ends.{state_known}
use Rattle.its_reader.specs.Tests as tests
use Rattle.its_reader.specs.FaultTests.{IsDigital}
use Rattle.its_reader.specs.StateSteps.{IsModestPiece}
use Rattle.its_reader.specs.Reading.{IsReading}
use Rattle.its_reader.specs.TokenSteps.{AllowsName, least_of, is_final}
use Rattle.its_reader.specs.declared.draft.Draft.{Draft}
use Rattle.its_reader.specs.declared.parser_state.ParserState.{ParserState}
use Rattle.its_reader.proofs.Finality.{IsFinal, IsFinalIn, found_final, among_left, among_right, large_shown}
use Rattle.its_reader.proofs.Finality.{digits_differ}
use Rattle.its_reader.proofs.Stopping.{last_least, last_least_9}
use Rattle.its_reader.proofs.ReadingLaws.{reading_stops}
use Rattle.std.proofs.lemmas.Bool.{ltb-false as at_most}

-- a test decides whether a refusal is final
final_split : (x : Fault Kind) (t : Token Piece) (v w u : Bool) → nat_lt x.at (t.upto - 1) ≡ v
    → (x.at == t.upto - 1) ≡ w → nat_le (kind_number x.kind) (least_of t.piece) ≡ u → v || (w && u) ≡ true
    → IsFinal (least_of t.piece) t x
final_split x t true w u a b c e = inl (grind (arith, nat_tests))
final_split x t false true true a b c e = inr ((grind (arith, nat_tests)), (grind (arith, nat_tests)))
final_split x t false true false a b c e = cc
final_split x t false false u a b c e = cc

-- a refusal that passes the test is final after the token
pub final_is : (x : Fault Kind) (t : Token Piece) → is_final x t ≡ true → IsFinal (least_of t.piece) t x
final_is x t e = final_split x t (nat_lt x.at (t.upto - 1)) (x.at == t.upto - 1)
    (nat_le (kind_number x.kind) (least_of t.piece)) refl refl refl e

unfinal_split : (x : Fault Kind) (t : Token Piece) (v w u : Bool) → nat_lt x.at (t.upto - 1) ≡ v
    → (x.at == t.upto - 1) ≡ w → nat_le (kind_number x.kind) (least_of t.piece) ≡ u → v || (w && u) ≡ false
    → IsFinal (least_of t.piece) t x → ⊥
unfinal_split x t true w u a b c e h = cc
unfinal_split x t false true true a b c e h = cc
unfinal_split x t false w u a b c e (inl h) = absurd (grind (arith, nat_tests))
unfinal_split x t false false u a b c e (inr h) = let p = h.0 in absurd (grind (arith, nat_tests))
unfinal_split x t false true false a b c e (inr h) = let p = h.1 in absurd (grind (arith, nat_tests))

-- a refusal that fails the test isn't final after the token
pub unfinal_is : (x : Fault Kind) (t : Token Piece) → is_final x t ≡ false → IsFinal (least_of t.piece) t x → ⊥
unfinal_is x t e = unfinal_split x t (nat_lt x.at (t.upto - 1)) (x.at == t.upto - 1)
    (nat_le (kind_number x.kind) (least_of t.piece)) refl refl refl e

-- digits that can follow continue an expression
abbrev GoesOnAt : GrammarState → Option Piece → inner.Piece → Type 0
GoesOnAt f behind p = (x : OpenExpression)
    × ((open_expression f (Some (In p)) behind ≡ Some x) × (goes_on_with x.grammar_state p ≡ true))

argued_never : (a : Aimed) (arguments : List Sum) (o : Option Sum) (ds : Name)
    → behind_argument a arguments o (inner.Digits ds) ≡ None
argued_never a arguments None ds = refl
argued_never a arguments (Some s) ds = refl

ended_never : (h : Headed) (o : Option Atoms) (ds : Name) → guard_ended h o (inner.Digits ds) ≡ None
ended_never h None ds = refl
ended_never h (Some atoms) ds = refl

behind_never : (g : GuardGrammarState) (ds : Name) → guards.step_behind g (inner.Digits ds) ≡ None
behind_never (LeftSide c e) ds = refl
behind_never (RightSide c l sign e) ds = refl

arguing_goes : (a : Aimed) (arguments : List Sum) (e : expression.GrammarState) (ds : Name) (g : GrammarState)
    → argument_step a arguments e (expression_steps.step e (inner.Digits ds)) (inner.Digits ds) ≡ Some g
    → goes_on_with e (inner.Digits ds) ≡ true
arguing_goes a arguments e ds g h = go (expression_steps.step e (inner.Digits ds)) h
  where
    go : (o : Option expression.GrammarState) → argument_step a arguments e o (inner.Digits ds) ≡ Some g
        → is_state o ≡ true
    go (Some more) h = refl
    go None h = let n = sym (argued_never a arguments (expression_steps.finish e) ds) ∙ h in cc

costing_goes : (r : Ruling) (t : LeftTerm) (o : Option expression.GrammarState) (g : GrammarState)
    → cost_step r t o ≡ Some g → is_state o ≡ true
costing_goes r t (Some more) g h = refl
costing_goes r t None g h = cc

guarding_goes : (h : Headed) (k : GuardGrammarState) (ds : Name) (g : GrammarState)
    → mark_guard_step h k (guards.step k (inner.Digits ds)) (inner.Digits ds) ≡ Some g
    → goes_on_with (expression_in k) (inner.Digits ds) ≡ true
guarding_goes h k ds g e = go (expression_steps.step (expression_in k) (inner.Digits ds)) e
  where
    go : (o : Option expression.GrammarState) → mark_guard_step h k (guards.within k o (inner.Digits ds))
        (inner.Digits ds) ≡ Some g → is_state o ≡ true
    go (Some more) e = refl
    go None e = let n = sym (ap (λ o. mark_guard_step h k o (inner.Digits ds)) (behind_never k ds)
        ∙ ended_never h (guards.finish k) ds) ∙ e in cc

squared_goes : (h : Headed) (k : GuardGrammarState) (ds : Name) (g : GrammarState)
    → square_guard_step h (guards.step k (inner.Digits ds)) ≡ Some g
    → goes_on_with (expression_in k) (inner.Digits ds) ≡ true
squared_goes h k ds g e = go (expression_steps.step (expression_in k) (inner.Digits ds)) e
  where
    go : (o : Option expression.GrammarState) → square_guard_step h (guards.within k o (inner.Digits ds)) ≡ Some g
        → is_state o ≡ true
    go (Some more) e = refl
    go None e = let n = sym (ap (square_guard_step h) (behind_never k ds)) ∙ e in cc

digits_follow : (f : GrammarState) (ds : Name) (behind : Option Piece) (g : GrammarState)
    → step f (In (inner.Digits ds)) ≡ Some g → GoesOnAt f behind (inner.Digits ds)
digits_follow (grammar_states.Costing r t k) ds behind g e =
    (_, (refl, costing_goes r t (expression_steps.step k (inner.Digits ds)) g e))
digits_follow (grammar_states.RightOpened a) ds behind g e = (_, (refl, refl))
digits_follow (grammar_states.Arguing a arguments k) ds behind g e = (_, (refl, arguing_goes a arguments k ds g e))
digits_follow (grammar_states.GuardMarked h) ds behind g e = (_, (refl, refl))
digits_follow (grammar_states.WordRead h name) ds behind g e = (_, (refl, guarding_goes h (guard_named name) ds g e))
digits_follow (grammar_states.MarkGuarding h k) ds behind g e = (_, (refl, guarding_goes h k ds g e))
digits_follow (grammar_states.SquareOpened h) ds behind g e = (_, (refl, refl))
digits_follow (grammar_states.SquareGuarding h k) ds behind g e = (_, (refl, squared_goes h k ds g e))
digits_follow _ ds behind g e = cc

-- the faults of a left argument are among those shown
left_shown : (at : ℕ) (f : GrammarState) (next behind : Option Piece) (y : Fault Kind)
    → Among y (left_of at (left_wanted f) next behind) → Among y (next_faults at f next behind)
left_shown at f next behind y a =
    among_left y (fault_if (targets_again f next behind) Syntax at
    ++ fault_if (repeats_at f next behind) RepeatedSection at
    ++ fault_if (targets_many f next behind) ManyTargets at ++ left_of at (left_wanted f) next behind
    ++ fault_if (too_many_rules f next behind) (Limit TooManyRules) at
    ++ fault_if (passes_arguments f next) (Limit TooManyArguments) at
    ++ fault_if (another_atom f next) (Limit TooManyAtoms) at ++ fault_if (long_name next) (Limit LongName) at)
    (token_faults at (open_expression f next behind) next behind)
    (among_left y (fault_if (targets_again f next behind) Syntax at
    ++ fault_if (repeats_at f next behind) RepeatedSection at
    ++ fault_if (targets_many f next behind) ManyTargets at ++ left_of at (left_wanted f) next behind
    ++ fault_if (too_many_rules f next behind) (Limit TooManyRules) at
    ++ fault_if (passes_arguments f next) (Limit TooManyArguments) at
    ++ fault_if (another_atom f next) (Limit TooManyAtoms) at)
    (fault_if (long_name next) (Limit LongName) at)
    (among_left y (fault_if (targets_again f next behind) Syntax at
    ++ fault_if (repeats_at f next behind) RepeatedSection at
    ++ fault_if (targets_many f next behind) ManyTargets at ++ left_of at (left_wanted f) next behind
    ++ fault_if (too_many_rules f next behind) (Limit TooManyRules) at
    ++ fault_if (passes_arguments f next) (Limit TooManyArguments) at)
    (fault_if (another_atom f next) (Limit TooManyAtoms) at)
    (among_left y (fault_if (targets_again f next behind) Syntax at
    ++ fault_if (repeats_at f next behind) RepeatedSection at
    ++ fault_if (targets_many f next behind) ManyTargets at ++ left_of at (left_wanted f) next behind
    ++ fault_if (too_many_rules f next behind) (Limit TooManyRules) at)
    (fault_if (passes_arguments f next) (Limit TooManyArguments) at)
    (among_left y (fault_if (targets_again f next behind) Syntax at
    ++ fault_if (repeats_at f next behind) RepeatedSection at
    ++ fault_if (targets_many f next behind) ManyTargets at ++ left_of at (left_wanted f) next behind)
    (fault_if (too_many_rules f next behind) (Limit TooManyRules) at)
    (among_right y (fault_if (targets_again f next behind) Syntax at
    ++ fault_if (repeats_at f next behind) RepeatedSection at
    ++ fault_if (targets_many f next behind) ManyTargets at) (left_of at (left_wanted f) next behind) a)))))

module _ (bytes : List ℕ) (state : ParserState) (last : ℕ) (best first : Option (Fault Kind)) (old : Draft)
    (t : Token Piece) (rest : Tokens) (r : IsReading bytes state last best old (t ∷ rest))
    (first_fault_ahead : first ≡ first_among programs best
    (faults_of_state (length bytes) r.done r.grammar_state (t ∷ rest))) where
  -- a fault of the next token with a low number makes the refusal so far final there
  shown_final : (k : ℕ) (y : Fault Kind) → Among y (next_faults t.at r.grammar_state (Some t.piece) (next_piece rest))
      → y.at ≡ t.at → kind_number y.kind ≤ k → IsFinalIn k t first
  shown_final k y a at n =
      subst (IsFinalIn k t) (sym first_fault_ahead)
      (found_final k t best (faults_of_state (length bytes) r.done r.grammar_state (t ∷ rest)) y
      (among_right y (last_faults (last_byte r.done) r.grammar_state (Some t.piece))
      (next_faults t.at r.grammar_state (Some t.piece) (next_piece rest)) a) at r.ordered.1 n)

  -- the fault of a left argument that repeats an earlier one is shown
  repeated_shown : (arguments : List Name) (name : Name) (behind : Option Piece) → is_among name arguments ≡ true
      → Among (record { kind = LeftRepeated; at = t.at })
      (left_of t.at (Some arguments) (Some (In (inner.Word name))) behind)
  repeated_shown arguments name behind e =
      among_left (record { kind = LeftRepeated; at = t.at })
      (fault_if (is_operator behind) LeftNotVariable t.at ++ fault_if (is_among name arguments) LeftRepeated t.at)
      (fault_if (nat_le place_limit (length arguments)) (Limit TooManyArguments) t.at)
      (among_right (record { kind = LeftRepeated; at = t.at }) (fault_if (is_operator behind) LeftNotVariable t.at)
      (fault_if (is_among name arguments) LeftRepeated t.at) (rw e (inl refl)))

  named_shown : (arguments : List Name) (name : Name) → left_wanted r.grammar_state ≡ Some arguments
      → t.piece ≡ In (inner.Word name) → is_among name arguments ≡ true
      → Among (record { kind = LeftRepeated; at = t.at })
      (next_faults t.at r.grammar_state (Some t.piece) (next_piece rest))
  named_shown arguments name w p e =
      left_shown t.at r.grammar_state (Some t.piece) (next_piece rest) (record { kind = LeftRepeated; at = t.at })
      (subst (λ o. Among (record { kind = LeftRepeated; at = t.at }) (left_of t.at o (Some t.piece) (next_piece rest)))
      (sym w)
      (subst (λ (p : Piece). Among (record { kind = LeftRepeated; at = t.at })
      (left_of t.at (Some arguments) (Some p) (next_piece rest))) (sym p)
      (repeated_shown arguments name (next_piece rest) e)))

  -- if the refusal so far isn't final, the next token repeats no left argument
  pub allowed : (IsFinalIn (least_of t.piece) t first → ⊥)
      → AllowsName (left_wanted r.grammar_state) (tests.word t.piece)
  allowed never = go (left_wanted r.grammar_state) refl t.piece refl
    where
      new : (arguments : List Name) (name : Name) → left_wanted r.grammar_state ≡ Some arguments
          → t.piece ≡ In (inner.Word name) → (v : Bool) → is_among name arguments ≡ v → v ≡ false
      new arguments name w p false e = refl
      new arguments name w p true e =
          absurd (never (shown_final (least_of t.piece) (record { kind = LeftRepeated; at = t.at })
          (named_shown arguments name w p e) refl
          (let least : least_of t.piece ≡ 8 = ap least_of p in omega (arith, least))))

      go : (o : Option (List Name)) → left_wanted r.grammar_state ≡ o → (p : Piece) → t.piece ≡ p
          → AllowsName o (tests.word p)
      go None w p e = tt
      go (Some arguments) w (In (inner.Word name)) e = new arguments name w e (is_among name arguments) refl
      go (Some arguments) w (In _) e = tt
      go (Some arguments) w _ e = tt

  pub modest : (g : GrammarState) → step r.grammar_state t.piece ≡ Some g → (IsFinalIn (least_of t.piece) t first → ⊥)
      → IsModestPiece t.piece
  modest g e never = go t.piece refl r.digital.0
    where
      small : (ds : Name) → t.piece ≡ In (inner.Digits ds) → (v : Bool) → nat_lt coefficient_limit (number_of ds) ≡ v
          → v ≡ false
      small ds p false l = refl
      small ds p true l =
          let k = digits_follow r.grammar_state ds (next_piece rest) g (sym (ap (step r.grammar_state) p) ∙ e) in
          absurd (never (shown_final (least_of t.piece) (record { kind = NumberTooLarge; at = t.at })
          (subst (λ (p : Piece). Among (record { kind = NumberTooLarge; at = t.at })
          (next_faults t.at r.grammar_state (Some p) (next_piece rest))) (sym p)
          (large_shown t.at r.grammar_state (inner.Digits ds) (next_piece rest) k.0 k.1.0 k.1.1 l)) refl
          (let least : least_of t.piece ≡ 9 = ap least_of p in omega (arith, least))))

      go : (p : Piece) → t.piece ≡ p → IsDigital (Some p) → IsModestPiece p
      go (In (inner.Digits ds)) e d =
          (d, at_most coefficient_limit (number_of ds) (small ds e (nat_lt coefficient_limit (number_of ds)) refl))
      go (In _) e d = tt
      go _ e d = tt

  -- a final refusal is the answer
  pub stops : (x : Fault Kind) (g : GrammarState) → first ≡ Some x → step r.grammar_state t.piece ≡ Some g
      → IsFinal (least_of t.piece) t x → verdict bytes ≡ Refused x
  stops x g f e h = reading_stops bytes state last best old t rest r x g (sym f ∙ first_fault_ahead) e (by h)
    where
      known : pieces_read g ≡ t.piece ∷ pieces r.done
      known = (state_known (t.piece ∷ pieces r.done) g
          (ap (λ (o : Option GrammarState). next step o t.piece) r.led ∙ e)).0

      least : (p : Piece) → t.piece ≡ p → (y : Fault Kind) → Among y (last_faults (t.upto - 1) g (next_piece rest))
          → least_of p ≤ kind_number y.kind
      least (In (inner.Digits ds)) q y a = last_least_9 (t.upto - 1) g (next_piece rest) y
          (digits_differ g ds (pieces r.done) (known ∙ ap (λ (p : Piece). p ∷ pieces r.done) q)) a
      least (In _) q y a = last_least (t.upto - 1) g (next_piece rest) y a
      least _ q y a = last_least (t.upto - 1) g (next_piece rest) y a

      by : IsFinal (least_of t.piece) t x → (x.at < t.upto - 1)
          ⊎ ((x.at ≤ t.upto - 1) × ((y : Fault Kind) → Among y (last_faults (t.upto - 1) g (next_piece rest))
          → kind_number x.kind ≤ kind_number y.kind))
      by (inl a) = inl a
      by (inr a) = inr (a.0, λ y b. let n = least t.piece refl y b in let m = a.1 in omega (arith, n, m))
