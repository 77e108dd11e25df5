-- The state after each piece of a guard; and a piece that doesn't continue a guard within an atom ends no rule.
use Rattle.std.specs.Prelude.{◌≡◌, Bool, true, false, not, ◌&&◌, ◌||◌, nat_lt, List, map, Option, Some, None, refl}
use Rattle.std.specs.List.{list_all}
use Rattle.std.specs.Char.{is_ascii_digit}
use Rattle.std.proofs.Common.{sym, ap, subst, ◌∙◌, inl, inr}
use Rattle.model.specs.Programs.{Name}
use Rattle.model.specs.Limits.{coefficient_limit}
use Rattle.poly_terms.specs.Views.{term_of}
use Rattle.its_text.specs.expr_text.Pieces as inner
use Rattle.its_text.specs.expr_text.Trees.{Sum}
use Rattle.its_text.specs.expr_text.Terms.{with_sum, number_of}
use Rattle.its_text.specs.expr_text.GrammarStates as expression
use Rattle.its_text.specs.expr_text.GrammarStates.{beginning}
use Rattle.its_text.specs.expr_text.Steps as expression_steps
use Rattle.its_text.specs.expr_text.Guards.{Atoms}
use Rattle.its_text.specs.expr_text.GuardGrammarStates as guards
use Rattle.its_text.specs.expr_text.GuardGrammarStates.{GuardGrammarState, LeftSide, RightSide, Conjoined, ended}
use Rattle.its_text.specs.expr_text.GuardGrammarStates.{compared}
use Rattle.its_text.specs.expr_text.StateNames.{operates, is_state, with_conjoined}
use Rattle.its_text.specs.expr_text.TermGrammarStates.{goes_on_from}
use Rattle.expr_reader.specs.Variables.{names_in}
use Rattle.expr_reader.specs.Views.{grammar_state_of}
use Rattle.expr_reader.specs.Standing.{IsFresh, IsModest, RepresentsExpression}
use Rattle.expr_reader.specs.GuardParts.{is_read}
use Rattle.expr_reader.specs.GuardRepresentation as standing
use Rattle.expr_reader.specs.GuardRepresentation.{IsEnded, IsPartEnded, part_ended_none, part_ended_left}
use Rattle.expr_reader.specs.GuardRepresentation.{part_ended_right, part_ended_end}
use Rattle.expr_reader.specs.declared.guard.GuardState.TheVariants as guard_places
use Rattle.expr_reader.specs.declared.guard.GuardReader.{GuardReader}
use Rattle.expr_reader.proofs.Standing.{fresh_stands}
use Rattle.expr_reader.proofs.Endings.{goes_on_is}
use Rattle.its_text.specs.Pieces.{Piece, In, SquareClose}
use Rattle.its_text.specs.GrammarStates as grammar_states
use Rattle.its_text.specs.GrammarStates.{GrammarState, Headed}
use Rattle.its_text.specs.StateNames.{headed_names}
use Rattle.its_text.specs.Steps.{step, mark_guard_step, guard_ended, guard_named, square_guard_step, square_ended}
use Rattle.its_text.specs.StateFaults as shown
use Rattle.its_text.specs.StateFaults.{Tokens}
use Rattle.its_reader.specs.Tests as tests
use Rattle.its_reader.specs.Standing.{KnowsSymbols, KnowsHeaded, symbols_headed}
use Rattle.its_reader.specs.Places.{LeadsTo, IsGuard}
use Rattle.its_reader.specs.StateSteps.{GoTogether, IsModestPiece}
use Rattle.its_reader.specs.TailSteps.{is_modest, goes_on_in, guarding_if, TakesInner, TakesAtom, TakesPiece}
use Rattle.its_reader.specs.TailSteps.{TakesMaybe, AtomTakes}
use Rattle.its_reader.specs.declared.parser_state.GuardOpening.{GuardOpening}
use Rattle.its_reader.specs.declared.parser_state.GuardOpening.TheVariants as openings
use Rattle.its_reader.specs.declared.parser_state.ParserState.{ParserState}
use Rattle.its_reader.specs.declared.draft.Draft.{Draft}
use Rattle.its_reader.specs.declared.draft.RuleDraft.{RuleDraft}
use Rattle.its_reader.proofs.LeftLaws.{leads_together}
use Rattle.its_reader.proofs.ArrowLaws.{arrow_kept}
use Rattle.std.proofs.lemmas.Bool.{ltb-false as at_most, le-ltb as not_below}

-- the written state within a guard after its opening, and the one of an optional guard
abbrev pub guarded : GuardOpening → Headed → GuardGrammarState → GrammarState
guarded openings.Mark h g = grammar_states.MarkGuarding h g
guarded openings.Square h g = grammar_states.SquareGuarding h g

abbrev pub mapped : Option GuardGrammarState → GuardOpening → Headed → Option GrammarState
mapped None opening h = None
mapped (Some g) opening h = Some (guarded opening h g)

-- a state in which no atom has been read isn't the state after an atom
read_unread : (r : GuardReader) → is_read r.state ≡ false → r.state ≡ guard_places.AtomRead → ⊥
read_unread r h e = let t = ap is_read e in cc

-- a piece that is no name and no closing bracket ends no rule
operator_stays : (h : Headed) (o : Option Atoms) (p : inner.Piece) → operates p ≡ true → guard_ended h o p ≡ None
operator_stays h None p e = refl
operator_stays h (Some atoms) (inner.Word name) e = cc
operator_stays h (Some atoms) inner.Close e = cc
operator_stays h (Some atoms) _ e = refl

joint_stays : (h : Headed) (o : Option Atoms) (p : inner.Piece) → tests.is_conjunction (In p) ≡ true
    → guard_ended h o p ≡ None
joint_stays h None p e = refl
joint_stays h (Some atoms) (inner.Word name) e = cc
joint_stays h (Some atoms) inner.Close e = cc
joint_stays h (Some atoms) _ e = refl

-- the right side of an atom rejects a piece that doesn't continue it
right_step : (c : Conjoined) (l : Sum) (sign : inner.Sign) (e : expression.GrammarState) (p : inner.Piece)
    → guards.step (RightSide c l sign e) p ≡ None → expression_steps.step e p ≡ None
right_step c l sign e p h = go (expression_steps.step e p) h
  where
    go : (o : Option expression.GrammarState) → guards.within (RightSide c l sign e) o p ≡ None → o ≡ None
    go None h = refl
    go (Some more) h = cc

module _ (before names : List Name) (r : GuardReader) where
  -- within an atom a guard can't end before a piece that is in no guard
  pub unfinished : (g : GuardGrammarState) → IsPartEnded None before g names r → is_read r.state ≡ false
      → guards.finish g ≡ None
  unfinished g (part_ended_none at) u = ap guards.finish at.state_is_represented
  unfinished g (part_ended_left at) u = ap guards.finish at.state_is_represented
      ∙ ap (ended at.conjoined) (at.follows refl)
  unfinished g (part_ended_right at) u = ap guards.finish at.right.state_is_represented
      ∙ ap (λ o. ended at.right.conjoined (compared at.right.left at.right.sign o)) (at.goes_on refl)
  unfinished g (part_ended_end at) u = absurd (read_unread r u at.state_is)

  -- within an atom a guard can't end before a piece that doesn't continue it
  stuck : (h : Headed) (g : GuardGrammarState) (p : inner.Piece) → IsPartEnded (Some p) before g names r
      → is_read r.state ≡ false → guards.step g p ≡ None → guard_ended h (guards.finish g) p ≡ None
  stuck h g p (part_ended_none at) u n = ap (λ o. guard_ended h o p) (ap guards.finish at.state_is_represented)
  stuck h g p (part_ended_left at) u n = go (operates p) refl
    where
      go : (v : Bool) → operates p ≡ v → guard_ended h (guards.finish g) p ≡ None
      go true e = operator_stays h (guards.finish g) p e
      go false e = ap (λ o. guard_ended h o p)
          (ap guards.finish at.state_is_represented ∙ ap (ended at.conjoined) (at.follows e))
  stuck h g p (part_ended_right at) u n =
      let none = right_step at.right.conjoined at.right.left at.right.sign at.right.read p
      (sym (ap (λ g. guards.step g p) at.right.state_is_represented) ∙ n) in
      ap (λ o. guard_ended h o p)
      (ap guards.finish at.right.state_is_represented
      ∙ ap (λ o. ended at.right.conjoined (compared at.right.left at.right.sign o))
      (at.goes_on (ap (λ (o : Option expression.GrammarState). not (is_state o)) none)))
  stuck h g p (part_ended_end at) u n = absurd (read_unread r u at.state_is)

  ends_nothing : (h : Headed) (g : GuardGrammarState) (p : inner.Piece) → IsPartEnded (Some p) before g names r
      → not (is_read r.state) || tests.is_conjunction (In p) ≡ true → guards.step g p ≡ None
      → guard_ended h (guards.finish g) p ≡ None
  ends_nothing h g p s still n = go (is_read r.state) refl still
    where
      go : (v : Bool) → is_read r.state ≡ v → not v || tests.is_conjunction (In p) ≡ true
          → guard_ended h (guards.finish g) p ≡ None
      go false e o = stuck h g p s e n
      go true e o = joint_stays h (guards.finish g) p o

  -- the grammar's step within a guard leads to the guard's next state
  pub guard_step : (opening : GuardOpening) (h : Headed) (g : GuardGrammarState) (p : inner.Piece)
      → IsPartEnded (Some p) before g names r → not (is_read r.state) || tests.is_conjunction (In p) ≡ true
      → step (guarded opening h g) (In p) ≡ mapped (guards.step g p) opening h
  guard_step openings.Mark h g p s still = go (guards.step g p) refl
    where
      go : (o : Option GuardGrammarState) → guards.step g p ≡ o → mark_guard_step h g o p ≡ mapped o openings.Mark h
      go (Some more) e = refl
      go None e = ends_nothing h g p s still e
  guard_step openings.Square h g p s still = go (guards.step g p)
    where
      go : (o : Option GuardGrammarState) → square_guard_step h o ≡ mapped o openings.Square h
      go (Some more) = refl
      go None = refl

  -- a piece that is in no guard is rejected
  pub none_behind : (opening : GuardOpening) (h : Headed) (g : GuardGrammarState) (p : Piece) → tests.inner_in p ≡ None
      → IsPartEnded None before g names r → is_read r.state ≡ false → step (guarded opening h g) p ≡ None
  none_behind openings.Mark h g (In p) n s u = cc
  none_behind openings.Mark h g _ n s u = refl
  none_behind openings.Square h g (In p) n s u = cc
  none_behind openings.Square h g SquareClose n s u = ap (square_ended h) (unfinished g s u)
  none_behind openings.Square h g _ n s u = refl

  -- an atom that has ended before a piece, as the code's test finds it
  pub ended_of : (next : Option inner.Piece) (g : GuardGrammarState) → IsPartEnded next before g names r
      → is_read r.state ≡ true → IsEnded next before g names r
  ended_of next g (part_ended_none at) u = absurd (let t = ap is_read at.state_is in cc)
  ended_of next g (part_ended_left at) u = absurd (let t = ap is_read at.state_is in cc)
  ended_of next g (part_ended_right at) u = absurd (let t = ap is_read at.right.state_is in cc)
  ended_of next g (part_ended_end at) u = at

  -- whether a row of digits continues an atom
  abbrev is_going : Option GuardGrammarState → Bool
  is_going None = false
  is_going (Some g) = true

  goes : (p : inner.Piece) → is_read r.state ≡ false → (base : List Name) (e : expression.GrammarState)
      → RepresentsExpression base e names r.expression → goes_on_in r p ≡ is_state (expression_steps.step e p)
  goes p u base e s = ap (λ v. not v && goes_on_from (grammar_state_of r.expression).outer
      (grammar_state_of r.expression).operand p) u ∙ goes_on_is base e names r.expression p s

  digits_left : (c : Conjoined) (e : expression.GrammarState) (ds : Name)
      → is_going (guards.step (LeftSide c e) (inner.Digits ds)) ≡ is_state (expression_steps.step e (inner.Digits ds))
  digits_left c e ds = go (expression_steps.step e (inner.Digits ds))
    where
      go : (o : Option expression.GrammarState) → is_going (guards.within (LeftSide c e) o (inner.Digits ds))
          ≡ is_state o
      go None = refl
      go (Some more) = refl

  digits_right : (c : Conjoined) (l : Sum) (sign : inner.Sign) (e : expression.GrammarState) (ds : Name)
      → is_going (guards.step (RightSide c l sign e) (inner.Digits ds))
      ≡ is_state (expression_steps.step e (inner.Digits ds))
  digits_right c l sign e ds = go (expression_steps.step e (inner.Digits ds))
    where
      go : (o : Option expression.GrammarState) → is_going (guards.within (RightSide c l sign e) o (inner.Digits ds))
          ≡ is_state o
      go None = refl
      go (Some more) = refl

  digits_go : (g : GuardGrammarState) (ds : Name) → IsPartEnded (Some (inner.Digits ds)) before g names r
      → is_going (guards.step g (inner.Digits ds)) ≡ goes_on_in r (inner.Digits ds)
  digits_go g ds (part_ended_none at) =
      ap (λ g. is_going (guards.step g (inner.Digits ds))) at.state_is_represented
      ∙ sym (goes (inner.Digits ds) (ap is_read at.state_is) names beginning
      (fresh_stands names r.expression at.expression))
  digits_go g ds (part_ended_left at) =
      ap (λ g. is_going (guards.step g (inner.Digits ds))) at.state_is_represented
      ∙ (digits_left at.conjoined at.read ds ∙ sym
      (goes (inner.Digits ds) (ap is_read at.state_is) (with_conjoined before at.conjoined) at.read at.expression))
  digits_go g ds (part_ended_right at) =
      ap (λ g. is_going (guards.step g (inner.Digits ds))) at.right.state_is_represented
      ∙ (digits_right at.right.conjoined at.right.left at.right.sign at.right.read ds
      ∙ sym (goes (inner.Digits ds) (ap is_read at.right.state_is)
      (with_sum (with_conjoined before at.right.conjoined) at.right.left) at.right.read at.right.expression))
  digits_go g ds (part_ended_end at) =
      ap is_going (at.joins (inner.Digits ds) refl)
      ∙ sym (ap (λ state. not (is_read state) && goes_on_from (grammar_state_of r.expression).outer
      (grammar_state_of r.expression).operand (inner.Digits ds)) at.state_is)

  -- a literal that is too large is accepted by the code exactly if the guard accepts it
  pub digits_together : (opening : GuardOpening) (h : Headed) (g : GuardGrammarState) (p : inner.Piece)
      (result : Option ParserState) → is_modest p ≡ false → IsPartEnded (Some p) before g names r
      → result ≡ guarding_if (goes_on_in r p) opening
      → GoTogether (mapped (guards.step g p) opening h) result
  digits_together opening h g (inner.Digits ds) result m s e =
      go (guards.step g (inner.Digits ds)) (goes_on_in r (inner.Digits ds)) (digits_go g ds s) e
    where
      go : (o : Option GuardGrammarState) (v : Bool) → is_going o ≡ v → result ≡ guarding_if v opening
          → GoTogether (mapped o opening h) result
      go None false t e = rw e tt
      go None true t e = cc
      go (Some g) false t e = cc
      go (Some g) true t e = rw e tt
  digits_together opening h g _ result m s e = cc

both_hold : (a b : Bool) → a && not b ≡ true → (a ≡ true) × (b ≡ false)
both_hold true true e = cc
both_hold true false e = (refl, refl)
both_hold false b e = cc

pub modest_is : (p : inner.Piece) → is_modest p ≡ true → IsModest p
modest_is (inner.Digits ds) m =
    let b = both_hold (list_all is_ascii_digit ds) (nat_lt coefficient_limit (number_of ds)) m in
    (b.0, at_most coefficient_limit (number_of ds) b.1)
modest_is _ m = tt

-- a modest piece passes the code's test
pub is_modest_is : (p : inner.Piece) → IsModest p → is_modest p ≡ true
is_modest_is (inner.Digits ds) m = rw (m.0, not_below coefficient_limit (number_of ds) m.1) refl
is_modest_is _ m = refl

-- the knowledge of a target is unchanged while a guard is read
pub headed_stays : (ts : Tokens) (h : Headed) (opening : GuardOpening) (p : Piece) (behind : Option Piece)
    (result : Option ParserState) (old new : Draft) → KnowsHeaded ts h old → AtomTakes opening old p behind result new
    → KnowsHeaded ts h new
headed_stays ts h opening p behind result old new k a = record {
  led = arrow_kept ts h.led old new k.led a.sections a.rules a.stays.source a.stays.left a.stays.cost;
  symbols = subst (KnowsSymbols (symbols_headed h)) (sym a.symbols) k.symbols;
  target_is = a.stays.target ∙ k.target_is;
  updates_are = ap (λ v. map term_of v.items) a.stays.updates ∙ k.updates_are;
}

module _ (ts : Tokens) (h : Headed) (opening : GuardOpening) (behind : Option Piece) (result : Option ParserState)
    (old new : Draft) where
  is_guard : (opening : GuardOpening) (g : GuardGrammarState) → IsGuard behind opening h g (guarded opening h g)
  is_guard openings.Mark g = inl refl
  is_guard openings.Square g = refl

  -- a modest piece leads to the same state in the code as in the guard
  guard_leads : (g : GuardGrammarState) (p : inner.Piece) → AtomTakes opening old (In p) behind result new
      → KnowsHeaded ts h old → IsFresh old.rule.expression
      → IsPartEnded (Some p) (headed_names h) g (names_in old.rule.variables) old.rule.guard → IsModest p
      → TakesInner true opening old.rule p (tests.inner_next behind) result new.rule
      → LeadsTo ts behind (mapped (guards.step g p) opening h) result new
  guard_leads g p a k fresh s modest t = go (guards.step g p) t.0 t.1.0 (t.1.1.each (headed_names h) g s modest)
    where
      go : (o : Option GuardGrammarState) (taken : Bool) → result ≡ guarding_if taken opening
          → standing.LeadsTo taken (tests.inner_next behind) (headed_names h) o (names_in old.rule.variables)
          old.rule.guard (names_in new.rule.variables) new.rule.guard
          → LeadsTo ts behind (mapped o opening h) result new
      go None true e l = absurd l
      go None false e l = rw e tt
      go (Some more) false e l = absurd l
      go (Some more) true e l = rw e (
        h,
        (
          more,
          (
            is_guard opening more,
            (
              headed_stays ts h opening (In p) behind result old new k a,
              (subst (λ x. IsFresh x) (sym a.stays.expression) fresh, l),
            ),
          ),
        ),
      )

  unread : (v : Bool) → not v || false ≡ true → v ≡ false
  unread false e = refl
  unread true e = cc

  -- the state after a piece within an atom, or after a conjunction sign that follows it
  pub atom_each : (g : GuardGrammarState) (p : Piece) → AtomTakes opening old p behind result new → KnowsHeaded ts h old
      → IsFresh old.rule.expression
      → IsPartEnded (tests.inner_in p) (headed_names h) g (names_in old.rule.variables) old.rule.guard
      → not (is_read old.rule.guard.state) || tests.is_conjunction p ≡ true → IsModestPiece p
      → LeadsTo ts behind (step (guarded opening h g) p) result new
  atom_each g (In p) a k fresh s still modest =
      subst (λ o. LeadsTo ts behind o result new)
      (sym (guard_step (headed_names h) (names_in old.rule.variables) old.rule.guard opening h g p s still))
      (guard_leads g p a k fresh s modest
      (subst (λ v. TakesInner v opening old.rule p (tests.inner_next behind) result new.rule)
      (is_modest_is p modest) a.takes.by))
  atom_each g p a k fresh s still modest =
      rw a.takes.by (subst (λ o. LeadsTo ts behind o None new)
      (sym (none_behind (headed_names h) (names_in old.rule.variables) old.rule.guard opening h g p refl s
      (unread (is_read old.rule.guard.state) still))) tt)

  -- a piece within an atom, or a conjunction sign after it, is accepted exactly if the written guard accepts it
  pub atom_together : (g : GuardGrammarState) (p : Piece) → AtomTakes opening old p behind result new
      → KnowsHeaded ts h old → IsFresh old.rule.expression
      → IsPartEnded (tests.inner_in p) (headed_names h) g (names_in old.rule.variables) old.rule.guard
      → not (is_read old.rule.guard.state) || tests.is_conjunction p ≡ true
      → GoTogether (step (guarded opening h g) p) result
  atom_together g (In p) a k fresh s still =
      subst (λ o. GoTogether o result)
      (sym (guard_step (headed_names h) (names_in old.rule.variables) old.rule.guard opening h g p s still))
      (go (is_modest p) refl a.takes.by)
    where
      go : (v : Bool) → is_modest p ≡ v → TakesInner v opening old.rule p (tests.inner_next behind) result new.rule
          → GoTogether (mapped (guards.step g p) opening h) result
      go true e t = leads_together ts behind (mapped (guards.step g p) opening h) result new
          (guard_leads g p a k fresh s (modest_is p e) t)
      go false e t = digits_together (headed_names h) (names_in old.rule.variables) old.rule.guard opening h g p result
          e s t
  atom_together g p a k fresh s still =
      rw a.takes.by (subst (λ o. GoTogether o None)
      (sym (none_behind (headed_names h) (names_in old.rule.variables) old.rule.guard opening h g p refl s
      (unread (is_read old.rule.guard.state) still))) tt)

-- the grammar's step from a name after `:|:` that begins an atom is that of the guard
word_step : (h : Headed) (name : Name) (p : Piece) → shown.is_open (Some p) ≡ false
    → step (grammar_states.WordRead h name) p ≡ step (grammar_states.MarkGuarding h (guard_named name)) p
word_step h name (In inner.Open) e = cc
word_step h name (In _) e = refl
word_step h name _ e = refl

-- the grammar's step from a state that denotes a guard is that of the guard
pub state_step : (opening : GuardOpening) (h : Headed) (g : GuardGrammarState) (f : GrammarState) (p : Piece)
    → IsGuard (Some p) opening h g f → step f p ≡ step (guarded opening h g) p
state_step openings.Square h g f p e = ap (λ f. step f p) e
state_step openings.Mark h g f p (inl e) = ap (λ f. step f p) e
state_step openings.Mark h g f p (inr (name, (e, (is, closed)))) = ap (λ f. step f p) e
    ∙ (word_step h name p closed ∙ ap (λ g. step (grammar_states.MarkGuarding h g) p) (sym is))

-- the contract of a literal that is too large
pub large_taken : {opening : GuardOpening} {old new : RuleDraft} {p : inner.Piece} {behind : Option inner.Piece} {result
    : Option ParserState} → is_modest p ≡ false → result ≡ guarding_if (goes_on_in old.guard p) opening
    → TakesPiece opening old p behind result new
large_taken {opening} {old} {new} {p} {behind} {result} m e =
    record { by = subst (λ v. TakesInner v opening old p behind result new) (sym m) e }

pub modest_taken : {opening : GuardOpening} {old new : RuleDraft} {p : inner.Piece} {behind : Option
    inner.Piece} {result : Option ParserState} (taken : Bool) → is_modest p ≡ true → result ≡ guarding_if taken opening
    → standing.Takes (names_in old.variables) old.guard p behind taken (names_in new.variables) new.guard
    → TakesPiece opening old p behind result new
modest_taken {opening} {old} {new} {p} {behind} {result} taken m e t =
    record { by = subst (λ v. TakesInner v opening old p behind result new) (sym m) (taken, (e, t)) }

-- the contract of a piece that is present
pub some_taken : {opening : GuardOpening} {old new : RuleDraft} {p : inner.Piece} {behind : Option inner.Piece} {result
    : Option ParserState} (o : Option inner.Piece) → o ≡ Some p → TakesPiece opening old p behind result new
    → TakesMaybe opening old o behind result new
some_taken {opening} {old} {new} {p} {behind} {result} o e t =
    record { by = subst (λ o. TakesAtom opening old o behind result new) (sym e) t.by }

-- without a piece there is no next state
pub none_taken : {opening : GuardOpening} {old new : RuleDraft} {behind : Option inner.Piece} (o : Option inner.Piece)
    → o ≡ None → TakesMaybe opening old o behind None new
none_taken {opening} {old} {new} {behind} o e =
    record { by = subst (λ o. TakesAtom opening old o behind None new) (sym e) refl }

-- the contract of a piece and the one after it carries over along equations
pub taken_alike : {opening : GuardOpening} {old new : RuleDraft} {o p a b : Option inner.Piece} {result : Option
    ParserState} → o ≡ p → a ≡ b → TakesMaybe opening old o a result new → TakesMaybe opening old p b result new
taken_alike {opening} {old} {new} {o} {p} {a} {b} {result} e f t =
    subst (λ p. TakesMaybe opening old p b result new) e (subst (λ b. TakesMaybe opening old o b result new) f t)
