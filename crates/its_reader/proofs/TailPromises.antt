-- The contracts of the functions for each state after a target.
use Rattle.std.specs.Prelude.{◌≡◌, Bool, true, false, not, ◌&&◌, ◌||◌, [], map, Option, Some, None, refl}
use Rattle.std.proofs.Common.{sym, ap, subst, ◌∙◌, inl, inr}
use Rattle.model.specs.Programs.{Name}
use Rattle.its_text.specs.expr_text.Pieces as inner
use Rattle.its_text.specs.expr_text.Guards.{Atoms, atoms_terms}
use Rattle.its_text.specs.expr_text.GuardGrammarStates as guards
use Rattle.its_text.specs.expr_text.GuardGrammarStates.{GuardGrammarState, no_atoms}
use Rattle.expr_reader.specs.Variables.{names_in}
use Rattle.expr_reader.specs.Standing.{IsFresh}
use Rattle.expr_reader.specs.GuardParts.{is_read}
use Rattle.expr_reader.specs.GuardRepresentation as standing
use Rattle.expr_reader.specs.GuardRepresentation.{limited_atom, IsWanting, IsEnded, IsPartEnded, part_ended_none}
use Rattle.expr_reader.specs.GuardRepresentation.{joined_only}
use Rattle.its_text.specs.Pieces.{Piece, In, GuardMark, SquareOpen, SquareClose, open_bracket}
use Rattle.its_text.specs.Written.{NoGuard, BehindMark, InSquares}
use Rattle.its_text.specs.GrammarStates as grammar_states
use Rattle.its_text.specs.GrammarStates.{GrammarState, Ruling, Headed, ruling_with}
use Rattle.its_text.specs.StateNames.{headed_names}
use Rattle.its_text.specs.Steps.{step, mark_guard_step, guard_ended, guard_named, square_guard_step, square_ended}
use Rattle.its_text.specs.StateFaults as shown
use Rattle.its_text.specs.StateFaults.{Tokens}
use Rattle.its_reader.specs.Tests as tests
use Rattle.its_reader.specs.Standing.{KnowsHeaded, KnowsSource}
use Rattle.its_reader.specs.Places.{TailPartEnded, LeadsTo, IsHeaded, IsSource}
use Rattle.its_reader.specs.StateSteps.{GoTogether, IsModestPiece, TailLeads, RuleLeads}
use Rattle.its_reader.specs.TailSteps.{KnowsWhole, RuleEnds, WholeLeads, guarding_if, AtomTakes, ClosesIf, SquareEnds}
use Rattle.its_reader.specs.TailSteps.{GuardEnds, GuardIsEnded}
use Rattle.its_reader.specs.declared.parser_state.GuardOpening.{GuardOpening}
use Rattle.its_reader.specs.declared.parser_state.GuardOpening.TheVariants as openings
use Rattle.its_reader.specs.declared.parser_state.SourceState.TheVariants as lefts
use Rattle.its_reader.specs.declared.parser_state.TailState.{TailState}
use Rattle.its_reader.specs.declared.parser_state.TailState.TheVariants as tails
use Rattle.its_reader.specs.declared.parser_state.ParserState.{ParserState}
use Rattle.its_reader.specs.declared.parser_state.ParserState.TheVariants as places
use Rattle.its_reader.specs.declared.draft.Draft.{Draft}
use Rattle.its_reader.proofs.LeftLaws.{leads_together, ruled_stops}
use Rattle.its_reader.proofs.TailLaws.{whole_rule, whole_bare, whole_marked, whole_squared}
use Rattle.its_reader.proofs.GuardLaws.{guarded, ended_of, state_step, atom_each, atom_together, headed_stays}
use Rattle.std.proofs.lemmas.Bool.{or_parts as neither}

-- a step that is right in each context satisfies the contract of its state after a target
always_tail : (state : TailState) (p : Piece) (behind : Option Piece) (old new : Draft) (result : Option ParserState)
    → ((ts : Tokens) (f : GrammarState) → TailPartEnded ts (Some p) state old f
    → LeadsTo ts behind (step f p) result new) → TailLeads state old p behind result new
always_tail state p behind old new result h = record {
  together = λ ts f k. leads_together ts behind (step f p) result new (h ts f k);
  each = λ ts f k modest. h ts f k;
}

-- a state after a target that is equal to a known one satisfies the known state's contract
pub in_tail_state : (state known : TailState) (old new : Draft) (p : Piece) (behind : Option Piece)
    (result : Option ParserState) → state ≡ known → TailLeads known old p behind result new
    → TailLeads state old p behind result new
in_tail_state state known old new p behind result e h =
    subst (λ (q : TailState). TailLeads q old p behind result new) (sym e) h

-- a `:|:` after a target opens a guard
pub targeted_marks : (p : Piece) (behind : Option Piece) (d : Draft) → tests.is_guard_mark p ≡ true
    → TailLeads tails.Targeted d p behind (Some (places.InTail tails.GuardMarked)) d
targeted_marks p behind d m = always_tail tails.Targeted p behind d d _ (λ ts f k. rw k.1.0 (go ts k.0 k.1.1.0 p m))
  where
    go : (ts : Tokens) (h : Headed) → IsHeaded ts h d → (p : Piece) → tests.is_guard_mark p ≡ true
        → LeadsTo ts behind (step (grammar_states.Targeted h) p) (Some (places.InTail tails.GuardMarked)) d
    go ts h k GuardMark m = (h, (refl, k))
    go ts h k _ m = cc

-- a `[` after a target opens a guard
pub targeted_squares : (p : Piece) (behind : Option Piece) (d : Draft) → tests.is_square_open p ≡ true
    → TailLeads tails.Targeted d p behind (Some (places.InTail tails.SquareOpened)) d
targeted_squares p behind d m = always_tail tails.Targeted p behind d d _ (λ ts f k. rw k.1.0 (go ts k.0 k.1.1.0 p m))
  where
    go : (ts : Tokens) (h : Headed) → IsHeaded ts h d → (p : Piece) → tests.is_square_open p ≡ true
        → LeadsTo ts behind (step (grammar_states.Targeted h) p) (Some (places.InTail tails.SquareOpened)) d
    go ts h k SquareOpen m = (h, (refl, k))
    go ts h k _ m = cc

-- the grammar's step at the piece after a rule without a guard
targeted_step : (h : Headed) (p : Piece) → tests.is_guard_mark p ≡ false → tests.is_square_open p ≡ false
    → step (grammar_states.Targeted h) p ≡ step (grammar_states.AfterRule (ruling_with h NoGuard)) p
targeted_step h GuardMark m s = cc
targeted_step h SquareOpen m s = cc
targeted_step h (In _) m s = refl
targeted_step h _ m s = refl

-- a piece after a target that begins no guard is taken as after a whole rule
pub targeted_ends : (p : Piece) (behind : Option Piece) (old new : Draft) (result : Option ParserState)
    → tests.is_guard_mark p ≡ false → tests.is_square_open p ≡ false → WholeLeads old p result new
    → TailLeads tails.Targeted old p behind result new
targeted_ends p behind old new result m s w = always_tail tails.Targeted p behind old new result (λ ts f k.
    subst (λ o. LeadsTo ts behind o result new) (sym (ap (λ f. step f p) k.1.0 ∙ targeted_step k.0 p m s))
    (w.each ts behind k.0 NoGuard (whole_bare ts k.0 old k.1.1.0)))

-- an optional piece that passes the test for an opening bracket is one
open_is : (o : Option Piece) → tests.is_open_bracket_next o ≡ true → o ≡ Some open_bracket
open_is None e = cc
open_is (Some (In inner.Open)) e = refl
open_is (Some (In _)) e = cc
open_is (Some _) e = cc

closed_is : (o : Option Piece) → tests.is_open_bracket_next o ≡ false → shown.is_open o ≡ false
closed_is None e = refl
closed_is (Some (In inner.Open)) e = cc
closed_is (Some (In _)) e = refl
closed_is (Some _) e = refl

-- a name after `:|:` is a rule's source if an opening bracket follows
module _ (ts : Tokens) (behind : Option Piece) (h : Headed) (name : Name) (new : Draft) where
  source_read : behind ≡ Some open_bracket → LeadsTo ts behind
      (Some (grammar_states.SourceNamed (ruling_with h (BehindMark None)) name))
      (Some (places.InLeft lefts.SourceNamed)) new
      → LeadsTo ts behind (Some (grammar_states.WordRead h name)) (Some (places.InLeft lefts.SourceNamed)) new
  source_read next k = go k.0 k.1.0 k.1.1.0 k.1.1.1
    where
      go : (r : Ruling) (n : Name) → IsSource behind r n
          (grammar_states.SourceNamed (ruling_with h (BehindMark None)) name) → KnowsSource ts r n [] new
          → LeadsTo ts behind (Some (grammar_states.WordRead h name)) (Some (places.InLeft lefts.SourceNamed)) new
      go r n (inl e) known =
          let ruling : ruling_with h (BehindMark None) ≡ r = cc in
          let same : name ≡ n = cc in
          (r, (n, (inr (h, (ap (grammar_states.WordRead h) same, (sym ruling, next))), known)))
      go r n (inr (g, (e, more))) known = cc

-- directly after `:|:` the rule ends before a rule's source, or before the end of the section
pub marked_ends : (p : Piece) (behind : Option Piece) (old new : Draft) (result : Option ParserState)
    → tests.is_close_bracket p || (tests.is_name p && tests.is_open_bracket_next behind) ≡ true
    → WholeLeads old p result new → TailLeads tails.GuardMarked old p behind result new
marked_ends p behind old new result c w = always_tail tails.GuardMarked p behind old new result
    (λ ts f k. rw k.1.0 (go ts k.0 k.1.1 p c w))
  where
    go : (ts : Tokens) (h : Headed) → IsHeaded ts h old → (p : Piece)
        → tests.is_close_bracket p || (tests.is_name p && tests.is_open_bracket_next behind) ≡ true
        → WholeLeads old p result new → LeadsTo ts behind (step (grammar_states.GuardMarked h) p) result new
    go ts h k (In inner.Close) c w = w.each ts behind h (BehindMark None) (whole_marked ts h old k)
    go ts h k (In (inner.Word name)) c w =
        let is : result ≡ Some (places.InLeft lefts.SourceNamed) = w.sourced name refl in
        subst (λ (o : Option ParserState). LeadsTo ts behind (Some (grammar_states.WordRead h name)) o new) (sym is)
        (source_read ts behind h name new (open_is behind c)
        (subst (λ (o : Option ParserState). LeadsTo ts behind
        (Some (grammar_states.SourceNamed (ruling_with h (BehindMark None)) name)) o new) is
        (w.each ts behind h (BehindMark None) (whole_marked ts h old k))))
    go ts h k (In _) c w = cc
    go ts h k _ c w = cc

-- after the target, no part of a guard has been read
nothing_read : (ts : Tokens) (h : Headed) (d : Draft) (next : Option inner.Piece) → IsHeaded ts h d
    → IsPartEnded next (headed_names h) no_atoms (names_in d.rule.variables) d.rule.guard
nothing_read ts h d next k = part_ended_none
    (subst (λ ns. IsWanting (headed_names h) no_atoms ns d.rule.guard) (sym k.names_are) (k.guard (headed_names h)))

unread_at : (ts : Tokens) (h : Headed) (d : Draft) (p : Piece) → IsHeaded ts h d
    → not (is_read d.rule.guard.state) || tests.is_conjunction p ≡ true
unread_at ts h d p k = ap (λ state. not (is_read state) || tests.is_conjunction p) (k.guard (headed_names h)).state_is

-- the grammar's step at a piece that begins an atom after `:|:`
mark_step : (h : Headed) (p : Piece) → tests.is_close_bracket p ≡ false → tests.is_name p ≡ false
    → step (grammar_states.GuardMarked h) p ≡ step (guarded openings.Mark h no_atoms) p
mark_step h (In inner.Close) c n = cc
mark_step h (In (inner.Word name)) c n = cc
mark_step h (In _) c n = refl
mark_step h _ c n = refl

module _ (ts : Tokens) (behind : Option Piece) (old new : Draft) (result : Option ParserState) (h : Headed)
    (k : IsHeaded ts h old) where
  -- an atom after `:|:` begins with a name
  named_leads : (name : Name) → tests.is_open_bracket_next behind ≡ false
      → AtomTakes openings.Mark old (In (inner.Word name)) behind result new
      → LeadsTo ts behind (Some (grammar_states.WordRead h name)) result new
  named_leads name closed a = go a.takes.by.0 a.takes.by.1.0
      (a.takes.by.1.1.each (headed_names h) no_atoms (nothing_read ts h old (Some (inner.Word name)) k) tt)
    where
      go : (taken : Bool) → result ≡ guarding_if taken openings.Mark
          → standing.LeadsTo taken (tests.inner_next behind) (headed_names h) (Some (guard_named name))
          (names_in old.rule.variables) old.rule.guard (names_in new.rule.variables) new.rule.guard
          → LeadsTo ts behind (Some (grammar_states.WordRead h name)) result new
      go false e l = absurd l
      go true e l = rw e (
        h,
        (
          guard_named name,
          (
            inr (name, (refl, (refl, closed_is behind closed))),
            (
              headed_stays ts h openings.Mark (In (inner.Word name)) behind result old new k.headed a,
              (subst (λ x. IsFresh x) (sym a.stays.expression) k.expression, l),
            ),
          ),
        ),
      )

  other_leads : (p : Piece) → tests.is_close_bracket p ≡ false → tests.is_name p ≡ false
      → AtomTakes openings.Mark old p behind result new → IsModestPiece p
      → LeadsTo ts behind (step (grammar_states.GuardMarked h) p) result new
  other_leads p c n a modest = subst (λ o. LeadsTo ts behind o result new) (sym (mark_step h p c n))
      (atom_each ts h openings.Mark behind result old new no_atoms p a k.headed k.expression
      (nothing_read ts h old (tests.inner_in p) k) (unread_at ts h old p k) modest)

  other_together : (p : Piece) → tests.is_close_bracket p ≡ false → tests.is_name p ≡ false
      → AtomTakes openings.Mark old p behind result new → GoTogether (step (grammar_states.GuardMarked h) p) result
  other_together p c n a = subst (λ o. GoTogether o result) (sym (mark_step h p c n))
      (atom_together ts h openings.Mark behind result old new no_atoms p a k.headed k.expression
      (nothing_read ts h old (tests.inner_in p) k) (unread_at ts h old p k))

  marked_each : (p : Piece) → tests.is_close_bracket p || (tests.is_name p && tests.is_open_bracket_next behind) ≡ false
      → AtomTakes openings.Mark old p behind result new → IsModestPiece p
      → LeadsTo ts behind (step (grammar_states.GuardMarked h) p) result new
  marked_each (In (inner.Word name)) c a modest = named_leads name c a
  marked_each p c a modest = other_leads p
      (neither (tests.is_close_bracket p) (tests.is_name p && tests.is_open_bracket_next behind) c).0 refl a modest

  marked_together : (p : Piece) → tests.is_close_bracket p || (tests.is_name p && tests.is_open_bracket_next behind)
      ≡ false → AtomTakes openings.Mark old p behind result new
      → GoTogether (step (grammar_states.GuardMarked h) p) result
  marked_together (In (inner.Word name)) c a = leads_together ts behind (Some (grammar_states.WordRead h name)) result
      new (named_leads name c a)
  marked_together p c a = other_together p
      (neither (tests.is_close_bracket p) (tests.is_name p && tests.is_open_bracket_next behind) c).0 refl a

-- directly after `:|:` an atom begins if neither a rule begins nor the section ends
pub marked_goes_on : (p : Piece) (behind : Option Piece) (old new : Draft) (result : Option ParserState)
    → tests.is_close_bracket p || (tests.is_name p && tests.is_open_bracket_next behind) ≡ false
    → AtomTakes openings.Mark old p behind result new
    → TailLeads tails.GuardMarked old p behind result new
marked_goes_on p behind old new result c a = record {
  together = λ ts f k. rw k.1.0 (marked_together ts behind old new result k.0 k.1.1 p c a);
  each = λ ts f k modest. rw k.1.0 (marked_each ts behind old new result k.0 k.1.1 p c a modest);
}

-- the grammar's step at a piece that begins an atom after `[`
square_step : (h : Headed) (p : Piece) → tests.is_square_close p ≡ false
    → step (grammar_states.SquareOpened h) p ≡ step (guarded openings.Square h no_atoms) p
square_step h SquareClose c = cc
square_step h (In _) c = refl
square_step h _ c = refl

-- directly after `[` an atom begins at any piece but `]`
pub square_goes_on : (p : Piece) (behind : Option Piece) (old new : Draft) (result : Option ParserState)
    → tests.is_square_close p ≡ false → AtomTakes openings.Square old p behind result new
    → TailLeads tails.SquareOpened old p behind result new
square_goes_on p behind old new result c a = record {
  together = λ ts f k. subst (λ o. GoTogether o result) (sym (ap (λ f. step f p) k.1.0 ∙ square_step k.0 p c))
      (atom_together ts k.0 openings.Square behind result old new no_atoms p a k.1.1.headed k.1.1.expression
      (nothing_read ts k.0 old (tests.inner_in p) k.1.1) (unread_at ts k.0 old p k.1.1));
  each = λ ts f k modest. subst (λ o. LeadsTo ts behind o result new)
      (sym (ap (λ f. step f p) k.1.0 ∙ square_step k.0 p c))
      (atom_each ts k.0 openings.Square behind result old new no_atoms p a k.1.1.headed k.1.1.expression
      (nothing_read ts k.0 old (tests.inner_in p) k.1.1) (unread_at ts k.0 old p k.1.1) modest);
}

-- a `]` directly after `[` ends a guard without atoms
pub square_closes : (p : Piece) (behind : Option Piece) (old new : Draft) → tests.is_square_close p ≡ true
    → RuleEnds old new → TailLeads tails.SquareOpened old p behind (Some (places.InLeft lefts.AfterRule)) new
square_closes p behind old new c e = always_tail tails.SquareOpened p behind old new _
    (λ ts f k. rw k.1.0 (go ts k.0 k.1.1 p c))
  where
    go : (ts : Tokens) (h : Headed) → IsHeaded ts h old → (p : Piece) → tests.is_square_close p ≡ true
        → LeadsTo ts behind (step (grammar_states.SquareOpened h) p) (Some (places.InLeft lefts.AfterRule)) new
    go ts h k SquareClose c = (
      ruling_with h (InSquares None),
      (refl, (whole_rule ts h (InSquares None) old new (whole_squared ts h old k) e, e.fresh)),
    )
    go ts h k (In _) c = cc
    go ts h k _ c = cc

-- within a guard that continues, the code steps as the written state does
pub atom_goes_on : (opening : GuardOpening) (p : Piece) (behind : Option Piece) (old new : Draft)
    (result : Option ParserState) → not (is_read old.rule.guard.state) || tests.is_conjunction p ≡ true
    → AtomTakes opening old p behind result new
    → TailLeads (tails.Guarding opening) old p behind result new
atom_goes_on opening p behind old new result still a = record {
  together = λ ts f k. subst (λ o. GoTogether o result) (sym (state_step opening k.0 k.1.0 f p k.1.1.0))
      (atom_together ts k.0 opening behind result old new k.1.0 p a k.1.1.1.0 k.1.1.1.1.0 k.1.1.1.1.1 still);
  each = λ ts f k modest. subst (λ o. LeadsTo ts behind o result new) (sym (state_step opening k.0 k.1.0 f p k.1.1.0))
      (atom_each ts k.0 opening behind result old new k.1.0 p a k.1.1.1.0 k.1.1.1.1.0 k.1.1.1.1.1 still modest);
}

-- an atom has been read, and the piece doesn't join another one to it
read_here : (v w : Bool) → not v || w ≡ false → (v ≡ true) × (w ≡ false)
read_here true w e = (refl, e)
read_here false w e = cc

not_joined : (o : Option Atoms) (q : inner.Piece) → tests.is_conjunction (In q) ≡ false → joined_only o q ≡ None
not_joined o (inner.Joining joint) e = cc
not_joined o _ e = refl

module _ (ts : Tokens) (h : Headed) (g : GuardGrammarState) (old : Draft) (headed : KnowsHeaded ts h old) where
  atoms_known : (next : Option inner.Piece)
      (at : IsEnded next (headed_names h) g (names_in old.rule.variables) old.rule.guard)
      → KnowsWhole ts h (BehindMark (Some at.atoms)) old
  atoms_known next at = record {
    headed = headed;
    names_are = at.names_are;
    atoms_are = at.atoms_are
        ∙ ap (λ ns. map limited_atom (atoms_terms ns at.atoms)) at.names_are;
  }

  squares_known : (next : Option inner.Piece)
      (at : IsEnded next (headed_names h) g (names_in old.rule.variables) old.rule.guard)
      → KnowsWhole ts h (InSquares (Some at.atoms)) old
  squares_known next at = record {
    headed = headed;
    names_are = at.names_are;
    atoms_are = at.atoms_are
        ∙ ap (λ ns. map limited_atom (atoms_terms ns at.atoms)) at.names_are;
  }

  -- after a guard that `:|:` opened, a rule begins, or the section ends
  mark_ends : (p : Piece) (at : IsEnded (tests.inner_in p) (headed_names h) g (names_in old.rule.variables)
      old.rule.guard) → tests.is_conjunction p ≡ false
      → step (grammar_states.MarkGuarding h g) p ≡ step
      (grammar_states.AfterRule (ruling_with h (BehindMark (Some at.atoms)))) p
  mark_ends (In q) at j =
      ap (λ o. mark_guard_step h g o q) (at.joins q refl ∙ not_joined (guards.finish g) q j)
      ∙ ap (λ o. guard_ended h o q) at.finish_is
  mark_ends _ at j = refl

  square_stops : (p : Piece)
      (at : IsEnded (tests.inner_in p) (headed_names h) g (names_in old.rule.variables) old.rule.guard)
      → tests.is_conjunction p ≡ false → tests.is_square_close p ≡ false
      → step (grammar_states.SquareGuarding h g) p ≡ None
  square_stops (In q) at j c = ap (square_guard_step h) (at.joins q refl ∙ not_joined (guards.finish g) q j)
  square_stops SquareClose at j c = cc
  square_stops _ at j c = refl

-- at the piece after a guard the code steps as the written state does
guard_ends : (p : Piece) (behind : Option Piece) (old new : Draft) (result : Option ParserState)
    → not (is_read old.rule.guard.state) || tests.is_conjunction p ≡ false → WholeLeads old p result new
    → TailLeads (tails.Guarding openings.Mark) old p behind result new
guard_ends p behind old new result still w = always_tail (tails.Guarding openings.Mark) p behind old new result
    (λ ts f k.
    let shut = read_here (is_read old.rule.guard.state) (tests.is_conjunction p) still in
    let at = ended_of (headed_names k.0) (names_in old.rule.variables) old.rule.guard (tests.inner_in p) k.1.0
    k.1.1.1.1.1 shut.0 in
    subst (λ o. LeadsTo ts behind o result new)
    (sym (state_step openings.Mark k.0 k.1.0 f p k.1.1.0 ∙ mark_ends ts k.0 k.1.0 old k.1.1.1.0 p at shut.1))
    (w.each ts behind k.0 (BehindMark (Some at.atoms)) (atoms_known ts k.0 k.1.0 old k.1.1.1.0 (tests.inner_in p) at)))

guard_closes : (p : Piece) (behind : Option Piece) (old new : Draft)
    → not (is_read old.rule.guard.state) || tests.is_conjunction p ≡ false → tests.is_square_close p ≡ true
    → RuleEnds old new
    → TailLeads (tails.Guarding openings.Square) old p behind (Some (places.InLeft lefts.AfterRule)) new
guard_closes p behind old new still c e = always_tail (tails.Guarding openings.Square) p behind old new
    (Some (places.InLeft lefts.AfterRule)) (λ ts f k.
    let shut = read_here (is_read old.rule.guard.state) (tests.is_conjunction p) still in
    let at = ended_of (headed_names k.0) (names_in old.rule.variables) old.rule.guard (tests.inner_in p) k.1.0
    k.1.1.1.1.1 shut.0 in
    subst (λ o. LeadsTo ts behind o (Some (places.InLeft lefts.AfterRule)) new)
    (sym (state_step openings.Square k.0 k.1.0 f p k.1.1.0))
    (go ts k.0 k.1.0 (tests.inner_in p) at (squares_known ts k.0 k.1.0 old k.1.1.1.0 (tests.inner_in p) at) p c))
  where
    go : (ts : Tokens) (h : Headed) (g : GuardGrammarState) (next : Option inner.Piece)
        (at : IsEnded next (headed_names h) g (names_in old.rule.variables) old.rule.guard)
        → KnowsWhole ts h (InSquares (Some at.atoms)) old
        → (p : Piece) → tests.is_square_close p ≡ true → LeadsTo ts behind (step (grammar_states.SquareGuarding h g) p)
        (Some (places.InLeft lefts.AfterRule)) new
    go ts h g next at whole SquareClose c =
        subst (λ o. LeadsTo ts behind o (Some (places.InLeft lefts.AfterRule)) new)
        (sym (ap (square_ended h) at.finish_is)) (
          ruling_with h (InSquares (Some at.atoms)),
          (refl, (whole_rule ts h (InSquares (Some at.atoms)) old new whole e, e.fresh)),
        )
    go ts h g next at whole (In _) c = cc
    go ts h g next at whole _ c = cc

guard_stops : (p : Piece) (behind : Option Piece) (old : Draft)
    → not (is_read old.rule.guard.state) || tests.is_conjunction p ≡ false → tests.is_square_close p ≡ false
    → TailLeads (tails.Guarding openings.Square) old p behind None old
guard_stops p behind old still c = always_tail (tails.Guarding openings.Square) p behind old old None (λ ts f k.
    let shut = read_here (is_read old.rule.guard.state) (tests.is_conjunction p) still in
    let at = ended_of (headed_names k.0) (names_in old.rule.variables) old.rule.guard (tests.inner_in p) k.1.0
    k.1.1.1.1.1 shut.0 in
    subst (λ o. LeadsTo ts behind o None old)
    (sym (state_step openings.Square k.0 k.1.0 f p k.1.1.0 ∙ square_stops ts k.0 k.1.0 old k.1.1.1.0 p at shut.1 c))
    tt)

-- after an atom a piece that is no conjunction sign is taken as one that follows a guard
pub behind_atoms : (opening : GuardOpening) (p : Piece) (behind : Option Piece) (old new : Draft)
    (result : Option ParserState) → not (is_read old.rule.guard.state) || tests.is_conjunction p ≡ false
    → GuardIsEnded opening old p result new
    → TailLeads (tails.Guarding opening) old p behind result new
behind_atoms openings.Mark p behind old new result still w = guard_ends p behind old new result still w.by
behind_atoms openings.Square p behind old new result still w = go (tests.is_square_close p) refl w.by.has_closed
  where
    go : (v : Bool) → tests.is_square_close p ≡ v → ClosesIf v old result new
        → TailLeads (tails.Guarding openings.Square) old p behind result new
    go true e s = subst (λ r. TailLeads (tails.Guarding openings.Square) old p behind r new) (sym s.0)
        (guard_closes p behind old new still e s.1)
    go false e s = rw (s.0, s.1) (guard_stops p behind old still e)

-- a piece that isn't a name doesn't begin a rule
word_none : (p : Piece) → tests.is_name p ≡ false → tests.word p ≡ None
word_none (In (inner.Word name)) e = cc
word_none (In _) e = refl
word_none _ e = refl

-- after a whole rule only a name and a closing bracket can follow
pub rule_stops : (p : Piece) (d : Draft) → tests.is_close_bracket p || tests.is_name p ≡ false → WholeLeads d p None d
rule_stops p d e = record {
  each = λ ts next h guard k. ruled_stops ts next p (ruling_with h guard) d none shut.0;
  sourced = λ name w. sourceless name w;
}
  where
    shut : (tests.is_close_bracket p ≡ false) × (tests.is_name p ≡ false)
    shut = neither (tests.is_close_bracket p) (tests.is_name p) e

    none : tests.word p ≡ None
    none = word_none p shut.1

    sourceless : (name : Name) → tests.word p ≡ Some name → None ≡ Some (places.InLeft lefts.SourceNamed)
    sourceless name w = let n = word_none p shut.1 in cc

-- once a whole rule is in the list of rules, the next piece continues that list
pub rule_leads : (p : Piece) (old middle new : Draft) (result : Option ParserState) → RuleEnds old middle
    → RuleLeads middle p result new
    → ((name : Name) → tests.word p ≡ Some name → result ≡ Some (places.InLeft lefts.SourceNamed))
    → WholeLeads old p result new
rule_leads p old middle new result e l s =
    record {
      each = λ ts next h guard k. l.each ts next (ruling_with h guard) (whole_rule ts h guard old middle k e)
          e.fresh;
      sourced = s;
    }

-- the contract of the piece after a guard that `:|:` opened
pub mark_over : {old new : Draft} {p : Piece} {result : Option ParserState} (opening : GuardOpening)
    → opening ≡ openings.Mark → WholeLeads old p result new → GuardIsEnded opening old p result new
mark_over {old} {new} {p} {result} opening e w = record { by = subst (λ f. GuardEnds f old p result new) (sym e) w }

-- the contract of the piece after a guard in square brackets, depending on whether it closes them
pub square_over : {old new : Draft} {p : Piece} {result : Option ParserState} (opening : GuardOpening)
    → opening ≡ openings.Square → SquareEnds old p result new → GuardIsEnded opening old p result new
square_over {old} {new} {p} {result} opening e w = record { by = subst (λ f. GuardEnds f old p result new) (sym e) w }

-- a `]` closes the square brackets, and the rule ends
pub square_closed : {old new : Draft} {p : Piece} → tests.is_square_close p ≡ true → RuleEnds old new
    → SquareEnds old p (Some (places.InLeft lefts.AfterRule)) new
square_closed {old} {new} {p} e r =
    record { has_closed = subst (λ v. ClosesIf v old (Some (places.InLeft lefts.AfterRule)) new) (sym e) (refl, r) }

-- a piece that doesn't close the square brackets is rejected
pub square_open : {old : Draft} {p : Piece} → tests.is_square_close p ≡ false → SquareEnds old p None old
square_open {old} {p} e = record { has_closed = subst (λ v. ClosesIf v old None old) (sym e) (refl, refl) }
