-- The part that ends before the next piece ends in the code exactly if the written one does, and the fault at its last
-- byte is found.
use Rattle.std.specs.Prelude.{◌≡◌, ℕ, Bool, true, false, ◌&&◌, if◌then◌else◌, List, [], ◌∷◌, ◌++◌, map}
use Rattle.std.specs.Prelude.{Option, Some, None, option_map, refl}
use Rattle.std.proofs.Common.{sym, ap, subst, ◌∙◌, append-nil, inl, inr}
use Rattle.model.specs.Programs.{Name}
use Rattle.poly_terms.specs.Views.{term_of}
use Rattle.poly_terms.specs.Faults as polynomials
use Rattle.poly_terms.specs.Faults.{first_fault}
use Rattle.its_text.specs.expr_text.Pieces as inner
use Rattle.its_text.specs.expr_text.Trees.{Sum}
use Rattle.its_text.specs.expr_text.Terms.{with_sum, sum_term}
use Rattle.its_text.specs.expr_text.GrammarStates as expression
use Rattle.its_text.specs.expr_text.Steps as expression_steps
use Rattle.its_text.specs.expr_text.Guards.{relation_of}
use Rattle.its_text.specs.expr_text.GuardGrammarStates.{GuardGrammarState, RightSide, Conjoined, no_atoms}
use Rattle.its_text.specs.expr_text.StateNames.{with_conjoined}
use Rattle.its_text.specs.expr_text.Differences.{differences, first_of_all}
use Rattle.expr_reader.specs.Variables.{names_in}
use Rattle.expr_reader.specs.Faults as found
use Rattle.expr_reader.specs.Standing.{IsFresh}
use Rattle.expr_reader.specs.GuardRepresentation as standing
use Rattle.expr_reader.specs.GuardRepresentation.{IsWanting, Reads, reading_none, reading_left, reading_right}
use Rattle.expr_reader.specs.GuardRepresentation.{reading_truth}
use Rattle.expr_reader.specs.GuardRepresentation.{IsPartEnded}
use Rattle.expr_reader.specs.declared.guard.GuardReader.{GuardReader}
use Rattle.expr_reader.proofs.Endings.{finished_names}
use Rattle.its_text.specs.Pieces.{Piece, In}
use Rattle.its_text.specs.Kinds.{ArityDiffers}
use Rattle.its_text.specs.Numbering.{arrow_names}
use Rattle.its_text.specs.GrammarStates as grammar_states
use Rattle.its_text.specs.GrammarStates.{GrammarState, Aimed, Headed}
use Rattle.its_text.specs.StateNames.{names_with, headed_names}
use Rattle.its_text.specs.StateFaults.{Tokens, FaultList, fault_if, expansion_faults, atom_faults}
use Rattle.its_text.specs.StateFaults.{right_side_faults, ends_expression, last_faults}
use Rattle.its_reader.specs.Tests.{inner_next}
use Rattle.its_reader.specs.Standing.{KnowsHeaded, updates_of}
use Rattle.its_reader.specs.Places.{InLeft, InRight, InTail, RightPartEnded, TailPartEnded, PartEndedAt, IsArguing}
use Rattle.its_reader.specs.Places.{IsArgued}
use Rattle.its_reader.specs.Places.{IsGuard, IsSource}
use Rattle.its_reader.specs.Faults.{maybe_kind}
use Rattle.its_reader.specs.TokenSteps.{EndsPart}
use Rattle.its_reader.specs.TailSteps.{StaysInGuard}
use Rattle.its_reader.specs.PartEnds.{closes_left, closes_right, closes_target, wrap_of_argument, is_guarding, ends_in}
use Rattle.its_reader.specs.PartEnds.{IsStill}
use Rattle.its_reader.specs.PartEnds.{AfterArgument, ArgumentEndsPart, ArgumentIsPartEnded, RightEndsPartBy}
use Rattle.its_reader.specs.PartEnds.{RightEndsPart}
use Rattle.its_reader.specs.PartEnds.{RepresentsGuard, TailEndsPartBy, TailEndsPart}
use Rattle.its_reader.specs.declared.fault.Kind.{Kind}
use Rattle.its_reader.specs.declared.parser_state.GuardOpening.{GuardOpening}
use Rattle.its_reader.specs.declared.parser_state.GuardOpening.TheVariants as openings
use Rattle.its_reader.specs.declared.parser_state.Wrap.{Wrap}
use Rattle.its_reader.specs.declared.parser_state.SectionState.{SectionState}
use Rattle.its_reader.specs.declared.parser_state.SourceState.{SourceState}
use Rattle.its_reader.specs.declared.parser_state.SourceState.TheVariants as lefts
use Rattle.its_reader.specs.declared.parser_state.TargetState.{TargetState}
use Rattle.its_reader.specs.declared.parser_state.TargetState.TheVariants as rights
use Rattle.its_reader.specs.declared.parser_state.TailState.{TailState}
use Rattle.its_reader.specs.declared.parser_state.TailState.TheVariants as tails
use Rattle.its_reader.specs.declared.parser_state.ParserState.{ParserState}
use Rattle.its_reader.specs.declared.parser_state.ParserState.TheVariants as places
use Rattle.its_reader.specs.declared.draft.RuleDraft.{RuleDraft}
use Rattle.its_reader.specs.declared.draft.Draft.{Draft}
use Rattle.its_reader.proofs.FaultTestLaws.{section_silent}
use Rattle.its_reader.proofs.ExpressionEnds.{ends_by, ended_names, made_is, ended_found, going_silent}

-- outside rules nothing ends
pub section_ends_part : (state : SectionState) (d : Draft) (next : Option Piece)
    → EndsPart (places.InSections state) d next (places.InSections state) (maybe_kind None) d
section_ends_part state d next =
    record { part_ended = λ ts f k. k; found_is = λ ts at f k. sym (section_silent ts at next state d f k) }

-- up to the end of a left term, the only fault shown at the last byte is that of an arity that differs
left_shows : (ts : Tokens) (at : ℕ) (next : Option Piece) (state : SourceState) (d : Draft) (f : GrammarState)
    → InLeft ts next state d f → fault_if (closes_left state && d.rule.differs) ArityDiffers at ≡ last_faults at f next
left_shows ts at next lefts.AfterRule d f k = rw k.1.0 refl
left_shows ts at next lefts.SourceNamed d f k = either k.1.1.0
  where
    either : IsSource next k.0 k.1.0 f → [] ≡ last_faults at f next
    either (inl e) = rw e refl
    either (inr (h, (e, more))) = rw e refl
left_shows ts at next lefts.LeftOpened d f k = rw k.1.1.0 refl
left_shows ts at next lefts.LeftRead d f k = rw k.1.1.1.1.0 refl
left_shows ts at next lefts.LeftParted d f k = rw k.1.1.1.1.0 refl
left_shows ts at next lefts.SourceClosed d f k =
    rw k.1.1.0 (ap (λ v. fault_if v ArityDiffers at) k.1.1.1.1 ∙ sym (append-nil _))

-- up to the end of a left term no part ends, and the fault at the last byte is found
pub left_ends_part : (state : SourceState) (d : Draft) (next : Option Piece) (refusal : Option Kind)
    → ((at : ℕ) → maybe_kind refusal at ≡ fault_if (closes_left state && d.rule.differs) ArityDiffers at)
    → EndsPart (places.InLeft state) d next (places.InLeft state) (maybe_kind refusal) d
left_ends_part state d next refusal h =
    record { part_ended = λ ts f k. k; found_is = λ ts at f k. h at ∙ left_shows ts at next state d f k }

-- in a right term where no argument ends, the state is unchanged
right_still : (ts : Tokens) (next : Option Piece) (state : TargetState) (d : Draft) (f : GrammarState)
    → wrap_of_argument state ≡ None → InRight ts next state d f → RightPartEnded ts next state d f
right_still ts next (rights.Arguing w) d f e k = cc
right_still ts next (rights.Argued w) d f e k = absurd k
right_still ts next rights.Arrowed d f e k = k
right_still ts next rights.ComNamed d f e k = k
right_still ts next rights.ComOpened d f e k = k
right_still ts next (rights.TargetNamed w) d f e k = k
right_still ts next (rights.RightOpened w) d f e k = k
right_still ts next rights.TargetClosed d f e k = k

right_shows : (ts : Tokens) (at : ℕ) (next : Option Piece) (state : TargetState) (d : Draft) (f : GrammarState)
    → wrap_of_argument state ≡ None → InRight ts next state d f
    → fault_if (closes_right state && d.rule.differs) ArityDiffers at ≡ last_faults at f next
right_shows ts at next (rights.Arguing w) d f e k = cc
right_shows ts at next (rights.Argued w) d f e k = absurd k
right_shows ts at next rights.Arrowed d f e k = rw k.1.0 refl
right_shows ts at next rights.ComNamed d f e k = rw k.1.0 refl
right_shows ts at next rights.ComOpened d f e k = rw k.1.0 refl
right_shows ts at next (rights.TargetNamed w) d f e k = rw k.1.0 refl
right_shows ts at next (rights.RightOpened w) d f e k = rw k.1.0 refl
right_shows ts at next rights.TargetClosed d f e k = rw k.1.1.0
    (ap (λ v. fault_if v ArityDiffers at) k.1.1.1.1 ∙ sym (append-nil _))

module _ (ts : Tokens) (next : Option Piece) (w : Wrap) (a : Aimed) (arguments : List Sum) (e : expression.GrammarState)
  where
    -- the draft after an argument that has ended represents that argument
    argument_ended : (old : Draft) (rule : RuleDraft) (refusal : Option Kind) (s : Sum)
        → expression_steps.finish e ≡ Some s → ends_expression e next ≡ true → IsArguing ts w a arguments e old
        → AfterArgument old.rule refusal rule
        → IsArgued ts next w a arguments e s (record old { rule = rule })
    argument_ended old rule refusal s finish ends k h = record {
      wrap_is = k.wrap_is;
      finish_is = finish;
      ends = ends;
      aimed = record {
        led = record {
          sections = k.aimed.led.sections;
          rules_are = k.aimed.led.rules_are;
          source_is = h.source ∙ k.aimed.led.source_is;
          left_is = h.left ∙ k.aimed.led.left_is;
          cost_is = ap (option_map term_of) h.cost ∙ k.aimed.led.cost_is;
        };
        symbols = k.aimed.symbols;
        name_is = ap (λ v. v.now) h.name ∙ k.aimed.name_is;
        updates_are =
            h.updates
            ∙ (ap (λ ts. ts ++ h.made ∷ []) k.aimed.updates_are
            ∙ ap (λ t. updates_of (arrow_names a.led.left a.led.cost) arguments ++ t ∷ [])
            (made_is (names_with a.led arguments) e (names_in old.rule.variables) old.rule.expression k.expression s
            finish h.made h.ends));
        guard = subst (λ g. (before : List Name) → IsWanting before no_atoms before g) (sym h.guard) k.aimed.guard;
      };
      names_are = ap names_in h.variables ∙ ended_names (names_with a.led arguments) e (names_in old.rule.variables)
          old.rule.expression k.expression s finish;
      expression = h.clears.each (names_with a.led arguments) (names_in old.rule.variables) e s k.expression finish;
    }

    argument_part_ended : (old : Draft) (rule : RuleDraft) (now : ParserState) (refusal : Option Kind)
        → IsArguing ts w a arguments e old → ArgumentEndsPart (ends_in old.rule.expression (inner_next next)) w old.rule
        now refusal rule
        → PartEndedAt ts next now (record old { rule = rule }) (grammar_states.Arguing a arguments e)
        × ((at : ℕ) → maybe_kind refusal at ≡ last_faults at (grammar_states.Arguing a arguments e) next)
    argument_part_ended old rule now refusal k h = go (ends_in old.rule.expression (inner_next next)) refl h
      where
        go : (v : Bool) → ends_in old.rule.expression (inner_next next) ≡ v
            → ArgumentEndsPart v w old.rule now refusal rule
            → PartEndedAt ts next now (record old { rule = rule }) (grammar_states.Arguing a arguments e)
            × ((at : ℕ) → maybe_kind refusal at ≡ last_faults at (grammar_states.Arguing a arguments e) next)
        go true v h =
            let s = ends_by (names_with a.led arguments) e (names_in old.rule.variables) old.rule.expression
            k.expression
            next true v in (
              subst (λ p. PartEndedAt ts next p (record old { rule = rule }) (grammar_states.Arguing a arguments e))
                  (sym h.0) (a, (arguments, (e, (s.0, (refl, argument_ended old rule refusal s.0 s.1.0 s.1.1 k h.1))))),
              λ at. h.1.found_is at ∙ ended_found (names_with a.led arguments) e (names_in old.rule.variables)
                  old.rule.expression k.expression s.0 s.1.0 at next h.1.made h.1.ends s.1.1,
            )
        go false v h =
            let stops = ends_by (names_with a.led arguments) e (names_in old.rule.variables) old.rule.expression
            k.expression next false v in (
              subst (λ p. PartEndedAt ts next p (record old { rule = rule }) (grammar_states.Arguing a arguments e))
                  (sym h.0)
                  (subst (λ r. RightPartEnded ts next (rights.Arguing w) (record old { rule = r })
                  (grammar_states.Arguing a arguments e)) (sym h.1.1) (a, (arguments, (e, (refl, (k, stops)))))),
              λ at. ap (λ o. maybe_kind o at) h.1.0 ∙ going_silent at (names_with a.led arguments) e next stops,
            )

still_ends_part : (state : TargetState) (old : Draft) (rule : RuleDraft) (next : Option Piece) (now : ParserState)
    (refusal : Option Kind) → wrap_of_argument state ≡ None
    → IsStill (places.InRight state) (λ at. fault_if (closes_right state && old.rule.differs) ArityDiffers at) old.rule
    now refusal rule → EndsPart (places.InRight state) old next now (maybe_kind refusal)
    (record old { rule = rule })
still_ends_part state old rule next now refusal e h = rw (h.now_is, h.new_is) (record {
  part_ended = λ ts f k. right_still ts next state old f e k;
  found_is = λ ts at f k. h.found_is at ∙ right_shows ts at next state old f e k;
})

-- a part that ends in a right term ends exactly if the written one does, and the fault at its last byte is found
pub right_ends_part : (state : TargetState) (old : Draft) (rule : RuleDraft) (next : Option Piece) (now : ParserState)
    (refusal : Option Kind) → RightEndsPart state old.rule next now refusal rule
    → EndsPart (places.InRight state) old next now (maybe_kind refusal) (record old { rule = rule })
right_ends_part (rights.Arguing w) old rule next now refusal h = record {
  part_ended = λ ts f k. subst (λ f. PartEndedAt ts next now (record old { rule = rule }) f) (sym k.1.1.1.0)
      (argument_part_ended ts next w k.0 k.1.0 k.1.1.0 old rule now refusal k.1.1.1.1 h.by).0;
  found_is = λ ts at f k. (argument_part_ended ts next w k.0 k.1.0 k.1.1.0 old rule now refusal k.1.1.1.1 h.by).1 at
      ∙ sym (ap (λ f. last_faults at f next) k.1.1.1.0);
}
right_ends_part (rights.Argued w) old rule next now refusal h =
    still_ends_part (rights.Argued w) old rule next now refusal refl h.by
right_ends_part rights.Arrowed old rule next now refusal h =
    still_ends_part rights.Arrowed old rule next now refusal refl h.by
right_ends_part rights.ComNamed old rule next now refusal h =
    still_ends_part rights.ComNamed old rule next now refusal refl h.by
right_ends_part rights.ComOpened old rule next now refusal h =
    still_ends_part rights.ComOpened old rule next now refusal refl h.by
right_ends_part (rights.TargetNamed w) old rule next now refusal h =
    still_ends_part (rights.TargetNamed w) old rule next now refusal refl h.by
right_ends_part (rights.RightOpened w) old rule next now refusal h =
    still_ends_part (rights.RightOpened w) old rule next now refusal refl h.by
right_ends_part rights.TargetClosed old rule next now refusal h =
    still_ends_part rights.TargetClosed old rule next now refusal refl h.by

-- after a target, while no guard is read, the state is unchanged
tail_still : (ts : Tokens) (next : Option Piece) (state : TailState) (d : Draft) (f : GrammarState)
    → is_guarding state ≡ false → InTail ts next state d f → TailPartEnded ts next state d f
tail_still ts next tails.Targeted d f e k = k
tail_still ts next tails.GuardMarked d f e k = k
tail_still ts next tails.SquareOpened d f e k = k
tail_still ts next (tails.Guarding opening) d f e k = cc

tail_shows : (ts : Tokens) (at : ℕ) (next : Option Piece) (state : TailState) (d : Draft) (f : GrammarState)
    → is_guarding state ≡ false → InTail ts next state d f
    → fault_if (closes_target state && d.rule.differs) ArityDiffers at ≡ last_faults at f next
tail_shows ts at next tails.Targeted d f e k =
    rw k.1.0 (ap (λ v. fault_if v ArityDiffers at) k.1.1.1 ∙ sym (append-nil _))
tail_shows ts at next tails.GuardMarked d f e k = rw k.1.0 refl
tail_shows ts at next tails.SquareOpened d f e k = rw k.1.0 refl
tail_shows ts at next (tails.Guarding opening) d f e k = cc

-- an expression ends before the next piece in the code exactly if the written one does
ends_alike : (e : expression.GrammarState) (next : Option Piece)
    → found.ends_before e (inner_next next) ≡ ends_expression e next
ends_alike e None = refl
ends_alike e (Some (In p)) = refl
ends_alike e (Some _) = refl

module _ (at : ℕ) (next : Option Piece) (before names : List Name) (r : GuardReader) where
  right_side_shows : (c : Conjoined) (l : Sum) (sign : inner.Sign) (e : expression.GrammarState)
      → ((s : Sum) → expression_steps.finish e ≡ Some s → names ≡ with_sum (with_sum (with_conjoined before c) l) s)
      → expansion_faults at (found.atom_fault names (RightSide c l sign e) (inner_next next))
      ≡ atom_faults at before (RightSide c l sign e) next
  right_side_shows c l sign e known =
      ap (λ v. expansion_faults at (if v then found.compared_fault names l sign (expression_steps.finish e) else None))
      (ends_alike e next) ∙ go (ends_expression e next) (expression_steps.finish e) refl
    where
      base : List Name
      base = with_sum (with_conjoined before c) l

      go : (v : Bool) (o : Option Sum) → expression_steps.finish e ≡ o
          → expansion_faults at (if v then found.compared_fault names l sign o else None)
          ≡ (if v then right_side_faults at (with_sum (with_conjoined before c) l) l sign o else [])
      go false o h = refl
      go true None h = refl
      go true (Some s) h =
          ap (λ ns. expansion_faults at (first_of_all (differences (sum_term ns l) (relation_of sign) (sum_term ns s))))
          (known s h)

  atom_shows : (g : GuardGrammarState) → Reads (inner_next next) before g names r
      → expansion_faults at (found.atom_fault names g (inner_next next)) ≡ atom_faults at before g next
  atom_shows g (reading_none k) = rw k.state_is_represented refl
  atom_shows g (reading_left k) = rw k.state_is_represented refl
  atom_shows g (reading_right k) = rw k.state_is_represented
      (right_side_shows k.conjoined k.left k.sign k.read
      (λ s h. k.expression.names_are ∙ finished_names (with_sum (with_conjoined before k.conjoined) k.left) k.read s h))
  atom_shows g (reading_truth k) = rw k.state_is_represented refl

guard_shows : (at : ℕ) (next : Option Piece) (opening : GuardOpening) (h : Headed) (g : GuardGrammarState)
    (f : GrammarState) (names : List Name) (r : GuardReader) → IsGuard next opening h g f
    → Reads (inner_next next) (headed_names h) g names r
    → expansion_faults at (found.atom_fault names g (inner_next next)) ≡ last_faults at f next
guard_shows at next openings.Square h g f names r e k = rw e (atom_shows at next (headed_names h) names r g k)
guard_shows at next openings.Mark h g f names r (inl e) k = rw e (atom_shows at next (headed_names h) names r g k)
guard_shows at next openings.Mark h g f names r (inr (name, (e, (is, closed)))) k = rw (e, is) refl

headed_kept : (ts : Tokens) (h : Headed) (old : Draft) (rule : RuleDraft) → KnowsHeaded ts h old
    → StaysInGuard old.rule rule → KnowsHeaded ts h (record old { rule = rule })
headed_kept ts h old rule k s = record {
  led = record {
    sections = k.led.sections;
    rules_are = k.led.rules_are;
    source_is = s.source ∙ k.led.source_is;
    left_is = s.left ∙ k.led.left_is;
    cost_is = ap (option_map term_of) s.cost ∙ k.led.cost_is;
  };
  symbols = k.symbols;
  target_is = s.target ∙ k.target_is;
  updates_are = ap (λ v. map term_of v.items) s.updates ∙ k.updates_are;
}

tail_stays : (state : TailState) (old : Draft) (rule : RuleDraft) (next : Option Piece) (now : ParserState)
    (refusal : Option Kind) → is_guarding state ≡ false
    → IsStill (places.InTail state) (λ at. fault_if (closes_target state && old.rule.differs) ArityDiffers at) old.rule
    now refusal rule → EndsPart (places.InTail state) old next now (maybe_kind refusal) (record old { rule = rule })
tail_stays state old rule next now refusal e h = rw (h.now_is, h.new_is) (record {
  part_ended = λ ts f k. tail_still ts next state old f e k;
  found_is = λ ts at f k. h.found_is at ∙ tail_shows ts at next state old f e k;
})

guard_ends_part : (opening : GuardOpening) (old : Draft) (rule : RuleDraft) (next : Option Piece) (now : ParserState)
    (refusal : Option Kind) → RepresentsGuard (tails.Guarding opening) old.rule next now refusal rule
    → EndsPart (places.InTail (tails.Guarding opening)) old next now (maybe_kind refusal) (record old { rule = rule })
guard_ends_part opening old rule next now refusal h = record {
  part_ended = λ ts f k. subst (λ p. PartEndedAt ts next p (record old { rule = rule }) f) (sym h.now_is) (
    k.0,
    (
      k.1.0,
      (
        k.1.1.0,
        (
          headed_kept ts k.0 old rule k.1.1.1.0 h.stays,
          (
            subst (λ x. IsFresh x) (sym h.stays.expression) k.1.1.1.1.0,
            subst (λ v. IsPartEnded (inner_next next) (headed_names k.0) k.1.0 (names_in v) rule.guard)
                (sym h.variables) (h.settles.part_ended (headed_names k.0) k.1.0 (names_in old.rule.variables)
                k.1.1.1.1.1),
          ),
        ),
      ),
    ),
  );
  found_is = λ ts at f k. h.found_is at
      ∙ (ap (expansion_faults at)
      (h.settles.fault_is (headed_names k.0) k.1.0 (names_in old.rule.variables) k.1.1.1.1.1)
      ∙ guard_shows at next opening k.0 k.1.0 f (names_in old.rule.variables) old.rule.guard k.1.1.0 k.1.1.1.1.1);
}

-- a part that ends after a target ends exactly if the written one does, and the fault at its last byte is found
pub tail_ends_part : (state : TailState) (old : Draft) (rule : RuleDraft) (next : Option Piece) (now : ParserState)
    (refusal : Option Kind) → TailEndsPart state old.rule next now refusal rule
    → EndsPart (places.InTail state) old next now (maybe_kind refusal) (record old { rule = rule })
tail_ends_part tails.Targeted old rule next now refusal h =
    tail_stays tails.Targeted old rule next now refusal refl h.by
tail_ends_part tails.GuardMarked old rule next now refusal h =
    tail_stays tails.GuardMarked old rule next now refusal refl h.by
tail_ends_part tails.SquareOpened old rule next now refusal h =
    tail_stays tails.SquareOpened old rule next now refusal refl h.by
tail_ends_part (tails.Guarding opening) old rule next now refusal h =
    guard_ends_part opening old rule next now refusal h.by

-- a state that is equal to a known one satisfies the known state's contract
pub in_part_ended_state : (state known : ParserState) (old new : Draft) (next : Option Piece) (now : ParserState)
    (faults : ℕ → FaultList) → state ≡ known → EndsPart known old next now faults new
    → EndsPart state old next now faults new
in_part_ended_state state known old new next now faults e h =
    subst (λ (q : ParserState). EndsPart q old next now faults new) (sym e) h

-- a state in which no part ends, equal to a known one, satisfies the known state's contract
pub in_same_state : (state known : ParserState) (old new : Draft) (next : Option Piece) (faults : ℕ → FaultList)
    → state ≡ known → EndsPart known old next known faults new → EndsPart state old next state faults new
in_same_state state known old new next faults e h = subst (λ (q : ParserState). EndsPart q old next q faults new)
    (sym e) h

-- the contract of an argument that ends before the next piece
pub argument_over : {w : Wrap} {old new : RuleDraft} {next : Option inner.Piece} {refusal : Option Kind}
    → ends_in old.expression next ≡ true → AfterArgument old refusal new
    → ArgumentIsPartEnded w old next (places.InRight (rights.Argued w)) refusal new
argument_over {w} {old} {new} {next} {refusal} e a =
    record {
      by = subst (λ v. ArgumentEndsPart v w old (places.InRight (rights.Argued w)) refusal new) (sym e) (refl, a);
    }

-- an argument that doesn't end before the next piece stays as it is
pub argument_on : {w : Wrap} {old : RuleDraft} {next : Option inner.Piece} → ends_in old.expression next ≡ false
    → ArgumentIsPartEnded w old next (places.InRight (rights.Arguing w)) None old
argument_on {w} {old} {next} e =
    record {
      by = subst (λ v. ArgumentEndsPart v w old (places.InRight (rights.Arguing w)) None old) (sym e)
          (refl, (refl, refl));
    }

-- the contract of the right term's state while an argument is read
pub right_argued : {state : TargetState} {w : Wrap} {old new : RuleDraft} {n : Option inner.Piece} {next : Option
    Piece} {now : ParserState} {refusal : Option Kind} → wrap_of_argument state ≡ Some w → n ≡ inner_next next
    → ArgumentIsPartEnded w old n now refusal new
    → RightEndsPart state old next now refusal new
right_argued {state} {w} {old} {new} {n} {next} {now} {refusal} e same a = record {
  by = subst (λ o. RightEndsPartBy o state old next now refusal new) (sym e)
      (subst (λ n. ArgumentEndsPart (ends_in old.expression n) w old now refusal new) same a.by);
}

-- in a right term while no argument is read, no part ends
pub right_holds : {state : TargetState} {old new : RuleDraft} {next : Option Piece} {now : ParserState} {refusal :
    Option Kind} → wrap_of_argument state ≡ None
    → IsStill (places.InRight state) (λ at. fault_if (closes_right state && old.differs) ArityDiffers at) old now
    refusal new → RightEndsPart state old next now refusal new
right_holds {state} {old} {new} {next} {now} {refusal} e a =
    record { by = subst (λ o. RightEndsPartBy o state old next now refusal new) (sym e) a }

-- after a target only a guard that is being read can end
pub tail_guarding : {state : TailState} {old new : RuleDraft} {next : Option Piece} {now : ParserState} {refusal :
    Option Kind} → is_guarding state ≡ true → RepresentsGuard state old next now refusal new
    → TailEndsPart state old next now refusal new
tail_guarding {state} {old} {new} {next} {now} {refusal} e a =
    record { by = subst (λ v. TailEndsPartBy v state old next now refusal new) (sym e) a }

-- after a target, while no guard is read, no part ends
pub tail_holds : {state : TailState} {old new : RuleDraft} {next : Option Piece} {now : ParserState} {refusal : Option
    Kind} → is_guarding state ≡ false
    → IsStill (places.InTail state) (λ at. fault_if (closes_target state && old.differs) ArityDiffers at) old now
    refusal new → TailEndsPart state old next now refusal new
tail_holds {state} {old} {new} {next} {now} {refusal} e a =
    record { by = subst (λ v. TailEndsPartBy v state old next now refusal new) (sym e) a }

-- the guard ends its part before the next piece
pub guard_before : {n m : Option inner.Piece} {old new : GuardReader} {fault : Option polynomials.Fault} → n ≡ m
    → standing.EndsPart n old fault new → standing.EndsPart m old fault new
guard_before {n} {m} {old} {new} {fault} e s = subst (λ n. standing.EndsPart n old fault new) e s
