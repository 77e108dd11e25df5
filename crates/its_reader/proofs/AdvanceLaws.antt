-- The code's state after the next token represents the written state after it, whatever state the reader is in; and a
-- text breaks off for the same reason in both.
use Rattle.std.specs.Prelude.{◌≡◌, Bool, true, false, ◌||◌, is_some, List, [], ◌∷◌, ◌++◌, reverse, Option, Some, None}
use Rattle.std.specs.Prelude.{refl}
use Rattle.std.proofs.Common.{sym, ap, subst, ◌∙◌, inl, inr}
use Rattle.std.proofs.lemmas.Grind.{reverse_onto}
use Rattle.model.specs.Programs.{Name}
use Rattle.text_core.specs.Tokens.{Token}
use Rattle.text_core.specs.Names.{is_same, is_among}
use Rattle.its_text.specs.expr_text.Pieces as inner
use Rattle.expr_reader.specs.Variables.{names_in}
use Rattle.its_text.specs.Pieces.{Piece, In, Disjoining, Strange}
use Rattle.its_text.specs.GrammarStates as grammar_states
use Rattle.its_text.specs.GrammarStates.{GrammarState, Ruling, Headed}
use Rattle.its_text.specs.expr_text.GuardGrammarStates.{GuardGrammarState}
use Rattle.its_text.specs.Steps.{step}
use Rattle.its_text.specs.StateFaults.{Tokens, left_wanted, left_break_kind, break_kind_at}
use Rattle.its_reader.specs.Tests as tests
use Rattle.its_reader.specs.Places.{InSections, InLeft, CostPartEnded, RightPartEnded, TailPartEnded, PartEndedAt}
use Rattle.its_reader.specs.Places.{LeadsTo}
use Rattle.its_reader.specs.Places.{IsSource, IsGuard}
use Rattle.its_reader.specs.StateSteps.{GoTogether, IsNew, StartLeads, LeftLeads, CostLeads, RightLeads, TailLeads}
use Rattle.its_reader.specs.TokenSteps.{Advances, AllowsName}
use Rattle.its_reader.specs.declared.draft.Draft.{Draft}
use Rattle.its_reader.specs.FaultTests.{wants_argument, wants_left, break_kind_in}
use Rattle.its_reader.specs.declared.parser_state.GuardOpening.{GuardOpening}
use Rattle.its_reader.specs.declared.parser_state.GuardOpening.TheVariants as openings
use Rattle.its_reader.specs.declared.parser_state.SectionState.{SectionState}
use Rattle.its_reader.specs.declared.parser_state.SectionState.TheVariants as sections
use Rattle.its_reader.specs.declared.parser_state.SourceState.{SourceState}
use Rattle.its_reader.specs.declared.parser_state.SourceState.TheVariants as lefts
use Rattle.its_reader.specs.declared.parser_state.CostState.{CostState}
use Rattle.its_reader.specs.declared.parser_state.CostState.TheVariants as costs
use Rattle.its_reader.specs.declared.parser_state.TargetState.{TargetState}
use Rattle.its_reader.specs.declared.parser_state.TargetState.TheVariants as rights
use Rattle.its_reader.specs.declared.parser_state.TailState.{TailState}
use Rattle.its_reader.specs.declared.parser_state.TailState.TheVariants as tails
use Rattle.its_reader.specs.declared.parser_state.ParserState.{ParserState}
use Rattle.its_reader.specs.declared.parser_state.ParserState.TheVariants as places
use Rattle.its_reader.proofs.LeftLaws.{leads_together}

-- a state that is equal to a known one satisfies the known state's contract
pub in_advanced_state : (state known : ParserState) (old new : Draft) (t : Token Piece) (behind : Option Piece)
    (result : Option ParserState) → state ≡ known → Advances known old t behind result new
    → Advances state old t behind result new
in_advanced_state state known old new t behind result e h =
    subst (λ (q : ParserState). Advances q old t behind result new) (sym e) h

-- outside rules the next token leads to the same state as in the written text
pub sections_advance : (state : SectionState) (old new : Draft) (t : Token Piece) (behind : Option Piece)
    (result : Option ParserState) → StartLeads state old t.piece t.at result new
    → Advances (places.InSections state) old t behind result new
sections_advance state old new t behind result h = record {
  together = λ ts f k at. leads_together ts behind (step f t.piece) result new (h.each ts behind f k at);
  each = λ ts f k at allows modest. h.each ts behind f k at;
}

-- a name that isn't among the left arguments is new
none_of_more : (m n : Name) (names : List Name) → is_among m names ≡ false → is_same m n ≡ false
    → is_among m (names ++ n ∷ []) ≡ false
none_of_more m n [] h e = rw e refl
none_of_more m n (k ∷ names) h e = let x = neither (is_same m k) (is_among m names) h in
    rw (x.0, none_of_more m n names x.1 e) refl
  where
    neither : (v w : Bool) → v || w ≡ false → (v ≡ false) × (w ≡ false)
    neither true w e = cc
    neither false w e = (refl, e)

none_in_reverse : (m : Name) (names : List Name) → is_among m names ≡ false → is_among m (reverse names) ≡ false
none_in_reverse m [] h = refl
none_in_reverse m (n ∷ names) h =
    let x = neither (is_same m n) (is_among m names) h in
    ap (is_among m) (reverse_onto names n []) ∙ none_of_more m n (reverse names) (none_in_reverse m names x.1) x.0
  where
    neither : (v w : Bool) → v || w ≡ false → (v ≡ false) × (w ≡ false)
    neither true w e = cc
    neither false w e = (refl, e)

is_new : (names arguments : List Name) (o : Option Name) → names ≡ reverse arguments → AllowsName (Some arguments) o
    → IsNew names o
is_new names arguments None e a = tt
is_new names arguments (Some name) e a = subst (λ ns. is_among name ns ≡ false) (sym e)
    (none_in_reverse name arguments a)

none_named : (names : List Name) (o : Option Name) → names ≡ [] → IsNew names o
none_named names None e = tt
none_named names (Some name) e = subst (λ ns. is_among name ns ≡ false) (sym e) refl

-- if both accept the same pieces and the written text rejects this one, both reject it
nowhere : (ts : Tokens) (behind : Option Piece) (o : Option GrammarState) (result : Option ParserState) (new : Draft)
    → o ≡ None → GoTogether o result → LeadsTo ts behind o result new
nowhere ts behind o result new e g = subst (λ o. LeadsTo ts behind o result new) (sym e)
    (go result (subst (λ o. GoTogether o result) e g))
  where
    go : (r : Option ParserState) → GoTogether None r → LeadsTo ts behind None r new
    go None g = tt
    go (Some state) g = g

-- after a left argument and after a left term a name is rejected
read_stops : (f : GrammarState) (p : Piece) (name : Name) (ts : Tokens) (d : Draft)
    → InLeft ts (Some p) lefts.LeftRead d f → tests.word p ≡ Some name → step f p ≡ None
read_stops f p name ts d k w = ap (λ f. step f p) k.1.1.1.1.0 ∙ go p w
  where
    go : (p : Piece) → tests.word p ≡ Some name → step (grammar_states.LeftRead k.0 k.1.0 k.1.1.0 k.1.1.1.0) p ≡ None
    go (In (inner.Word m)) w = refl
    go (In _) w = cc
    go _ w = cc

closed_stops : (f : GrammarState) (p : Piece) (name : Name) (ts : Tokens) (d : Draft)
    → InLeft ts (Some p) lefts.SourceClosed d f → tests.word p ≡ Some name → step f p ≡ None
closed_stops f p name ts d k w = ap (λ f. step f p) k.1.1.0 ∙ go p w
  where
    go : (p : Piece) → tests.word p ≡ Some name → step (grammar_states.SourceClosed k.0 k.1.0) p ≡ None
    go (In (inner.Word m)) w = refl
    go (In _) w = cc
    go _ w = cc

left_each : (state : SourceState) (old new : Draft) (p : Piece) (behind : Option Piece) (result : Option ParserState)
    → LeftLeads state old p result new → (ts : Tokens) (f : GrammarState) → InLeft ts (Some p) state old f
    → AllowsName (left_wanted f) (tests.word p) → LeadsTo ts behind (step f p) result new
left_each lefts.AfterRule old new p behind result h ts f k a =
    h.each ts behind f k (none_named (names_in old.rule.variables) (tests.word p) k.1.1.1.variables)
left_each lefts.SourceNamed old new p behind result h ts f k a =
    h.each ts behind f k (none_named (names_in old.rule.variables) (tests.word p) k.1.1.1.arguments_are)
left_each lefts.LeftOpened old new p behind result h ts f k a =
    h.each ts behind f k (none_named (names_in old.rule.variables) (tests.word p) k.1.1.1.arguments_are)
left_each lefts.LeftParted old new p behind result h ts f k a =
    h.each ts behind f k (is_new (names_in old.rule.variables) (k.1.1.0 ∷ k.1.1.1.0) (tests.word p)
    k.1.1.1.1.1.arguments_are (subst (λ f. AllowsName (left_wanted f) (tests.word p)) k.1.1.1.1.0 a))
left_each lefts.LeftRead old new p behind result h ts f k a = go (tests.word p) refl
  where
    go : (o : Option Name) → tests.word p ≡ o → LeadsTo ts behind (step f p) result new
    go None e = h.each ts behind f k (subst (IsNew (names_in old.rule.variables)) (sym e) tt)
    go (Some name) e = nowhere ts behind (step f p) result new (read_stops f p name ts old k e) (h.together ts f k)
left_each lefts.SourceClosed old new p behind result h ts f k a = go (tests.word p) refl
  where
    go : (o : Option Name) → tests.word p ≡ o → LeadsTo ts behind (step f p) result new
    go None e = h.each ts behind f k (subst (IsNew (names_in old.rule.variables)) (sym e) tt)
    go (Some name) e = nowhere ts behind (step f p) result new (closed_stops f p name ts old k e) (h.together ts f k)

-- up to the end of a left term the next token leads to the same state as in the written text
pub left_advances : (state : SourceState) (old new : Draft) (t : Token Piece) (behind : Option Piece)
    (result : Option ParserState) → LeftLeads state old t.piece result new
    → Advances (places.InLeft state) old t behind result new
left_advances state old new t behind result h = record {
  together = λ ts f k at. h.together ts f k;
  each = λ ts f k at allows modest. left_each state old new t.piece behind result h ts f k allows;
}

-- within the braces of a cost the next token leads to the same state as in the written text
pub cost_advances : (state : CostState) (old new : Draft) (t : Token Piece) (behind : Option Piece)
    (result : Option ParserState) → CostLeads state old t.piece result new
    → Advances (places.InCost state) old t behind result new
cost_advances state old new t behind result h = record {
  together = λ ts f k at. h.together ts f k;
  each = λ ts f k at allows modest. h.each ts behind f k modest;
}

-- from the arrow to the end of the target the next token leads to the same state as in the written text
pub right_advances : (state : TargetState) (old new : Draft) (t : Token Piece) (behind : Option Piece)
    (result : Option ParserState) → RightLeads state old t.piece result new
    → Advances (places.InRight state) old t behind result new
right_advances state old new t behind result h = record {
  together = λ ts f k at. h.together ts f k;
  each = λ ts f k at allows modest. h.each ts behind f k modest;
}

-- after the target the next token leads to the same state as in the written text
pub tail_advances : (state : TailState) (old new : Draft) (t : Token Piece) (behind : Option Piece)
    (result : Option ParserState) → TailLeads state old t.piece behind result new
    → Advances (places.InTail state) old t behind result new
tail_advances state old new t behind result h = record {
  together = λ ts f k at. h.together ts f k;
  each = λ ts f k at allows modest. h.each ts f k modest;
}

-- the reason why a text breaks off here
module _ (ts : Tokens) (next : Option Piece) (d : Draft) (f : GrammarState) where
  sections_wanted : (state : SectionState) → InSections ts state d f → is_some (left_wanted f) ≡ false
  sections_wanted sections.Between k = rw k.1.0 refl
  sections_wanted sections.Opened k = rw k.1.0 refl
  sections_wanted sections.GoalNamed k = rw k.1.0 refl
  sections_wanted sections.GoalRead k = rw k.1.0 refl
  sections_wanted sections.StartNamed k = rw k.1.0 refl
  sections_wanted sections.StartOpened k = rw k.1.0 refl
  sections_wanted sections.StartListed k = rw k.1.0 refl
  sections_wanted sections.StartRead k = rw k.1.1.0 refl
  sections_wanted sections.StartClosed k = rw k.1.1.0 refl
  sections_wanted sections.Listing k = rw k.1.1.0 refl
  sections_wanted sections.CommentNamed k = rw k.1.0 refl

  source_unwanted : (r : Ruling) (name : Name) → IsSource next r name f → is_some (left_wanted f) ≡ false
  source_unwanted r name (inl e) = rw e refl
  source_unwanted r name (inr (h, (e, more))) = rw e refl

  left_is_wanted : (state : SourceState) → InLeft ts next state d f → is_some (left_wanted f) ≡ wants_argument state
  left_is_wanted lefts.AfterRule k = rw k.1.0 refl
  left_is_wanted lefts.SourceNamed k = source_unwanted k.0 k.1.0 k.1.1.0
  left_is_wanted lefts.LeftOpened k = rw k.1.1.0 refl
  left_is_wanted lefts.LeftRead k = rw k.1.1.1.1.0 refl
  left_is_wanted lefts.LeftParted k = rw k.1.1.1.1.0 refl
  left_is_wanted lefts.SourceClosed k = rw k.1.1.0 refl

  cost_unwanted : (state : CostState) → CostPartEnded ts next state d f → is_some (left_wanted f) ≡ false
  cost_unwanted costs.Costing k = rw k.1.1.1.0 refl
  cost_unwanted costs.Costed k = rw k.1.1.1.1.0 refl

  right_unwanted : (state : TargetState) → RightPartEnded ts next state d f → is_some (left_wanted f) ≡ false
  right_unwanted rights.Arrowed k = rw k.1.0 refl
  right_unwanted rights.ComNamed k = rw k.1.0 refl
  right_unwanted rights.ComOpened k = rw k.1.0 refl
  right_unwanted (rights.TargetNamed w) k = rw k.1.0 refl
  right_unwanted (rights.RightOpened w) k = rw k.1.0 refl
  right_unwanted (rights.Arguing w) k = rw k.1.1.1.0 refl
  right_unwanted (rights.Argued w) k = rw k.1.1.1.1.0 refl
  right_unwanted rights.TargetClosed k = rw k.1.1.0 refl

  guard_unwanted : (opening : GuardOpening) (h : Headed) (g : GuardGrammarState) → IsGuard next opening h g f
      → is_some (left_wanted f) ≡ false
  guard_unwanted openings.Square h g e = rw e refl
  guard_unwanted openings.Mark h g (inl e) = rw e refl
  guard_unwanted openings.Mark h g (inr (name, (e, more))) = rw e refl

  tail_unwanted : (state : TailState) → TailPartEnded ts next state d f → is_some (left_wanted f) ≡ false
  tail_unwanted tails.Targeted k = rw k.1.0 refl
  tail_unwanted tails.GuardMarked k = rw k.1.0 refl
  tail_unwanted tails.SquareOpened k = rw k.1.0 refl
  tail_unwanted (tails.Guarding opening) k = guard_unwanted opening k.0 k.1.0 k.1.1.0

  is_wanted : (state : ParserState) → PartEndedAt ts next state d f → is_some (left_wanted f) ≡ wants_left state
  is_wanted (places.InSections state) k = sections_wanted state k
  is_wanted (places.InLeft state) k = left_is_wanted state k
  is_wanted (places.InCost state) k = cost_unwanted state k
  is_wanted (places.InRight state) k = right_unwanted state k
  is_wanted (places.InTail state) k = tail_unwanted state k

break_kind_of_wanted : (o : Option (List Name)) (p : inner.Piece)
    → break_kind_in (is_some o) (In p) ≡ left_break_kind o p
break_kind_of_wanted None p = refl
break_kind_of_wanted (Some arguments) p = refl

stop_kinds_alike : (f : GrammarState) (p : Piece) → break_kind_in (is_some (left_wanted f)) p ≡ break_kind_at f (Some p)
stop_kinds_alike f (In p) = break_kind_of_wanted (left_wanted f) p
stop_kinds_alike f Disjoining = refl
stop_kinds_alike f Strange = refl
stop_kinds_alike f _ = refl

-- the refusal for a text that breaks off at a piece is decided by the reader's state exactly as by the written state
pub stop_kind_is : (ts : Tokens) (state : ParserState) (d : Draft) (f : GrammarState) (p : Piece)
    → PartEndedAt ts (Some p) state d f → break_kind_in (wants_left state) p ≡ break_kind_at f (Some p)
stop_kind_is ts state d f p k = ap (λ v. break_kind_in v p) (sym (is_wanted ts (Some p) d f state k))
    ∙ stop_kinds_alike f p
