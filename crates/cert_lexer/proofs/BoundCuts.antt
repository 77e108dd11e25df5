-- The pieces of a bound within the limits meet the conditions; a name or a number isn't followed by another one; and
-- each closing bracket has an opening one before it.
use Rattle.std.proofs.Common.{◌≡◌, ℕ, suc, ◌-◌, ◌≤◌, List, [], ◌∷◌, Option, Some, None, refl}
use Rattle.std.proofs.Common.{ap, sym, subst, ◌∙◌, arith}
use Rattle.std.specs.Prelude.{⊤}
use Rattle.its_model.specs.model.Bounds.{Bound}
use Rattle.bound_expr.specs.Substitution.{ReadsBelow}
use Rattle.bound_expr.specs.Tidy.{IsTidy}
use Rattle.bound_text.specs.Pieces.{Piece, Variable, Number, Maximum, Open, Close, Times, Caret, Plus, Blank, Comma, Wrong}
use Rattle.bound_text.specs.Texts.{IsWithin}
use Rattle.bound_text.specs.Writing.{pieces_of}
use Rattle.bound_text.specs.ParserStates.{ParserState, Outer, Whole, Inside, Position, Begins, RunCaret, PowerCaret, ItemRead, BlankRead}
use Rattle.bound_text.specs.ParserStates.{PlusRead, CommaRead, levels_above}
use Rattle.bound_text.specs.Steps.{step, step_at, follow_item, walk, finish, finish_at}
use Rattle.bound_text.specs.Reading.{bounds}
use Rattle.bound_text.proofs.StepCases.{Leads, of_variable, of_number, of_maximum, of_sum, of_run, of_power, of_power_of}
use Rattle.bound_text.proofs.StepCases.{of_exponent, of_times, of_base, of_caret, of_blank, of_comma, of_close, of_plus}
use Rattle.bound_text.proofs.StepCases.{of_term, of_argument, step_leads}
use Rattle.bound_text.proofs.KeptBounds.{KeptPiece, tidy_kept}
use Rattle.bound_text.proofs.KeptBefore.{keeps_back}
use Rattle.bound_text.proofs.Limits.{IsKeptWithin, IsSmall, shows_no_limit}
use Rattle.bound_text.proofs.ReaderLaws.{bound_laws, is_state}
use Rattle.bound_text.proofs.TextLexing.{IsLong}
use Rattle.text_grammar.specs.text_core.Readers.{next, reached}
use Rattle.text_core.proofs.Walks.{walk-none}

-- the number of open brackets after a piece
abbrev pub behind_bracket : ℕ → Piece → ℕ
behind_bracket depth Maximum = suc depth
behind_bracket depth Open = suc depth
behind_bracket depth Close = depth - 1
behind_bracket depth piece = depth

-- a closing bracket has an opening one before it
abbrev pub IsOpened : ℕ → Piece → Type 0
IsOpened depth Close = 1 ≤ depth
IsOpened depth piece = ⊤

-- the pieces that can follow a name or a number: none, or one of these marks
abbrev pub PartLevels : List Piece → Type 0
PartLevels [] = ⊤
PartLevels (Times ∷ ps) = ⊤
PartLevels (Caret ∷ ps) = ⊤
PartLevels (Blank ∷ ps) = ⊤
PartLevels (Comma ∷ ps) = ⊤
PartLevels (Close ∷ ps) = ⊤
PartLevels (Plus ∷ ps) = ⊥
PartLevels (Variable i ∷ ps) = ⊥
PartLevels (Number n ∷ ps) = ⊥
PartLevels (Maximum ∷ ps) = ⊥
PartLevels (Open ∷ ps) = ⊥
PartLevels (Wrong ∷ ps) = ⊥

-- pieces over n start arguments follow this many open brackets, and close all of them
abbrev pub Goes : ℕ → ℕ → List Piece → Type 0
Goes n depth [] = depth ≡ 0
Goes n depth (q ∷ qs) =
    KeptPiece n q × (IsLong q → PartLevels qs) × IsOpened depth q × (depth ≤ 200) × Goes n (behind_bracket depth q) qs

-- the number of brackets around a bound
abbrev brackets : Outer → ℕ
brackets Whole = 0
brackets (Inside bracket ts fs outer) = suc (brackets outer)

few_brackets : (outer : Outer) → brackets outer ≤ levels_above outer
few_brackets Whole = omega arith
few_brackets (Inside bracket ts fs outer) = omega (arith, few_brackets outer)

-- the number of open brackets after an accepted piece is that of the state
bracket_leads : (f g : ParserState) (q : Piece) → Leads f q g → brackets g.outer ≡ behind_bracket (brackets f.outer) q
bracket_leads f g q (of_variable o ts fs i) = refl
bracket_leads f g q (of_number o ts fs c) = refl
bracket_leads f g q (of_maximum o ts fs) = refl
bracket_leads f g q (of_sum o ts fs) = refl
bracket_leads f g q (of_run o ts fs i n) = refl
bracket_leads f g q (of_power o ts fs c n) = refl
bracket_leads f g q (of_power_of o ts fs c i) = refl
bracket_leads f g q (of_exponent o ts fs c) = refl
bracket_leads f g q (of_times o ts fs e) = refl
bracket_leads f g q (of_base o ts fs c) = refl
bracket_leads f g q (of_caret o ts fs i) = refl
bracket_leads f g q (of_blank o ts fs e) = refl
bracket_leads f g q (of_comma o ts fs e) = refl
bracket_leads f g q (of_close bracket o ts' fs' ts fs e c) = omega arith
bracket_leads f g q (of_plus o ts fs) = refl
bracket_leads f g q (of_term o ts fs e) = refl
bracket_leads f g q (of_argument o bs ts' fs' ts fs e) = refl

-- an accepted closing bracket has an opening one before it
opened : (f g : ParserState) (q : Piece) → Leads f q g → IsOpened (brackets f.outer) q
opened f g q (of_close bracket o ts' fs' ts fs e c) = omega arith
opened f g q (of_variable o ts fs i) = tt
opened f g q (of_number o ts fs c) = tt
opened f g q (of_maximum o ts fs) = tt
opened f g q (of_sum o ts fs) = tt
opened f g q (of_run o ts fs i n) = tt
opened f g q (of_power o ts fs c n) = tt
opened f g q (of_power_of o ts fs c i) = tt
opened f g q (of_exponent o ts fs c) = tt
opened f g q (of_times o ts fs e) = tt
opened f g q (of_base o ts fs c) = tt
opened f g q (of_caret o ts fs i) = tt
opened f g q (of_blank o ts fs e) = tt
opened f g q (of_comma o ts fs e) = tt
opened f g q (of_plus o ts fs) = tt
opened f g q (of_term o ts fs e) = tt
opened f g q (of_argument o bs ts' fs' ts fs e) = tt

-- after an accepted name or number the position is that of an item
behind_long : (f g : ParserState) (q : Piece) → Leads f q g → IsLong q → g.position ≡ ItemRead
behind_long f g q (of_variable o ts fs i) long = refl
behind_long f g q (of_number o ts fs c) long = refl
behind_long f g q (of_run o ts fs i n) long = refl
behind_long f g q (of_power o ts fs c n) long = refl
behind_long f g q (of_power_of o ts fs c i) long = refl
behind_long f g q (of_maximum o ts fs) long = absurd long
behind_long f g q (of_sum o ts fs) long = absurd long
behind_long f g q (of_exponent o ts fs c) long = absurd long
behind_long f g q (of_times o ts fs e) long = absurd long
behind_long f g q (of_base o ts fs c) long = absurd long
behind_long f g q (of_caret o ts fs i) long = absurd long
behind_long f g q (of_blank o ts fs e) long = absurd long
behind_long f g q (of_comma o ts fs e) long = absurd long
behind_long f g q (of_close bracket o ts' fs' ts fs e c) long = absurd long
behind_long f g q (of_plus o ts fs) long = absurd long
behind_long f g q (of_term o ts fs e) long = absurd long
behind_long f g q (of_argument o bs ts' fs' ts fs e) long = absurd long

-- an accepted piece that follows an item is one of the marks
item_marked : (f h : ParserState) (q : Piece) (qs : List Piece) → f.position ≡ ItemRead → step f q ≡ Some h → PartLevels (q ∷ qs)
item_marked f h q qs e on = go q (ap (λ (position : Position). step_at position f.outer f.terms f.factors q) (sym e) ∙ on)
  where
    go : (q : Piece) → follow_item f.outer f.terms f.factors q ≡ Some h → PartLevels (q ∷ qs)
    go Times on = tt
    go Caret on = tt
    go Blank on = tt
    go Comma on = tt
    go Close on = tt
    go (Variable i) on = cc
    go (Number n) on = cc
    go Maximum on = cc
    go Open on = cc
    go Plus on = cc
    go Wrong on = cc

-- in a state in which a text can end no bracket is open
none_open : (f : ParserState) (b : Bound) → finish f ≡ Some b → brackets f.outer ≡ 0
none_open f b = go f.position f.outer
  where
    go : (position : Position) (outer : Outer) → finish_at position outer f.terms f.factors ≡ Some b → brackets outer ≡ 0
    go ItemRead Whole e = refl
    go ItemRead (Inside bracket ts fs outer) e = cc
    go Begins outer e = cc
    go (RunCaret i) outer e = cc
    go (PowerCaret c) outer e = cc
    go BlankRead outer e = cc
    go PlusRead outer e = cc
    go CommaRead outer e = cc

-- the pieces after a state go on as required, and begin with a mark after an item
record GoOn (n : ℕ) (f : ParserState) (qs : List Piece) : Type 0 where
  pub small : IsSmall n f qs
  pub goes : Goes n (brackets f.outer) qs
  pub marked : f.position ≡ ItemRead → PartLevels qs

module _ (n : ℕ) (b : Bound) (within : IsKeptWithin n b) where
  go_on : (qs before : List Piece) (f g : ParserState) → reached (bounds n) before ≡ Some f → walk (Some f) qs ≡ Some g
      → finish g ≡ Some b → GoOn n f qs
  go_on [] before f g e w fin =
      let same : f ≡ g = cc in
      let here : finish f ≡ Some b = ap finish same ∙ fin in record {
        small = (shows_no_limit n).ends before f b e here within;
        goes = none_open f b here;
        marked = λ k. tt;
      }
  go_on (q ∷ qs) before f g e w fin = go (step f q) refl w (λ h k v. go_on qs (q ∷ before) h g k v fin)
    where
      go : (o : Option ParserState) → step f q ≡ o → walk o qs ≡ Some g
          → ((h : ParserState) → reached (bounds n) (q ∷ before) ≡ Some h → walk (Some h) qs ≡ Some g → GoOn n h qs)
          → GoOn n f (q ∷ qs)
      go None s v ih = let none = walk-none step qs in cc
      go (Some h) s v ih =
          let r = ih h (ap (λ (o : Option ParserState). next step o q) e ∙ s) v in
          let small = (shows_no_limit n).goes_back before f h q qs e s r.small in
          let leads = step_leads f h q (is_state n before f e) s in
          let nodes = r.small.nodes in
          let levels = small.levels in
          let few = few_brackets f.outer in record {
            small = small;
            goes = (
              (keeps_back n f h q leads (omega (arith, nodes)) r.small.kept).1,
              (λ long. r.marked (behind_long f h q leads long)),
              opened f h q leads,
              omega (arith, levels, few),
              subst (λ (k : ℕ). Goes n k qs) (bracket_leads f h q leads) r.goes,
            );
            marked = λ k. item_marked f h q qs k s;
          }

-- the pieces of a tidy bound within the limits go on as required
pub pieces_go : (n : ℕ) (b : Bound) → IsTidy b → ReadsBelow n b → IsWithin b → Goes n 0 (pieces_of b)
pieces_go n b tidy listed within =
    let k = tidy_kept n b tidy listed within.bases in
    let w = (bound_laws n).reads b (pieces_of b) (k.0, refl) in
    (go_on n b (record { kept = k.1; levels = within.levels; nodes = within.nodes }) (pieces_of b) [] (bounds n).beginning
    w.0 refl w.1 w.2).goes
