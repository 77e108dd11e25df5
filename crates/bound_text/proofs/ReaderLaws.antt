-- The reader of bounds satisfies the laws of a reader, and its states describe the pieces read so far.
use Rattle.std.proofs.Common.{◌≡◌, ℕ, Bool, true, false, cond, List, [], ◌∷◌, Option, Some, None, refl, ap, sym, ◌∙◌}
use Rattle.std.proofs.Common.{inl, inr, arith}
use Rattle.std.specs.Prelude.{◌⊎◌}
use Rattle.text_core.specs.model.Bounds.{Bound, Constant, Input, PowerOf, Parts}
use Rattle.text_core.specs.Readers.{onto, next, reached, IsBeginning}
use Rattle.text_core.specs.Laws.{Laws}
use Rattle.text_core.proofs.Walks.{walk-onto, onto-append}
use Rattle.text_core.proofs.FirstFaults.{nowhere_begins}
use Rattle.bound_text.specs.Kinds.{Kind, Syntax, NumberTooLarge, UnknownName, TooDeep, TooLarge, number_of}
use Rattle.bound_text.specs.Shapes.{with_part}
use Rattle.bound_text.specs.Pieces.{Piece, Number, Caret}
use Rattle.bound_text.specs.ParserStates.{Outer, ParserState, Position, Begins, RunCaret, PowerCaret, ItemRead, BlankRead, PlusRead}
use Rattle.bound_text.specs.ParserStates.{CommaRead, Whole, IsWellFormed, last, init}
use Rattle.bound_text.specs.Checks.{begins, takes_caret}
use Rattle.bound_text.specs.Steps.{step, step_at, walk, beginning, with_copies, state_at_position, caret_behind}
use Rattle.bound_text.specs.Faults.{StatesAreRead}
use Rattle.bound_text.specs.Reading.{bounds}
use Rattle.bound_text.proofs.PartLaws.{last-with_part, init-with_part}
use Rattle.bound_text.proofs.RunLaws.{run_settled}
use Rattle.bound_text.proofs.BoundParts.{terms_in, factors_in}
use Rattle.bound_text.proofs.WalkLaws.{walk_read, read_walk, walk_reads, walk_whole, whole_walk, walk_begins}

-- the state that pieces lead to, by a walk through them in order
walked : (n : ℕ) (done : List Piece) (f : ParserState) → reached (bounds n) done ≡ Some f → walk (Some beginning) (onto done []) ≡ Some f
walked n done f e = walk-onto (bounds n) done [] ∙ e

-- the pieces read so far lead to a well-formed state
pub is_state : (n : ℕ) (done : List Piece) (f : ParserState) → reached (bounds n) done ≡ Some f → IsWellFormed f
is_state n done f e = (walk_read (onto done []) f (walked n done f e)).is_state

-- kinds with the same number are the same
kinds_differ : (a b : Kind) → number_of a ≡ number_of b → a ≡ b
kinds_differ Syntax Syntax h = refl
kinds_differ NumberTooLarge NumberTooLarge h = refl
kinds_differ UnknownName UnknownName h = refl
kinds_differ TooDeep TooDeep h = refl
kinds_differ TooLarge TooLarge h = refl
kinds_differ a b h = absurd (omega (arith, h))

-- the reader of bounds satisfies the laws of a reader
pub bound_laws : (n : ℕ) → Laws (bounds n)
bound_laws n = record {
  goes_on = λ done f e. let b = walk_begins (onto done []) f (walked n done f e) in (b.0, b.1, (b.2, b.3 ∙ sym (onto-append done [] b.1)));
  ends = λ done f t e fin. walk_whole (onto done []) f t (walked n done f e) fin;
  reads = λ t ps w. let x = whole_walk ps t w.0 w.1 in (state_at_position Whole (terms_in t) (factors_in t) ItemRead, x.0, x.1);
  differ = kinds_differ;
}

-- where the last factor takes no `^`, none can follow
no_caret : (fs : Parts) (b : Option Bound) (o : Outer) (ts : Parts) → takes_caret fs b ≡ false → caret_behind o ts fs b ≡ None
no_caret fs None o ts h = refl
no_caret fs (Some (Constant c)) o ts h = cc
no_caret fs (Some (Input i)) o ts h = ap (λ (v : Bool). cond v (Some (state_at_position o ts fs (RunCaret i))) None) h
no_caret fs (Some b) o ts h = refl

-- a base and its `^` can follow only where an item begins
base_begins : (f : ParserState) → next step (step f (Number 2)) Caret ≡ None ⊎ (begins f.position ≡ true)
base_begins f = go f.position
  where
    go : (position : Position) → next step (step_at position f.outer f.terms f.factors (Number 2)) Caret ≡ None ⊎ (begins position ≡ true)
    go Begins = inr refl
    go (RunCaret i) = inl (no_caret (init (with_copies 2 i f.factors)) (last (with_copies 2 i f.factors)) f.outer f.terms (run_settled 0 i f.factors))
    go (PowerCaret c) = inl (ap (λ (b : Option Bound). caret_behind f.outer f.terms (init (with_part f.factors (PowerOf c (Constant 2)))) b) (last-with_part f.factors (PowerOf c (Constant 2))))
    go ItemRead = inl refl
    go BlankRead = inl refl
    go PlusRead = inl refl
    go CommaRead = inl refl

-- if an item begins, a base and its `^` can follow
begins_base : (f : ParserState) → begins f.position ≡ true → (g : ParserState) × (next step (step f (Number 2)) Caret ≡ Some g)
begins_base f h = go f.position h
  where
    go : (position : Position) → begins position ≡ true → (g : ParserState) × (next step (step_at position f.outer f.terms f.factors (Number 2)) Caret ≡ Some g)
    go Begins h = (
      state_at_position f.outer f.terms f.factors (PowerCaret 2),
      ap (λ (b : Option Bound). caret_behind f.outer f.terms (init (with_part f.factors (Constant 2))) b) (last-with_part f.factors (Constant 2))
          ∙ ap (λ (gs : Parts). caret_behind f.outer f.terms gs (Some (Constant 2))) (init-with_part f.factors (Constant 2)),
    )
    go (RunCaret i) h = cc
    go (PowerCaret c) h = cc
    go ItemRead h = cc
    go BlankRead h = cc
    go PlusRead h = cc
    go CommaRead h = cc

-- the state after two more pieces is that of two further steps
two_more : (n : ℕ) (done : List Piece) (f : ParserState) (a b : Piece) → reached (bounds n) done ≡ Some f → reached (bounds n) (b ∷ a ∷ done) ≡ next step (step f a) b
two_more n done f a b e = ap (λ (o : Option ParserState). next step (next step o a) b) e

-- each state describes exactly the pieces read so far
pub states_are_read : StatesAreRead
states_are_read = record {
  read = λ n done f e. let r = walk_reads (onto done []) f (walked n done f e) in (r.is, r.text);
  leads = λ n done f is e. sym (walk-onto (bounds n) done []) ∙ read_walk (onto done []) f (record { is = is; text = e });
  base = λ n done f e h. let g = begins_base f h in (bound_laws n).goes_on (Caret ∷ Number 2 ∷ done) g.0 (two_more n done f (Number 2) Caret e ∙ g.1);
  begins = λ n done f e b. go n done f e b (base_begins f);
}
  where
    go : (n : ℕ) (done : List Piece) (f : ParserState) → reached (bounds n) done ≡ Some f → IsBeginning (bounds n) (Caret ∷ Number 2 ∷ done) → next step (step f (Number 2)) Caret ≡ None ⊎ (begins f.position ≡ true) → begins f.position ≡ true
    go n done f e b (inr h) = h
    go n done f e b (inl none) = absurd (nowhere_begins (bounds n) (bound_laws n) (Caret ∷ Number 2 ∷ done) (two_more n done f (Number 2) Caret e ∙ none) b)
