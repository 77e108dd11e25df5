-- If the checked conditions (`Kept`) hold of the state after a piece, they hold of the state before it.
use Rattle.std.proofs.Common.{◌≡◌, ℕ, zero, suc, ◌^◌, ◌<◌, ◌≤◌, true, Option, Some, None, refl, ap, sym, subst, ◌∙◌}
use Rattle.std.proofs.Common.{arith}
use Rattle.std.specs.Prelude.{⊤}
use Rattle.text_core.specs.model.Bounds.{Bound, Constant, Input, SumOf, ProductOf, MaximumOf, PowerOf, Parts, NoParts}
use Rattle.text_core.specs.model.Bounds.{Part}
use Rattle.bound_text.specs.Shapes.{with_part}
use Rattle.bound_text.specs.Pieces.{Piece, Number, Caret}
use Rattle.bound_text.specs.ParserStates.{Bracket, Arguments, Exponent, Factor, Inside, ParserState, Position, Begins, RunCaret}
use Rattle.bound_text.specs.ParserStates.{PowerCaret, ItemRead, BlankRead, PlusRead, CommaRead, IsWellFormed, nodes_of, last}
use Rattle.bound_text.specs.ParserStates.{term_of, bound_of_parts}
use Rattle.bound_text.specs.Steps.{step, with_copies, state_at_position, behind_factor, item_of}
use Rattle.bound_text.specs.Checks.{begins}
use Rattle.bound_text.proofs.PartLaws.{last-with_part}
use Rattle.bound_text.proofs.JoiningLaws.{as_one-with_part}
use Rattle.bound_text.proofs.RunLaws.{node_count-with_copies}
use Rattle.bound_text.proofs.StepCases.{Leads, of_variable, of_number, of_maximum, of_sum, of_run, of_power}
use Rattle.bound_text.proofs.StepCases.{of_power_of, of_exponent, of_times, of_base, of_caret, of_blank, of_comma}
use Rattle.bound_text.proofs.StepCases.{of_close, of_plus, of_term, of_argument}
use Rattle.bound_text.proofs.KeptBounds.{Kept, AllKept, KeptBracket, KeptState, KeptPiece, kept-more, kept-less}
use Rattle.bound_text.proofs.KeptBounds.{kept_state}

-- if the conditions hold of factors with copies of a variable after them, they hold of the factors
kept-fewer : (n k i : ℕ) (fs : Parts) → AllKept n (with_copies k i fs) → AllKept n fs
kept-fewer n zero i fs all = all
kept-fewer n (suc k) i fs all = kept-fewer n k i fs (kept-less n (with_copies k i fs) (Input i) all).0

-- if the conditions hold of a term, they hold of its factors
term_kept : (n : ℕ) (fs : Parts) → Kept n (term_of fs) → AllKept n fs
term_kept n NoParts k = tt
term_kept n (Part b NoParts) k = (k, tt)
term_kept n (Part b (Part c cs)) k = k

-- if the conditions hold of a bound, they hold of its terms and factors
pub bound_kept : (n : ℕ) (ts fs : Parts) → Kept n (bound_of_parts ts fs) → AllKept n ts × AllKept n fs
bound_kept n NoParts fs k = (tt, term_kept n fs k)
bound_kept n (Part c cs) fs k =
    let t = kept-less n (Part c cs) (term_of fs) (subst (Kept n) (as_one-with_part c cs (term_of fs)) k) in
    (t.0, term_kept n fs t.1)

-- if the conditions hold of the item that a bracket makes, they hold of the bracket and of its bound
item_kept : (n : ℕ) (bracket : Bracket) (b : Bound) → Kept n (item_of bracket b) → KeptBracket n bracket × Kept n b
item_kept n (Arguments bs) b k = kept-less n bs b k
item_kept n (Exponent c) b k = k
item_kept n Factor b k = (tt, k)

-- if the conditions hold of the state after a piece, they hold of the state before it and of the piece
pub keeps_back : (n : ℕ) (f g : ParserState) (piece : Piece) → Leads f piece g → nodes_of g < 2 ^ 127 → KeptState n g → KeptState n f × KeptPiece n piece
keeps_back n f g piece (of_variable o ts fs i) m k = let t = kept-less n fs (Input i) k.factors in (kept_state n o ts fs Begins k.outer k.terms t.0 tt, t.1)
keeps_back n f g piece (of_number o ts fs c) m k = let t = kept-less n fs (Constant c) k.factors in (kept_state n o ts fs Begins k.outer k.terms t.0 tt, t.1)
keeps_back n f g piece (of_maximum o ts fs) m k = (kept_state n o ts fs Begins k.outer.3 k.outer.1 k.outer.2 tt, tt)
keeps_back n f g piece (of_sum o ts fs) m k = (kept_state n o ts fs Begins k.outer.3 k.outer.1 k.outer.2 tt, tt)
keeps_back n f g piece (of_run o ts fs i j) m k =
    let t = kept-less n (with_copies (suc j) i fs) (Input i) k.factors in
    (kept_state n o ts fs (RunCaret i) k.outer k.terms (kept-fewer n (suc j) i fs t.0) t.1, omega (arith, m, node_count-with_copies (suc (suc j)) i fs))
keeps_back n f g piece (of_power o ts fs c j) m k = let t = kept-less n fs (PowerOf c (Constant j)) k.factors in (kept_state n o ts fs (PowerCaret c) k.outer k.terms t.0 t.1.0, t.1.1)
keeps_back n f g piece (of_power_of o ts fs c i) m k = let t = kept-less n fs (PowerOf c (Input i)) k.factors in (kept_state n o ts fs (PowerCaret c) k.outer k.terms t.0 t.1.0, t.1.1)
keeps_back n f g piece (of_exponent o ts fs c) m k = (kept_state n o ts fs (PowerCaret c) k.outer.3 k.outer.1 k.outer.2 k.outer.0, tt)
keeps_back n f g piece (of_times o ts fs e) m k = (kept_state n o ts fs ItemRead k.outer k.terms k.factors tt, tt)
keeps_back n f g piece (of_base o ts fs c) m k = (kept_state n o ts (with_part fs (Constant c)) ItemRead k.outer k.terms (kept-more n fs (Constant c) k.factors (let p = k.position in omega (arith, p))) tt, tt)
keeps_back n f g piece (of_caret o ts fs i) m k = (kept_state n o ts (with_part fs (Input i)) ItemRead k.outer k.terms (kept-more n fs (Input i) k.factors k.position) tt, tt)
keeps_back n f g piece (of_blank o ts fs e) m k = (kept_state n o ts fs ItemRead k.outer k.terms k.factors tt, tt)
keeps_back n f g piece (of_comma o ts fs e) m k = (kept_state n o ts fs ItemRead k.outer k.terms k.factors tt, tt)
keeps_back n f g piece (of_close bracket o ts' fs' ts fs e c) m k =
    let t = kept-less n fs' (item_of bracket (bound_of_parts ts fs)) k.factors in
    let i = item_kept n bracket (bound_of_parts ts fs) t.1 in
    let b = bound_kept n ts fs i.1 in
    (kept_state n (Inside bracket ts' fs' o) ts fs ItemRead (i.0, k.terms, t.0, k.outer) b.0 b.1 tt, tt)
keeps_back n f g piece (of_plus o ts fs) m k = (kept_state n o ts fs BlankRead k.outer k.terms k.factors tt, tt)
keeps_back n f g piece (of_term o ts fs e) m k =
    let t = kept-less n ts (term_of fs) k.terms in
    (kept_state n o ts fs PlusRead k.outer t.0 (term_kept n fs t.1) tt, tt)
keeps_back n f g piece (of_argument o bs ts' fs' ts fs e) m k =
    let t = kept-less n bs (bound_of_parts ts fs) k.outer.0 in
    let b = bound_kept n ts fs t.1 in
    (kept_state n (Inside (Arguments bs) ts' fs' o) ts fs CommaRead (t.0, k.outer.1, k.outer.2, k.outer.3) b.0 b.1 tt, tt)

-- the base before a `^`, if it is a number, is at least 2 and below 2^64
abbrev pub BaseFits : Option Bound → Type 0
BaseFits None = ⊤
BaseFits (Some (Constant c)) = (2 ≤ c) × (c < 2 ^ 64)
BaseFits (Some (Input i)) = ⊤
BaseFits (Some (SumOf bs)) = ⊤
BaseFits (Some (ProductOf bs)) = ⊤
BaseFits (Some (MaximumOf bs)) = ⊤
BaseFits (Some (PowerOf c e)) = ⊤

-- the base before an accepted `^` fits, or it is a variable
pub base_fits : (n : ℕ) (f g : ParserState) → Leads f Caret g → IsWellFormed g → KeptState n g → BaseFits (last f.factors)
base_fits n f g leads is kept = go f g Caret leads refl is kept
  where
    go : (f g : ParserState) (piece : Piece) → Leads f piece g → piece ≡ Caret → IsWellFormed g → KeptState n g → BaseFits (last f.factors)
    go f g piece (of_base o ts fs c) e is kept = subst BaseFits (sym (last-with_part fs (Constant c))) (is.position, kept.position)
    go f g piece (of_caret o ts fs i) e is kept = subst BaseFits (sym (last-with_part fs (Input i))) tt
    go f g piece (of_variable o ts fs i) e is kept = cc
    go f g piece (of_number o ts fs c) e is kept = cc
    go f g piece (of_maximum o ts fs) e is kept = cc
    go f g piece (of_sum o ts fs) e is kept = cc
    go f g piece (of_run o ts fs i j) e is kept = cc
    go f g piece (of_power o ts fs c j) e is kept = cc
    go f g piece (of_power_of o ts fs c i) e is kept = cc
    go f g piece (of_exponent o ts fs c) e is kept = cc
    go f g piece (of_times o ts fs h) e is kept = cc
    go f g piece (of_blank o ts fs h) e is kept = cc
    go f g piece (of_comma o ts fs h) e is kept = cc
    go f g piece (of_close bracket o ts' fs' ts fs h c) e is kept = cc
    go f g piece (of_plus o ts fs) e is kept = cc
    go f g piece (of_term o ts fs h) e is kept = cc
    go f g piece (of_argument o bs ts' fs' ts fs h) e is kept = cc

-- if a number is accepted where an item begins, the next state has it as a number that begins an item
pub begin_number : (f g : ParserState) (c : ℕ) → begins f.position ≡ true → step f (Number c) ≡ Some g → last g.factors ≡ Some (Constant c)
begin_number f g c b e = go f.position b e
  where
    go : (position : Position) → begins position ≡ true → step (state_at_position f.outer f.terms f.factors position) (Number c) ≡ Some g → last g.factors ≡ Some (Constant c)
    go Begins b e = let same : behind_factor f.outer f.terms f.factors (Constant c) ≡ g = cc in ap (λ (h : ParserState). last h.factors) (sym same) ∙ last-with_part f.factors (Constant c)
    go (RunCaret i) b e = cc
    go (PowerCaret d) b e = cc
    go ItemRead b e = cc
    go BlankRead b e = cc
    go PlusRead b e = cc
    go CommaRead b e = cc
