-- The state after a piece, case by case.
use Rattle.std.proofs.Common.{◌≡◌, ℕ, zero, suc, nat_lt, true, false, not, ◌&&◌, Some, ap, sym, subst, ◌∙◌}
use Rattle.text_core.specs.model.Bounds.{Bound, Constant, Input, PowerOf, Parts, NoParts}
use Rattle.bound_text.specs.Shapes.{is_maximum, is_empty, with_part}
use Rattle.bound_text.specs.Pieces.{Piece, Variable, Number, Maximum, Open, Close, Times, Caret, Plus, Blank, Comma}
use Rattle.bound_text.specs.ParserStates.{Bracket, Arguments, Exponent, Factor, Outer, Whole, Inside, Position, ParserState, Begins}
use Rattle.bound_text.specs.ParserStates.{RunCaret, PowerCaret, ItemRead, BlankRead, PlusRead, CommaRead, IsWellFormed, last, init}
use Rattle.bound_text.specs.ParserStates.{is_input, term_of, bound_of_parts, can_end, can_be_argument}
use Rattle.bound_text.specs.Steps.{with_copies, state_at_position, inside, behind_factor, begin_item, end_run, begin_exponent}
use Rattle.bound_text.specs.Steps.{caret_behind, can_close, item_of, close_bracket, follow_item, end_argument, step}
use Rattle.bound_text.specs.Steps.{step_at}
use Rattle.bound_text.proofs.PartLaws.{last-with_part, init-with_part}
use Rattle.std.proofs.lemmas.Bool.{and_parts}
use Rattle.bound_text.proofs.SoundnessLaws.{when-some, unsnoc}

-- a piece leads from one state to another
pub data Leads : ParserState → Piece → ParserState → Type 0 where
  of_variable : (o : Outer) (ts fs : Parts) (i : ℕ) → Leads (state_at_position o ts fs Begins) (Variable i) (behind_factor o ts fs (Input i))
  of_number : (o : Outer) (ts fs : Parts) (c : ℕ) → Leads (state_at_position o ts fs Begins) (Number c) (behind_factor o ts fs (Constant c))
  of_maximum : (o : Outer) (ts fs : Parts) → Leads (state_at_position o ts fs Begins) Maximum (inside (Arguments NoParts) o ts fs)
  of_sum : (o : Outer) (ts fs : Parts) → Leads (state_at_position o ts fs Begins) Open (inside Factor o ts fs)
  of_run : (o : Outer) (ts fs : Parts) (i n : ℕ) → Leads (state_at_position o ts fs (RunCaret i)) (Number (suc (suc n))) (state_at_position o ts (with_copies (suc (suc n)) i fs) ItemRead)
  of_power : (o : Outer) (ts fs : Parts) (c n : ℕ) → Leads (state_at_position o ts fs (PowerCaret c)) (Number n) (behind_factor o ts fs (PowerOf c (Constant n)))
  of_power_of : (o : Outer) (ts fs : Parts) (c i : ℕ) → Leads (state_at_position o ts fs (PowerCaret c)) (Variable i) (behind_factor o ts fs (PowerOf c (Input i)))
  of_exponent : (o : Outer) (ts fs : Parts) (c : ℕ) → Leads (state_at_position o ts fs (PowerCaret c)) Open (inside (Exponent c) o ts fs)
  of_times : (o : Outer) (ts fs : Parts) → is_empty fs ≡ false → Leads (state_at_position o ts fs ItemRead) Times (state_at_position o ts fs Begins)
  of_base : (o : Outer) (ts fs : Parts) (c : ℕ) → Leads (state_at_position o ts (with_part fs (Constant c)) ItemRead) Caret (state_at_position o ts fs (PowerCaret c))
  of_caret : (o : Outer) (ts fs : Parts) (i : ℕ) → Leads (state_at_position o ts (with_part fs (Input i)) ItemRead) Caret (state_at_position o ts fs (RunCaret i))
  of_blank : (o : Outer) (ts fs : Parts) → can_end fs ≡ true → Leads (state_at_position o ts fs ItemRead) Blank (state_at_position o ts fs BlankRead)
  of_comma : (o : Outer) (ts fs : Parts) → can_end fs ≡ true → Leads (state_at_position o ts fs ItemRead) Comma (state_at_position o ts fs CommaRead)
  of_close : (bracket : Bracket) (o : Outer) (ts' fs' ts fs : Parts) → can_end fs ≡ true → can_close bracket (bound_of_parts ts fs) ≡ true
      → Leads (state_at_position (Inside bracket ts' fs' o) ts fs ItemRead) Close (behind_factor o ts' fs' (item_of bracket (bound_of_parts ts fs)))
  of_plus : (o : Outer) (ts fs : Parts) → Leads (state_at_position o ts fs BlankRead) Plus (state_at_position o ts fs PlusRead)
  of_term : (o : Outer) (ts fs : Parts) → can_end fs ≡ true → Leads (state_at_position o ts fs PlusRead) Blank (state_at_position o (with_part ts (term_of fs)) NoParts Begins)
  of_argument : (o : Outer) (bs ts' fs' ts fs : Parts) → can_end fs ≡ true
      → Leads (state_at_position (Inside (Arguments bs) ts' fs' o) ts fs CommaRead) Blank (inside (Arguments (with_part bs (bound_of_parts ts fs))) o ts' fs')

-- a piece that is accepted where an item begins is one of the cases
begin_leads : (o : Outer) (ts fs : Parts) (piece : Piece) (g : ParserState) → begin_item o ts fs piece ≡ Some g → Leads (state_at_position o ts fs Begins) piece g
begin_leads o ts fs (Variable i) g h = subst (Leads (state_at_position o ts fs Begins) (Variable i)) (when-some (not (is_input i (last fs))) (behind_factor o ts fs (Input i)) g h).1 (of_variable o ts fs i)
begin_leads o ts fs (Number c) g h = let e : behind_factor o ts fs (Constant c) ≡ g = cc in subst (Leads (state_at_position o ts fs Begins) (Number c)) e (of_number o ts fs c)
begin_leads o ts fs Maximum g h = let e : inside (Arguments NoParts) o ts fs ≡ g = cc in subst (Leads (state_at_position o ts fs Begins) Maximum) e (of_maximum o ts fs)
begin_leads o ts fs Open g h = let e : inside Factor o ts fs ≡ g = cc in subst (Leads (state_at_position o ts fs Begins) Open) e (of_sum o ts fs)
begin_leads o ts fs piece g h = cc

-- a piece that is accepted after the `^` of a run is one of the cases
run_leads : (o : Outer) (ts fs : Parts) (i : ℕ) (piece : Piece) (g : ParserState) → end_run o ts fs i piece ≡ Some g → Leads (state_at_position o ts fs (RunCaret i)) piece g
run_leads o ts fs i (Number zero) g h = cc
run_leads o ts fs i (Number (suc zero)) g h = cc
run_leads o ts fs i (Number (suc (suc n))) g h =
    subst (Leads (state_at_position o ts fs (RunCaret i)) (Number (suc (suc n)))) (when-some (nat_lt 1 (suc (suc n))) (state_at_position o ts (with_copies (suc (suc n)) i fs) ItemRead) g h).1 (of_run o ts fs i n)
run_leads o ts fs i piece g h = cc

-- a piece that is accepted after the `^` of a power is one of the cases
power_leads : (o : Outer) (ts fs : Parts) (c : ℕ) (piece : Piece) (g : ParserState) → begin_exponent o ts fs c piece ≡ Some g → Leads (state_at_position o ts fs (PowerCaret c)) piece g
power_leads o ts fs c (Number n) g h = let e : behind_factor o ts fs (PowerOf c (Constant n)) ≡ g = cc in subst (Leads (state_at_position o ts fs (PowerCaret c)) (Number n)) e (of_power o ts fs c n)
power_leads o ts fs c (Variable i) g h = let e : behind_factor o ts fs (PowerOf c (Input i)) ≡ g = cc in subst (Leads (state_at_position o ts fs (PowerCaret c)) (Variable i)) e (of_power_of o ts fs c i)
power_leads o ts fs c Open g h = let e : inside (Exponent c) o ts fs ≡ g = cc in subst (Leads (state_at_position o ts fs (PowerCaret c)) Open) e (of_exponent o ts fs c)
power_leads o ts fs c piece g h = cc

-- an accepted `^` after a factor is one of the cases
caret_leads : (o : Outer) (ts gs : Parts) (b : Bound) (g : ParserState) → caret_behind o ts gs (Some b) ≡ Some g → Leads (state_at_position o ts (with_part gs b) ItemRead) Caret g
caret_leads o ts gs (Constant c) g h = subst (Leads (state_at_position o ts (with_part gs (Constant c)) ItemRead) Caret) (when-some (nat_lt 1 c) (state_at_position o ts gs (PowerCaret c)) g h).1 (of_base o ts gs c)
caret_leads o ts gs (Input i) g h = subst (Leads (state_at_position o ts (with_part gs (Input i)) ItemRead) Caret) (when-some (not (is_input i (last gs))) (state_at_position o ts gs (RunCaret i)) g h).1 (of_caret o ts gs i)
caret_leads o ts gs b g h = cc

-- if terms and factors can be an argument, a term can end there
argument_ends : (o : Outer) (ts fs : Parts) → can_be_argument o ts fs ≡ true → can_end fs ≡ true
argument_ends (Inside (Arguments bs) ts' fs' o) ts fs h = (and_parts (can_end fs) (not (is_maximum (bound_of_parts ts fs))) h).0
argument_ends (Inside (Exponent c) ts' fs' o) ts fs h = cc
argument_ends (Inside Factor ts' fs' o) ts fs h = cc
argument_ends Whole ts fs h = cc

-- an accepted closing bracket is one of the cases
close_leads : (o : Outer) (ts fs : Parts) (g : ParserState) → close_bracket o ts fs ≡ Some g → Leads (state_at_position o ts fs ItemRead) Close g
close_leads Whole ts fs g h = cc
close_leads (Inside bracket ts' fs' o) ts fs g h =
    let t = when-some (can_end fs && can_close bracket (bound_of_parts ts fs)) (behind_factor o ts' fs' (item_of bracket (bound_of_parts ts fs))) g h in
    let c = and_parts (can_end fs) (can_close bracket (bound_of_parts ts fs)) t.0 in
    subst (Leads (state_at_position (Inside bracket ts' fs' o) ts fs ItemRead) Close) t.1 (of_close bracket o ts' fs' ts fs c.0 c.1)

-- a piece that is accepted after an item is one of the cases
follow_leads : (o : Outer) (ts fs : Parts) (piece : Piece) (g : ParserState) → is_empty fs ≡ false → follow_item o ts fs piece ≡ Some g → Leads (state_at_position o ts fs ItemRead) piece g
follow_leads o ts fs Times g is h = let e : state_at_position o ts fs Begins ≡ g = cc in subst (Leads (state_at_position o ts fs ItemRead) Times) e (of_times o ts fs is)
follow_leads o ts fs Caret g is h = go (unsnoc fs is)
  where
    go : ((gs : Parts) × (b : Bound) × (fs ≡ with_part gs b)) → Leads (state_at_position o ts fs ItemRead) Caret g
    go t =
        let at_end : caret_behind o ts t.0 (Some t.1) ≡ Some g =
        sym (ap (λ (ps : Parts). caret_behind o ts (init ps) (last ps)) t.2 ∙ ap (λ (ps : Parts). caret_behind o ts ps (last (with_part t.0 t.1))) (init-with_part t.0 t.1) ∙ ap (caret_behind o ts t.0) (last-with_part t.0 t.1)) ∙ h in
        subst (λ (ps : Parts). Leads (state_at_position o ts ps ItemRead) Caret g) (sym t.2) (caret_leads o ts t.0 t.1 g at_end)
follow_leads o ts fs Blank g is h =
    let t = when-some (can_end fs) (state_at_position o ts fs BlankRead) g h in
    subst (Leads (state_at_position o ts fs ItemRead) Blank) t.1 (of_blank o ts fs t.0)
follow_leads o ts fs Comma g is h =
    let t = when-some (can_be_argument o ts fs) (state_at_position o ts fs CommaRead) g h in
    subst (Leads (state_at_position o ts fs ItemRead) Comma) t.1 (of_comma o ts fs (argument_ends o ts fs t.0))
follow_leads o ts fs Close g is h = close_leads o ts fs g h
follow_leads o ts fs piece g is h = cc

-- an accepted end of an argument is one of the cases
argument_leads : (o : Outer) (ts fs : Parts) (g : ParserState) → can_end fs ≡ true → end_argument o ts fs ≡ Some g → Leads (state_at_position o ts fs CommaRead) Blank g
argument_leads Whole ts fs g is h = cc
argument_leads (Inside (Exponent c) ts' fs' o) ts fs g is h = cc
argument_leads (Inside Factor ts' fs' o) ts fs g is h = cc
argument_leads (Inside (Arguments bs) ts' fs' o) ts fs g is h =
    let e : inside (Arguments (with_part bs (bound_of_parts ts fs))) o ts' fs' ≡ g = cc in
    subst (Leads (state_at_position (Inside (Arguments bs) ts' fs' o) ts fs CommaRead) Blank) e (of_argument o bs ts' fs' ts fs is)

-- every accepted piece is one of the cases
pub step_leads : (f g : ParserState) (piece : Piece) → IsWellFormed f → step f piece ≡ Some g → Leads f piece g
step_leads f g piece is h = go f.position piece (record { outer = is.outer; terms = is.terms; factors = is.factors; position = is.position }) h
  where
    go : (position : Position) (piece : Piece) → IsWellFormed (state_at_position f.outer f.terms f.factors position) → step_at position f.outer f.terms f.factors piece ≡ Some g → Leads (state_at_position f.outer f.terms f.factors position) piece g
    go Begins piece is h = begin_leads f.outer f.terms f.factors piece g h
    go (RunCaret i) piece is h = run_leads f.outer f.terms f.factors i piece g h
    go (PowerCaret c) piece is h = power_leads f.outer f.terms f.factors c piece g h
    go ItemRead piece is h = follow_leads f.outer f.terms f.factors piece g is.position h
    go BlankRead Plus is h = let e : state_at_position f.outer f.terms f.factors PlusRead ≡ g = cc in subst (Leads (state_at_position f.outer f.terms f.factors BlankRead) Plus) e (of_plus f.outer f.terms f.factors)
    go PlusRead Blank is h =
        let e : state_at_position f.outer (with_part f.terms (term_of f.factors)) NoParts Begins ≡ g = cc in
        subst (Leads (state_at_position f.outer f.terms f.factors PlusRead) Blank) e (of_term f.outer f.terms f.factors is.position)
    go CommaRead Blank is h = argument_leads f.outer f.terms f.factors g (argument_ends f.outer f.terms f.factors is.position) h
    go position piece is h = cc
