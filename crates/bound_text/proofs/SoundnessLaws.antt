-- Soundness of the steps: the state after a piece describes the pieces read so far and that piece.
use Rattle.std.proofs.Common.{◌≡◌, ℕ, zero, suc, ◌+◌, ◌≤◌, nat_lt, Bool, true, false, not, cond, ◌&&◌, List, ◌∷◌, ◌++◌}
use Rattle.std.proofs.Common.{Some, refl, ap, sym, subst, ◌∙◌, arith}
use Rattle.std.proofs.lemmas.Bool.Decides.{nat_tests}
use Rattle.text_core.specs.model.Bounds.{Bound, Constant, Input, SumOf, ProductOf, MaximumOf, PowerOf, Parts, NoParts}
use Rattle.text_core.specs.model.Bounds.{Part}
use Rattle.bound_expr.specs.Tidy.{part_count, IsNoSum, IsNoProduct, IsNoMaximum, EachPart}
use Rattle.bound_text.specs.Shapes.{is_sum, is_maximum, is_variable, is_empty, with_part, IsShaped, AreShaped}
use Rattle.bound_text.specs.Pieces.{Piece, Variable, Number, Maximum, Open, Close, Times, Caret, Plus, Blank, Comma}
use Rattle.bound_text.specs.Writing.{Nothing, bracketed_then, text_then, factors_then, plus_between, comma_between}
use Rattle.bound_text.specs.ParserStates.{Bracket, Arguments, Exponent, Factor, Outer, Whole, Inside, Position, ParserState, Begins}
use Rattle.bound_text.specs.ParserStates.{RunCaret, PowerCaret, ItemRead, BlankRead, PlusRead, CommaRead, IsWellFormed, IsOuter}
use Rattle.bound_text.specs.ParserStates.{IsBracket, IsPosition, AreTerms, AreFactors, state_then, outer_then, position_then}
use Rattle.bound_text.specs.ParserStates.{star_then, each_then, bracket_then, last, init, is_input, term_of, bound_of_parts}
use Rattle.bound_text.specs.ParserStates.{can_end, can_be_argument}
use Rattle.bound_text.specs.Steps.{when, with_copies, state_at_position, inside, behind_factor, begin_item, end_run}
use Rattle.bound_text.specs.Steps.{begin_exponent, caret_behind, can_close, item_of, close_bracket, follow_item}
use Rattle.bound_text.specs.Steps.{end_argument, step, step_at, beginning, finish}
use Rattle.std.proofs.lemmas.Bool.{and_parts, not-true}
use Rattle.bound_text.proofs.PartLaws.{is_empty-with_part, last-with_part, init-with_part}
use Rattle.bound_text.proofs.JoiningLaws.{as_one-with_part}
use Rattle.bound_text.proofs.WritingLaws.{ends_in, joined-with_part, each-with_part, factors-other, factors-run}
use Rattle.bound_text.proofs.WritingLaws.{term_text, bound_text}

-- the next state is well-formed and describes the pieces of the state before and the piece
pub record Extends (f : ParserState) (piece : Piece) (g : ParserState) : Type 0 where
  pub is_state : IsWellFormed g
  pub text : (rest : List Piece) → state_then g rest ≡ state_then f (piece ∷ rest)

-- a value that is given only if a test holds: the test holds, and the value is that one
pub when-some : {X : Type 0} (v : Bool) (f g : X) → when v f ≡ Some g → (v ≡ true) × (f ≡ g)
when-some true f g h = (refl, cc)
when-some false f g h = cc

-- if each part and one more have a property, so do the parts with that one
each-more : (P : Bound → Type 0) (bs : Parts) (b : Bound) → EachPart P bs → P b → EachPart P (with_part bs b)
each-more P NoParts b all here = (here, tt)
each-more P (Part c cs) b all here = (all.0, each-more P cs b all.1 here)

-- if parts and one more have the shape of a text, so do the parts with that one
shaped-more : (bs : Parts) (b : Bound) → AreShaped bs → IsShaped b → AreShaped (with_part bs b)
shaped-more NoParts b all here = (here, tt)
shaped-more (Part c cs) b all here = (all.0, shaped-more cs b all.1 here)

-- if the parts with one more have a property, so do the parts and that one
each-less : (P : Bound → Type 0) (bs : Parts) (b : Bound) → EachPart P (with_part bs b) → EachPart P bs
each-less P NoParts b all = tt
each-less P (Part c cs) b all = (all.0, each-less P cs b all.1)

-- if the parts with one more have the shape of a text, so do the parts and that one
shaped-less : (bs : Parts) (b : Bound) → AreShaped (with_part bs b) → AreShaped bs
shaped-less NoParts b all = tt
shaped-less (Part c cs) b all = (all.0, shaped-less cs b all.1)

-- factors with one more that is no product are factors
factors-more : (fs : Parts) (b : Bound) → AreFactors fs → IsShaped b → IsNoProduct b → AreFactors (with_part fs b)
factors-more fs b all shaped none = record { no_products = each-more IsNoProduct fs b all.no_products none; shaped = shaped-more fs b all.shaped shaped }

-- factors with copies of a variable after them are factors
copies-more : (n i : ℕ) (fs : Parts) → AreFactors fs → AreFactors (with_copies n i fs)
copies-more zero i fs all = all
copies-more (suc n) i fs all = factors-more (with_copies n i fs) (Input i) (copies-more n i fs all) tt tt

-- parts with one more are one more
count-more : (bs : Parts) (b : Bound) → part_count (with_part bs b) ≡ part_count bs + 1
count-more NoParts b = omega arith
count-more (Part c cs) b = omega (arith, count-more cs b)

-- no parts are terms
no_parts : AreTerms NoParts
no_parts = record { no_sums = tt; shaped = tt }

-- no parts are factors
no_factors : AreFactors NoParts
no_factors = record { no_products = tt; shaped = tt }

-- after one more factor the state is well-formed
more_factor : (outer : Outer) (ts fs : Parts) (position : Position) (b : Bound) (piece : Piece) → IsWellFormed (state_at_position outer ts fs position) → IsShaped b → IsNoProduct b
    → ((rest : List Piece) → factors_then Nothing (with_part fs b) rest ≡ factors_then Nothing fs (position_then position fs (piece ∷ rest))) → Extends (state_at_position outer ts fs position) piece (behind_factor outer ts fs b)
more_factor outer ts fs position b piece is shaped none texts = record {
  is_state = record { outer = is.outer; terms = is.terms; factors = factors-more fs b is.factors shaped none; position = is_empty-with_part fs b };
  text = λ rest. ap (λ (ps : List Piece). outer_then outer (each_then plus_between ts ps)) (texts rest);
}

-- if nothing comes before the factors, whether they end in variable i is whether the last one is that variable
ends_first : (fs : Parts) (i : ℕ) → is_input i (last fs) ≡ false → ends_in Nothing fs i ≡ false
ends_first NoParts i h = refl
ends_first (Part b bs) i h = h

-- a piece is sound where an item begins
begin_sound : (outer : Outer) (ts fs : Parts) (piece : Piece) (g : ParserState) → IsWellFormed (state_at_position outer ts fs Begins) → begin_item outer ts fs piece ≡ Some g → Extends (state_at_position outer ts fs Begins) piece g
begin_sound outer ts fs (Variable i) g is h =
    let t = when-some (not (is_input i (last fs))) (behind_factor outer ts fs (Input i)) g h in
    subst (Extends (state_at_position outer ts fs Begins) (Variable i)) t.1
    (more_factor outer ts fs Begins (Input i) (Variable i) is tt tt (λ rest. factors-run Nothing fs zero i rest (ends_first fs i (not-true (is_input i (last fs)) t.0))))
begin_sound outer ts fs (Number c) g is h =
    let e : behind_factor outer ts fs (Constant c) ≡ g = cc in
    subst (Extends (state_at_position outer ts fs Begins) (Number c)) e
    (more_factor outer ts fs Begins (Constant c) (Number c) is tt tt (λ rest. factors-other Nothing fs (Constant c) rest refl))
begin_sound outer ts fs Maximum g is h =
    let e : inside (Arguments NoParts) outer ts fs ≡ g = cc in
    subst (Extends (state_at_position outer ts fs Begins) Maximum) e (record {
      is_state = record { outer = (record { no_maximums = tt; shaped = tt }, is.terms, is.factors, is.outer); terms = no_parts; factors = no_factors; position = tt };
      text = λ rest. refl;
    })
begin_sound outer ts fs Open g is h =
    let e : inside Factor outer ts fs ≡ g = cc in
    subst (Extends (state_at_position outer ts fs Begins) Open) e (record {
      is_state = record { outer = (tt, is.terms, is.factors, is.outer); terms = no_parts; factors = no_factors; position = tt };
      text = λ rest. refl;
    })
begin_sound outer ts fs piece g is h = cc

-- the number of a run is sound
run_sound : (outer : Outer) (ts fs : Parts) (i : ℕ) (piece : Piece) (g : ParserState) → IsWellFormed (state_at_position outer ts fs (RunCaret i)) → end_run outer ts fs i piece ≡ Some g → Extends (state_at_position outer ts fs (RunCaret i)) piece g
run_sound outer ts fs i (Number zero) g is h = cc
run_sound outer ts fs i (Number (suc zero)) g is h = cc
run_sound outer ts fs i (Number (suc (suc n))) g is h =
    let more : nat_lt 1 (suc (suc n)) ≡ true = grind (arith, nat_tests) in
    let t = when-some (nat_lt 1 (suc (suc n))) (state_at_position outer ts (with_copies (suc (suc n)) i fs) ItemRead) g h in
    subst (Extends (state_at_position outer ts fs (RunCaret i)) (Number (suc (suc n)))) t.1 (record {
      is_state = record { outer = is.outer; terms = is.terms; factors = copies-more (suc (suc n)) i fs is.factors; position = is_empty-with_part (with_copies (suc n) i fs) (Input i) };
      text = λ rest.
          ap (λ (ps : List Piece). outer_then outer (each_then plus_between ts ps))
          (factors-run Nothing fs (suc n) i rest (ends_first fs i is.position)
          ∙ ap (λ (v : Bool). factors_then Nothing fs (star_then fs (Variable i ∷ cond v (Caret ∷ Number (suc (suc n)) ∷ rest) rest))) more);
    })
run_sound outer ts fs i piece g is h = cc

-- a piece is sound after the `^` of a power
exponent_sound : (outer : Outer) (ts fs : Parts) (c : ℕ) (piece : Piece) (g : ParserState) → IsWellFormed (state_at_position outer ts fs (PowerCaret c)) → begin_exponent outer ts fs c piece ≡ Some g
    → Extends (state_at_position outer ts fs (PowerCaret c)) piece g
exponent_sound outer ts fs c (Number n) g is h =
    let e : behind_factor outer ts fs (PowerOf c (Constant n)) ≡ g = cc in
    subst (Extends (state_at_position outer ts fs (PowerCaret c)) (Number n)) e
    (more_factor outer ts fs (PowerCaret c) (PowerOf c (Constant n)) (Number n) is (is.position, tt) tt (λ rest. factors-other Nothing fs (PowerOf c (Constant n)) rest refl))
exponent_sound outer ts fs c (Variable i) g is h =
    let e : behind_factor outer ts fs (PowerOf c (Input i)) ≡ g = cc in
    subst (Extends (state_at_position outer ts fs (PowerCaret c)) (Variable i)) e
    (more_factor outer ts fs (PowerCaret c) (PowerOf c (Input i)) (Variable i) is (is.position, tt) tt (λ rest. factors-other Nothing fs (PowerOf c (Input i)) rest refl))
exponent_sound outer ts fs c Open g is h =
    let e : inside (Exponent c) outer ts fs ≡ g = cc in
    subst (Extends (state_at_position outer ts fs (PowerCaret c)) Open) e (record {
      is_state = record { outer = (is.position, is.terms, is.factors, is.outer); terms = no_parts; factors = no_factors; position = tt };
      text = λ rest. refl;
    })
exponent_sound outer ts fs c piece g is h = cc

-- factors after which a term can end are a term with the shape of a text, and no sum
term_shaped : (fs : Parts) → AreFactors fs → can_end fs ≡ true → IsShaped (term_of fs) × IsNoSum (term_of fs)
term_shaped NoParts all h = cc
term_shaped (Part (Constant c) NoParts) all h = (tt, tt)
term_shaped (Part (Input i) NoParts) all h = (tt, tt)
term_shaped (Part (SumOf bs) NoParts) all h = cc
term_shaped (Part (ProductOf bs) NoParts) all h = absurd all.no_products.0
term_shaped (Part (MaximumOf bs) NoParts) all h = (all.shaped.0, tt)
term_shaped (Part (PowerOf c e) NoParts) all h = (all.shaped.0, tt)
term_shaped (Part b (Part c bs)) all h = ((omega arith, all.no_products, all.shaped), tt)

-- terms and factors after which a term can end make a bound with the shape of a text
bound_shaped : (ts fs : Parts) → AreTerms ts → AreFactors fs → can_end fs ≡ true → IsShaped (bound_of_parts ts fs)
bound_shaped NoParts fs terms factors h = (term_shaped fs factors h).0
bound_shaped (Part c cs) fs terms factors h =
    let t = term_shaped fs factors h in
    subst IsShaped (sym (as_one-with_part c cs (term_of fs)))
    (omega (arith, count-more (Part c cs) (term_of fs)), each-more IsNoSum (Part c cs) (term_of fs) terms.no_sums t.1, shaped-more (Part c cs) (term_of fs) terms.shaped t.0)

-- a bound that fails the test `is_maximum` is no maximum
no_maximum : (b : Bound) → is_maximum b ≡ false → IsNoMaximum b
no_maximum (Constant c) h = tt
no_maximum (Input i) h = tt
no_maximum (SumOf bs) h = tt
no_maximum (ProductOf bs) h = tt
no_maximum (MaximumOf bs) h = cc
no_maximum (PowerOf c e) h = tt

-- parts that are not empty are at least one
some_parts : (bs : Parts) → is_empty bs ≡ false → 1 ≤ part_count bs
some_parts NoParts h = cc
some_parts (Part b bs) h = omega arith

-- the item of a bracket has the shape of a text, and is no variable
is_item : (bracket : Bracket) (b : Bound) → IsBracket bracket → IsShaped b → can_close bracket b ≡ true → IsShaped (item_of bracket b) × IsNoProduct (item_of bracket b) × (is_variable (item_of bracket b) ≡ false)
is_item (Arguments bs) b is shaped h =
    let t = and_parts (not (is_empty bs)) (not (is_maximum b)) h in
    ((omega (arith, count-more bs b, some_parts bs (not-true (is_empty bs) t.0)), each-more IsNoMaximum bs b is.no_maximums (no_maximum b (not-true (is_maximum b) t.1)), shaped-more bs b is.shaped shaped), tt, refl)
is_item (Exponent c) b is shaped h = ((is, shaped), tt, refl)
is_item Factor (SumOf bs) is shaped h = (shaped, tt, refl)
is_item Factor (Constant c) is shaped h = cc
is_item Factor (Input i) is shaped h = cc
is_item Factor (ProductOf bs) is shaped h = cc
is_item Factor (MaximumOf bs) is shaped h = cc
is_item Factor (PowerOf c e) is shaped h = cc

-- the text of the item of a bracket is the bracket, its bound and the closing bracket
closed_text : (bracket : Bracket) (b : Bound) (rest : List Piece) → can_close bracket b ≡ true
    → bracketed_then (is_sum (item_of bracket b)) (text_then (item_of bracket b)) rest ≡ bracket_then bracket (text_then b (Close ∷ rest))
closed_text (Arguments bs) b rest h = ap (λ (ps : List Piece). Maximum ∷ ps) (joined-with_part comma_between bs b (Close ∷ rest))
closed_text (Exponent c) b rest h = ap (λ (v : Bool). Number c ∷ Caret ∷ bracketed_then v (text_then b) rest) h
closed_text Factor b rest h = ap (λ (v : Bool). bracketed_then v (text_then b) rest) h

-- a closing bracket is sound
close_sound : (outer : Outer) (ts fs : Parts) (g : ParserState) → IsWellFormed (state_at_position outer ts fs ItemRead) → close_bracket outer ts fs ≡ Some g → Extends (state_at_position outer ts fs ItemRead) Close g
close_sound Whole ts fs g is h = cc
close_sound (Inside bracket ts' fs' outer) ts fs g is h =
    let t = when-some (can_end fs && can_close bracket (bound_of_parts ts fs)) (behind_factor outer ts' fs' (item_of bracket (bound_of_parts ts fs))) g h in
    let c = and_parts (can_end fs) (can_close bracket (bound_of_parts ts fs)) t.0 in
    let item = is_item bracket (bound_of_parts ts fs) is.outer.0 (bound_shaped ts fs is.terms is.factors c.0) c.1 in
    subst (Extends (state_at_position (Inside bracket ts' fs' outer) ts fs ItemRead) Close) t.1 (record {
      is_state = record { outer = is.outer.3; terms = is.outer.1; factors = factors-more fs' (item_of bracket (bound_of_parts ts fs)) is.outer.2 item.0 item.1; position = is_empty-with_part fs' (item_of bracket (bound_of_parts ts fs)) };
      text = λ rest.
          ap (λ (ps : List Piece). outer_then outer (each_then plus_between ts' ps))
          (factors-other Nothing fs' (item_of bracket (bound_of_parts ts fs)) rest item.2
          ∙ ap (λ (ps : List Piece). factors_then Nothing fs' (star_then fs' ps))
          (closed_text bracket (bound_of_parts ts fs) rest c.1 ∙ ap (bracket_then bracket) (bound_text ts fs (Close ∷ rest) c.0)));
    })

-- factors that are not empty are other factors with one more
pub unsnoc : (fs : Parts) → is_empty fs ≡ false → (gs : Parts) × (b : Bound) × (fs ≡ with_part gs b)
unsnoc NoParts h = cc
unsnoc (Part b NoParts) h = (NoParts, b, refl)
unsnoc (Part b (Part c cs)) h = let t = unsnoc (Part c cs) refl in (Part b t.0, t.1, ap (Part b) t.2)

-- the `^` after a factor is sound
caret_sound : (outer : Outer) (ts gs : Parts) (b : Bound) (g : ParserState) → IsWellFormed (state_at_position outer ts (with_part gs b) ItemRead) → caret_behind outer ts gs (Some b) ≡ Some g
    → Extends (state_at_position outer ts (with_part gs b) ItemRead) Caret g
caret_sound outer ts gs (Constant c) g is h =
    let t = when-some (nat_lt 1 c) (state_at_position outer ts gs (PowerCaret c)) g h in
    subst (Extends (state_at_position outer ts (with_part gs (Constant c)) ItemRead) Caret) t.1 (record {
      is_state = record { outer = is.outer; terms = is.terms; factors = record { no_products = each-less IsNoProduct gs (Constant c) is.factors.no_products; shaped = shaped-less gs (Constant c) is.factors.shaped }; position = (let e = t.0 in grind (arith, nat_tests)) };
      text = λ rest. ap (λ (ps : List Piece). outer_then outer (each_then plus_between ts ps)) (sym (factors-other Nothing gs (Constant c) (Caret ∷ rest) refl));
    })
caret_sound outer ts gs (Input i) g is h =
    let t = when-some (not (is_input i (last gs))) (state_at_position outer ts gs (RunCaret i)) g h in
    let f = not-true (is_input i (last gs)) t.0 in
    subst (Extends (state_at_position outer ts (with_part gs (Input i)) ItemRead) Caret) t.1 (record {
      is_state = record { outer = is.outer; terms = is.terms; factors = record { no_products = each-less IsNoProduct gs (Input i) is.factors.no_products; shaped = shaped-less gs (Input i) is.factors.shaped }; position = f };
      text = λ rest. ap (λ (ps : List Piece). outer_then outer (each_then plus_between ts ps)) (sym (factors-run Nothing gs zero i (Caret ∷ rest) (ends_first gs i f)));
    })
caret_sound outer ts gs b g is h = cc

-- after factors that are not empty, `*` is written
star_some : (fs : Parts) (rest : List Piece) → is_empty fs ≡ false → star_then fs rest ≡ Times ∷ rest
star_some NoParts rest h = cc
star_some (Part b bs) rest h = refl

-- a piece is sound after an item
follow_sound : (outer : Outer) (ts fs : Parts) (piece : Piece) (g : ParserState) → IsWellFormed (state_at_position outer ts fs ItemRead) → follow_item outer ts fs piece ≡ Some g → Extends (state_at_position outer ts fs ItemRead) piece g
follow_sound outer ts fs Times g is h =
    let e : state_at_position outer ts fs Begins ≡ g = cc in
    subst (Extends (state_at_position outer ts fs ItemRead) Times) e (record {
      is_state = record { outer = is.outer; terms = is.terms; factors = is.factors; position = tt };
      text = λ rest. ap (λ (ps : List Piece). outer_then outer (each_then plus_between ts (factors_then Nothing fs ps))) (star_some fs rest is.position);
    })
follow_sound outer ts fs Caret g is h = go (unsnoc fs is.position)
  where
    go : ((gs : Parts) × (b : Bound) × (fs ≡ with_part gs b)) → Extends (state_at_position outer ts fs ItemRead) Caret g
    go t =
        let e = t.2 in
        let at_end : caret_behind outer ts t.0 (Some t.1) ≡ Some g =
        sym (ap (λ (ps : Parts). caret_behind outer ts (init ps) (last ps)) e ∙ ap (λ (ps : Parts). caret_behind outer ts ps (last (with_part t.0 t.1))) (init-with_part t.0 t.1) ∙ ap (caret_behind outer ts t.0) (last-with_part t.0 t.1)) ∙ h in
        subst (λ (ps : Parts). Extends (state_at_position outer ts ps ItemRead) Caret g) (sym e)
        (caret_sound outer ts t.0 t.1 g (subst (λ (ps : Parts). IsWellFormed (state_at_position outer ts ps ItemRead)) e is) at_end)
follow_sound outer ts fs Blank g is h =
    let t = when-some (can_end fs) (state_at_position outer ts fs BlankRead) g h in
    subst (Extends (state_at_position outer ts fs ItemRead) Blank) t.1 (record { is_state = record { outer = is.outer; terms = is.terms; factors = is.factors; position = t.0 }; text = λ rest. refl })
follow_sound outer ts fs Comma g is h =
    let t = when-some (can_be_argument outer ts fs) (state_at_position outer ts fs CommaRead) g h in
    subst (Extends (state_at_position outer ts fs ItemRead) Comma) t.1 (record { is_state = record { outer = is.outer; terms = is.terms; factors = is.factors; position = t.0 }; text = λ rest. refl })
follow_sound outer ts fs Close g is h = close_sound outer ts fs g is h
follow_sound outer ts fs piece g is h = cc

-- the end of a term is sound
term_sound : (outer : Outer) (ts fs : Parts) (g : ParserState) → IsWellFormed (state_at_position outer ts fs PlusRead) → state_at_position outer (with_part ts (term_of fs)) NoParts Begins ≡ g → Extends (state_at_position outer ts fs PlusRead) Blank g
term_sound outer ts fs g is h =
    let t = term_shaped fs is.factors is.position in
    subst (Extends (state_at_position outer ts fs PlusRead) Blank) h (record {
      is_state = record { outer = is.outer; terms = record { no_sums = each-more IsNoSum ts (term_of fs) is.terms.no_sums t.1; shaped = shaped-more ts (term_of fs) is.terms.shaped t.0 }; factors = no_factors; position = tt };
      text = λ rest. ap (outer_then outer) (each-with_part plus_between ts (term_of fs) rest ∙ ap (each_then plus_between ts) (term_text fs (plus_between ++ rest) is.position));
    })

-- the end of an argument is sound
argument_sound : (outer : Outer) (ts fs : Parts) (g : ParserState) → IsWellFormed (state_at_position outer ts fs CommaRead) → end_argument outer ts fs ≡ Some g → Extends (state_at_position outer ts fs CommaRead) Blank g
argument_sound Whole ts fs g is h = cc
argument_sound (Inside (Exponent c) ts' fs' outer) ts fs g is h = cc
argument_sound (Inside Factor ts' fs' outer) ts fs g is h = cc
argument_sound (Inside (Arguments bs) ts' fs' outer) ts fs g is h =
    let e : inside (Arguments (with_part bs (bound_of_parts ts fs))) outer ts' fs' ≡ g = cc in
    let c = and_parts (can_end fs) (not (is_maximum (bound_of_parts ts fs))) is.position in
    subst (Extends (state_at_position (Inside (Arguments bs) ts' fs' outer) ts fs CommaRead) Blank) e (record {
      is_state = record {
        outer = (record { no_maximums = each-more IsNoMaximum bs (bound_of_parts ts fs) is.outer.0.no_maximums (no_maximum (bound_of_parts ts fs) (not-true (is_maximum (bound_of_parts ts fs)) c.1)); shaped = shaped-more bs (bound_of_parts ts fs) is.outer.0.shaped (bound_shaped ts fs is.terms is.factors c.0) }, is.outer.1, is.outer.2, is.outer.3);
        terms = no_parts;
        factors = no_factors;
        position = tt;
      };
      text = λ rest.
          ap (λ (ps : List Piece). outer_then outer (each_then plus_between ts' (factors_then Nothing fs' (star_then fs' (Maximum ∷ ps)))))
          (each-with_part comma_between bs (bound_of_parts ts fs) rest ∙ ap (each_then comma_between bs) (bound_text ts fs (comma_between ++ rest) c.0));
    })

-- every accepted piece is sound
pub step_sound : (f g : ParserState) (piece : Piece) → IsWellFormed f → step f piece ≡ Some g → Extends f piece g
step_sound f g piece is h = go f.position piece (record { outer = is.outer; terms = is.terms; factors = is.factors; position = is.position }) h
  where
    go : (position : Position) (piece : Piece) → IsWellFormed (state_at_position f.outer f.terms f.factors position) → step_at position f.outer f.terms f.factors piece ≡ Some g → Extends (state_at_position f.outer f.terms f.factors position) piece g
    go Begins piece is h = begin_sound f.outer f.terms f.factors piece g is h
    go (RunCaret i) piece is h = run_sound f.outer f.terms f.factors i piece g is h
    go (PowerCaret c) piece is h = exponent_sound f.outer f.terms f.factors c piece g is h
    go ItemRead piece is h = follow_sound f.outer f.terms f.factors piece g is h
    go BlankRead Plus is h =
        let e : state_at_position f.outer f.terms f.factors PlusRead ≡ g = cc in
        subst (Extends (state_at_position f.outer f.terms f.factors BlankRead) Plus) e (record { is_state = record { outer = is.outer; terms = is.terms; factors = is.factors; position = is.position }; text = λ rest. refl })
    go PlusRead Blank is h = term_sound f.outer f.terms f.factors g is (let e : state_at_position f.outer (with_part f.terms (term_of f.factors)) NoParts Begins ≡ g = cc in e)
    go CommaRead Blank is h = argument_sound f.outer f.terms f.factors g is h
    go position piece is h = cc

-- the first state is well-formed
pub beginning_is_state : IsWellFormed beginning
beginning_is_state = record { outer = tt; terms = no_parts; factors = no_factors; position = tt }

-- if a text can end here, its bound has the shape of a text, and the pieces read are its text
pub finish_sound : (f : ParserState) (b : Bound) → IsWellFormed f → finish f ≡ Some b → IsShaped b × ((rest : List Piece) → text_then b rest ≡ state_then f rest)
finish_sound f b is h = go f.position f.outer is.outer is.position h
  where
    go : (position : Position) (outer : Outer) → IsOuter outer → IsPosition position outer f.terms f.factors → finish (state_at_position outer f.terms f.factors position) ≡ Some b
        → IsShaped b × ((rest : List Piece) → text_then b rest ≡ state_then (state_at_position outer f.terms f.factors position) rest)
    go ItemRead Whole o p h =
        let t = when-some (can_end f.factors) (bound_of_parts f.terms f.factors) b h in
        (subst IsShaped t.1 (bound_shaped f.terms f.factors is.terms is.factors t.0), λ rest. ap (λ (c : Bound). text_then c rest) (sym t.1) ∙ bound_text f.terms f.factors rest t.0)
    go ItemRead (Inside bracket ts fs outer) o p h = cc
    go position outer o p h = cc
