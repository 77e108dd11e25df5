-- The text of a bound leads the reader to that bound.
use Rattle.std.proofs.Common.{◌≡◌, ℕ, zero, suc, ◌≤◌, nat_lt, nat_eq, Bool, true, false, not, cond, ◌&&◌, List, ◌∷◌}
use Rattle.std.proofs.Common.{◌++◌, Option, Some, refl, ap, ◌∙◌, arith}
use Rattle.std.specs.Prelude.{⊤}
use Rattle.std.proofs.lemmas.Bool.Decides.{nat_tests}
use Rattle.text_core.specs.model.Bounds.{Bound, Constant, Input, SumOf, ProductOf, MaximumOf, PowerOf, Parts, NoParts}
use Rattle.text_core.specs.model.Bounds.{Part}
use Rattle.bound_expr.specs.Tidy.{part_count, IsNoSum, IsNoProduct, IsNoMaximum, EachPart}
use Rattle.bound_text.specs.Shapes.{is_sum, is_maximum, is_leaf, is_variable, is_empty, with_part, IsShaped, AreShaped}
use Rattle.bound_text.specs.Pieces.{Piece, Variable, Number, Close, Times, Caret, Plus, Blank, Comma}
use Rattle.bound_text.specs.Writing.{Nothing, Run, Other, run_then, bracketed_then, text_then, joined_then, more_then}
use Rattle.bound_text.specs.Writing.{factors_then, plus_between, comma_between}
use Rattle.bound_text.specs.ParserStates.{Bracket, Arguments, Exponent, Factor, Outer, Whole, Inside, ParserState, Begins, RunCaret}
use Rattle.bound_text.specs.ParserStates.{PowerCaret, ItemRead, BlankRead, CommaRead, last, init, is_input, bound_of_parts}
use Rattle.bound_text.specs.ParserStates.{can_end}
use Rattle.bound_text.specs.Steps.{when, with_copies, state_at_position, behind_factor, caret_behind, can_close, item_of, walk}
use Rattle.bound_text.specs.Steps.{beginning, finish}
use Rattle.bound_text.proofs.PartLaws.{is_empty-with_part, last-with_part, init-with_part}
use Rattle.bound_text.proofs.BoundParts.{factors_of, terms_from, last_factors, terms_in, factors_in, term-factors}
use Rattle.bound_text.proofs.BoundParts.{appended, appended-none, bound-parts}
use Rattle.std.proofs.lemmas.Bool.{eqb-true as same_number}

-- the state where an item can begin
abbrev pub starts : Outer → Parts → Parts → Option ParserState
starts outer ts fs = Some (state_at_position outer ts fs Begins)

-- the state after an item
abbrev pub stands : Outer → Parts → Parts → Option ParserState
stands outer ts fs = Some (state_at_position outer ts fs ItemRead)

-- a walk from a state that is reached only if a test holds
pub walk-when : (v : Bool) (f : ParserState) (pieces : List Piece) → v ≡ true → walk (when v f) pieces ≡ walk (Some f) pieces
walk-when true f pieces h = refl
walk-when false f pieces h = cc

-- a variable is read unless it is the last factor
pub read_input : (outer : Outer) (ts fs : Parts) (i : ℕ) (rest : List Piece) → is_input i (last fs) ≡ false
    → walk (starts outer ts fs) (Variable i ∷ rest) ≡ walk (stands outer ts (with_part fs (Input i))) rest
read_input outer ts fs i rest h = walk-when (not (is_input i (last fs))) (behind_factor outer ts fs (Input i)) rest (ap not h)

-- `^` after a variable is read as that of a run
pub read_run_caret : (outer : Outer) (ts fs : Parts) (i : ℕ) (rest : List Piece) → is_input i (last fs) ≡ false
    → walk (stands outer ts (with_part fs (Input i))) (Caret ∷ rest) ≡ walk (Some (state_at_position outer ts fs (RunCaret i))) rest
read_run_caret outer ts fs i rest h =
    ap (λ (b : Option Bound). walk (caret_behind outer ts (init (with_part fs (Input i))) b) rest) (last-with_part fs (Input i))
    ∙ ap (λ (gs : Parts). walk (caret_behind outer ts gs (Some (Input i))) rest) (init-with_part fs (Input i))
    ∙ walk-when (not (is_input i (last fs))) (state_at_position outer ts fs (RunCaret i)) rest (ap not h)

-- a base with its `^` is read
pub read_base : (outer : Outer) (ts fs : Parts) (c : ℕ) (rest : List Piece) → 2 ≤ c
    → walk (starts outer ts fs) (Number c ∷ Caret ∷ rest) ≡ walk (Some (state_at_position outer ts fs (PowerCaret c))) rest
read_base outer ts fs c rest h =
    ap (λ (b : Option Bound). walk (caret_behind outer ts (init (with_part fs (Constant c))) b) rest) (last-with_part fs (Constant c))
    ∙ ap (λ (gs : Parts). walk (caret_behind outer ts gs (Some (Constant c))) rest) (init-with_part fs (Constant c))
    ∙ walk-when (nat_lt 1 c) (state_at_position outer ts fs (PowerCaret c)) rest (let e : nat_lt 1 c ≡ true = grind (arith, nat_tests) in e)

-- a run is read
pub read_run : (outer : Outer) (ts fs : Parts) (n i : ℕ) (rest : List Piece) → is_input i (last fs) ≡ false
    → walk (starts outer ts fs) (run_then i (suc n) rest) ≡ walk (stands outer ts (with_copies (suc n) i fs)) rest
read_run outer ts fs zero i rest h = read_input outer ts fs i rest h
read_run outer ts fs (suc n) i rest h =
    let more : nat_lt 1 (suc (suc n)) ≡ true = grind (arith, nat_tests) in
    ap (λ (v : Bool). walk (starts outer ts fs) (Variable i ∷ cond v (Caret ∷ Number (suc (suc n)) ∷ rest) rest)) more
    ∙ read_input outer ts fs i (Caret ∷ Number (suc (suc n)) ∷ rest) h
    ∙ read_run_caret outer ts fs i (Number (suc (suc n)) ∷ rest) h
    ∙ walk-when (nat_lt 1 (suc (suc n))) (state_at_position outer ts (with_copies (suc (suc n)) i fs) ItemRead) rest more

-- the next bound can follow: as a sum's term after other terms, as a product if there is no factor before, or as one
-- more factor
abbrev pub CanFollow : Bound → Parts → Type 0
CanFollow (Input i) fs = is_input i (last fs) ≡ false
CanFollow (Constant c) fs = ⊤
CanFollow (SumOf bs) fs = ⊤
CanFollow (ProductOf bs) fs = ⊤
CanFollow (MaximumOf bs) fs = ⊤
CanFollow (PowerOf c e) fs = ⊤

pub record ReadsSum (bs : Parts) : Type 0 where
  pub each : (outer : Outer) (rest : List Piece) → walk (starts outer NoParts NoParts) (text_then (SumOf bs) rest) ≡ walk (stands outer (terms_from NoParts bs) (last_factors bs)) rest

pub record ReadsProduct (fs : Parts) : Type 0 where
  pub each : (outer : Outer) (ts : Parts) (rest : List Piece) → walk (starts outer ts NoParts) (text_then (ProductOf fs) rest) ≡ walk (stands outer ts fs) rest

pub record ReadsItem (b : Bound) : Type 0 where
  pub each : (outer : Outer) (ts fs : Parts) (rest : List Piece) → CanFollow b fs → walk (starts outer ts fs) (text_then b rest) ≡ walk (stands outer ts (with_part fs b)) rest

-- the result of reading a bound, by its kind
abbrev pub Reads : Bound → Type 0
Reads (SumOf bs) = ReadsSum bs
Reads (ProductOf fs) = ReadsProduct fs
Reads (Constant c) = ReadsItem (Constant c)
Reads (Input i) = ReadsItem (Input i)
Reads (MaximumOf bs) = ReadsItem (MaximumOf bs)
Reads (PowerOf c e) = ReadsItem (PowerOf c e)

-- each of the parts is read as it is written
abbrev pub AllRead : Parts → Type 0
AllRead NoParts = ⊤
AllRead (Part b bs) = Reads b × AllRead bs

-- a bound is read at the start of one
pub bound_read : (b : Bound) → Reads b → (outer : Outer) (rest : List Piece) → walk (starts outer NoParts NoParts) (text_then b rest) ≡ walk (stands outer (terms_in b) (factors_in b)) rest
bound_read (SumOf bs) r outer rest = r.each outer rest
bound_read (ProductOf fs) r outer rest = r.each outer NoParts rest
bound_read (Constant c) r outer rest = r.each outer NoParts NoParts rest tt
bound_read (Input i) r outer rest = r.each outer NoParts NoParts rest refl
bound_read (MaximumOf bs) r outer rest = r.each outer NoParts NoParts rest tt
bound_read (PowerOf c e) r outer rest = r.each outer NoParts NoParts rest tt

-- a term is read after others
pub term_read : (b : Bound) → Reads b → IsNoSum b → (outer : Outer) (ts : Parts) (rest : List Piece) → walk (starts outer ts NoParts) (text_then b rest) ≡ walk (stands outer ts (factors_of b)) rest
term_read (SumOf bs) r none outer ts rest = absurd none
term_read (ProductOf fs) r none outer ts rest = r.each outer ts rest
term_read (Constant c) r none outer ts rest = r.each outer ts NoParts rest tt
term_read (Input i) r none outer ts rest = r.each outer ts NoParts rest refl
term_read (MaximumOf bs) r none outer ts rest = r.each outer ts NoParts rest tt
term_read (PowerOf c e) r none outer ts rest = r.each outer ts NoParts rest tt

-- ` + ` after a term is read
pub read_plus : (b : Bound) → IsShaped b → IsNoSum b → (outer : Outer) (ts : Parts) (rest : List Piece)
    → walk (stands outer ts (factors_of b)) (Blank ∷ Plus ∷ Blank ∷ rest) ≡ walk (starts outer (with_part ts b) NoParts) rest
read_plus b shaped none outer ts rest =
    let t = term-factors b shaped none in
    walk-when (can_end (factors_of b)) (state_at_position outer ts (factors_of b) BlankRead) (Plus ∷ Blank ∷ rest) t.1
    ∙ ap (λ (c : Bound). walk (starts outer (with_part ts c) NoParts) rest) t.0

-- terms are read one after the other
pub terms_read : (b : Bound) (bs : Parts) → Reads b → AllRead bs → EachPart IsNoSum (Part b bs) → AreShaped (Part b bs) → (outer : Outer) (ts : Parts) (rest : List Piece)
    → walk (starts outer ts NoParts) (joined_then plus_between (Part b bs) rest) ≡ walk (stands outer (terms_from ts (Part b bs)) (last_factors (Part b bs))) rest
terms_read b NoParts r rs none shaped outer ts rest = term_read b r none.0 outer ts rest
terms_read b (Part c cs) r rs none shaped outer ts rest =
    term_read b r none.0 outer ts (plus_between ++ text_then c (more_then plus_between cs rest))
    ∙ read_plus b shaped.0 none.0 outer ts (text_then c (more_then plus_between cs rest))
    ∙ terms_read c cs rs.0 rs.1 none.1 shaped.1 outer (with_part ts b) rest

-- a bracket closes after its bound
close_read : (bracket : Bracket) (b : Bound) (outer : Outer) (ts' fs' ts fs : Parts) (rest : List Piece) → can_end fs ≡ true → bound_of_parts ts fs ≡ b → can_close bracket b ≡ true
    → walk (stands (Inside bracket ts' fs' outer) ts fs) (Close ∷ rest) ≡ walk (stands outer ts' (with_part fs' (item_of bracket b))) rest
close_read bracket b outer ts' fs' ts fs rest ends is closes =
    ap (λ (c : Bound). walk (when (can_end fs && can_close bracket c) (behind_factor outer ts' fs' (item_of bracket c))) rest) is
    ∙ walk-when (can_end fs && can_close bracket b) (behind_factor outer ts' fs' (item_of bracket b)) rest (ap (λ (v : Bool). v && can_close bracket b) ends ∙ closes)

-- a bound in the brackets of an item is read
in_brackets_read : (bracket : Bracket) (b : Bound) → Reads b → IsShaped b → can_close bracket b ≡ true → (outer : Outer) (ts fs : Parts) (rest : List Piece)
    → walk (starts (Inside bracket ts fs outer) NoParts NoParts) (text_then b (Close ∷ rest)) ≡ walk (stands outer ts (with_part fs (item_of bracket b))) rest
in_brackets_read bracket b r shaped closes outer ts fs rest =
    let p = bound-parts b shaped in
    bound_read b r (Inside bracket ts fs outer) (Close ∷ rest)
    ∙ close_read bracket b outer ts fs (terms_in b) (factors_in b) rest p.1 p.0 closes

-- a factor that is no variable is read
factor_read : (b : Bound) → Reads b → IsShaped b → IsNoProduct b → is_variable b ≡ false → (outer : Outer) (ts fs : Parts) (rest : List Piece)
    → walk (starts outer ts fs) (bracketed_then (is_sum b) (text_then b) rest) ≡ walk (stands outer ts (with_part fs b)) rest
factor_read (SumOf bs) r shaped none h outer ts fs rest = in_brackets_read Factor (SumOf bs) r shaped refl outer ts fs rest
factor_read (ProductOf bs) r shaped none h outer ts fs rest = absurd none
factor_read (Constant c) r shaped none h outer ts fs rest = r.each outer ts fs rest tt
factor_read (Input i) r shaped none h outer ts fs rest = cc
factor_read (MaximumOf bs) r shaped none h outer ts fs rest = r.each outer ts fs rest tt
factor_read (PowerOf c e) r shaped none h outer ts fs rest = r.each outer ts fs rest tt

-- the last of one or more copies of a variable is that variable
last-copies : (n i j : ℕ) (fs : Parts) → is_input j (last (with_copies (suc n) i fs)) ≡ nat_eq i j
last-copies n i j fs = ap (is_input j) (last-with_part (with_copies n i fs) (Input i))

-- a factor that is no variable is the last factor, and that is no variable
no_input : (b : Bound) (j : ℕ) (fs : Parts) → is_variable b ≡ false → is_input j (last (with_part fs b)) ≡ false
no_input b j fs h = ap (is_input j) (last-with_part fs b) ∙ go b h
  where
    go : (b : Bound) → is_variable b ≡ false → is_input j (Some b) ≡ false
    go (Constant c) h = refl
    go (Input i) h = cc
    go (SumOf bs) h = refl
    go (ProductOf bs) h = refl
    go (MaximumOf bs) h = refl
    go (PowerOf c e) h = refl

-- a variable is read after a run whose pieces are still to be read
variable_read : (bs : Parts) (n i j : ℕ) (outer : Outer) (ts fs : Parts) (rest : List Piece) → is_input i (last fs) ≡ false → (v : Bool) → nat_eq i j ≡ v
    → ((m : ℕ) (gs : Parts) → is_input i (last gs) ≡ false → walk (starts outer ts gs) (factors_then (Run i (suc m)) bs rest) ≡ walk (stands outer ts (appended (with_copies (suc m) i gs) bs)) rest)
    → ((gs : Parts) → is_input j (last gs) ≡ false → walk (starts outer ts gs) (factors_then (Run j 1) bs rest) ≡ walk (stands outer ts (appended (with_part gs (Input j)) bs)) rest)
    → walk (starts outer ts fs) (factors_then (Run i (suc n)) (Part (Input j) bs) rest) ≡ walk (stands outer ts (appended (with_part (with_copies (suc n) i fs) (Input j)) bs)) rest
variable_read bs n i j outer ts fs rest h true e same other =
    ap (λ (v : Bool). walk (starts outer ts fs) (cond v (factors_then (cond v (Run i (suc (suc n))) (Run j 1)) bs rest) (run_then i (suc n) (Times ∷ factors_then (Run j 1) bs rest)))) e
    ∙ same (suc n) fs h
    ∙ ap (λ (k : ℕ). walk (stands outer ts (appended (with_part (with_copies (suc n) i fs) (Input k)) bs)) rest) (same_number i j e)
variable_read bs n i j outer ts fs rest h false e same other =
    ap (λ (v : Bool). walk (starts outer ts fs) (cond v (factors_then (cond v (Run i (suc (suc n))) (Run j 1)) bs rest) (run_then i (suc n) (Times ∷ factors_then (Run j 1) bs rest)))) e
    ∙ read_run outer ts fs n i (Times ∷ factors_then (Run j 1) bs rest) h
    ∙ other (with_copies (suc n) i fs) (last-copies n i j fs ∙ e)

mutual
  -- factors are read after a run whose pieces are still to be read
  run_factors_read : (bs : Parts) → AllRead bs → EachPart IsNoProduct bs → AreShaped bs → (n i : ℕ) (outer : Outer) (ts fs : Parts) (rest : List Piece) → is_input i (last fs) ≡ false
      → walk (starts outer ts fs) (factors_then (Run i (suc n)) bs rest) ≡ walk (stands outer ts (appended (with_copies (suc n) i fs) bs)) rest
  run_factors_read NoParts rs none shaped n i outer ts fs rest h = read_run outer ts fs n i rest h
  run_factors_read (Part (Input j) bs) rs none shaped n i outer ts fs rest h =
      variable_read bs n i j outer ts fs rest h (nat_eq i j) refl
      (λ m gs k. run_factors_read bs rs.1 none.1 shaped.1 m i outer ts gs rest k)
      (λ gs k. run_factors_read bs rs.1 none.1 shaped.1 zero j outer ts gs rest k)
  run_factors_read (Part b bs) rs none shaped n i outer ts fs rest h =
      read_run outer ts fs n i (Times ∷ bracketed_then (is_sum b) (text_then b) (factors_then Other bs rest)) h
      ∙ factor_read b rs.0 shaped.0 none.0 refl outer ts (with_copies (suc n) i fs) (factors_then Other bs rest)
      ∙ factors_read bs rs.1 none.1 shaped.1 outer ts (with_part (with_copies (suc n) i fs) b) rest (λ j. no_input b j (with_copies (suc n) i fs) refl)

  -- the factors of a product are read after other factors
  factors_read : (bs : Parts) → AllRead bs → EachPart IsNoProduct bs → AreShaped bs → (outer : Outer) (ts fs : Parts) (rest : List Piece) → ((j : ℕ) → is_input j (last fs) ≡ false)
      → walk (stands outer ts fs) (factors_then Other bs rest) ≡ walk (stands outer ts (appended fs bs)) rest
  factors_read NoParts rs none shaped outer ts fs rest h = refl
  factors_read (Part (Input j) bs) rs none shaped outer ts fs rest h = run_factors_read bs rs.1 none.1 shaped.1 zero j outer ts fs rest (h j)
  factors_read (Part b bs) rs none shaped outer ts fs rest h =
      factor_read b rs.0 shaped.0 none.0 refl outer ts fs (factors_then Other bs rest)
      ∙ factors_read bs rs.1 none.1 shaped.1 outer ts (with_part fs b) rest (λ j. no_input b j fs refl)

-- the factors of a product are read
pub product_read : (b : Bound) (bs : Parts) → AllRead (Part b bs) → EachPart IsNoProduct (Part b bs) → AreShaped (Part b bs) → (outer : Outer) (ts : Parts) (rest : List Piece)
    → walk (starts outer ts NoParts) (factors_then Nothing (Part b bs) rest) ≡ walk (stands outer ts (Part b bs)) rest
product_read b bs rs none shaped outer ts rest = go b rs none shaped ∙ ap (λ (fs : Parts). walk (stands outer ts fs) rest) (appended-none (Part b bs))
  where
    go : (b : Bound) → AllRead (Part b bs) → EachPart IsNoProduct (Part b bs) → AreShaped (Part b bs) → walk (starts outer ts NoParts) (factors_then Nothing (Part b bs) rest) ≡ walk (stands outer ts (appended NoParts (Part b bs))) rest
    go (Input i) rs none shaped = run_factors_read bs rs.1 none.1 shaped.1 zero i outer ts NoParts rest refl
    go b rs none shaped =
        factor_read b rs.0 shaped.0 none.0 refl outer ts NoParts (factors_then Other bs rest)
        ∙ factors_read bs rs.1 none.1 shaped.1 outer ts (Part b NoParts) rest (λ j. no_input b j NoParts refl)

-- a bound that is no maximum fails the test of a maximum
no_maximum : (b : Bound) → IsNoMaximum b → is_maximum b ≡ false
no_maximum (Constant c) h = refl
no_maximum (Input i) h = refl
no_maximum (SumOf bs) h = refl
no_maximum (ProductOf bs) h = refl
no_maximum (MaximumOf bs) h = absurd h
no_maximum (PowerOf c e) h = refl

-- an argument with `, ` after it is read
pub argument_read : (b : Bound) → Reads b → IsShaped b → IsNoMaximum b → (args ts fs : Parts) (outer : Outer) (rest : List Piece)
    → walk (starts (Inside (Arguments args) ts fs outer) NoParts NoParts) (text_then b (Comma ∷ Blank ∷ rest)) ≡ walk (starts (Inside (Arguments (with_part args b)) ts fs outer) NoParts NoParts) rest
argument_read b r shaped none args ts fs outer rest =
    let p = bound-parts b shaped in
    bound_read b r (Inside (Arguments args) ts fs outer) (Comma ∷ Blank ∷ rest)
    ∙ walk-when (can_end (factors_in b) && not (is_maximum (bound_of_parts (terms_in b) (factors_in b)))) (state_at_position (Inside (Arguments args) ts fs outer) (terms_in b) (factors_in b) CommaRead) (Blank ∷ rest)
    (ap (λ (v : Bool). v && not (is_maximum (bound_of_parts (terms_in b) (factors_in b)))) p.1 ∙ ap (λ (c : Bound). not (is_maximum c)) p.0 ∙ ap not (no_maximum b none))
    ∙ ap (λ (c : Bound). walk (starts (Inside (Arguments (with_part args c)) ts fs outer) NoParts NoParts) rest) p.0

-- the arguments of a maximum are read
arguments_read : (b : Bound) (bs : Parts) → AllRead (Part b bs) → AreShaped (Part b bs) → EachPart IsNoMaximum (Part b bs) → (args ts fs : Parts) → is_empty bs && is_empty args ≡ false → (outer : Outer) (rest : List Piece)
    → walk (starts (Inside (Arguments args) ts fs outer) NoParts NoParts) (joined_then comma_between (Part b bs) (Close ∷ rest)) ≡ walk (stands outer ts (with_part fs (MaximumOf (appended args (Part b bs))))) rest
arguments_read b NoParts rs shaped none args ts fs h outer rest =
    in_brackets_read (Arguments args) b rs.0 shaped.0 (ap (λ (v : Bool). not v && not (is_maximum b)) h ∙ ap not (no_maximum b none.0)) outer ts fs rest
arguments_read b (Part c cs) rs shaped none args ts fs h outer rest =
    argument_read b rs.0 shaped.0 none.0 args ts fs outer (text_then c (more_then comma_between cs (Close ∷ rest)))
    ∙ arguments_read c cs rs.1 shaped.1 none.1 (with_part args b) ts fs (go (is_empty cs) (is_empty-with_part args b)) outer rest
  where
    go : (v : Bool) → is_empty (with_part args b) ≡ false → v && is_empty (with_part args b) ≡ false
    go true e = e
    go false e = refl

-- an exponent is read
exponent_read : (c : ℕ) (e : Bound) → Reads e → IsShaped e → (outer : Outer) (ts fs : Parts) (rest : List Piece)
    → walk (Some (state_at_position outer ts fs (PowerCaret c))) (bracketed_then (not (is_leaf e)) (text_then e) rest) ≡ walk (stands outer ts (with_part fs (PowerOf c e))) rest
exponent_read c (Constant n) r shaped outer ts fs rest = refl
exponent_read c (Input i) r shaped outer ts fs rest = refl
exponent_read c (SumOf bs) r shaped outer ts fs rest = in_brackets_read (Exponent c) (SumOf bs) r shaped refl outer ts fs rest
exponent_read c (ProductOf bs) r shaped outer ts fs rest = in_brackets_read (Exponent c) (ProductOf bs) r shaped refl outer ts fs rest
exponent_read c (MaximumOf bs) r shaped outer ts fs rest = in_brackets_read (Exponent c) (MaximumOf bs) r shaped refl outer ts fs rest
exponent_read c (PowerOf d e) r shaped outer ts fs rest = in_brackets_read (Exponent c) (PowerOf d e) r shaped refl outer ts fs rest

-- the arguments of a maximum are at least two
two_arguments : (b : Bound) (bs : Parts) → 2 ≤ part_count (Part b bs) → is_empty bs && true ≡ false
two_arguments b NoParts h = absurd (omega (arith, h))
two_arguments b (Part c cs) h = refl

mutual
  -- a bound that a text spells is read
  pub reads : (b : Bound) → IsShaped b → Reads b
  reads (Constant c) shaped = record { each = λ outer ts fs rest h. refl }
  reads (Input i) shaped = record { each = λ outer ts fs rest h. read_input outer ts fs i rest h }
  reads (SumOf NoParts) shaped = absurd (omega (arith, shaped.0))
  reads (SumOf (Part b bs)) shaped = record { each = λ outer rest. terms_read b bs (reads b shaped.2.0) (all_read bs shaped.2.1) shaped.1 shaped.2 outer NoParts rest }
  reads (ProductOf NoParts) shaped = absurd (omega (arith, shaped.0))
  reads (ProductOf (Part b bs)) shaped = record { each = λ outer ts rest. product_read b bs (reads b shaped.2.0, all_read bs shaped.2.1) shaped.1 shaped.2 outer ts rest }
  reads (MaximumOf NoParts) shaped = absurd (omega (arith, shaped.0))
  reads (MaximumOf (Part b bs)) shaped = record {
    each = λ outer ts fs rest h.
        arguments_read b bs (reads b shaped.2.0, all_read bs shaped.2.1) shaped.2 shaped.1 NoParts ts fs (two_arguments b bs shaped.0) outer rest
        ∙ ap (λ (cs : Parts). walk (stands outer ts (with_part fs (MaximumOf cs))) rest) (appended-none (Part b bs));
  }
  reads (PowerOf c e) shaped = record {
    each = λ outer ts fs rest h.
        read_base outer ts fs c (bracketed_then (not (is_leaf e)) (text_then e) rest) shaped.0
        ∙ exponent_read c e (reads e shaped.1) shaped.1 outer ts fs rest;
  }

  -- each of several bounds that texts spell is read as it is written
  pub all_read : (bs : Parts) → AreShaped bs → AllRead bs
  all_read NoParts shaped = tt
  all_read (Part b bs) shaped = (reads b shaped.0, all_read bs shaped.1)

-- the pieces of a bound lead to it
pub walk-bound : (b : Bound) → IsShaped b → (rest : List Piece) → walk (Some beginning) (text_then b rest) ≡ walk (stands Whole (terms_in b) (factors_in b)) rest
walk-bound b shaped rest = bound_read b (reads b shaped) Whole rest

-- the text can end after a bound
pub finish-bound : (b : Bound) → IsShaped b → finish (state_at_position Whole (terms_in b) (factors_in b) ItemRead) ≡ Some b
finish-bound b shaped =
    let p = bound-parts b shaped in
    ap (λ (v : Bool). when v (bound_of_parts (terms_in b) (factors_in b))) p.1 ∙ ap Some p.0
