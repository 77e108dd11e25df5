-- The texts of parts with one more at the end.
use Rattle.std.proofs.Common.{◌≡◌, ℕ, zero, suc, ◌+◌, nat_eq, Bool, true, false, cond, List, ◌∷◌, ◌++◌, refl, ap, sym}
use Rattle.std.proofs.Common.{◌∙◌, arith}
use Rattle.std.proofs.lemmas.Bool.Decides.{nat_tests}
use Rattle.text_core.specs.model.Bounds.{Bound, Constant, Input, SumOf, ProductOf, MaximumOf, PowerOf, Parts, NoParts}
use Rattle.text_core.specs.model.Bounds.{Part}
use Rattle.bound_text.specs.Shapes.{is_sum, is_variable, with_part}
use Rattle.bound_text.specs.Pieces.{Piece, Times}
use Rattle.bound_text.specs.Writing.{Before, Nothing, Run, Other, goes_on, run_with, run_then, ended_then, times_then}
use Rattle.bound_text.specs.Writing.{bracketed_then, text_then, joined_then, more_then, factors_then, plus_between}
use Rattle.bound_text.specs.ParserStates.{last, is_input, star_then, each_then, term_of, bound_of_parts, can_end}
use Rattle.bound_text.specs.Steps.{with_copies}
use Rattle.bound_text.proofs.RunLaws.{is_same_input}
use Rattle.bound_text.proofs.JoiningLaws.{as_one-with_part}

-- parts with the separator before each, and one more at the end: its separator and text come last
more-with_part : (s : List Piece) (bs : Parts) (b : Bound) (rest : List Piece) → more_then s (with_part bs b) rest ≡ s ++ each_then s bs (text_then b rest)
more-with_part s NoParts b rest = refl
more-with_part s (Part c cs) b rest = ap (λ (ps : List Piece). s ++ text_then c ps) (more-with_part s cs b rest)

-- joined parts with one more at the end: the separator and the text of that one come last
pub joined-with_part : (s : List Piece) (bs : Parts) (b : Bound) (rest : List Piece) → joined_then s (with_part bs b) rest ≡ each_then s bs (text_then b rest)
joined-with_part s NoParts b rest = refl
joined-with_part s (Part c cs) b rest = ap (text_then c) (more-with_part s cs b rest)

-- parts with the separator after each, and one more at the end: its text and separator come last
pub each-with_part : (s : List Piece) (bs : Parts) (b : Bound) (rest : List Piece) → each_then s (with_part bs b) rest ≡ each_then s bs (text_then b (s ++ rest))
each-with_part s NoParts b rest = refl
each-with_part s (Part c cs) b rest = ap (λ (ps : List Piece). text_then c (s ++ ps)) (each-with_part s cs b rest)

-- `*` if a factor or a run comes before, and then the rest
abbrev pub times_before : Before → Parts → List Piece → List Piece
times_before Nothing fs rest = star_then fs rest
times_before (Run i n) fs rest = Times ∷ rest
times_before Other fs rest = Times ∷ rest

-- a factor that is no variable is written after what comes before it
pub other_factor : (w : Before) (b : Bound) (bs : Parts) (rest : List Piece) → is_variable b ≡ false
    → factors_then w (Part b bs) rest ≡ ended_then w (times_then w (bracketed_then (is_sum b) (text_then b) (factors_then Other bs rest)))
other_factor w (Constant c) bs rest h = refl
other_factor w (Input i) bs rest h = cc
other_factor w (SumOf cs) bs rest h = refl
other_factor w (ProductOf cs) bs rest h = refl
other_factor w (MaximumOf cs) bs rest h = refl
other_factor w (PowerOf c e) bs rest h = refl

-- without factors, `*` is written as after the part before
lead_none : (w : Before) (rest : List Piece) → times_before w NoParts rest ≡ times_then w rest
lead_none Nothing rest = refl
lead_none (Run i n) rest = refl
lead_none Other rest = refl

-- after a factor `*` is written
lead_some : (w : Before) (c : Bound) (cs : Parts) (rest : List Piece) → times_before w (Part c cs) rest ≡ Times ∷ rest
lead_some Nothing c cs rest = refl
lead_some (Run i n) c cs rest = refl
lead_some Other c cs rest = refl

-- a run that continues leads to the same text as a run
lead_run : (w : Before) (j : ℕ) (cs : Parts) (rest : List Piece) → times_before (run_with w j) cs rest ≡ Times ∷ rest
lead_run Nothing j cs rest = refl
lead_run (Run i n) j cs rest = go (nat_eq i j)
  where
    go : (v : Bool) → times_before (cond v (Run i (suc n)) (Run j 1)) cs rest ≡ Times ∷ rest
    go true = refl
    go false = refl
lead_run Other j cs rest = refl

-- a variable continues a run or begins one, as the test says
input_factor : (w : Before) (j : ℕ) (bs : Parts) (rest : List Piece) (v : Bool) → goes_on w j ≡ v
    → factors_then w (Part (Input j) bs) rest ≡ cond v (factors_then (run_with w j) bs rest) (ended_then w (times_then w (factors_then (Run j 1) bs rest)))
input_factor w j bs rest v e = ap (λ (u : Bool). cond u (factors_then (run_with w j) bs rest) (ended_then w (times_then w (factors_then (Run j 1) bs rest)))) e

-- factors with one more that is no variable: `*` if there is a factor before, and its text
pub factors-other : (w : Before) (fs : Parts) (b : Bound) (rest : List Piece) → is_variable b ≡ false
    → factors_then w (with_part fs b) rest ≡ factors_then w fs (times_before w fs (bracketed_then (is_sum b) (text_then b) rest))
factors-other w NoParts b rest h = other_factor w b NoParts rest h ∙ ap (ended_then w) (sym (lead_none w (bracketed_then (is_sum b) (text_then b) rest)))
factors-other w (Part (Input j) cs) b rest h = go (goes_on w j) refl (λ v. factors-other v cs b rest h)
  where
    X : List Piece
    X = bracketed_then (is_sum b) (text_then b) rest

    go : (v : Bool) → goes_on w j ≡ v → ((v : Before) → factors_then v (with_part cs b) rest ≡ factors_then v cs (times_before v cs X))
        → factors_then w (Part (Input j) (with_part cs b)) rest ≡ factors_then w (Part (Input j) cs) (times_before w (Part (Input j) cs) X)
    go true e ih =
        input_factor w j (with_part cs b) rest true e
        ∙ ih (run_with w j) ∙ ap (factors_then (run_with w j) cs) (lead_run w j cs X ∙ sym (lead_some w (Input j) cs X))
        ∙ sym (input_factor w j cs (times_before w (Part (Input j) cs) X) true e)
    go false e ih =
        input_factor w j (with_part cs b) rest false e
        ∙ ap (λ (ps : List Piece). ended_then w (times_then w ps)) (ih (Run j 1) ∙ ap (factors_then (Run j 1) cs) (sym (lead_some w (Input j) cs X)))
        ∙ sym (input_factor w j cs (times_before w (Part (Input j) cs) X) false e)
factors-other w (Part c cs) b rest h =
    other_factor w c (with_part cs b) rest refl
    ∙ ap (λ (ps : List Piece). ended_then w (times_then w (bracketed_then (is_sum c) (text_then c) ps)))
    (factors-other Other cs b rest h ∙ ap (factors_then Other cs) (sym (lead_some w c cs (bracketed_then (is_sum b) (text_then b) rest))))
    ∙ sym (other_factor w c cs (times_before w (Part c cs) (bracketed_then (is_sum b) (text_then b) rest)) refl)

-- copies put after a factor and others are copies put after the others
pub copies-part : (n i : ℕ) (c : Bound) (cs : Parts) → with_copies n i (Part c cs) ≡ Part c (with_copies n i cs)
copies-part zero i c cs = refl
copies-part (suc n) i c cs = ap (λ (gs : Parts). with_part gs (Input i)) (copies-part n i c cs)

-- one or more copies alone are a factor and the other copies
pub copies-alone : (n i : ℕ) → with_copies (suc n) i NoParts ≡ Part (Input i) (with_copies n i NoParts)
copies-alone zero i = refl
copies-alone (suc n) i = ap (λ (gs : Parts). with_part gs (Input i)) (copies-alone n i)

-- copies added after a run of the same variable continue it
run_on : (n i m : ℕ) (rest : List Piece) → factors_then (Run i m) (with_copies n i NoParts) rest ≡ run_then i (m + n) rest
run_on zero i m rest = ap (λ (k : ℕ). run_then i k rest) (let e : m ≡ m + zero = omega arith in e)
run_on (suc n) i m rest =
    ap (λ (gs : Parts). factors_then (Run i m) gs rest) (copies-alone n i)
    ∙ input_factor (Run i m) i (with_copies n i NoParts) rest true (is_same_input i)
    ∙ ap (λ (v : Bool). factors_then (cond v (Run i (suc m)) (Run i 1)) (with_copies n i NoParts) rest) (is_same_input i)
    ∙ run_on n i (suc m) rest
    ∙ ap (λ (k : ℕ). run_then i k rest) (let e : suc m + n ≡ m + suc n = omega arith in e)

-- whether the factors, or the part before them if they are none, end with variable i
abbrev pub ends_in : Before → Parts → ℕ → Bool
ends_in w NoParts i = goes_on w i
ends_in w (Part b bs) i = is_input i (last (Part b bs))

-- if factors that begin with variable j don't end with variable i, neither do the others after a run of j
pub ends_run : (w : Before) (j i : ℕ) (cs : Parts) → ends_in w (Part (Input j) cs) i ≡ false → ends_in (Run j 1) cs i ≡ false
ends_run w j i NoParts h = h
ends_run w j i (Part c cs) h = h

-- if factors whose first one continues the run before don't end with i, neither do the others after the longer run
pub ends_same : (w : Before) (j i : ℕ) (cs : Parts) → goes_on w j ≡ true → ends_in w (Part (Input j) cs) i ≡ false → ends_in (run_with w j) cs i ≡ false
ends_same Nothing j i cs e h = cc
ends_same (Run k n) j i NoParts e h =
    ap (λ (v : Bool). goes_on (cond v (Run k (suc n)) (Run j 1)) i) e ∙ (let f : nat_eq k i ≡ false = grind (arith, nat_tests) in f)
ends_same (Run k n) j i (Part c cs) e h = h
ends_same Other j i cs e h = cc

-- if the factors don't end with i, neither do those without the first, after another factor
pub ends_other : (w : Before) (c : Bound) (cs : Parts) (i : ℕ) → ends_in w (Part c cs) i ≡ false → ends_in Other cs i ≡ false
ends_other w c NoParts i h = refl
ends_other w c (Part d ds) i h = h

-- factors with a run after them: the text of the factors, `*`, and the text of the run
pub factors-run : (w : Before) (fs : Parts) (n i : ℕ) (rest : List Piece) → ends_in w fs i ≡ false
    → factors_then w (with_copies (suc n) i fs) rest ≡ factors_then w fs (times_before w fs (run_then i (suc n) rest))
factors-run w NoParts n i rest h =
    ap (λ (gs : Parts). factors_then w gs rest) (copies-alone n i)
    ∙ input_factor w i (with_copies n i NoParts) rest false h
    ∙ ap (λ (ps : List Piece). ended_then w (times_then w ps)) (run_on n i 1 rest ∙ ap (λ (k : ℕ). run_then i k rest) (let e : 1 + n ≡ suc n = omega arith in e))
    ∙ ap (ended_then w) (sym (lead_none w (run_then i (suc n) rest)))
factors-run w (Part (Input j) cs) n i rest h =
    ap (λ (gs : Parts). factors_then w gs rest) (copies-part (suc n) i (Input j) cs)
    ∙ go (goes_on w j) refl (λ v k. factors-run v cs n i rest k)
  where
    X : List Piece
    X = run_then i (suc n) rest

    go : (v : Bool) → goes_on w j ≡ v → ((v : Before) → ends_in v cs i ≡ false → factors_then v (with_copies (suc n) i cs) rest ≡ factors_then v cs (times_before v cs X))
        → factors_then w (Part (Input j) (with_copies (suc n) i cs)) rest ≡ factors_then w (Part (Input j) cs) (times_before w (Part (Input j) cs) X)
    go true e ih =
        input_factor w j (with_copies (suc n) i cs) rest true e
        ∙ ih (run_with w j) (ends_same w j i cs e h) ∙ ap (factors_then (run_with w j) cs) (lead_run w j cs X ∙ sym (lead_some w (Input j) cs X))
        ∙ sym (input_factor w j cs (times_before w (Part (Input j) cs) X) true e)
    go false e ih =
        input_factor w j (with_copies (suc n) i cs) rest false e
        ∙ ap (λ (ps : List Piece). ended_then w (times_then w ps)) (ih (Run j 1) (ends_run w j i cs h) ∙ ap (factors_then (Run j 1) cs) (sym (lead_some w (Input j) cs X)))
        ∙ sym (input_factor w j cs (times_before w (Part (Input j) cs) X) false e)
factors-run w (Part c cs) n i rest h =
    ap (λ (gs : Parts). factors_then w gs rest) (copies-part (suc n) i c cs)
    ∙ other_factor w c (with_copies (suc n) i cs) rest refl
    ∙ ap (λ (ps : List Piece). ended_then w (times_then w (bracketed_then (is_sum c) (text_then c) ps)))
    (factors-run Other cs n i rest (ends_other w c cs i h) ∙ ap (factors_then Other cs) (sym (lead_some w c cs (run_then i (suc n) rest))))
    ∙ sym (other_factor w c cs (times_before w (Part c cs) (run_then i (suc n) rest)) refl)

-- the text of a term is that of its factors
pub term_text : (fs : Parts) (rest : List Piece) → can_end fs ≡ true → text_then (term_of fs) rest ≡ factors_then Nothing fs rest
term_text NoParts rest h = cc
term_text (Part (Constant c) NoParts) rest h = refl
term_text (Part (Input i) NoParts) rest h = refl
term_text (Part (SumOf bs) NoParts) rest h = cc
term_text (Part (ProductOf bs) NoParts) rest h = refl
term_text (Part (MaximumOf bs) NoParts) rest h = refl
term_text (Part (PowerOf c e) NoParts) rest h = refl
term_text (Part b (Part c bs)) rest h = refl

-- the text of a bound is that of its terms and factors
pub bound_text : (ts fs : Parts) (rest : List Piece) → can_end fs ≡ true → text_then (bound_of_parts ts fs) rest ≡ each_then plus_between ts (factors_then Nothing fs rest)
bound_text NoParts fs rest h = term_text fs rest h
bound_text (Part c cs) fs rest h =
    ap (λ (b : Bound). text_then b rest) (as_one-with_part c cs (term_of fs))
    ∙ joined-with_part plus_between (Part c cs) (term_of fs) rest
    ∙ ap (each_then plus_between (Part c cs)) (term_text fs rest h)
