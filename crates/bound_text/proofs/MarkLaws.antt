-- The marks of factors with one more at the end.
use Rattle.std.proofs.Common.{◌≡◌, ℕ, zero, suc, ◌+◌, Bool, true, false, cond, nat_eq, [], ◌∷◌, Some, None, refl, ap}
use Rattle.std.proofs.Common.{sym, ◌∙◌, arith}
use Rattle.std.specs.Prelude.{⊤, not}
use Rattle.text_core.specs.model.Bounds.{Bound, Constant, Input, SumOf, ProductOf, MaximumOf, PowerOf, Parts, NoParts}
use Rattle.text_core.specs.model.Bounds.{Part}
use Rattle.bound_text.specs.Shapes.{is_sum, is_variable, with_part}
use Rattle.bound_text.specs.Writing.{Before, Nothing, Run, Other, goes_on, run_with}
use Rattle.bound_text.specs.ParserStates.{is_input, last}
use Rattle.bound_text.specs.Steps.{with_copies}
use Rattle.bound_text.specs.Inside.{Marks, ended_marks, times_marks, factor_marks, bound_marks, factors_marks}
use Rattle.bound_text.specs.Inside.{star_marks}
use Rattle.bound_text.proofs.RunLaws.{is_same_input}
use Rattle.bound_text.proofs.WritingLaws.{ends_in, ends_run, ends_same, ends_other, copies-part, copies-alone}

-- the marks of factors of which the first is no variable: those of that factor, and of the rest
pub other_factor : (level : ℕ) (before : Before) (b : Bound) (bs : Parts) (rest : Marks) → is_variable b ≡ false
    → factors_marks level before (Part b bs) rest
    ≡ ended_marks level before (times_marks before (factor_marks (is_sum b) level (bound_marks level b) (factors_marks level Other bs rest)))
other_factor level before (Constant c) bs rest h = refl
other_factor level before (Input i) bs rest h = cc
other_factor level before (SumOf ps) bs rest h = refl
other_factor level before (ProductOf ps) bs rest h = refl
other_factor level before (MaximumOf ps) bs rest h = refl
other_factor level before (PowerOf c e) bs rest h = refl

-- the marks of factors of which the first is a variable, for each result of the test whether it continues a run
input_factor : (level : ℕ) (w : Before) (j : ℕ) (bs : Parts) (rest : Marks) (v : Bool) → goes_on w j ≡ v
    → factors_marks level w (Part (Input j) bs) rest
    ≡ cond v (factors_marks level (run_with w j) bs rest) (ended_marks level w (times_marks w (factors_marks level (Run j 1) bs rest)))
input_factor level w j bs rest v e =
    ap (λ (u : Bool). cond u (factors_marks level (run_with w j) bs rest) (ended_marks level w (times_marks w (factors_marks level (Run j 1) bs rest)))) e

-- the marks of the `*` before the next factor: there is one if a factor or a run comes before
abbrev pub times_mark_of : Before → Parts → Marks → Marks
times_mark_of Nothing fs rest = star_marks fs rest
times_mark_of (Run i n) fs rest = None ∷ rest
times_mark_of Other fs rest = None ∷ rest

-- without more factors, whether there is a mark of `*` is decided by the part before
lead_none : (w : Before) (rest : Marks) → times_mark_of w NoParts rest ≡ times_marks w rest
lead_none Nothing rest = refl
lead_none (Run i n) rest = refl
lead_none Other rest = refl

-- after a factor there is a mark of `*`
lead_some : (w : Before) (c : Bound) (cs : Parts) (rest : Marks) → times_mark_of w (Part c cs) rest ≡ None ∷ rest
lead_some Nothing c cs rest = refl
lead_some (Run i n) c cs rest = refl
lead_some Other c cs rest = refl

-- after a variable that begins or continues a run, there is a mark of `*`
lead_run : (w : Before) (j : ℕ) (cs : Parts) (rest : Marks) → times_mark_of (run_with w j) cs rest ≡ None ∷ rest
lead_run Nothing j cs rest = refl
lead_run (Run i n) j cs rest = go (nat_eq i j)
  where
    go : (v : Bool) → times_mark_of (cond v (Run i (suc n)) (Run j 1)) cs rest ≡ None ∷ rest
    go true = refl
    go false = refl
lead_run Other j cs rest = refl

-- after factors that satisfy P, the added factors continue no run, and their marks are `own`
pub record AddsMarks (level : ℕ) (add : Parts → Parts) (own rest : Marks) (P : Before → Parts → Type 0) : Type 0 where
  pub behind : (c : Bound) (cs : Parts) → add (Part c cs) ≡ Part c (add cs)
  pub alone : (w : Before) → P w NoParts → factors_marks level w (add NoParts) rest ≡ ended_marks level w (times_marks w own)
  pub same : (w : Before) (j : ℕ) (cs : Parts) → goes_on w j ≡ true → P w (Part (Input j) cs) → P (run_with w j) cs
  pub run : (w : Before) (j : ℕ) (cs : Parts) → P w (Part (Input j) cs) → P (Run j 1) cs
  pub other : (w : Before) (c : Bound) (cs : Parts) → P w (Part c cs) → P Other cs

-- the marks of factors with more added are those of the factors, of `*`, and of the added ones
pub factors_behind : (level : ℕ) (add : Parts → Parts) (own rest : Marks) (P : Before → Parts → Type 0) → AddsMarks level add own rest P
    → (w : Before) (fs : Parts) → P w fs → factors_marks level w (add fs) rest ≡ factors_marks level w fs (times_mark_of w fs own)
factors_behind level add own rest P stop_kind w NoParts p = stop_kind.alone w p ∙ ap (ended_marks level w) (sym (lead_none w own))
factors_behind level add own rest P stop_kind w (Part (Input j) cs) p =
    ap (λ (gs : Parts). factors_marks level w gs rest) (stop_kind.behind (Input j) cs) ∙ go (goes_on w j) refl (λ v k. factors_behind level add own rest P stop_kind v cs k)
  where
    go : (v : Bool) → goes_on w j ≡ v → ((v : Before) → P v cs → factors_marks level v (add cs) rest ≡ factors_marks level v cs (times_mark_of v cs own))
        → factors_marks level w (Part (Input j) (add cs)) rest ≡ factors_marks level w (Part (Input j) cs) (times_mark_of w (Part (Input j) cs) own)
    go true e ih =
        input_factor level w j (add cs) rest true e
        ∙ ih (run_with w j) (stop_kind.same w j cs e p)
        ∙ ap (factors_marks level (run_with w j) cs) (lead_run w j cs own ∙ sym (lead_some w (Input j) cs own))
        ∙ sym (input_factor level w j cs (times_mark_of w (Part (Input j) cs) own) true e)
    go false e ih =
        input_factor level w j (add cs) rest false e
        ∙ ap (λ (ms : Marks). ended_marks level w (times_marks w ms)) (ih (Run j 1) (stop_kind.run w j cs p) ∙ ap (factors_marks level (Run j 1) cs) (sym (lead_some w (Input j) cs own)))
        ∙ sym (input_factor level w j cs (times_mark_of w (Part (Input j) cs) own) false e)
factors_behind level add own rest P stop_kind w (Part c cs) p =
    ap (λ (gs : Parts). factors_marks level w gs rest) (stop_kind.behind c cs)
    ∙ other_factor level w c (add cs) rest refl
    ∙ ap (λ (ms : Marks). ended_marks level w (times_marks w (factor_marks (is_sum c) level (bound_marks level c) ms)))
    (factors_behind level add own rest P stop_kind Other cs (stop_kind.other w c cs p) ∙ ap (factors_marks level Other cs) (sym (lead_some w c cs own)))
    ∙ sym (other_factor level w c cs (times_mark_of w (Part c cs) own) refl)

-- the marks with a constant added at the end, which continues no run
pub constant_behind : (level c : ℕ) (fs : Parts) (rest : Marks)
    → factors_marks level Nothing (with_part fs (Constant c)) rest ≡ factors_marks level Nothing fs (star_marks fs (Some level ∷ rest))
constant_behind level c fs rest =
    factors_behind level (λ gs. with_part gs (Constant c)) (Some level ∷ rest) rest (λ w cs. ⊤)
    (record { behind = λ d ds. refl; alone = λ w p. refl; same = λ w j cs e p. tt; run = λ w j cs p. tt; other = λ w c cs p. tt }) Nothing fs tt

-- the marks with a variable added after another factor, so that it continues no run
pub input_behind : (level i : ℕ) (fs : Parts) (rest : Marks) → ends_in Nothing fs i ≡ false
    → factors_marks level Nothing (with_part fs (Input i)) rest ≡ factors_marks level Nothing fs (star_marks fs (Some level ∷ rest))
input_behind level i fs rest =
    factors_behind level (λ gs. with_part gs (Input i)) (Some level ∷ rest) rest (λ w cs. ends_in w cs i ≡ false)
    (record {
      behind = λ d ds. refl;
      alone = λ w p. input_factor level w i NoParts rest false p;
      same = λ w j cs e p. ends_same w j i cs e p;
      run = λ w j cs p. ends_run w j i cs p;
      other = λ w c cs p. ends_other w c cs i p;
    }) Nothing fs

-- copies added after a run of the same variable continue it
run_on : (level n i m : ℕ) (rest : Marks) → factors_marks level (Run i m) (with_copies n i NoParts) rest ≡ ended_marks level (Run i (m + n)) rest
run_on level zero i m rest = ap (λ (k : ℕ). ended_marks level (Run i k) rest) (let e : m ≡ m + zero = omega arith in e)
run_on level (suc n) i m rest =
    ap (λ (gs : Parts). factors_marks level (Run i m) gs rest) (copies-alone n i)
    ∙ input_factor level (Run i m) i (with_copies n i NoParts) rest true (is_same_input i)
    ∙ ap (λ (v : Bool). factors_marks level (cond v (Run i (suc m)) (Run i 1)) (with_copies n i NoParts) rest) (is_same_input i)
    ∙ run_on level n i (suc m) rest
    ∙ ap (λ (k : ℕ). ended_marks level (Run i k) rest) (let e : suc m + n ≡ m + suc n = omega arith in e)

-- a run added after another factor has its own marks
pub copies_behind : (level n i : ℕ) (fs : Parts) (rest : Marks) → ends_in Nothing fs i ≡ false
    → factors_marks level Nothing (with_copies (suc n) i fs) rest ≡ factors_marks level Nothing fs (star_marks fs (ended_marks level (Run i (suc n)) rest))
copies_behind level n i fs rest =
    factors_behind level (λ gs. with_copies (suc n) i gs) (ended_marks level (Run i (suc n)) rest) rest (λ w cs. ends_in w cs i ≡ false)
    (record {
      behind = λ d ds. copies-part (suc n) i d ds;
      alone = λ w p.
          ap (λ (gs : Parts). factors_marks level w gs rest) (copies-alone n i)
          ∙ input_factor level w i (with_copies n i NoParts) rest false p
          ∙ ap (λ (ms : Marks). ended_marks level w (times_marks w ms)) (run_on level n i 1 rest ∙ ap (λ (k : ℕ). ended_marks level (Run i k) rest) (let e : 1 + n ≡ suc n = omega arith in e));
      same = λ w j cs e p. ends_same w j i cs e p;
      run = λ w j cs p. ends_run w j i cs p;
      other = λ w c cs p. ends_other w c cs i p;
    }) Nothing fs

-- after nothing, a variable that is not the last factor ends no run
pub ends_nothing : (fs : Parts) (i : ℕ) → not (is_input i (last fs)) ≡ true → ends_in Nothing fs i ≡ false
ends_nothing NoParts i h = refl
ends_nothing (Part b bs) i h = go (is_input i (last (Part b bs))) h
  where
    go : (v : Bool) → not v ≡ true → v ≡ false
    go true e = cc
    go false e = refl
