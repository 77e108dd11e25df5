-- Lists of the code, which have the last element first in the definitions.
use Rattle.std.proofs.Common.{◌≡◌, suc, ◌-◌, List, [], ◌∷◌, ◌++◌, length, Option, Some, None, refl, ap, sym, ◌∙◌}
use Rattle.std.proofs.Common.{arith}
use Rattle.std.specs.Prelude.{slice_get, option_to_list, Result, Ok, Err, OnOk}
use Rattle.std.specs.declared.alloc.AllocError.{AllocError}
use Rattle.std.proofs.lemmas.List.{append-nil}
use Rattle.text_grammar.specs.text_core.Readers.{onto}
use Rattle.cert_lexer.specs.declared.outline.Frame.{Frame}
use Rattle.cert_lexer.specs.declared.levels.OpenPart.{OpenPart}
use Rattle.cert_lexer.specs.Outlines.{innermost_frame}
use Rattle.cert_lexer.specs.Levels.{first_open_part}

-- `onto` of a list with one more element
pub onto_push : {X : Type 0} (xs ys : List X) (x : X) → onto (xs ++ x ∷ []) ys ≡ x ∷ onto xs ys
onto_push [] ys x = refl
onto_push (z ∷ xs) ys x = onto_push xs (z ∷ ys) x

-- the first element of a reversed list is the last one of the code's list
first_from : {X : Type 0} (x : X) (xs ys : List X) → slice_get (onto (x ∷ xs) ys) 0 ≡ slice_get (x ∷ xs) (length (x ∷ xs) - 1)
first_from x [] ys = refl
first_from x (z ∷ xs) ys =
    first_from z xs (x ∷ ys)
    ∙ ap (slice_get (x ∷ z ∷ xs)) (let e : suc (length (z ∷ xs) - 1) ≡ length (x ∷ z ∷ xs) - 1 = omega arith in e)

pub first_last : {X : Type 0} (xs : List X) → slice_get (onto xs []) 0 ≡ slice_get xs (length xs - 1)
first_last [] = refl
first_last (x ∷ xs) = first_from x xs []

-- the innermost open bracket is the first in the list
first_frame : (fs : List Frame) → innermost_frame fs ≡ slice_get fs 0
first_frame [] = refl
first_frame (f ∷ fs) = refl

pub frame_last : (fs : List Frame) → innermost_frame (onto fs []) ≡ slice_get fs (length fs - 1)
frame_last fs = first_frame (onto fs []) ∙ first_last fs

-- a list from which the last element was taken, in reverse
pub onto_popped : {X : Type 0} (r : Option X) (xs ys : List X) → xs ≡ ys ++ option_to_list r
    → onto xs [] ≡ option_to_list r ++ onto ys []
onto_popped None xs ys e = ap (λ (zs : List _). onto zs []) (e ∙ append-nil ys)
onto_popped (Some x) xs ys e = ap (λ (zs : List _). onto zs []) e ∙ onto_push ys [] x

-- the innermost unfinished bound is the first in the list
some_open_part : (bs : List OpenPart) (b : OpenPart) → slice_get bs 0 ≡ Some b → first_open_part bs ≡ b
some_open_part [] b e = cc
some_open_part (c ∷ bs) b e = cc

no_open_part : (bs : List OpenPart) → slice_get bs 0 ≡ None → first_open_part bs ≡ record { above = 0; start = 0 }
no_open_part [] e = refl
no_open_part (c ∷ bs) e = cc

pub open_part_some : (bs : List OpenPart) (b : OpenPart) → slice_get bs (length bs - 1) ≡ Some b → b ≡ first_open_part (onto bs [])
open_part_some bs b e = sym (some_open_part (onto bs []) b (first_last bs ∙ e))

pub open_part_none : (bs : List OpenPart) → slice_get bs (length bs - 1) ≡ None → record { above = 0; start = 0 } ≡ first_open_part (onto bs [])
open_part_none bs e = sym (no_open_part (onto bs []) (first_last bs ∙ e))

pub ruleset open_part_last = (open_part_some, open_part_none)

-- what follows from a property that holds if no allocation fails holds if none fails, too
pub on_ok : (P Q : Type 0) (r : Result (Unit {0}) AllocError) → (P → Q) → OnOk r P → OnOk r Q
on_ok P Q (Err e) f h = tt
on_ok P Q (Ok u) f h = f h
