-- Laws of options, tests, lists and results, for case distinctions.
use Rattle.std.proofs.Common.{◌≡◌, ℕ, suc, zero, ◌<◌, Bool, true, false, List, [], ◌∷◌, length, Option, Some, None}
use Rattle.std.proofs.Common.{slice_get, refl, sym, ◌∙◌, arith, Result, Ok, Err}
use Rattle.std.specs.Prelude.{IfOk}

-- Some x isn't None
pub none_some : {A : Type 0} (x : A) → None ≡ Some x → ⊥
none_some x e = cc

-- Some x isn't None, with the equation the other way round
pub some_none : {A : Type 0} (x : A) → Some x ≡ None → ⊥
some_none x e = cc

-- elements are equal if they are equal as options
pub some_same : {A : Type 0} (x y : A) → Some x ≡ Some y → x ≡ y
some_same x y e = cc

-- an option that is None contains no element
pub missing_some : {A : Type 0} (o : Option A) (x : A) → o ≡ None → o ≡ Some x → ⊥
missing_some o x e f = let none : None ≡ Some x = sym e ∙ f in cc

-- two tests that imply each other are equal
pub same_tests : (v w : Bool) → (v ≡ true → w ≡ true) → (w ≡ true → v ≡ true) → v ≡ w
same_tests true w f g = sym (f refl)
same_tests false true f g = g refl
same_tests false false f g = refl

-- every index below the length of a list has an element
pub slice_get-there : {A : Type 0} (xs : List A) (i : ℕ) → i < length xs → (x : A) × (slice_get xs i ≡ Some x)
slice_get-there [] i l = absurd (omega (arith, l))
slice_get-there (x ∷ xs) zero l = (x, refl)
slice_get-there (x ∷ xs) (suc i) l = slice_get-there xs i (omega (arith, l))

-- if two properties of a value imply a property of a result, then two properties of all values of a result imply it
pub IfOk-both : {A E : Type 0} (r : Result A E) (P Q R : A → Type 0) → ((x : A) → P x → Q x → R x) → IfOk r P → IfOk r Q → IfOk r R
IfOk-both (Ok x) P Q R f p q = f x p q
IfOk-both (Err e) P Q R f p q = tt
