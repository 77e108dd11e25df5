-- The last element of a list, and the end of the innermost test.
use Rattle.std.proofs.Common.{◌≡◌, List, [], ◌∷◌, ◌++◌, map, Option, Some, refl, ap, ◌∙◌}
use Rattle.std.proofs.lemmas.List.{map-append}
use Rattle.section_text.specs.Drafts.{Draft, OpenTest, last_of, before_last, no_begun, yes_read, test_ended, no_read}

-- the last of a list with one more at the end is that one, and those before it are the list
last_append : {X : Type 0} (xs : List X) (x : X) → last_of (xs ++ x ∷ []) ≡ Some x
last_append [] x = refl
last_append (y ∷ []) x = refl
last_append (y ∷ z ∷ xs) x = last_append (z ∷ xs) x

before_append : {X : Type 0} (xs : List X) (x : X) → before_last (xs ++ x ∷ []) ≡ xs
before_append [] x = refl
before_append (y ∷ []) x = refl
before_append (y ∷ z ∷ xs) x = ap (λ ys. y ∷ ys) (before_append (z ∷ xs) x)

-- if the last element is taken from a list, the images are those without the last image
pub map_popped : {X Y : Type 0} (f : X → Y) (old new : List X) (x : X) → old ≡ new ++ x ∷ []
    → map f old ≡ map f new ++ f x ∷ []
map_popped f old new x e = ap (λ xs. map f xs) e ∙ map-append f new (x ∷ [])

-- the state in which the other cases of the innermost test begin
pub no_last : (d : Draft) (before : List OpenTest) (test : OpenTest) → d.tests ≡ before ++ test ∷ []
    → yes_read (last_of d.tests) d ≡ no_begun test (record d { tests = before })
no_last d before test e =
    ap (λ (o : Option OpenTest). yes_read o d) (ap last_of e ∙ last_append before test)
    ∙ ap (λ (ts : List OpenTest). no_begun test (record d { tests = ts })) (ap before_last e ∙ before_append before test)

-- the state in which the innermost test ends
pub ends_last : (d : Draft) (before : List OpenTest) (test : OpenTest) → d.tests ≡ before ++ test ∷ []
    → no_read (last_of d.tests) d ≡ test_ended test (record d { tests = before })
ends_last d before test e =
    ap (λ (o : Option OpenTest). no_read o d) (ap last_of e ∙ last_append before test)
    ∙ ap (λ (ts : List OpenTest). test_ended test (record d { tests = ts })) (ap before_last e ∙ before_append before test)
