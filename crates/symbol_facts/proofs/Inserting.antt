-- Tables of facts by their coefficients.
use Rattle.std.proofs.Common.{◌≡◌, Bool, true, false, List, [], ◌∷◌, refl, sym, ◌∙◌, ap, Option}
use Rattle.std.specs.Map.{lookup}
use Rattle.std.specs.Prelude.{ℤ}
use Rattle.indexmap.specs.IndexMap.{insert_entry}
use Rattle.refined_programs.specs.its_model.linear_forms.Forms.{Form}
use Rattle.symbol_facts.specs.Common.{are_same, with_fact, constant_of}
use Rattle.symbol_facts.specs.Tables.{lesser_of, forms_in}

-- the value of a key is the constant of the first fact with these coefficients
pub looked-up : {X : Type 0} (view : X → List ℤ) (test : X → Bool) (coefs : List ℤ) (es : List (X × ℤ))
    → ((k : X) → test k ≡ are_same coefs (view k)) → lookup test es ≡ constant_of coefs (forms_in view es)
looked-up view test coefs [] same = refl
looked-up view test coefs (e ∷ es) same = go (test e.0) refl (looked-up view test coefs es same)
  where
    go : (v : Bool) → test e.0 ≡ v → lookup test es ≡ constant_of coefs (forms_in view es)
        → lookup test (e ∷ es) ≡ constant_of coefs (forms_in view (e ∷ es))
    go true t rest = rw t (rw (sym (same e.0) ∙ t) refl)
    go false t rest = rw t (rw (sym (same e.0) ∙ t) rest)

-- a fact that is inserted with the lesser constant
pub inserted : {X : Type 0} (view : X → List ℤ) (eq : X → X → Bool) (es : List (X × ℤ)) (k : X) (v : ℤ)
    → ((i j : X) → eq i j ≡ are_same (view i) (view j))
    → forms_in view (insert_entry eq es k (lesser_of v (constant_of (view k) (forms_in view es))))
    ≡ with_fact (forms_in view es) (record { coefs = view k; constant = v })
inserted view eq [] k v same = refl
inserted view eq (e ∷ es) k v same = go (eq k e.0) refl (inserted view eq es k v same)
  where
    go : (b : Bool) → eq k e.0 ≡ b
        → forms_in view (insert_entry eq es k (lesser_of v (constant_of (view k) (forms_in view es))))
        ≡ with_fact (forms_in view es) (record { coefs = view k; constant = v })
        → forms_in view (insert_entry eq (e ∷ es) k (lesser_of v (constant_of (view k) (forms_in view (e ∷ es)))))
        ≡ with_fact (forms_in view (e ∷ es)) (record { coefs = view k; constant = v })
    go true t rest = rw t (rw (sym (same k e.0) ∙ t) refl)
    go false t rest =
        rw t (rw (sym (same k e.0) ∙ t) (ap (λ (fs : List Form). record { coefs = view e.0; constant = e.1 } ∷ fs) rest))

-- the facts of a table with one more entry
pub table_step : {X : Type 0} (view : X → List ℤ) (eq : X → X → Bool) (es new : List (X × ℤ)) (k : X) (v least : ℤ)
    (known : Option ℤ) (f : Form) → ((i j : X) → eq i j ≡ are_same (view i) (view j)) → new ≡ insert_entry eq es k least
    → least ≡ lesser_of v known → known ≡ constant_of (view k) (forms_in view es)
    → record { coefs = view k; constant = v } ≡ f → forms_in view new ≡ with_fact (forms_in view es) f
table_step view eq es new k v least known f same added lesser found seen =
    ap (forms_in view) (added ∙ ap (λ (z : ℤ). insert_entry eq es k z) (lesser ∙ ap (lesser_of v) found))
    ∙ (inserted view eq es k v same ∙ ap (with_fact (forms_in view es)) seen)

-- forms with the same coefficients and the same constant
abbrev form : List ℤ → ℤ → Form
form coefs constant = record { coefs = coefs; constant = constant }

pub same_form : (coefs others : List ℤ) (constant : ℤ) → coefs ≡ others → form coefs constant ≡ form others constant
same_form coefs others constant e = ap (λ (l : List ℤ). form l constant) e
