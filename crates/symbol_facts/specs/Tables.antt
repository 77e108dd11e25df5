-- Tables of facts, for internal contracts.
use Rattle.std.specs.Int.{int_min}
use Rattle.std.specs.Prelude.{List, map, ℤ, Option, Some, None}
use Rattle.refined_programs.specs.its_model.linear_forms.Forms.{Form}
use Rattle.symbol_facts.specs.Common.{strongest, join_facts}

-- the lesser of a constant and another one, if there is one
abbrev pub lesser_of : ℤ → Option ℤ → ℤ
lesser_of constant None = constant
lesser_of constant (Some other) = int_min constant other

-- the entries of a table by coefficients, seen as lists, as facts
abbrev pub forms_in : {X : Type 0} → (X → List ℤ) → List (X × ℤ) → List Form
forms_in view entries = map (λ e. record { coefs = view e.0; constant = e.1 }) entries

-- the facts that the copies passed so far have in common, if there is one, with one more copy, which has these
abbrev pub facts_with_copy : Option (List Form) → List Form → List Form
facts_with_copy None facts = strongest facts
facts_with_copy (Some known) facts = join_facts known (strongest facts)
