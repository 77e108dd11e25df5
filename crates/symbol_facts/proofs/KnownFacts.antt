-- What is known of a symbol along the copies of a section.
use Rattle.std.proofs.Common.{◌≡◌, ℕ, Bool, true, false, List, [], ◌∷◌, refl, ◌∙◌, ap, Option, Some, None}
use Rattle.std.specs.Prelude.{nat_eq, if◌then◌else◌, unwrap_or}
use Rattle.refined_programs.specs.its_model.linear_forms.Forms.{Form}
use Rattle.refined_programs.specs.Annotated.{Copy}
use Rattle.symbol_facts.specs.Common.{strongest, join_facts, join_at_copies, common, copies_of}
use Rattle.symbol_facts.specs.Tables.{facts_with_copy}

-- the facts that copies have in common with those known before them
abbrev pub facts_after_copies : ℕ → Option (List Form) → List Copy → Option (List Form)
facts_after_copies s known [] = known
facts_after_copies s known (c ∷ copies) = facts_after_copies s (if nat_eq c.over s then Some (facts_with_copy known c.facts) else known) copies

-- once something is known it is left at the other copies of the symbol
facts_after_copies-known : (s : ℕ) (known : List Form) (copies : List Copy)
    → facts_after_copies s (Some known) copies ≡ Some (join_at_copies known (copies_of s copies))
facts_after_copies-known s known [] = refl
facts_after_copies-known s known (c ∷ copies) =
    go (nat_eq c.over s) refl (facts_after_copies-known s (join_facts known (strongest c.facts)) copies) (facts_after_copies-known s known copies)
  where
    go : (v : Bool) → nat_eq c.over s ≡ v
        → facts_after_copies s (Some (join_facts known (strongest c.facts))) copies
        ≡ Some (join_at_copies (join_facts known (strongest c.facts)) (copies_of s copies))
        → facts_after_copies s (Some known) copies ≡ Some (join_at_copies known (copies_of s copies))
        → facts_after_copies s (Some known) (c ∷ copies) ≡ Some (join_at_copies known (copies_of s (c ∷ copies)))
    go true e here past = rw e here
    go false e here past = rw e past

-- in the end it is what all copies of the symbol have
pub facts_after_copies-all : (s : ℕ) (copies : List Copy) → unwrap_or (facts_after_copies s None copies) [] ≡ common (copies_of s copies)
facts_after_copies-all s [] = refl
facts_after_copies-all s (c ∷ copies) = go (nat_eq c.over s) refl (facts_after_copies-all s copies)
  where
    go : (v : Bool) → nat_eq c.over s ≡ v → unwrap_or (facts_after_copies s None copies) [] ≡ common (copies_of s copies)
        → unwrap_or (facts_after_copies s None (c ∷ copies)) [] ≡ common (copies_of s (c ∷ copies))
    go true e past = rw e (ap (λ (o : Option (List Form)). unwrap_or o []) (facts_after_copies-known s (strongest c.facts) copies))
    go false e past = rw e past
