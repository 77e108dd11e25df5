-- A set of names after a name is inserted.
use Rattle.std.proofs.Common.{◌≡◌, Bool, true, false, cond, List, [], ◌∷◌, ◌++◌, map, ap, ◌∙◌, refl}
use Rattle.std.specs.List.{list_any}
use Rattle.indexmap.specs.IndexSet.{insert_key}
use Rattle.its_model.specs.model.Programs.{Name}
use Rattle.text_grammar.specs.text_core.Names.{is_same}
use Rattle.text_core.proofs.KeyLaws.{key_among, names-push}
use Rattle.section_text.specs.Drafts.{with_name}

-- the names of a set with one more key
pub with_key : {X : Type 0} (view : X → Name) (eq : X → X → Bool) (ks new : List X) (k : X)
    → ((j : X) → eq k j ≡ is_same (view k) (view j)) → new ≡ insert_key eq ks k
    → map view new ≡ with_name (view k) (map view ks)
with_key view eq ks new k same e =
    ap (map view) e ∙ go (list_any (eq k) ks)
    ∙ ap (λ (v : Bool). cond v (map view ks) (map view ks ++ view k ∷ [])) (key_among view (view k) (eq k) same ks)
  where
    go : (v : Bool) → map view (cond v ks (ks ++ k ∷ [])) ≡ cond v (map view ks) (map view ks ++ view k ∷ [])
    go true = refl
    go false = names-push view ks k
