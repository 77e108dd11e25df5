-- A set of names, and the names that it holds.
use Rattle.std.proofs.Common.{◌≡◌, Bool, true, false, cond, List, [], ◌∷◌, ◌++◌, refl, ap, ◌∙◌, map}
use Rattle.std.specs.List.{list_any}
use Rattle.indexmap.specs.IndexSet.{insert_key}
use Rattle.model.specs.Programs.{Name}
use Rattle.text_core.specs.Names.{is_same, is_among}
use Rattle.text_core.proofs.KeyLaws.{key_among, names-push}
use Rattle.expr_text.specs.Terms.{with_name}

-- an inserted name is appended if it is new
pub names_with : {X : Type 0} (view : X → Name) (eq : X → X → Bool) (ks new : List X) (k : X) → ((j : X) → eq k j ≡ is_same (view k) (view j)) → new ≡ insert_key eq ks k
    → map view new ≡ with_name (map view ks) (view k)
names_with view eq ks new k same e = ap (map view) e ∙ go (list_any (eq k) ks) (is_among (view k) (map view ks)) (key_among view (view k) (eq k) same ks)
  where
    go : (b c : Bool) → b ≡ c → map view (cond b ks (ks ++ k ∷ [])) ≡ cond c (map view ks) (map view ks ++ view k ∷ [])
    go true true h = refl
    go false false h = names-push view ks k
    go true false h = cc
    go false true h = cc
