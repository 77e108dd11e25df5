-- The names of places, one by one.
use Rattle.std.proofs.Common.{◌≡◌, ℕ, ◌+◌, List, [], ◌∷◌, ◌++◌, map, refl, sym, ◌∙◌, ap, arith, codes, decimal}
use Rattle.std.proofs.lemmas.List.FromFn.{map-range_with_len_more}
use Rattle.std.specs.List.{range_with_len}
use Rattle.its_model.specs.model.Programs as plain
use Rattle.text_core.specs.Names.{name_of}
use Rattle.text_core.specs.declared.name.Name.{Name}

-- a place, by its number from 1 on
abbrev pub place_name : ℕ → List ℕ
place_name place = codes "x" ++ decimal (place + 1)

named_push : (names : List Name) (name : Name) → map name_of (names ++ name ∷ []) ≡ map name_of names ++ name_of name ∷ []
named_push [] name = refl
named_push (n ∷ names) name = ap (λ (ns : List plain.Name). name_of n ∷ ns) (named_push names name)

-- one more name
pub names_more : (names new : List Name) (name : Name) (n : ℕ) → map name_of names ≡ map place_name (range_with_len 0 n)
    → new ≡ names ++ name ∷ [] → name_of name ≡ place_name n
    → map name_of new ≡ map place_name (range_with_len 0 (n + 1))
names_more names new name n before added named =
    ap (map name_of) added
    ∙ (named_push names name
    ∙ (ap (λ (ns : List plain.Name). ns ++ name_of name ∷ []) before
    ∙ (ap (λ (last : plain.Name). map place_name (range_with_len 0 n) ++ last ∷ []) named
    ∙ sym (map-range_with_len_more place_name 0 n n (omega arith)))))
