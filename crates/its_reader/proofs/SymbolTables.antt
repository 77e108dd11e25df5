-- A table of names and numbers of places, and the symbols that it denotes.
use Rattle.std.specs.Prelude.{◌≡◌, ℕ, suc, Bool, true, false, nat_lt, if◌then◌else◌, List, [], ◌∷◌, ◌++◌, map, length}
use Rattle.std.specs.Prelude.{refl}
use Rattle.std.specs.Prelude.{◌||◌}
use Rattle.text_core.proofs.NameLaws.{is_same_self}
use Rattle.std.proofs.Common.{ap, ◌∙◌, get_or, one-add}
use Rattle.model.specs.Programs.{Name, Symbol}
use Rattle.text_core.specs.Names.{is_same, is_among, position_of}
use Rattle.its_text.specs.expr_text.Terms.{with_name}
use Rattle.expr_reader.specs.Variables.{names_in}
use Rattle.its_text.specs.Numbering.{names_of, with_symbol, number_of, arity_of}
use Rattle.its_reader.specs.Standing.{KnowsSymbols}
use Rattle.its_reader.specs.declared.symbols.Symbols.{Symbols}
use Rattle.its_reader.proofs.Positions.{below_is}

abbrev pub arities_of : List Symbol → List ℕ
arities_of symbols = map (λ (x : Symbol). x.arity) symbols

names_push : (symbols : List Symbol) (s : Symbol) → names_of symbols ++ s.name ∷ [] ≡ names_of (symbols ++ s ∷ [])
names_push [] s = refl
names_push (t ∷ symbols) s = ap (λ ns. t.name ∷ ns) (names_push symbols s)

arities_push : (symbols : List Symbol) (s : Symbol) → arities_of symbols ++ s.arity ∷ []
    ≡ arities_of (symbols ++ s ∷ [])
arities_push [] s = refl
arities_push (t ∷ symbols) s = ap (λ ns. t.arity ∷ ns) (arities_push symbols s)

-- the names of the symbols after one more is read are the names before, with its name
pub names_with : (symbols : List Symbol) (name : Name) (arity : ℕ)
    → with_name (names_of symbols) name ≡ names_of (with_symbol symbols name arity)
names_with symbols name arity = go (is_among name (names_of symbols))
  where
    go : (v : Bool) → (if v then names_of symbols else names_of symbols ++ name ∷ [])
        ≡ names_of (if v then symbols else symbols ++ record { name = name; arity = arity } ∷ [])
    go true = refl
    go false = names_push symbols (record { name = name; arity = arity })

arities_with : (symbols : List Symbol) (name : Name) (arity : ℕ)
    → (if is_among name (names_of symbols) then arities_of symbols else arities_of symbols ++ arity ∷ [])
    ≡ arities_of (with_symbol symbols name arity)
arities_with symbols name arity = go (is_among name (names_of symbols))
  where
    go : (v : Bool) → (if v then arities_of symbols else arities_of symbols ++ arity ∷ [])
        ≡ arities_of (if v then symbols else symbols ++ record { name = name; arity = arity } ∷ [])
    go true = refl
    go false = arities_push symbols (record { name = name; arity = arity })

same_length : (symbols : List Symbol) → length (arities_of symbols) ≡ length (names_of symbols)
same_length [] = refl
same_length (s ∷ symbols) = ap suc (same_length symbols)

-- the table after a term's symbol is numbered represents the symbols with that symbol added
pub symbols_with : (symbols : List Symbol) (name : Name) (arity : ℕ) (old new : Symbols) → KnowsSymbols symbols old
    → names_in new.names ≡ with_name (names_in old.names) name
    → new.arities.items ≡ (if nat_lt (position_of name (names_in old.names)) (length old.arities.items) then
    old.arities.items else old.arities.items ++ arity ∷ [])
    → KnowsSymbols (with_symbol symbols name arity) new
symbols_with symbols name arity old new k n a = record {
  names = n ∙ (ap (λ ns. with_name ns name) k.names ∙ names_with symbols name arity);
  arities =
      a ∙ (ap (λ v. if v then old.arities.items else old.arities.items ++ arity ∷ []) test
      ∙ (ap (λ v. if is_among name (names_of symbols) then v else v ++ arity ∷ []) k.arities
      ∙ arities_with symbols name arity));
}
  where
    test : nat_lt (position_of name (names_in old.names)) (length old.arities.items) ≡ is_among name (names_of symbols)
    test = ap (λ ns. nat_lt (position_of name ns) (length old.arities.items)) k.names
        ∙ (ap (nat_lt (position_of name (names_of symbols))) (ap length k.arities ∙ same_length symbols)
        ∙ below_is name (names_of symbols))

-- the arity of a symbol is at the symbol's number
pub arity_at : (symbols : List Symbol) (name : Name) → get_or (arities_of symbols) (position_of name (names_of symbols))
    0 ≡ arity_of symbols name
arity_at [] name = refl
arity_at (s ∷ symbols) name = go (is_same name s.name) refl (arity_at symbols name)
  where
    go : (v : Bool) → is_same name s.name ≡ v → get_or (arities_of symbols) (position_of name (names_of symbols)) 0
        ≡ arity_of symbols name
        → get_or (arities_of (s ∷ symbols)) (position_of name (names_of (s ∷ symbols))) 0
        ≡ (if v then s.arity else arity_of symbols name)
    go true e ih = rw e refl
    go false e ih = rw (e, one-add) ih

-- the position of a name that is already in the list is unchanged when another is appended
position_push : (n : Name) (names : List Name) → is_among n names ≡ false
    → position_of n names ≡ position_of n (names ++ n ∷ [])
position_push n [] h = rw (is_same_self n) refl
position_push n (m ∷ names) h = go (is_same n m) refl h (λ k. position_push n names k)
  where
    go : (v : Bool) → is_same n m ≡ v → v || is_among n names ≡ false
        → (is_among n names ≡ false → position_of n names ≡ position_of n (names ++ n ∷ []))
        → position_of n (m ∷ names) ≡ position_of n (m ∷ (names ++ n ∷ []))
    go true e h ih = cc
    go false e h ih = rw (e, ih h) refl

position_with : (n : Name) (names : List Name) → position_of n names ≡ position_of n (with_name names n)
position_with n names = go (is_among n names) refl
  where
    go : (v : Bool) → is_among n names ≡ v → position_of n names ≡ position_of n (if v then names else names ++ n ∷ [])
    go true e = refl
    go false e = position_push n names e

-- the number of a symbol that is read is its name's position among the names before it
pub number_stays : (symbols : List Symbol) (name : Name) (arity : ℕ)
    → position_of name (names_of symbols) ≡ number_of (with_symbol symbols name arity) name
number_stays symbols name arity = position_with name (names_of symbols)
    ∙ ap (position_of name) (names_with symbols name arity)
