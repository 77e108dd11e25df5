-- The names of a section's copies, one by one.
use Rattle.std.proofs.Common.{◌≡◌, Bool, true, false, not, List, [], ◌∷◌, ◌++◌, map, refl, sym, ◌∙◌, ap, subst}
use Rattle.std.proofs.Common.{append_assoc}
use Rattle.std.specs.List.{AllByRecursion, list_any}
use Rattle.std.proofs.lemmas.Bool.{true≢false}
use Rattle.indexmap.specs.IndexSet.{insert_key}
use Rattle.refined_programs.specs.model.Programs.{Name}
use Rattle.text_core.specs.Names.{IsName, is_same, is_among, AreDistinct}
use Rattle.text_core.proofs.NameLaws.{distinct_one_more}
use Rattle.text_core.proofs.KeyLaws.{key_among, names-insert_key, not_before}
use Rattle.refined_programs.specs.declared.section.SymbolCopy.{SymbolCopy}
use Rattle.refined_programs.specs.declared.section.Section as declared
use Rattle.refined_programs.specs.Annotated.{Copy}
use Rattle.refined_programs.specs.Views.{annotated_copy, annotated_of}
use Rattle.section_checks.specs.Laws.{HasDistinctNames}

-- the names of copies
abbrev pub names_of : List SymbolCopy → List Name
names_of copies = map (λ c. c.name) (map annotated_copy copies)

-- a property of all names is one of the name of each copy, and the other way round
pub copies-named : (P : Name → Type 0) (copies : List Copy) → AllByRecursion P (map (λ c. c.name) copies)
    → AllByRecursion (λ c. P c.name) copies
copies-named P [] h = tt
copies-named P (c ∷ copies) h = (h.0, copies-named P copies h.1)

pub names-of-copies : (P : Name → Type 0) (copies : List Copy) → AllByRecursion (λ c. P c.name) copies
    → AllByRecursion P (map (λ c. c.name) copies)
names-of-copies P [] h = tt
names-of-copies P (c ∷ copies) h = (h.0, names-of-copies P copies h.1)

-- if all elements of a list and one more have a property, all with that one have it
pub all-push : {X : Type 0} (P : X → Type 0) (xs : List X) (x : X) → AllByRecursion P xs → P x
    → AllByRecursion P (xs ++ x ∷ [])
all-push P [] x h p = (p, tt)
all-push P (y ∷ xs) x h p = (h.0, all-push P xs x h.1 p)

-- a property of all elements is one of an element in the middle
all-middle : {X : Type 0} (P : X → Type 0) (before : List X) (x : X) (behind : List X)
    → AllByRecursion P (before ++ x ∷ behind) → P x
all-middle P [] x behind h = h.0
all-middle P (y ∷ before) x behind h = all-middle P before x behind h.1

-- a section whose copies have different names, which are names, has distinct names
pub named : (section : declared.Section) (names : List Name) → names ≡ names_of section.copies.items
    → AllByRecursion IsName names → AreDistinct names → HasDistinctNames (annotated_of section)
named section names e are distinct =
    record {
      names = copies-named IsName (annotated_of section).copies (subst (AllByRecursion IsName) e are);
      distinct = subst AreDistinct e distinct;
    }

-- a section with a copy whose name isn't a name, or is that of an earlier copy, doesn't have distinct names
pub unnamed : (section : declared.Section) (before : List Name) (n : Name) (behind : List Name)
    → before ++ n ∷ behind ≡ names_of section.copies.items → (IsName n → ⊥) → HasDistinctNames (annotated_of section) → ⊥
unnamed section before n behind e fails h =
    fails (all-middle IsName before n behind
    (subst (AllByRecursion IsName) (sym e) (names-of-copies IsName (annotated_of section).copies h.names)))

pub repeated : (section : declared.Section) (before : List Name) (n : Name) (behind : List Name)
    → before ++ n ∷ behind ≡ names_of section.copies.items → is_among n before ≡ true
    → HasDistinctNames (annotated_of section) → ⊥
repeated section before n behind e among h =
    let absent = not_before before n behind (subst AreDistinct (sym e) h.distinct) in
    true≢false (sym among ∙ absent)

-- a key is new in a set exactly if its name isn't among those of the set
flipped : (a v : Bool) → not a ≡ v → a ≡ not v
flipped true v e = ap not e
flipped false v e = ap not e

pub among-by : {X : Type 0} (view : X → Name) (test : X → Bool) (n : Name) (ks : List X) (is_new v : Bool)
    → ((k : X) → test k ≡ is_same n (view k)) → is_new ≡ not (list_any test ks) → is_new ≡ v
    → is_among n (map view ks) ≡ not v
among-by view test n ks is_new v same added e =
    sym (key_among view n test same ks) ∙ flipped (list_any test ks) v (sym added ∙ e)

-- the names of a set after a new one is inserted, which is the first of those left
pub one-more : {X : Type 0} (view : X → Name) (eq : X → X → Bool) (ks new : List X) (k : X) (n : Name)
    (left rest all : List Name) (is_new : Bool) → ((j : X) → eq k j ≡ is_same (view k) (view j))
    → new ≡ insert_key eq ks k → is_new ≡ not (list_any (eq k) ks) → is_new ≡ true → view k ≡ n → left ≡ n ∷ rest
    → map view ks ++ left ≡ all → IsName n → AllByRecursion IsName (map view ks) → AreDistinct (map view ks)
    → (map view new ++ rest ≡ all) × AllByRecursion IsName (map view new) × AreDistinct (map view new)
one-more view eq ks new k n left rest all is_new same inserted added e here split so_far is_one are distinct =
    let absent : is_among (view k) (map view ks) ≡ false =
    among-by view (eq k) (view k) ks is_new true same added e in
    let grown : map view new ≡ map view ks ++ view k ∷ [] =
    names-insert_key view eq ks new k inserted (key_among view (view k) (eq k) same ks ∙ absent) in (
      ap (λ (ns : List Name). ns ++ rest) grown
          ∙ (append_assoc (map view ks) (view k ∷ []) rest
          ∙ (ap (λ (m : Name). map view ks ++ m ∷ rest) here
          ∙ (ap (λ (ns : List Name). map view ks ++ ns) (sym split) ∙ so_far))),
      subst (AllByRecursion IsName) (sym grown)
          (all-push IsName (map view ks) (view k) are (subst IsName (sym here) is_one)),
      subst AreDistinct (sym grown) (distinct_one_more (map view ks) (view k) distinct absent),
    )
