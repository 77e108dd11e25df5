-- The generated programs are spelled by their canonical texts.
use Rattle.std.proofs.Common.{◌≡◌, ℕ, zero, suc, ◌+◌, ◌<◌, ◌≤◌, Bool, true, false, if◌then◌else◌, List, [], ◌∷◌, ◌++◌}
use Rattle.std.proofs.Common.{length, length-append, nat_eq, Some, refl, ap, sym, subst, ◌∙◌, arith}
use Rattle.std.specs.Prelude.{slice_get}
use Rattle.std.specs.List.{AllByRecursion, list_all}
use Rattle.std.specs.Char.{is_ascii_digit}
use Rattle.std.specs.Str.Parse.{digits_value}
use Rattle.std.proofs.lemmas.Bool.{and_parts}
use Rattle.std.proofs.lemmas.Bool.Decides.{nat_tests}
use Rattle.its_text.specs.expr_text.model.Programs.{Name, Symbol, Rule, arity_of, arity_in}
use Rattle.its_text.specs.expr_text.text_core.Names.{IsName, continues_name, is_same, is_among, AreDistinct}
use Rattle.its_text.proofs.expr_text.text_core.NameLaws.{same_equal, none_of_more, distinct_one_more}
use Rattle.its_text.specs.Numbering.{names_of, is_com}
use Rattle.its_text.proofs.DistinctNames.{all_one_more}
use Rattle.its_text.proofs.ValidPrograms.{names_one_more}
use Rattle.its_writer.specs.Layout.{numeral}
use Rattle.its_writer.specs.Expressions.{name_at}
use Rattle.its_writer.specs.Texts.{symbol_names, left_names}
use Rattle.its_writer.specs.Spellable.{known_with, IsSpellableRule, symbols_behind, AreInOrder, names_at, IsSpellable}
use Rattle.its_writer.specs.Generated.{location, two_names, entry_rule, counting_rule, leaving_rule, locations, generated_rules}
use Rattle.its_writer.specs.Generated.{generated}
use Rattle.its_writer.proofs.Numerals.{numeral_is}
use Rattle.its_writer.proofs.NamesAt.{names_count}
use Rattle.its_writer.proofs.TermsOrdered.{known_below, known_next}

-- digits continue a name
digit_continues : (b : ℕ) → is_ascii_digit b ≡ true → continues_name b ≡ true
digit_continues b h = grind (arith, nat_tests)

digits_continue : (ds : List ℕ) → list_all is_ascii_digit ds ≡ true → list_all continues_name ds ≡ true
digits_continue [] h = refl
digits_continue (d ∷ ds) h =
    let x = and_parts (is_ascii_digit d) (list_all is_ascii_digit ds) h in
    rw (digit_continues d x.0, digits_continue ds x.1) refl

-- the name of a location is a name, and not `Com_` and digits
location_name : (i : ℕ) → IsName (location i).name
location_name i = (refl, digits_continue (numeral i) (numeral_is i).digits)

-- two locations with the same name have the same number
pub behind_first : (a b : ℕ) (xs ys : List ℕ) → a ∷ xs ≡ b ∷ ys → xs ≡ ys
behind_first a b xs ys e = cc

locations_differ : (i k : ℕ) → k < i → is_same (location i).name (location k).name ≡ false
locations_differ i k h = go (is_same (location i).name (location k).name) refl
  where
    go : (v : Bool) → is_same (location i).name (location k).name ≡ v → is_same (location i).name (location k).name ≡ false
    go false e = e
    go true e =
        let same : numeral i ≡ numeral k = behind_first 108 108 (numeral i) (numeral k) (same_equal (location i).name (location k).name e) in
        let number : i ≡ k = sym (numeral_is i).value ∙ ap (digits_value 10) same ∙ (numeral_is k).value in
        absurd (omega (arith, number, h))

-- a property of each location's name holds of all names of locations
names_all : (P : Name → Type 0) → ((i : ℕ) → P (location i).name) → (m : ℕ) → AllByRecursion P (names_of (locations m))
names_all P h zero = tt
names_all P h (suc m) = subst (AllByRecursion P) (sym (names_one_more (locations m) (location m))) (all_one_more P (names_of (locations m)) (location m).name (names_all P h m) (h m))

none_before : (i m : ℕ) → m ≤ i → is_among (location i).name (names_of (locations m)) ≡ false
none_before i zero h = refl
none_before i (suc m) h =
    ap (is_among (location i).name) (names_one_more (locations m) (location m))
    ∙ none_of_more (location i).name (location m).name (names_of (locations m)) (none_before i m (omega (arith, h))) (locations_differ i m (omega (arith, h)))

names_differ : (m : ℕ) → AreDistinct (names_of (locations m))
names_differ zero = tt
names_differ (suc m) =
    subst AreDistinct (sym (names_one_more (locations m) (location m)))
    (distinct_one_more (names_of (locations m)) (location m).name (names_differ m) (none_before m m (omega arith)))

-- a property of all names holds of the name with a number
pub all_at : (P : Name → Type 0) (names : List Name) (i : ℕ) → AllByRecursion P names → i < length names → P (name_at names i)
all_at P [] i is h = absurd (omega (arith, h))
all_at P (n ∷ names) zero is h = is.0
all_at P (n ∷ names) (suc i) is h = all_at P names i is.1 (omega (arith, h))

-- there are this many locations, each with two places
pub locations_count : (m : ℕ) → length (locations m) ≡ m
locations_count zero = refl
locations_count (suc m) = let e = length-append (locations m) (location m ∷ []) in let k = locations_count m in omega (arith, e, k)

two_places : (m : ℕ) → AllByRecursion (λ (s : Symbol). s.arity ≡ 2) (locations m)
two_places zero = tt
two_places (suc m) = all_one_more (λ (s : Symbol). s.arity ≡ 2) (locations m) (location m) (two_places m) refl

places_at : (symbols : List Symbol) (i : ℕ) → AllByRecursion (λ (s : Symbol). s.arity ≡ 2) symbols → i < length symbols → arity_in (slice_get symbols i) ≡ 2
places_at [] i is h = absurd (omega (arith, h))
places_at (s ∷ symbols) zero is h = is.0
places_at (s ∷ symbols) (suc i) is h = places_at symbols i is.1 (omega (arith, h))

-- rules in order, followed by rules in order after them, are in order
order_joined : (xs ys : List Rule) (n : ℕ) → AreInOrder n xs → AreInOrder (symbols_behind n xs) ys → AreInOrder n (xs ++ ys)
order_joined [] ys n a b = b
order_joined (x ∷ xs) ys n a b = (a.0, a.1, order_joined xs ys (known_with (known_with n x.source) x.target) a.2 b)

behind_joined : (xs ys : List Rule) (n : ℕ) → symbols_behind n (xs ++ ys) ≡ symbols_behind (symbols_behind n xs) ys
behind_joined [] ys n = refl
behind_joined (x ∷ xs) ys n = behind_joined xs ys (known_with (known_with n x.source) x.target)

-- the two rules of a location are in order if the location and those before it are known
two_order : (m i : ℕ) → suc i ≡ m → AreInOrder m (counting_rule i ∷ leaving_rule i ∷ []) × (symbols_behind m (counting_rule i ∷ leaving_rule i ∷ []) ≡ suc m)
two_order m i e =
    let at : known_with m i ≡ m = known_below m i (omega (arith, e)) in
    let again : known_with (known_with m i) i ≡ m = ap (λ k. known_with k i) at ∙ at in
    let third : known_with (known_with (known_with m i) i) i ≡ m = ap (λ k. known_with k i) again ∙ at in
    let last : known_with m (suc i) ≡ suc m = ap (known_with m) e ∙ known_next m in (
      (omega (arith, e), omega (arith, at, e), (omega (arith, again, e), omega (arith, third, e), tt)),
      ap (λ k. known_with k (suc i)) third ∙ last,
    )

rules_order : (n : ℕ) → AreInOrder 0 (generated_rules n) × (symbols_behind 0 (generated_rules n) ≡ n + 2)
rules_order zero = ((omega arith, omega arith, tt), refl)
rules_order (suc n) =
    let before = rules_order n in
    let two = two_order (n + 2) (suc n) (omega arith) in (
      order_joined (generated_rules n) (counting_rule (suc n) ∷ leaving_rule (suc n) ∷ []) 0 before.0 (subst (λ m. AreInOrder m (counting_rule (suc n) ∷ leaving_rule (suc n) ∷ [])) (sym before.1) two.0),
      behind_joined (generated_rules n) (counting_rule (suc n) ∷ leaving_rule (suc n) ∷ []) 0
          ∙ ap (λ m. symbols_behind m (counting_rule (suc n) ∷ leaving_rule (suc n) ∷ [])) before.1 ∙ two.1 ∙ (let e : suc (n + 2) ≡ suc n + 2 = omega arith in e),
    )

-- a property of each rule of two lists holds of the appended list
pub all_joined : {X : Type 0} (P : X → Type 0) (xs ys : List X) → AllByRecursion P xs → AllByRecursion P ys → AllByRecursion P (xs ++ ys)
all_joined P [] ys a b = b
all_joined P (x ∷ xs) ys a b = (a.0, all_joined P xs ys a.1 b)

pub rules_all : (P : Rule → Type 0) (n : ℕ) → P entry_rule → ((i : ℕ) → 1 ≤ i → i ≤ n → P (counting_rule i) × P (leaving_rule i)) → AllByRecursion P (generated_rules n)
rules_all P zero entry each = (entry, tt)
rules_all P (suc n) entry each =
    let two = each (suc n) (omega arith) (omega arith) in
    all_joined P (generated_rules n) (counting_rule (suc n) ∷ leaving_rule (suc n) ∷ []) (rules_all P n entry (λ i some le. each i some (omega (arith, le)))) (two.0, (two.1, tt))

-- each location of the generated program has two places
places : (n i : ℕ) → i < n + 2 → arity_of (generated n) i ≡ 2
places n i h = places_at (locations (n + 2)) i (two_places (n + 2)) (let c = locations_count (n + 2) in omega (arith, c, h))

no_com : (n i : ℕ) → i < n + 2 → is_com (name_at (symbol_names (generated n)) i) ≡ false
no_com n i h =
    all_at (λ m. is_com m ≡ false) (names_of (locations (n + 2))) i (names_all (λ m. is_com m ≡ false) (λ k. refl) (n + 2))
    (let c = locations_count (n + 2) in let d = names_count (locations (n + 2)) in omega (arith, c, d, h))

names_are : AllByRecursion IsName two_names
names_are = ((refl, refl), ((refl, refl), tt))

entry_spellable : (n : ℕ) → IsSpellableRule (generated n) entry_rule
entry_spellable n = record {
  names = names_are;
  distinct = (refl, (refl, tt));
  named = refl;
  source_arity = places n 0 (omega arith);
  target_arity = places n 1 (omega arith);
  target = no_com n 1 (omega arith);
  terms = (omega arith, (omega arith, tt));
  known = refl;
}

counting_spellable : (n i : ℕ) → i ≤ n → IsSpellableRule (generated n) (counting_rule i)
counting_spellable n i h = record {
  names = names_are;
  distinct = (refl, (refl, tt));
  named = refl;
  source_arity = places n i (omega (arith, h));
  target_arity = places n i (omega (arith, h));
  target = no_com n i (omega (arith, h));
  terms = ((omega arith, tt), (omega arith, (omega arith, (tt, tt))));
  known = refl;
}

leaving_spellable : (n i : ℕ) → i ≤ n → IsSpellableRule (generated n) (leaving_rule i)
leaving_spellable n i h = record {
  names = names_are;
  distinct = (refl, (refl, tt));
  named = refl;
  source_arity = places n i (omega (arith, h));
  target_arity = places n (suc i) (omega (arith, h));
  target = no_com n (suc i) (omega (arith, h));
  terms = (omega arith, (omega arith, tt));
  known = refl;
}

-- the left names of the first rule that leaves the start symbol are those of the generated program's first rule
first_kept : (start : ℕ) (xs ys : List Rule) (found : List Name) → names_at start xs ≡ Some found → names_at start (xs ++ ys) ≡ Some found
first_kept start [] ys found e = cc
first_kept start (x ∷ xs) ys found e = go (nat_eq start x.source) e (first_kept start xs ys found)
  where
    go : (v : Bool) → (if v then Some (left_names x) else names_at start xs) ≡ Some found → (names_at start xs ≡ Some found → names_at start (xs ++ ys) ≡ Some found)
        → (if v then Some (left_names x) else names_at start (xs ++ ys)) ≡ Some found
    go true e ih = e
    go false e ih = ih e

first_is : (n : ℕ) → names_at 0 (generated_rules n) ≡ Some two_names
first_is zero = refl
first_is (suc n) = first_kept 0 (generated_rules n) (counting_rule (suc n) ∷ leaving_rule (suc n) ∷ []) two_names (first_is n)

-- the generated program is spellable
pub generated_spellable : (n : ℕ) → IsSpellable (generated n)
generated_spellable n =
    let count = locations_count (n + 2) in
    let order = rules_order n in
    record {
      names = names_all IsName location_name (n + 2);
      distinct = names_differ (n + 2);
      order = order.0;
      known = order.1 ∙ sym count;
      rules = rules_all (IsSpellableRule (generated n)) n (entry_spellable n) (λ i some le. (counting_spellable n i le, leaving_spellable n i le));
      start = omega (arith, count);
      start_names = first_is n;
    }
