-- Looking up rules, entries, members and forms in loops, in which the elements that are left decide.
use Rattle.std.proofs.Common.{◌≡◌, ℕ, zero, suc, ◌+◌, ◌-◌, ◌<◌, ◌≤◌, ◌==◌, ◌||◌, ◌⊎◌, inl, inr, Bool, true, false, cond}
use Rattle.std.proofs.Common.{List, [], ◌∷◌, ◌++◌, length, map, filter, get_or, drop, Option, Some, None, option_map}
use Rattle.std.proofs.Common.{refl, sym, ap, ◌∙◌, arith}
use Rattle.std.specs.List.{list_any, range_with_len}
use Rattle.std.proofs.lemmas.Option.{slice_get_read, slice_get_past, slice_get-map}
use Rattle.std.proofs.lemmas.List.{drop_more, drop_all, length-map}
use Rattle.std.proofs.lemmas.List.Elements.{filter-append}
use Rattle.poly_terms.specs.model.Programs as plain
use Rattle.poly_terms.specs.model.Programs.{rule_at}
use Rattle.poly_terms.specs.model.Paths.{source_in, source_of, target_in, target_of}
use Rattle.its_model.specs.declared.program.Rule.{Rule}
use Rattle.its_model.specs.declared.program.Program.{Program}
use Rattle.its_model.specs.Views.{rule_of, program_of}
use Rattle.poly_terms.specs.model.Entries.{is_in, enters, entries}
use Rattle.cert_program.specs.cert_rules.Composed.{rank_form}
use Rattle.cert_types.specs.declared.rank.Form.{Form}
use Rattle.cert_types.proofs.Numbers.{numbers-more}
use Rattle.cert_types.specs.Views.{form_of}

-- the rule with number t is the element at position t - 1
pub rule_here : (p : Program) (t : ℕ) (r : Rule) → 0 < t → t ≤ length p.rules.items → r ≡ get_or p.rules.items (t - 1) r
    → rule_at (program_of p) t ≡ Some (rule_of r)
rule_here p zero r n l e = absurd (omega (arith, n))
rule_here p (suc t) r n l e =
    slice_get-map rule_of p.rules.items t
    ∙ ap (λ (o : Option Rule). option_map rule_of o)
    (slice_get_read p.rules.items (length p.rules.items) t r refl (omega (arith, l))
    (e ∙ ap (λ (i : ℕ). get_or p.rules.items i r) (let k : suc t - 1 ≡ t = omega arith in k)))

-- there is no rule with a number past the last one
rule_past : (p : Program) (t : ℕ) → length p.rules.items < t → rule_at (program_of p) t ≡ None
rule_past p zero l = absurd (omega (arith, l))
rule_past p (suc t) l = slice_get-map rule_of p.rules.items t
    ∙ ap (λ (o : Option Rule). option_map rule_of o) (slice_get_past p.rules.items t (omega (arith, l)))

-- the source of the rule with a number is that of the element at its position
pub source_found : (p : Program) (t : ℕ) (r : Rule) → 0 < t → t ≤ length p.rules.items → r ≡ get_or p.rules.items (t - 1) r
    → Some r.source ≡ source_of (program_of p) t
source_found p t r n l e = sym (ap source_in (rule_here p t r n l e))

-- the virtual entry and numbers past the last rule have no source
pub source_none : (p : Program) (t : ℕ) → (t ≡ 0) ⊎ (length p.rules.items < t) → None ≡ source_of (program_of p) t
source_none p t (inl e) = sym (ap (λ (n : ℕ). source_of (program_of p) n) e)
source_none p t (inr l) = sym (ap source_in (rule_past p t l))

-- the target of a rule number above 0 is that of the rule
target_by_rule : (p : Program) (t : ℕ) → 0 < t → target_of (program_of p) t ≡ target_in (rule_at (program_of p) t)
target_by_rule p zero n = absurd (omega (arith, n))
target_by_rule p (suc t) n = refl

-- the target of a rule is that of the one at its number
pub target_found : (p : Program) (t : ℕ) (r : Rule) → 0 < t → t ≤ length p.rules.items → r ≡ get_or p.rules.items (t - 1) r
    → Some r.target ≡ target_of (program_of p) t
target_found p t r n l e = sym (target_by_rule p t n ∙ ap target_in (rule_here p t r n l e))

-- the virtual entry leads to the start
pub target_start : (p : Program) (t : ℕ) → t ≡ 0 → Some p.start ≡ target_of (program_of p) t
target_start p t e = sym (ap (λ (n : ℕ). target_of (program_of p) n) e)

-- numbers past the last rule have no target
pub target_none : (p : Program) (t : ℕ) → length p.rules.items < t → None ≡ target_of (program_of p) t
target_none p t l = sym (target_by_rule p t (omega (arith, l)) ∙ ap target_in (rule_past p t l))

-- a loop that looks for an element that passes a test
module _ {X Y : Type 0} (view : X → Y) (test : Y → Bool) (xs : List X) (i : ℕ) where
  any_next : (x : X) → i < length xs → x ≡ get_or xs i x
      → list_any test (map view (drop i xs)) ≡ test (view x) || list_any test (map view (drop (i + 1) xs))
  any_next x l e = ap (λ (ys : List X). list_any test (map view ys)) (drop_more xs i x l)
      ∙ ap (λ (y : X). test (view y) || list_any test (map view (drop (i + 1) xs))) (sym e)

  -- if the next element passes the test, some element of the list does
  pub any_found : (x : X) → i < length xs → x ≡ get_or xs i x
      → list_any test (map view (drop i xs)) ≡ list_any test (map view xs)
      → true ≡ test (view x) → true ≡ list_any test (map view xs)
  any_found x l e kept h =
      sym (sym kept ∙ (any_next x l e ∙ ap (λ (v : Bool). v || list_any test (map view (drop (i + 1) xs))) (sym h)))

  -- if an element doesn't pass the test, those after it decide
  pub any_passed : (x : X) → i < length xs → x ≡ get_or xs i x
      → list_any test (map view (drop i xs)) ≡ list_any test (map view xs)
      → false ≡ test (view x) → list_any test (map view (drop (i + 1) xs)) ≡ list_any test (map view xs)
  any_passed x l e kept h =
      sym (any_next x l e ∙ ap (λ (v : Bool). v || list_any test (map view (drop (i + 1) xs))) (sym h)) ∙ kept

  -- if no element is left, no element of the list passes the test
  pub any_none : length xs ≤ i → list_any test (map view (drop i xs)) ≡ list_any test (map view xs)
      → false ≡ list_any test (map view xs)
  any_none l kept = sym (ap (λ (ys : List X). list_any test (map view ys)) (drop_all i xs l)) ∙ kept

-- a number is in a list if it is the next one or in the rest
in-next : (n x : ℕ) (xs : List ℕ) (i : ℕ) → i < length xs → x ≡ get_or xs i x
    → is_in n (drop i xs) ≡ (n == x) || is_in n (drop (i + 1) xs)
in-next n x xs i l e = ap (is_in n) (drop_more xs i x l)
    ∙ ap (λ (y : ℕ). (n == y) || is_in n (drop (i + 1) xs)) (sym e)

-- where the next number is the one that is sought, it is in the list
pub in_found : (n x : ℕ) (xs : List ℕ) (i : ℕ) → i < length xs → x ≡ get_or xs i x → is_in n (drop i xs) ≡ is_in n xs
    → (n == x) ≡ true → true ≡ is_in n xs
in_found n x xs i l e kept h =
    sym (sym kept ∙ (in-next n x xs i l e ∙ ap (λ (v : Bool). v || is_in n (drop (i + 1) xs)) h))

-- if a number isn't the sought one, those after it decide
pub in_passed : (n x : ℕ) (xs : List ℕ) (i : ℕ) → i < length xs → x ≡ get_or xs i x → is_in n (drop i xs) ≡ is_in n xs
    → (n == x) ≡ false → is_in n (drop (i + 1) xs) ≡ is_in n xs
in_passed n x xs i l e kept h =
    sym (in-next n x xs i l e ∙ ap (λ (v : Bool). v || is_in n (drop (i + 1) xs)) h) ∙ kept

-- where no number is left, the sought one isn't in the list
pub in_none : (n : ℕ) (xs : List ℕ) (i : ℕ) → length xs ≤ i → is_in n (drop i xs) ≡ is_in n xs → false ≡ is_in n xs
in_none n xs i l kept = sym (ap (is_in n) (drop_all i xs l)) ∙ kept

-- a loop that collects the entries of a set
module _ (p : plain.Program) (set : List ℕ) where
  entries-more : (t : ℕ) → filter (enters p set) (range_with_len 0 (t + 1))
      ≡ filter (enters p set) (range_with_len 0 t) ++ cond (enters p set t) (t ∷ []) []
  entries-more t = ap (filter (enters p set)) (numbers-more 0 t)
      ∙ (filter-append (enters p set) (range_with_len 0 t) ((0 + t) ∷ [])
      ∙ ap (λ (m : ℕ). filter (enters p set) (range_with_len 0 t) ++ cond (enters p set m) (m ∷ []) []) (let e : 0 + t ≡ t = omega arith in e))

  -- a rule that enters the set is pushed after the entries so far
  pub entry_pushed : (t : ℕ) (old new : List ℕ) → old ≡ filter (enters p set) (range_with_len 0 t) → new ≡ old ++ t ∷ []
      → true ≡ enters p set t → new ≡ filter (enters p set) (range_with_len 0 (t + 1))
  entry_pushed t old new eo en h =
      en ∙ (ap (λ (xs : List ℕ). xs ++ t ∷ []) eo
      ∙ sym (entries-more t ∙ ap (λ (v : Bool). filter (enters p set) (range_with_len 0 t) ++ cond v (t ∷ []) []) (sym h)))

  -- a rule that doesn't enter the set leaves the entries so far as they are
  pub entry_passed : (t : ℕ) (old : List ℕ) → old ≡ filter (enters p set) (range_with_len 0 t)
      → false ≡ enters p set t → old ≡ filter (enters p set) (range_with_len 0 (t + 1))
  entry_passed t old eo h =
      eo ∙ (sym (append-nothing (filter (enters p set) (range_with_len 0 t)))
      ∙ sym (entries-more t ∙ ap (λ (v : Bool). filter (enters p set) (range_with_len 0 t) ++ cond v (t ∷ []) []) (sym h)))
    where
      append-nothing : (xs : List ℕ) → xs ++ [] ≡ xs
      append-nothing [] = refl
      append-nothing (x ∷ xs) = ap (λ (ys : List ℕ). x ∷ ys) (append-nothing xs)

-- the entries up to the last rule are all entries of the set
pub entries_whole : (p : Program) (set found : List ℕ) (n : ℕ) → n ≡ length p.rules.items + 1
    → found ≡ filter (enters (program_of p) set) (range_with_len 0 n) → found ≡ entries (program_of p) set
entries_whole p set found n e h =
    h ∙ ap (λ (m : ℕ). filter (enters (program_of p) set) (range_with_len 0 m))
    (let k : n ≡ suc (length (map rule_of p.rules.items)) = omega (arith, e, length-map p.rules.items rule_of) in k)

-- the first form at a symbol is the next one, if that is at the symbol, or else the first in the rest
pub form-next : (fs : List Form) (i : ℕ) (f : Form) (a : ℕ) → i < length fs → f ≡ get_or fs i f
    → rank_form (map form_of (drop i fs)) (Some a) ≡ cond (f.symbol == a) (form_of f).form (rank_form (map form_of (drop (i + 1) fs)) (Some a))
form-next fs i f a l e = ap (λ (gs : List Form). rank_form (map form_of gs) (Some a)) (drop_more fs i f l)
    ∙ ap (λ (g : Form). cond (g.symbol == a) (form_of g).form (rank_form (map form_of (drop (i + 1) fs)) (Some a))) (sym e)

-- where the next form is at the symbol, it is the first one there
pub form_here : (fs : List Form) (i : ℕ) (f : Form) (a : ℕ) → i < length fs → f ≡ get_or fs i f
    → rank_form (map form_of (drop i fs)) (Some a) ≡ rank_form (map form_of fs) (Some a) → (f.symbol == a) ≡ true
    → (form_of f).form ≡ rank_form (map form_of fs) (Some a)
form_here fs i f a l e kept h =
    sym (sym kept ∙ (form-next fs i f a l e
    ∙ ap (λ (v : Bool). cond v (form_of f).form (rank_form (map form_of (drop (i + 1) fs)) (Some a))) h))

-- if a form is at another symbol, the forms after it decide which is the first
pub form_passed : (fs : List Form) (i : ℕ) (f : Form) (a : ℕ) → i < length fs → f ≡ get_or fs i f
    → rank_form (map form_of (drop i fs)) (Some a) ≡ rank_form (map form_of fs) (Some a) → (f.symbol == a) ≡ false
    → rank_form (map form_of (drop (i + 1) fs)) (Some a) ≡ rank_form (map form_of fs) (Some a)
form_passed fs i f a l e kept h =
    sym (form-next fs i f a l e
    ∙ ap (λ (v : Bool). cond v (form_of f).form (rank_form (map form_of (drop (i + 1) fs)) (Some a))) h) ∙ kept
