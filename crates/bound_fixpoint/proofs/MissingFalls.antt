-- If no known bound is lost, and one that was missing is known, fewer bounds are missing.
use Rattle.std.proofs.Common.{◌≡◌, ◌⊎◌, inl, inr, ℕ, ◌<◌, ◌≤◌, true, cond, List, [], ◌∷◌, Option, Some, None}
use Rattle.std.proofs.Common.{refl, sym, subst, arith}
use Rattle.std.specs.List.{count_by}
use Rattle.rule_questions.specs.model.Programs.{Program}
use Rattle.rule_questions.specs.model.Bounds.{Bound}
use Rattle.rule_questions.specs.model.Entries.{is_in}
use Rattle.rule_questions.specs.model.Paths.{target_of}
use Rattle.rule_questions.proofs.model.Membership.{is_in-cases}
use Rattle.rule_questions.specs.cert_rules.AcceptsPlain.{IsRule, places_at}
use Rattle.bound_fixpoint.specs.Keys.{Bounds, lacks, rule_numbers, IsPlace}
use Rattle.bound_fixpoint.specs.Laws.{unsized, all_unsized, missing}
use Rattle.bound_fixpoint.proofs.Cases.{either, false_true, none_some, some_none}
use Rattle.bound_fixpoint.proofs.Counts.{count-first}
use Rattle.bound_fixpoint.proofs.RuleNumbers.{rule_in, place_in}

-- every bound that the first function gives is given by the second
abbrev pub KnowsAll : (ℕ → Option Bound) → (ℕ → Option Bound) → Type 0
KnowsAll f g = (n : ℕ) (b : Bound) → f n ≡ Some b → g n ≡ Some b

-- of one key no more bounds are missing, if its bound is known wherever it was
one_least : (x y : Option Bound) → ((b : Bound) → x ≡ Some b → y ≡ Some b)
    → cond (lacks y) 1 0 ≤ cond (lacks x) 1 0
one_least None None known = omega arith
one_least None (Some c) known = omega arith
one_least (Some b) None known = absurd (none_some b (known b refl))
one_least (Some b) (Some c) known = omega arith

-- of one key fewer bounds are missing, if its bound was missing and is known now
one_less : (x y : Option Bound) (b : Bound) → x ≡ None → y ≡ Some b → cond (lacks y) 1 0 < cond (lacks x) 1 0
one_less None None b e f = absurd (none_some b f)
one_less None (Some c) b e f = omega arith
one_less (Some a) y b e f = absurd (some_none a e)

-- no more are missing among these numbers
count_least : (ns : List ℕ) (f g : ℕ → Option Bound) → KnowsAll f g
    → count_by (λ n. lacks (g n)) ns ≤ count_by (λ n. lacks (f n)) ns
count_least [] f g known = omega arith
count_least (n ∷ ns) f g known =
    let now = count-first (λ m. lacks (g m)) n ns in
    let then = count-first (λ m. lacks (f m)) n ns in
    let here = one_least (f n) (g n) (known n) in
    let rest = count_least ns f g known in
    omega (arith, now, then, here, rest)

-- fewer bounds are missing, if one of them was missing and is known now
count_less : (ns : List ℕ) (f g : ℕ → Option Bound) → KnowsAll f g → (n : ℕ) (b : Bound) → is_in n ns ≡ true
    → f n ≡ None → g n ≡ Some b → count_by (λ m. lacks (g m)) ns < count_by (λ m. lacks (f m)) ns
count_less [] f g known n b m e k = absurd (false_true m)
count_less (x ∷ ns) f g known n b m e k =
    either (is_in-cases n x ns m) here (λ l. later (count_less ns f g known n b l e k))
  where
    here : n ≡ x → count_by (λ y. lacks (g y)) (x ∷ ns) < count_by (λ y. lacks (f y)) (x ∷ ns)
    here same =
        let now = count-first (λ y. lacks (g y)) x ns in
        let then = count-first (λ y. lacks (f y)) x ns in
        let less = one_less (f x) (g x) b (subst (λ (y : ℕ). f y ≡ None) same e)
        (subst (λ (y : ℕ). g y ≡ Some b) same k) in
        let rest = count_least ns f g known in
        omega (arith, now, then, less, rest)

    later : count_by (λ y. lacks (g y)) ns < count_by (λ y. lacks (f y)) ns
        → count_by (λ y. lacks (g y)) (x ∷ ns) < count_by (λ y. lacks (f y)) (x ∷ ns)
    later less =
        let now = count-first (λ y. lacks (g y)) x ns in
        let then = count-first (λ y. lacks (f y)) x ns in
        let first = one_least (f x) (g x) (known x) in
        omega (arith, now, then, first, less)

-- the key of the time of a rule, or of a place after it
abbrev pub IsKeyOfRule : Program → ℕ → ℕ → Type 0
IsKeyOfRule p t i = IsRule p t × ((0 ≡ i) ⊎ IsPlace p t i)

module _ (p : Program) (b c : Bounds) (known : (t : ℕ) → KnowsAll (b t) (c t)) where
  -- no more sizes are missing after these rules
  sizes_least : (ts : List ℕ) → all_unsized p c ts ≤ all_unsized p b ts
  sizes_least [] = omega arith
  sizes_least (t ∷ ts) =
      let here = count_least (places_at p (target_of p t)) (b t) (c t) (known t) in
      let rest = sizes_least ts in
      omega (arith, here, rest)

  -- fewer sizes are missing, if one of them was missing and is known now
  sizes_less : (ts : List ℕ) (t i : ℕ) (x : Bound) → is_in t ts ≡ true
      → is_in i (places_at p (target_of p t)) ≡ true → b t i ≡ None → c t i ≡ Some x
      → all_unsized p c ts < all_unsized p b ts
  sizes_less [] t i x m l e k = absurd (false_true m)
  sizes_less (u ∷ ts) t i x m l e k =
      either (is_in-cases t u ts m) here (λ n. later (sizes_less ts t i x n l e k))
    where
      here : t ≡ u → all_unsized p c (u ∷ ts) < all_unsized p b (u ∷ ts)
      here same =
          let less : unsized p c u < unsized p b u = subst (λ (n : ℕ). unsized p c n < unsized p b n) same
          (count_less (places_at p (target_of p t)) (b t) (c t) (known t) i x l e k) in
          let rest = sizes_least ts in
          omega (arith, less, rest)

      later : all_unsized p c ts < all_unsized p b ts → all_unsized p c (u ∷ ts) < all_unsized p b (u ∷ ts)
      later less =
          let first = count_least (places_at p (target_of p u)) (b u) (c u) (known u) in
          omega (arith, first, less)

  -- if the bound of a key of a rule was missing and is known now, fewer bounds are missing
  pub missing_falls : (t i : ℕ) (x : Bound) → IsKeyOfRule p t i → b t i ≡ None → c t i ≡ Some x
      → missing p c < missing p b
  missing_falls t i x is e k = by is.1
    where
      listed : is_in t (rule_numbers p) ≡ true
      listed = rule_in p t is.0.rule is.0.numbered

      by : (0 ≡ i) ⊎ IsPlace p t i → missing p c < missing p b
      by (inl same) =
          let less = count_less (rule_numbers p) (λ u. b u 0) (λ u. c u 0) (λ u y. known u 0 y) t x listed
          (subst (λ (n : ℕ). b t n ≡ None) (sym same) e) (subst (λ (n : ℕ). c t n ≡ Some x) (sym same) k) in
          let rest = sizes_least (rule_numbers p) in
          omega (arith, less, rest)
      by (inr place) =
          let first = count_least (rule_numbers p) (λ u. b u 0) (λ u. c u 0) (λ u y. known u 0 y) in
          let less = sizes_less (rule_numbers p) t i x listed (place_in p t i place) e k in
          omega (arith, first, less)
