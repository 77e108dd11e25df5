-- The tests of numbers decide their properties.
use Rattle.std.proofs.Common.{◌≡◌, ℕ, ◌<◌, ◌≤◌, Bool, true, false, not, List, [], ◌∷◌, length, refl, sym, ◌∙◌, ◌⊎◌, inl}
use Rattle.std.proofs.Common.{inr, arith, nat_le, nat_lt, All}
use Rattle.std.specs.Prelude.{ℤ, pos, negsuc, ◌≤ℤ◌, ◌+ℤ◌, ◌*ℤ◌, nat_abs, int_le}
use Rattle.std.specs.List.{list_all, range_with_len}
use Rattle.std.specs.Bool.{Decides}
use Rattle.std.specs.Ordering.{int_eq}
use Rattle.std.proofs.lemmas.Int.{ints}
use Rattle.std.proofs.Math.Nat.{le-max_left, le-max_right, le_trans}
use Rattle.std.proofs.lemmas.Bool.{true≢false, cases_lt, leb-true, le-leb}
use Rattle.std.proofs.lemmas.Bool.Decides.{Decides-eqb, Decides-int_eq, Decides-ltb, Decides-and, Decides-like}
use Rattle.std.proofs.lemmas.Bool.Decides.{Decides-by_and}
use Rattle.std.proofs.lemmas.List.{get_or_past}
use Rattle.std.proofs.lemmas.List.Elements.{All-from_recursion, recursion_from_All}
use Rattle.run_counting.specs.model.Entries.{is_in}
use Rattle.run_counting.proofs.model.Membership.{is_in-numbers}
use Rattle.rule_forms.proofs.int_laws.RingLaws.{mul-zero_ℤ}
use Rattle.rule_forms.specs.linear_forms.Forms.{Form, at}
use Rattle.rule_forms.specs.linear_forms.Certificates.{combined_coef, combined_constant, Implies}
use Rattle.rule_forms.specs.linear_forms.Limits.{certificate_limit}
use Rattle.cert_rules.specs.Numbers.{IsAscending}
use Rattle.cert_rules.specs.Limits.{IsInLimit, AreInLimit, IsFormInLimit}
use Rattle.cert_rules.specs.AcceptsPlain.{AreMultipliers}
use Rattle.cert_rules.specs.Setting.{Setting}
use Rattle.cert_rules.proofs.CheckLists.{each-in, in-each}
use Rattle.cert_rules.specs.NumberTests.{is_in_limit, are_in_limit, is_form_in_limit, are_multipliers, is_ascending}
use Rattle.cert_rules.specs.NumberTests.{longest, implies}

-- the answer true decides a property that holds
pub decides-yes : {P : Type 0} → P → Decides true P
decides-yes h = (λ e. h, λ k. refl)

-- the answer false decides a property that doesn't hold
pub decides-no : {P : Type 0} → ¬ P → Decides false P
decides-no n = (λ e. absurd (true≢false (sym e)), λ k. absurd (n k))

-- the test `nat_le` decides whether a number is at most another
pub decides-le : (m n : ℕ) → Decides (nat_le m n) (m ≤ n)
decides-le m n = (leb-true m n, le-leb m n)

-- the test `int_le` decides whether an integer is at most another
pub decides-int_le : (x y : ℤ) → Decides (int_le x y) (x ≤ℤ y)
decides-int_le (pos m) (pos n) =
    ((λ e. omega (arith, ints, leb-true m n e)), (λ h. le-leb m n (omega (arith, ints, h))))
decides-int_le (pos m) (negsuc n) = decides-no (λ h. omega (arith, ints, h))
decides-int_le (negsuc m) (pos n) = decides-yes (omega (arith, ints))
decides-int_le (negsuc m) (negsuc n) =
    ((λ e. omega (arith, ints, leb-true n m e)), (λ h. le-leb n m (omega (arith, ints, h))))

-- the negation of a test decides whether it fails
pub decides-not : (v : Bool) → Decides (not v) (v ≡ false)
decides-not true = decides-no true≢false
decides-not false = decides-yes refl

-- a test decides a property of each element of a list
pub decides-all : {X : Type 0} (p : X → Bool) (P : X → Type 0) → ((x : X) → Decides (p x) (P x)) → (xs : List X)
    → Decides (list_all p xs) (All P xs)
decides-all p P each xs = Decides-by_and p P (list_all p) each refl (λ x ys. refl) xs

-- a test decides a property of each number that is in a list
pub decides-each : (p : ℕ → Bool) (P : ℕ → Type 0) → ((x : ℕ) → Decides (p x) (P x)) → (xs : List ℕ)
    → Decides (list_all p xs) ((x : ℕ) → is_in x xs ≡ true → P x)
decides-each p P each xs =
    Decides-like (list_all p xs) (λ h. each-in P xs (recursion_from_All P xs h))
    (λ h. All-from_recursion P xs (in-each P xs h)) (decides-all p P each xs)

-- the test of the limit decides whether a number is within it
pub decides-limit : (n : ℕ) → Decides (is_in_limit n) (IsInLimit n)
decides-limit n = decides-le n certificate_limit

decides-limits : (ns : List ℕ) → Decides (are_in_limit ns) (AreInLimit ns)
decides-limits ns = decides-all is_in_limit IsInLimit decides-limit ns

-- whether the numbers of a form are within the limit is decided
pub decides-form : (f : Form) → Decides (is_form_in_limit f) (IsFormInLimit f)
decides-form f =
    Decides-like (is_form_in_limit f) (λ h. record { coefs = h.0; constant = h.1 }) (λ h. (h.coefs, h.constant))
    (Decides-and _ _ (decides-all _ _ (λ c. decides-limit (nat_abs c)) f.coefs) (decides-limit (nat_abs f.constant)))

-- whether there is a multiplier within the limit for each row of a rule is decided
pub decides-multipliers : (s : Setting) (t : ℕ) (ms : List ℕ) → Decides (are_multipliers s t ms) (AreMultipliers s t ms)
decides-multipliers s t ms =
    Decides-like (are_multipliers s t ms) (λ h. record { long = h.0; limit = h.1 }) (λ h. (h.long, h.limit))
    (Decides-and _ _ (Decides-eqb (length ms) (length (s.rows t))) (decides-limits ms))

-- the test of ascending numbers decides whether they are
pub decides-ascending : (xs : List ℕ) → Decides (is_ascending xs) (IsAscending xs)
decides-ascending [] = decides-yes tt
decides-ascending (x ∷ []) = decides-yes tt
decides-ascending (x ∷ y ∷ rest) = Decides-and (nat_lt x y) _ (Decides-ltb x y) (decides-ascending (y ∷ rest))

-- the combined coefficient of an unknown past the longest row is 0
past-rows : (ms : List ℕ) (rows : List Form) (u : ℕ) → longest rows ≤ u → combined_coef ms rows u ≡ pos 0
past-rows [] rows u h = refl
past-rows (m ∷ ms) [] u h = refl
past-rows (m ∷ ms) (r ∷ rows) u h =
    both (pos m *ℤ at r.coefs u) (combined_coef ms rows u)
    (mul-zero_ℤ (pos m) (at r.coefs u)
    (get_or_past r.coefs u (pos 0) (le_trans (le-max_left (length r.coefs) (longest rows)) h)))
    (past-rows ms rows u (le_trans (le-max_right (length r.coefs) (longest rows)) h))
  where
    both : (a b : ℤ) → a ≡ pos 0 → b ≡ pos 0 → (a +ℤ b) ≡ pos 0
    both a b e f = omega (arith, ints, e, f)

-- laws for rows, multipliers and a goal
module _ (rows : List Form) (ms : List ℕ) (goal : Form) where
  -- the combined rows and the goal have the same coefficient of an unknown
  abbrev Same : ℕ → Type 0
  Same u = at goal.coefs u ≡ combined_coef ms rows u

  every-unknown : ((u : ℕ) → is_in u (range_with_len 0 (longest (goal ∷ rows))) ≡ true → Same u) → (u : ℕ) → Same u
  every-unknown h u = go (cases_lt u (longest (goal ∷ rows)))
    where
      go : (u < longest (goal ∷ rows)) ⊎ (longest (goal ∷ rows) ≤ u) → Same u
      go (inl low) = h u (is_in-numbers (longest (goal ∷ rows)) u low)
      go (inr high) =
          get_or_past goal.coefs u (pos 0) (le_trans (le-max_left (length goal.coefs) (longest rows)) high)
          ∙ sym (past-rows ms rows u (le_trans (le-max_right (length goal.coefs) (longest rows)) high))

  -- whether rows, each times its multiplier, imply a form is decided
  pub decides-implies : Decides (implies rows ms goal) (Implies rows ms goal)
  decides-implies =
      Decides-like (implies rows ms goal)
      (λ h. record { long = h.0.0; coefs = every-unknown h.0.1; constant = h.1 })
      (λ h. ((h.long, (λ u k. h.coefs u)), h.constant))
      (Decides-and _ _
      (Decides-and _ _ (Decides-eqb (length ms) (length rows))
      (decides-each (λ u. int_eq (at goal.coefs u) (combined_coef ms rows u)) Same (λ u. Decides-int_eq _ _)
      (range_with_len 0 (longest (goal ∷ rows)))))
      (decides-int_le (combined_constant ms rows) goal.constant))
