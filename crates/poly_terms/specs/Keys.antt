-- Monomials with packed exponents: the exponents are the digits of a number, the key, which is stored in two limbs.
-- Products of such monomials.
use Rattle.std.specs.Prelude.{◌≡◌, ℕ, zero, suc, ◌≤◌, ◌+◌, ◌*◌, ◌^◌, ◌/◌, ◌%◌, Bool, true, false, nat_lt, if◌then◌else◌}
use Rattle.std.specs.Prelude.{List, [], ◌∷◌, ◌++◌, map, length, replicate, max, ℤ, pos, ◌+ℤ◌, ◌*ℤ◌, neg_ℤ, nat_abs}
use Rattle.model.specs.Limits.{monomial_limit}
use Rattle.model.specs.Polynomials as plain
use Rattle.poly_terms.specs.declared.keyed.Key.{Key}
use Rattle.poly_terms.specs.declared.keyed.Keyed.{Keyed}
use Rattle.poly_terms.specs.Expanding.{sum_of}
use Rattle.poly_terms.specs.Faults.{has_large}

-- the number of a key
abbrev pub number_of : Key → ℕ
number_of k = k.low + 2 ^ 128 * k.high

-- the sum of two keys, limb by limb
abbrev pub key_sum : Key → Key → Key
key_sum k l = record { high = k.high + l.high; low = k.low + l.low }

-- the key without factors
abbrev pub no_factors : Key
no_factors = record { high = 0; low = 0 }

-- the variables of a number: its digits in base 16, the last digit first, are the exponents of the table's variables
abbrev pub factors_at : List ℕ → ℕ → List ℕ
factors_at [] k = []
factors_at (v ∷ vs) k = replicate (k % 16) v ++ factors_at vs (k / 16)

-- the monomial of a packed one
abbrev pub monomial_at : List ℕ → Keyed → plain.Monomial
monomial_at table e = record { coef = e.coef; vars = factors_at table (number_of e.key) }

-- the monomials of packed ones
abbrev pub monomials_at : List ℕ → List Keyed → List plain.Monomial
monomials_at table es = map (monomial_at table) es

-- the first number is at least n, and each other one is greater than the one before it
abbrev pub ascend_from : ℕ → List ℕ → Bool
ascend_from n [] = true
ascend_from n (v ∷ vs) = if nat_lt v n then false else ascend_from (suc v) vs

-- the product of two packed monomials: the exponents are added, as long as no digit carries
abbrev pub product_at : Keyed → Keyed → Keyed
product_at e f = record { key = key_sum e.key f.key; coef = e.coef *ℤ f.coef }

-- a packed monomial with its coefficient negated
abbrev pub opposite_at : Keyed → Keyed
opposite_at e = record { key = e.key; coef = neg_ℤ e.coef }

-- the products of each packed monomial of the first list with each of the second
abbrev pub all_products : List Keyed → List Keyed → List Keyed
all_products [] fs = []
all_products (e ∷ es) fs = map (product_at e) fs ++ all_products es fs

-- the sum of the coefficients of packed monomials, each multiplied by a number that depends on its key
abbrev pub total_at : (Key → ℤ) → List Keyed → ℤ
total_at h [] = pos 0
total_at h (e ∷ es) = (e.coef *ℤ h e.key) +ℤ total_at h es

-- the greatest measure of a key
abbrev pub reach_at : (Key → ℕ) → List Keyed → ℕ
reach_at d [] = 0
reach_at d (e ∷ es) = max (d e.key) (reach_at d es)

-- the first list is the second one with monomials reordered and combined: they have the same sums, whatever number each
-- key gets, and the greatest measure of the first is at most that of the second
pub record IsMergedFrom (es fs : List Keyed) : Type 0 where
  pub totals : (h : Key → ℤ) → total_at h es ≡ total_at h fs
  pub reach : (d : Key → ℕ) → reach_at d es ≤ reach_at d fs

-- the sum of the absolute values of the coefficients
abbrev pub norm_at : List Keyed → ℕ
norm_at [] = 0
norm_at (e ∷ es) = nat_abs e.coef + norm_at es

-- a list has few packed monomials, and their sum has no coefficient over 2^63-1, so its only possible fault is its
-- degree
pub record IsModest (table : List ℕ) (es : List Keyed) : Type 0 where
  pub terms : length es ≤ monomial_limit
  pub coefficients : has_large (sum_of [] (monomials_at table es)) ≡ false

-- a list represents the product of another list, which is modest, with a factor
pub record IsNextPower (table : List ℕ) (IsLower : List Keyed → Type 0) (factor es : List Keyed) : Type 0 where
  pub before : List Keyed
  pub lower : IsLower before
  pub modest : IsModest table before
  pub product : IsMergedFrom es (all_products before factor)

-- a list represents a power of a factor, and those of the lower powers are modest
abbrev pub IsPowerAt : List ℕ → List Keyed → ℕ → List Keyed → Type 0
IsPowerAt table factor zero es = es ≡ record { key = no_factors; coef = pos 1 } ∷ []
IsPowerAt table factor (suc n) es = IsNextPower table (IsPowerAt table factor n) factor es
