-- The goals of a rank question at parameters: the loss of the function that they represent by a rule.
use Rattle.std.proofs.Common.{◌≡◌, ℕ, zero, suc, ap, arith, refl, sym, ◌∙◌, Bool, true, false, List, [], ◌∷◌, map, ◌≢◌}
use Rattle.std.proofs.Common.{◌⊎◌, inl, inr, if◌then◌else◌, nat_eq, ◌&&◌}
use Rattle.std.specs.Prelude.{ℤ, pos, ◌+ℤ◌, ◌*ℤ◌, slice_index_or}
use Rattle.std.proofs.lemmas.Int.{ints}
use Rattle.std.proofs.Math.Dec.{eqb}
use Rattle.std.proofs.lemmas.Bool.{eq-eqb, ne_eqb}
use Rattle.std.proofs.lemmas.Bool.Decides.{eqb_tells}
use Rattle.linear_forms.proofs.int_laws.RingLaws.{mul-zero_ℤ, zero-mul_ℤ, mul-add_ℤ}
use Rattle.linear_forms.specs.Forms.{Form, at, list_dot}
use Rattle.linear_forms.specs.Combinations.{zero_form}
use Rattle.linear_forms.specs.RuleQuestions.{RuleForms, Coefficient, constant_form, unknown_form, before_rule}
use Rattle.linear_forms.specs.RuleQuestions.{after_rule, at_source, at_target}
use Rattle.rule_forms.specs.RankLaws.{coefficient}
use Rattle.rule_forms.proofs.Forms.{at-itself, at-other}
use Rattle.rule_forms.proofs.Totals.{dot-add, dot-none, dot-one}

-- a reading of forms: a number for each form, which is 0 for the form 0
pub record Reads (h : Form → ℤ) : Type 0 where
  pub zero : h zero_form ≡ pos 0

-- a reading of an element of a list, also past its end
pub read-at : (h : Form → ℤ) (fs : List Form) (k : ℕ) (e : Form)
    → slice_index_or (map h fs) k (h e) ≡ h (slice_index_or fs k e)
read-at h [] k e = refl
read-at h (f ∷ fs) zero e = refl
read-at h (f ∷ fs) (suc k) e = read-at h fs k e

-- the share of a parameter in the coefficient of place i at symbol s
abbrev pub share : Coefficient → ℤ → ℕ → ℕ → ℤ
share c x s i = if nat_eq c.symbol s && nat_eq c.place i then x else pos 0

-- the share of a parameter for another symbol is 0
pub share-elsewhere : (c : Coefficient) (x : ℤ) (s i : ℕ) → nat_eq c.symbol s ≡ false → share c x s i ≡ pos 0
share-elsewhere c x s i e = ap (λ b. if b && nat_eq c.place i then x else pos 0) e

-- the share of a parameter for another place is 0
pub share-other : (c : Coefficient) (x : ℤ) (s i : ℕ) → (c.place ≡ i → ⊥) → share c x s i ≡ pos 0
share-other c x s i h = go (nat_eq c.symbol s)
  where
    go : (b : Bool) → (if b && nat_eq c.place i then x else pos 0) ≡ pos 0
    go true = ap (λ b. if b then x else pos 0) (ne_eqb c.place i h)
    go false = refl

-- the share of the parameter for this symbol and place is the parameter
pub share-own : (c : Coefficient) (x : ℤ) (s i : ℕ) → nat_eq c.symbol s ≡ true → c.place ≡ i → share c x s i ≡ x
share-own c x s i e f =
    ap (λ b. if b && nat_eq c.place i then x else pos 0) e ∙ ap (λ b. if b then x else pos 0) (eq-eqb c.place i f)

-- a parameter's share in the function at the target
target-share : (h : Form → ℤ) → Reads h → (r : RuleForms) (c : Coefficient) (x : ℤ)
    → list_dot (map h r.new_values) (λ j. share c x r.target (suc j)) +ℤ h (constant_form (pos 1)) *ℤ share c x r.target 0
    ≡ h (at_target r c) *ℤ x
target-share h reads r c x = go (nat_eq c.symbol r.target) refl
  where
    none : (a b p : ℤ) → a ≡ pos 0 → b ≡ pos 0 → p ≡ pos 0 → a +ℤ b ≡ p
    none a b p e f g = omega (arith, ints, e, f, g)

    alone : (a b p : ℤ) → a ≡ pos 0 → b ≡ p → a +ℤ b ≡ p
    alone a b p e f = omega (arith, ints, e, f)

    before : (a b p : ℤ) → a ≡ p → b ≡ pos 0 → a +ℤ b ≡ p
    before a b p e f = omega (arith, ints, e, f)

    place : (i : ℕ) → c.place ≡ i → nat_eq c.symbol r.target ≡ true
        → list_dot (map h r.new_values) (λ j. share c x r.target (suc j)) +ℤ h (constant_form (pos 1)) *ℤ share c x r.target 0
        ≡ h (after_rule r i) *ℤ x
    place zero f e =
        alone _ _ _ (dot-none (map h r.new_values) _ (λ j. share-other c x r.target (suc j) (λ g. omega (arith, f, g))))
        (ap (λ (y : ℤ). h (constant_form (pos 1)) *ℤ y) (share-own c x r.target 0 e f))
    place (suc k) f e =
        before _ _ _
        (dot-one (map h r.new_values) k _ (λ j g. share-other c x r.target (suc j) (λ i. g (omega (arith, i, f))))
        ∙ (ap (λ (y : ℤ). at (map h r.new_values) k *ℤ y) (share-own c x r.target (suc k) e f)
        ∙ ap (λ (y : ℤ). y *ℤ x) (reading k)))
        (mul-zero_ℤ _ _ (share-other c x r.target 0 (λ g. omega (arith, f, g))))
      where
        reading : (k : ℕ) → at (map h r.new_values) k ≡ h (slice_index_or r.new_values k zero_form)
        reading k = ap (λ (y : ℤ). slice_index_or (map h r.new_values) k y) (sym reads.zero) ∙ read-at h r.new_values k zero_form

    go : (b : Bool) → nat_eq c.symbol r.target ≡ b
        → list_dot (map h r.new_values) (λ j. share c x r.target (suc j)) +ℤ h (constant_form (pos 1)) *ℤ share c x r.target 0
        ≡ h (if nat_eq c.symbol r.target then after_rule r c.place else zero_form) *ℤ x
    go true e = place c.place refl e ∙ ap (λ b. h (if b then after_rule r c.place else zero_form) *ℤ x) (sym e)
    go false e =
        none _ _ _ (dot-none (map h r.new_values) _ (λ j. share-elsewhere c x r.target (suc j) e))
        (mul-zero_ℤ _ _ (share-elsewhere c x r.target 0 e))
        (ap (λ b. h (if b then after_rule r c.place else zero_form) *ℤ x) e ∙ zero-mul_ℤ _ x reads.zero)

-- a reading of the function at the target is the sum of the readings of the goal forms there, each times its parameter
pub target-sum : (h : Form → ℤ) → Reads h → (r : RuleForms) (cs : List Coefficient) (v : ℕ → ℤ)
    → list_dot (map h r.new_values) (λ j. coefficient cs v r.target (suc j))
    +ℤ h (constant_form (pos 1)) *ℤ coefficient cs v r.target 0
    ≡ list_dot (map (λ c. h (at_target r c)) cs) v
target-sum h reads r [] v =
    none _ _ (dot-none (map h r.new_values) _ (λ j. refl)) (mul-zero_ℤ (h (constant_form (pos 1))) (pos 0) refl)
  where
    none : (a b : ℤ) → a ≡ pos 0 → b ≡ pos 0 → a +ℤ b ≡ pos 0
    none a b e f = omega (arith, ints, e, f)
target-sum h reads r (c ∷ cs) v =
    split _ _ (list_dot (map h r.new_values) (λ j. share c (v 0) r.target (suc j)))
    (list_dot (map h r.new_values) (λ j. coefficient cs (λ p. v (suc p)) r.target (suc j)))
    (h (constant_form (pos 1)) *ℤ share c (v 0) r.target 0)
    (h (constant_form (pos 1)) *ℤ coefficient cs (λ p. v (suc p)) r.target 0)
    (h (at_target r c) *ℤ v 0) (list_dot (map (λ k. h (at_target r k)) cs) (λ p. v (suc p)))
    (dot-add (map h r.new_values) (λ j. share c (v 0) r.target (suc j))
    (λ j. coefficient cs (λ p. v (suc p)) r.target (suc j)))
    (mul-add_ℤ (h (constant_form (pos 1))) (share c (v 0) r.target 0) (coefficient cs (λ p. v (suc p)) r.target 0))
    (target-share h reads r c (v 0)) (target-sum h reads r cs (λ p. v (suc p)))
  where
    split : (l m a b c d e f : ℤ) → l ≡ a +ℤ b → m ≡ c +ℤ d → a +ℤ c ≡ e → b +ℤ d ≡ f → l +ℤ m ≡ e +ℤ f
    split l m a b c d e f h i j k = omega (arith, ints, h, i, j, k)

-- a parameter's share in the coefficient of an unknown at the source
source-share : (r : RuleForms) (c : Coefficient) (x : ℤ) (u : ℕ)
    → share c x r.source (suc u) ≡ at (at_source r c).coefs u *ℤ x
source-share r c x u = go (nat_eq c.symbol r.source) refl
  where
    one : (a x : ℤ) → a ≡ pos 1 → x ≡ a *ℤ x
    one a x e = sym (ap (λ (y : ℤ). y *ℤ x) e ∙ plain x)
      where
        plain : (x : ℤ) → pos 1 *ℤ x ≡ x
        plain x = omega (arith, ints)

    none : (a : ℤ) → a ≡ pos 0 → pos 0 ≡ a *ℤ x
    none a e = sym (zero-mul_ℤ a x e)

    place : (i : ℕ) → c.place ≡ i → nat_eq c.symbol r.source ≡ true
        → share c x r.source (suc u) ≡ at (before_rule i).coefs u *ℤ x
    place zero f e = share-other c x r.source (suc u) (λ g. omega (arith, f, g)) ∙ none _ refl
    place (suc k) f e = which (eqb_tells k u)
      where
        which : ((eqb k u ≡ true) × (k ≡ u)) ⊎ ((eqb k u ≡ false) × (k ≢ u))
            → share c x r.source (suc u) ≡ at (unknown_form k).coefs u *ℤ x
        which (inl same) =
            share-own c x r.source (suc u) e (f ∙ ap (λ (n : ℕ). suc n) same.1)
            ∙ one _ x (ap (λ (n : ℕ). at (unknown_form k).coefs n) (sym same.1) ∙ at-itself k)
        which (inr other) =
            share-other c x r.source (suc u) (λ g. other.1 (omega (arith, f, g))) ∙ none _ (at-other k u other.1)

    go : (b : Bool) → nat_eq c.symbol r.source ≡ b
        → share c x r.source (suc u) ≡ at (if nat_eq c.symbol r.source then before_rule c.place
        else zero_form).coefs u *ℤ x
    go true e = place c.place refl e ∙ ap (λ b. at (if b then before_rule c.place else zero_form).coefs u *ℤ x) (sym e)
    go false e = share-elsewhere c x r.source (suc u) e
        ∙ (none _ refl ∙ ap (λ b. at (if b then before_rule c.place else zero_form).coefs u *ℤ x) (sym e))

-- a parameter's share in the constant at the source
source-constant : (r : RuleForms) (c : Coefficient) (x : ℤ) → share c x r.source 0 ≡ (at_source r c).constant *ℤ x
source-constant r c x = go (nat_eq c.symbol r.source) refl
  where
    one : (x : ℤ) → x ≡ pos 1 *ℤ x
    one x = omega (arith, ints)

    none : (x : ℤ) → pos 0 ≡ pos 0 *ℤ x
    none x = omega (arith, ints)

    place : (i : ℕ) → c.place ≡ i → nat_eq c.symbol r.source ≡ true
        → share c x r.source 0 ≡ (before_rule i).constant *ℤ x
    place zero f e = share-own c x r.source 0 e f ∙ one x
    place (suc k) f e = share-other c x r.source 0 (λ g. omega (arith, f, g)) ∙ none x

    go : (b : Bool) → nat_eq c.symbol r.source ≡ b
        → share c x r.source 0 ≡ (if nat_eq c.symbol r.source then before_rule c.place else zero_form).constant *ℤ x
    go true e = place c.place refl e ∙ ap (λ b. (if b then before_rule c.place else zero_form).constant *ℤ x) (sym e)
    go false e = share-elsewhere c x r.source 0 e
        ∙ (none x ∙ ap (λ b. (if b then before_rule c.place else zero_form).constant *ℤ x) (sym e))

-- each coefficient of the function at the source is the sum of those of the goal forms there, each times its parameter
pub source-sum : (r : RuleForms) (cs : List Coefficient) (v : ℕ → ℤ) (u : ℕ)
    → coefficient cs v r.source (suc u) ≡ list_dot (map (λ c. at (at_source r c).coefs u) cs) v
source-sum r [] v u = refl
source-sum r (c ∷ cs) v u = both _ _ _ _ (source-share r c (v 0) u) (source-sum r cs (λ p. v (suc p)) u)
  where
    both : (a b c d : ℤ) → a ≡ c → b ≡ d → a +ℤ b ≡ c +ℤ d
    both a b c d e f = omega (arith, ints, e, f)

-- the constant of the function at the source is the sum of those of the goal forms there, each times its parameter
pub source-constants : (r : RuleForms) (cs : List Coefficient) (v : ℕ → ℤ)
    → coefficient cs v r.source 0 ≡ list_dot (map (λ c. (at_source r c).constant) cs) v
source-constants r [] v = refl
source-constants r (c ∷ cs) v = both _ _ _ _ (source-constant r c (v 0)) (source-constants r cs (λ p. v (suc p)))
  where
    both : (a b c d : ℤ) → a ≡ c → b ≡ d → a +ℤ b ≡ c +ℤ d
    both a b c d e f = omega (arith, ints, e, f)
