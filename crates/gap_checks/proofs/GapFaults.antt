-- The first fault of a gap: what fails first, and the prepared rows of the rules.
use Rattle.std.proofs.Common.{◌≡◌, ◌≢◌, inl, inr, ℕ, zero, suc, ◌+◌, ◌<◌, ◌≤◌, ◌==◌, ◌||◌, Bool, true, cond}
use Rattle.std.proofs.Common.{List, [], ◌∷◌, length, map, take, get_or, Option, Some, None, option_map, refl, sym, ap, ◌∙◌}
use Rattle.std.proofs.Common.{subst, arith}
use Rattle.std.specs.Prelude.{slice_get, ℤ, nat_abs}
use Rattle.std.specs.List.{All, AllByRecursion}
use Rattle.std.proofs.lemmas.Bool.{ne_eqb, or_right}
use Rattle.std.proofs.lemmas.List.Elements.{All-nil, All-cons, All-head, All-tail}
use Rattle.std.proofs.lemmas.Option.{slice_get-map}
use Rattle.farkas_cert.specs.linear_forms.Forms.{Form}
use Rattle.farkas_cert.specs.linear_forms.RuleQuestions.{RuleForms}
use Rattle.farkas_cert.specs.model.Entries.{is_in}
use Rattle.farkas_cert.specs.model.Limits.{coefficient_limit, rule_limit}
use Rattle.farkas_cert.specs.model.Programs.{Program, Rule, rule_at}
use Rattle.farkas_cert.proofs.model.Membership.{same_number, slice_get-below}
use Rattle.its_model.specs.Valid.{IsValid}
use Rattle.farkas_cert.specs.Sizes.{row_limit, AreRowNumbers, HasRowNumbers}
use Rattle.guard_prep.specs.declared.rule_rows.RuleRows.{RuleRows}
use Rattle.guard_prep.specs.Laws.{IsSmallForm}
use Rattle.guard_prep.specs.Prepared.{Prepared, prepared, rows_of, new_values_of, unknowns_of}
use Rattle.guard_prep.specs.Views.{prepared_of}
use Rattle.guard_prep.proofs.SizeLaws.{rows-are-small}
use Rattle.guard_prep.proofs.StepLaws.{preparable}
use Rattle.cert_types.specs.cert_program.RankedSets.{forms_in, forms_at}
use Rattle.cert_types.specs.cert_rules.AcceptsPlain.{IsRule}
use Rattle.cert_types.specs.cert_rules.GapChecks.{HasGapShape, IsGapPoint, point_of}
use Rattle.cert_types.specs.cert_rules.Gaps.{ScaledPoint, Gap}
use Rattle.cert_types.specs.cert_rules.Numbers.{IsAscending}
use Rattle.cert_types.specs.cert_rules.Reasons.{CheckOf, for_each, IsFirstAmong}
use Rattle.cert_types.proofs.cert_rules.CheckLists.{in-each}
use Rattle.cert_types.proofs.cert_rules.GapPoints.{first-least, rest-ascends}
use Rattle.farkas_cert.specs.declared.scaled.Scaled.{Scaled}
use Rattle.cert_types.specs.AnswerViews.{scaled_of}
use Rattle.cert_types.specs.Composing.{AreRowsOf}
use Rattle.gap_checks.specs.GapTests.{forms_by_prepared_rule, forms_by, IsNear, AreNearPoints, HaveSmallRows, IsFirstFailing}

-- if all elements before an element hold, and it doesn't, it is the first failing one
pub failing-at : {A : Type 0} (P : A → Type 0) (xs : List A) (i : ℕ) (d : A) → i < length xs → All P (take i xs)
    → ¬ P (get_or xs i d) → IsFirstFailing P xs (get_or xs i d)
failing-at P [] i d l h n = absurd (omega (arith, l))
failing-at P (x ∷ xs) zero d l h n = inl (n, refl)
failing-at P (x ∷ xs) (suc i) d l h n =
    inr (All-head P x (take i xs) h, failing-at P xs i d (omega (arith, l)) (All-tail P x (take i xs) h) n)

-- two equivalent properties have the same first failing element
pub failing-agree : {A : Type 0} (P Q : A → Type 0) → ((x : A) → P x → Q x) → ((x : A) → Q x → P x) → (xs : List A)
    → (y : A) → IsFirstFailing P xs y → IsFirstFailing Q xs y
failing-agree P Q f g [] y h = h
failing-agree P Q f g (x ∷ xs) y (inl h) = inl ((λ q. h.0 (g x q)), h.1)
failing-agree P Q f g (x ∷ xs) y (inr h) = inr (f x h.0, failing-agree P Q f g xs y h.1)

-- if one property implies another, and holds of all elements, so does the other
pub all-agree : {A : Type 0} (P Q : A → Type 0) → ((x : A) → P x → Q x) → (xs : List A) → AllByRecursion P xs
    → AllByRecursion Q xs
all-agree P Q f [] h = tt
all-agree P Q f (x ∷ xs) h = (f x h.0, all-agree P Q f xs h.1)

module _ {R A : Type 0} (f : A → CheckOf R) (rest : List (CheckOf R)) where
  -- the first check that fails is that of the first failing element
  pub first-of-each : (xs : List A) (y : A) → IsFirstFailing (λ x. (f x).holds) xs y
      → IsFirstAmong (for_each f xs rest) (f y).reason
  first-of-each [] y h = absurd h
  first-of-each (x ∷ xs) y (inl h) = inl (h.0, ap (λ (z : A). (f z).reason) h.1)
  first-of-each (x ∷ xs) y (inr h) = inr (h.0, first-of-each xs y h.1)

  -- if the checks of all elements hold, the first check that fails is the first one of the rest
  pub behind-each : (xs : List A) (r : R) → AllByRecursion (λ x. (f x).holds) xs → IsFirstAmong rest r
      → IsFirstAmong (for_each f xs rest) r
  behind-each [] r h k = k
  behind-each (x ∷ xs) r h k = inr (h.0, behind-each xs r h.1 k)

-- the number at an index of a list is in the list
pub in-list : (xs : List ℕ) (i d : ℕ) → i < length xs → is_in (get_or xs i d) xs ≡ true
in-list [] i d l = absurd (omega (arith, l))
in-list (x ∷ xs) zero d l = ap (λ (v : Bool). v || is_in x xs) (same_number x)
in-list (x ∷ xs) (suc i) d l = or_right (get_or xs i d == x) (is_in (get_or xs i d) xs) (in-list xs i d (omega (arith, l)))

-- the point of the rule at an index of an ascending set is the one at that index
pub point-at : (ts : List ℕ) (zs : List ScaledPoint) (i d : ℕ) (e : ScaledPoint) → IsAscending ts
    → length zs ≡ length ts → i < length ts → point_of ts zs (get_or ts i d) ≡ get_or zs i e
point-at [] zs i d e a l h = absurd (omega (arith, h))
point-at (u ∷ ts) [] i d e a l h = absurd (omega (arith, l))
point-at (u ∷ ts) (z ∷ zs) zero d e a l h = ap (λ (v : Bool). cond v z (point_of ts zs u)) (same_number u)
point-at (u ∷ ts) (z ∷ zs) (suc i) d e a l h =
    ap (λ (v : Bool). cond v z (point_of ts zs (get_or ts i d)))
    (ne_eqb u (get_or ts i d) (λ k. omega (arith, k, first-least u ts a (get_or ts i d) (in-list ts i d (omega (arith, h))))))
    ∙ point-at ts zs i d e (rest-ascends u ts a) (omega (arith, l)) (omega (arith, h))

-- a list has an element at each position below its length
slice_get-reaches : {A : Type 0} (xs : List A) (i : ℕ) → i < length xs → slice_get xs i ≢ None
slice_get-reaches [] i l e = absurd (omega (arith, l))
slice_get-reaches (x ∷ xs) zero l e = absurd (let no : ⊥ = cc in no)
slice_get-reaches (x ∷ xs) (suc i) l e = slice_get-reaches xs i (omega (arith, l)) e

-- the number of a rule of the program is at least 1 and at most the number of rules
pub rule-range : (p : Program) (t : ℕ) → IsRule p t → (1 ≤ t) × (t ≤ length p.rules)
rule-range p t i = go t i.rule i.numbered
  where
    go : (u : ℕ) (r : Rule) → rule_at p u ≡ Some r → (1 ≤ u) × (u ≤ length p.rules)
    go zero r e = absurd (let no : ⊥ = cc in no)
    go (suc u) r e = (omega arith, omega (arith, slice_get-below p.rules u r e))

-- a number that is at least 1 and at most the number of rules is that of a rule
pub rule-within : (p : Program) (t : ℕ) → t ≢ 0 → t ≤ length p.rules → IsRule p t
rule-within p zero n l = absurd (n refl)
rule-within p (suc t) n l = go (slice_get p.rules t) refl
  where
    go : (o : Option Rule) → slice_get p.rules t ≡ o → IsRule p (suc t)
    go None e = absurd (let k = slice_get-reaches p.rules t (omega (arith, l)) in k e)
    go (Some r) e = record { rule = r; numbered = e }

-- an ascending list of numbers of rules is no longer than the program
rules-from : (p : Program) (x : ℕ) (ys : List ℕ) → IsAscending (x ∷ ys) → AllByRecursion (IsRule p) (x ∷ ys)
    → x + length ys ≤ length p.rules
rules-from p x [] a h = omega (arith, (rule-range p x h.0).1)
rules-from p x (y ∷ ys) a h = let k = rules-from p y ys a.1 h.1 in omega (arith, k, a.0)

pub set-short : (p : Program) (xs : List ℕ) → IsAscending xs → AllByRecursion (IsRule p) xs
    → length xs ≤ length p.rules
set-short p [] a h = omega arith
set-short p (x ∷ ys) a h = let k = rules-from p x ys a h in omega (arith, k, (rule-range p x h.0).0)

-- the forms of two rules that are equal except for their symbols and left variables
pub record AreAlike (r s : RuleForms) : Type 0 where
  pub unknowns : r.unknowns ≡ s.unknowns
  pub rows : r.rows ≡ s.rows
  pub new_values : r.new_values ≡ s.new_values

-- the prepared rows of a rule are its forms, except for its symbols and left variables
pub forms-alike : (p : Program) (prepared_rules : List RuleRows) → AreRowsOf prepared_rules p → (t : ℕ)
    → AreAlike (forms_at p t) (forms_by prepared_rules t)
forms-alike p prepared_rules h zero = record { unknowns = refl; rows = refl; new_values = refl }
forms-alike p prepared_rules h (suc t) =
    go (slice_get prepared_rules t) (slice_get p.rules t)
    (sym (slice_get-map prepared_of prepared_rules t)
    ∙ (ap (λ (ms : List Prepared). slice_get ms t) h ∙ slice_get-map prepared p.rules t))
  where
    go : (o : Option RuleRows) (q : Option Rule) → option_map prepared_of o ≡ option_map prepared q
        → AreAlike (forms_in q) (forms_by_prepared_rule o)
    go None None e = record { unknowns = refl; rows = refl; new_values = refl }
    go None (Some r) e = absurd (let no : ⊥ = cc in no)
    go (Some m) None e = absurd (let no : ⊥ = cc in no)
    go (Some m) (Some r) e =
        let same : prepared_of m ≡ prepared r = cc in record {
          unknowns = ap (λ (x : Prepared). x.unknowns) (sym same);
          rows = ap (λ (x : Prepared). x.rows) (sym same);
          new_values = ap (λ (x : Prepared). x.new_values) (sym same);
        }

-- a small form has numbers below 2^63
small-numbers : (n : ℕ) (f : Form) → IsSmallForm n f → HasRowNumbers f
small-numbers n f h = record { coefs = each f.coefs h.coefs; constant = omega (arith, h.constant) }
  where
    each : (xs : List ℤ) → AllByRecursion (λ a. nat_abs a ≤ coefficient_limit) xs → AreRowNumbers xs
    each [] k = All-nil (λ (x : ℤ). nat_abs x < row_limit)
    each (x ∷ xs) k = All-cons (λ (a : ℤ). nat_abs a < row_limit) x xs (omega (arith, k.0)) (each xs k.1)

-- each small form of a list has numbers below 2^63
all-numbers : (n : ℕ) (fs : List Form) → AllByRecursion (IsSmallForm n) fs → All HasRowNumbers fs
all-numbers n [] h = All-nil HasRowNumbers
all-numbers n (f ∷ fs) h = All-cons HasRowNumbers f fs (small-numbers n f h.0) (all-numbers n fs h.1)

-- points that are near stay near if the set and the points are replaced by equal lists
pub same-near : (xs ys : List ℕ) (zs ws : List Scaled) → xs ≡ ys → zs ≡ ws → AreNearPoints xs (map scaled_of zs)
    → AreNearPoints ys (map scaled_of ws)
same-near xs ys zs ws e f h =
    subst (λ (vs : List Scaled). AreNearPoints ys (map scaled_of vs)) f
    (subst (λ (ts : List ℕ). AreNearPoints ts (map scaled_of zs)) e h)

module _ (p : Program) (valid : IsValid p) where
  -- the rows and new values of a rule of a valid program have small numbers, and it has few unknowns
  small-rows : (t : ℕ) → All HasRowNumbers (forms_at p t).rows
  small-rows t = go (rule_at p t) refl
    where
      go : (o : Option Rule) → rule_at p t ≡ o → All HasRowNumbers (forms_in o).rows
      go None e = All-nil HasRowNumbers
      go (Some r) e = all-numbers (unknowns_of r) (rows_of r) (rows-are-small.rows r (preparable p t r valid e))

  small-new_values : (t : ℕ) → All HasRowNumbers (forms_at p t).new_values
  small-new_values t = go (rule_at p t) refl
    where
      go : (o : Option Rule) → rule_at p t ≡ o → All HasRowNumbers (forms_in o).new_values
      go None e = All-nil HasRowNumbers
      go (Some r) e = all-numbers (unknowns_of r) (new_values_of r) (rows-are-small.new_values r (preparable p t r valid e))

  few-unknowns : (t : ℕ) → (forms_at p t).unknowns ≤ 128
  few-unknowns t = go (rule_at p t) refl
    where
      go : (o : Option Rule) → rule_at p t ≡ o → (forms_in o).unknowns ≤ 128
      go None e = omega arith
      go (Some r) e = omega (arith, rows-are-small.few_unknowns r (preparable p t r valid e))

  -- a point of a gap is near
  pub gap-point-near : (t : ℕ) (z : ScaledPoint) → IsGapPoint (forms_at p t) z → IsNear z
  gap-point-near t z h = record {
    few = omega (arith, h.long, few-unknowns t);
    parts_limit = h.parts_limit;
    den_limit = h.den_limit;
  }

  -- the prepared rows of a valid program have small numbers
  pub have-small : (prepared_rules : List RuleRows) → AreRowsOf prepared_rules p → HaveSmallRows prepared_rules
  have-small prepared_rules h = record {
    rows = λ t. subst (All HasRowNumbers) (forms-alike p prepared_rules h t).rows (small-rows t);
    new_values = λ t. subst (All HasRowNumbers) (forms-alike p prepared_rules h t).new_values (small-new_values t);
  }

  -- the points of a gap whose shape is right are near
  pub near-moves : (g : Gap) → HasGapShape p (forms_at p) g → AreNearPoints g.set g.moves
  near-moves g h = record {
    ascending = h.ascending;
    long = h.one_move;
    near = λ t i. gap-point-near t (point_of g.set g.moves t) (h.moves t i);
  }

  pub near-kept : (g : Gap) → HasGapShape p (forms_at p) g → AreNearPoints g.set g.kept
  near-kept g h = record {
    ascending = h.ascending;
    long = h.one_kept;
    near = λ t i. gap-point-near t (point_of g.set g.kept t) (h.kept t i);
  }

  pub near-floor : (g : Gap) → HasGapShape p (forms_at p) g → IsNear g.floor
  near-floor g h = gap-point-near g.rule g.floor h.floor

  -- a gap whose shape is right has at most as many rules in its set as a program may have
  pub shape-short : (g : Gap) → HasGapShape p (forms_at p) g → length g.set ≤ rule_limit
  shape-short g h =
      omega (arith, set-short p g.set h.ascending (in-each (IsRule p) g.set h.rules), valid.few_rules)
