-- Nodes that bound a peak by a certificate, or by sizes, are sound.
use Rattle.std.proofs.Common.{◌≡◌, ◌⊎◌, inl, inr, ℕ, zero, suc, ◌+◌, ◌*◌, ◌<◌, ◌≤◌, ◌==◌, Bool, true, false, List, [], ◌∷◌, ◌++◌, Option, Some, None}
use Rattle.std.proofs.Common.{refl, sym, ◌∙◌, ap, subst, arith, length, map, mul-le-mul_left}
use Rattle.std.specs.Prelude.{ℤ, pos, negsuc, ◌+ℤ◌, ◌-ℤ◌, ◌*ℤ◌, ◌≤ℤ◌, ◌&&◌, if◌then◌else◌, nat_abs, slice_index_or, nat_lt}
use Rattle.std.specs.List.{AllByRecursion}
use Rattle.std.proofs.lemmas.Int.{ints}
use Rattle.std.proofs.lemmas.Bool.{true≢false, ltb-true}
use Rattle.potentials.specs.model.Terms.{Literal, Subtraction, value}
use Rattle.potentials.specs.model.Programs.{rule_at}
use Rattle.potentials.specs.model.Polynomials.{Monomial, Polynomial, product_value, monomial_value, polynomial_value}
use Rattle.potentials.specs.model.Paths.{pre}
use Rattle.potentials.specs.model.Spending.{or_zero}
use Rattle.potentials.specs.model.Runs.{Config, Step, IsRun, last_rule}
use Rattle.potentials.specs.model.Entries.{is_in}
use Rattle.potentials.specs.Sums.{variables_at}
use Rattle.potentials.specs.Potentials.{IsTaken}
use Rattle.potentials.proofs.PositiveParts.{le-or_zero}
use Rattle.potentials.proofs.NodeLaws.{rows, peak_bounds_above}
use Rattle.potentials.proofs.SumLaws.{variables-are}
use Rattle.potentials.proofs.model.Cases.{none_some, some_same}
use Rattle.potentials.proofs.model.Membership.{same_number-sound, is_in-contained, is_in-cases}
use Rattle.potentials.proofs.model.StepLaws.{listed}
use Rattle.signed_bounds.specs.Bounds.{Signed, Constant, SumOf, SignedParts, signed_val, signed_sum}
use Rattle.signed_bounds.specs.Safe.{IsSafe}
use Rattle.signed_bounds.specs.Within.{WithinHolds}
use Rattle.potential_nodes.specs.Lookup.{is_there, numbered}
use Rattle.potential_nodes.specs.PolynomialTerms.{form_term, all_below, reads_below}
use Rattle.potential_nodes.specs.Certificates.{shows}
use Rattle.potential_nodes.specs.Ground.{Ground, IsTrueGround}
use Rattle.potential_nodes.specs.Facts.{SignedFact, SumFact, PeakFact, SizeFact, HoldsSigned, HoldsSignedSize, AllSignedHold}
use Rattle.potential_nodes.specs.Checks.{Check, AllHold}
use Rattle.potential_nodes.specs.Tables.{PotentialTable}
use Rattle.potential_nodes.specs.PlainPeaks.{RowNode, row_checks, SizedNode, left_in, size_in, first_of_two, size_by, scaled_size}
use Rattle.potential_nodes.specs.PlainPeaks.{monomial_size, joined_part, polynomial_size, place_size, form_size, size_shape}
use Rattle.potential_nodes.specs.PlainPeaks.{is_within_parts, size_check, sized_checks}
use Rattle.potential_nodes.proofs.LookupLaws.{both-hold, is_there-some, all-map, all-append, all-numbered}
use Rattle.potential_nodes.proofs.CertificateLaws.{shown-holds}
use Rattle.potential_nodes.proofs.StepLaws.{variables-value}
use Rattle.potential_nodes.proofs.BoundLaws.{within-above}

-- a table without functions
no_table : PotentialTable
no_table = record { functions = []; den = 1; moves = [] }

-- a form is at most the number by which a certificate bounds it
row-low : (g : Ground) (n : RowNode) → IsTrueGround g → IsSafe g.is_safe → reads_below (g.variables n.rule) n.form ≡ true
    → shows g.is_safe (g.rows n.rule) n.certificate (Subtraction (Literal (pos n.number)) (form_term n.form)) ≡ true
    → (start : List ℤ) (c : Config) (s : Step) (d : Config) → IsTaken g.program start c s d → s.rule ≡ n.rule
    → polynomial_value n.form (c.values ++ s.free) ≤ℤ pos n.number
row-low g n ground safe reads test start c s d step same =
    let known = ground.each start c s d step in
    let z = (c.values ++ s.free) ++ known.more in
    let holds = subst (λ (t : ℕ). AllByRecursion (λ row. pos 0 ≤ℤ value row z) (g.rows t)) same known.rows in
    let shown = shown-holds g.is_safe safe (g.rows n.rule) n.certificate (Subtraction (Literal (pos n.number)) (form_term n.form)) test z holds in
    let is = variables-value g no_table c s d step.step known n.form
    (subst (λ (t : ℕ). reads_below (g.variables t) n.form ≡ true) (sym same) reads) in
    low _ _ _ is shown
  where
    low : (x y m : ℤ) → x ≡ y → pos 0 ≤ℤ (m -ℤ x) → y ≤ℤ m
    low x y m e k = omega (arith, ints, e, k)

pub row-holds : WithinHolds → (g : Ground) (n : RowNode) (b : Signed) → IsTrueGround g → IsSafe g.is_safe
    → AllHold (row_checks g n b) → HoldsSigned g.program (PeakFact n.rule n.form b)
row-holds within_holds g n b ground safe (reads, (shown, (test, none))) =
    peak_bounds_above g.program n.rule (λ env. polynomial_value n.form env) (λ start. n.number) (signed_val b)
    (λ start. within-above within_holds g.is_safe safe (Constant n.number) b test start)
    (rows g.program n.rule n.number (λ env. polynomial_value n.form env) (row-low g n ground safe reads shown))

-- an integer times a coefficient is at most the absolute coefficient times a bound on the integer's absolute value
product-size : (a x : ℤ) (m : ℕ) → nat_abs x ≤ m → (a *ℤ x) ≤ℤ pos (nat_abs a * m)
product-size (pos a) (pos x) m h = let up = mul-le-mul_left a h in omega (arith, ints, up)
product-size (pos a) (negsuc x) m h = omega (arith, ints)
product-size (negsuc a) (pos x) m h = omega (arith, ints)
product-size (negsuc a) (negsuc x) m h = let up = mul-le-mul_left (suc a) h in omega (arith, ints, up)

module _ (g : Ground) (facts : List SignedFact) (n : SizedNode) (hold : AllSignedHold g.program facts) where
  -- a size that a cited fact states holds
  size_in-holds : (e place : ℕ) (o : Option SignedFact) → ((fact : SignedFact) → o ≡ Some fact → HoldsSigned g.program fact)
      → (b : Signed) → size_in e place o ≡ Some b → HoldsSignedSize g.program e place (signed_val b)
  size_in-holds e place None holds b h = absurd (none_some _ h)
  size_in-holds e place (Some (SumFact goal b')) holds b h = absurd (none_some _ h)
  size_in-holds e place (Some (PeakFact rule form b')) holds b h = absurd (none_some _ h)
  size_in-holds e place (Some (SizeFact e' place' b')) holds b h = go ((e == e') && (place == place')) refl h
    where
      go : (v : Bool) → ((e == e') && (place == place')) ≡ v → (if v then Some b' else None) ≡ Some b
          → HoldsSignedSize g.program e place (signed_val b)
      go true same k =
          let both = both-hold (e == e') (place == place') same in
          subst (λ (x : Signed). HoldsSignedSize g.program e place (signed_val x)) (some_same _ _ k)
          (subst (λ (i : ℕ). HoldsSignedSize g.program e i (signed_val b')) (sym (same_number-sound place place' both.1))
          (subst (λ (t : ℕ). HoldsSignedSize g.program t place' (signed_val b')) (sym (same_number-sound e e' both.0)) (holds (SizeFact e' place' b') refl)))
      go false same k = absurd (none_some _ k)

  size_by-holds : (cited : List ℕ) (e place : ℕ) (b : Signed) → size_by facts cited e place ≡ Some b
      → HoldsSignedSize g.program e place (signed_val b)
  size_by-holds [] e place b h = absurd (none_some _ h)
  size_by-holds (k ∷ cited) e place b h =
      go (size_in e place (numbered facts k)) refl h (λ l. size_by-holds cited e place b l)
    where
      go : (o : Option Signed) → size_in e place (numbered facts k) ≡ o
          → first_of_two o (size_by facts cited e place) ≡ Some b
          → (size_by facts cited e place ≡ Some b → HoldsSignedSize g.program e place (signed_val b))
          → HoldsSignedSize g.program e place (signed_val b)
      go None found l ih = ih l
      go (Some b') found l ih =
          size_in-holds e place (numbered facts k)
          (λ fact is. all-numbered (λ x. HoldsSigned g.program x) facts k fact is hold) b (found ∙ l)

  module _ (start : List ℤ) (earlier : List Step) (c : Config) (run : IsRun g.program start earlier c) (free : List ℤ) where
    -- a variable of the rule's places is at most the size of its place
    variable-low : (i : ℕ) → i < length c.values → (b : Signed) → place_size facts n (last_rule earlier) i ≡ Some b
        → nat_abs (slice_index_or (c.values ++ free) i (pos 0)) ≤ signed_val b start
    variable-low i low b h =
        let size = (size_by-holds n.cited (last_rule earlier) (suc i) b h).each start earlier c run refl in
        subst (λ (z : ℤ). nat_abs z ≤ signed_val b start) (sym (front c.values i low)) size
      where
        front : (xs : List ℤ) (i : ℕ) → i < length xs → slice_index_or (xs ++ free) i (pos 0) ≡ slice_index_or xs i (pos 0)
        front [] i low = absurd (omega (arith, low))
        front (x ∷ xs) zero low = refl
        front (x ∷ xs) (suc i) low = front xs i (omega (arith, low))

    -- a monomial is at most its bound
    monomial-low : (m : Monomial) (vars : List ℕ) → all_below (length c.values) vars ≡ true → (b : Signed)
        → monomial_size (place_size facts n (last_rule earlier)) m vars ≡ Some b
        → (m.coef *ℤ product_value vars (c.values ++ free)) ≤ℤ pos (signed_val b start)
    monomial-low m [] reads b h =
        let is = ap (λ (x : Signed). signed_val x start) (some_same _ _ h) in
        let part = le-or_zero m.coef in
        constant m.coef (or_zero m.coef) (signed_val b start) part is
      where
        constant : (a : ℤ) (k l : ℕ) → a ≤ℤ pos k → k ≡ l → (a *ℤ pos 1) ≤ℤ pos l
        constant a k l h e = omega (arith, ints, h, e)
    monomial-low m (i ∷ []) reads b h = go (place_size facts n (last_rule earlier) i) refl h
      where
        low : i < length c.values
        low = ltb-true i (length c.values) (both-hold (nat_lt i (length c.values)) true reads).0

        go : (o : Option Signed) → place_size facts n (last_rule earlier) i ≡ o → scaled_size (nat_abs m.coef) o ≡ Some b
            → (m.coef *ℤ product_value (i ∷ []) (c.values ++ free)) ≤ℤ pos (signed_val b start)
        go None e k = absurd (none_some _ k)
        go (Some b') e k =
            let x = slice_index_or (c.values ++ free) i (pos 0) in
            let is = ap (λ (y : Signed). signed_val y start) (some_same _ _ k) in
            let part = product-size m.coef x (signed_val b' start) (variable-low i low b' e) in
            alone m.coef x (nat_abs m.coef) (signed_val b' start) (signed_val b start) part is
          where
            alone : (a x : ℤ) (k s l : ℕ) → (a *ℤ x) ≤ℤ pos (k * s) → k * (s * 1) ≡ l → (a *ℤ (x *ℤ pos 1)) ≤ℤ pos l
            alone a x k s l h e =
                let one : x *ℤ pos 1 ≡ x = omega (arith, ints) in
                let flat : k * (s * 1) ≡ k * s = ap (λ (v : ℕ). k * v) (omega arith) in
                subst (λ (y : ℤ). (a *ℤ y) ≤ℤ pos l) (sym one) (up (a *ℤ x) (k * s) l h (sym flat ∙ e))
              where
                up : (y : ℤ) (v w : ℕ) → y ≤ℤ pos v → v ≡ w → y ≤ℤ pos w
                up y v w h e = omega (arith, ints, h, e)
    monomial-low m (i ∷ j ∷ vars) reads b h = absurd (none_some _ h)

    -- a polynomial is at most the sum of its monomials' bounds
    polynomial-low : (q : Polynomial) → reads_below (length c.values) q ≡ true → (parts : SignedParts)
        → polynomial_size (place_size facts n (last_rule earlier)) q ≡ Some parts
        → polynomial_value q (c.values ++ free) ≤ℤ pos (signed_sum parts start)
    polynomial-low [] reads parts h = at_least (signed_sum parts start)
      where
        at_least : (k : ℕ) → pos 0 ≤ℤ pos k
        at_least k = omega (arith, ints)
    polynomial-low (m ∷ ms) reads parts h =
        go (monomial_size (place_size facts n (last_rule earlier)) m m.vars) refl (polynomial_size (place_size facts n (last_rule earlier)) ms) refl h
        (λ others k. polynomial-low ms both.1 others k)
      where
        both : (all_below (length c.values) m.vars ≡ true) × (reads_below (length c.values) ms ≡ true)
        both = both-hold (all_below (length c.values) m.vars) (reads_below (length c.values) ms) reads

        sum : (a b : ℤ) (k l t : ℕ) → a ≤ℤ pos k → b ≤ℤ pos l → k + l ≡ t → (a +ℤ b) ≤ℤ pos t
        sum a b k l t h i e = omega (arith, ints, h, i, e)

        go : (o : Option Signed) → monomial_size (place_size facts n (last_rule earlier)) m m.vars ≡ o → (r : Option SignedParts)
            → polynomial_size (place_size facts n (last_rule earlier)) ms ≡ r → joined_part o r ≡ Some parts
            → ((others : SignedParts) → polynomial_size (place_size facts n (last_rule earlier)) ms ≡ Some others
            → polynomial_value ms (c.values ++ free) ≤ℤ pos (signed_sum others start))
            → polynomial_value (m ∷ ms) (c.values ++ free) ≤ℤ pos (signed_sum parts start)
        go (Some b) e (Some others) f k ih =
            let is = ap (λ (x : SignedParts). signed_sum x start) (some_same _ _ k) in
            sum (monomial_value m (c.values ++ free)) (polynomial_value ms (c.values ++ free)) (signed_val b start) (signed_sum others start) (signed_sum parts start)
            (monomial-low m m.vars both.0 b e) (ih others f) is
        go (Some b) e None f k ih = absurd (none_some _ k)
        go None e r f k ih = absurd (none_some _ k)

-- a property of all numbers of a list is one of a number that is in it
all-contained : (P : ℕ → Type 0) (xs : List ℕ) → AllByRecursion P xs → (x : ℕ) → is_in x xs ≡ true → P x
all-contained P [] all x h = absurd (true≢false (sym h))
all-contained P (y ∷ ys) (first, others) x h = go (is_in-cases x y ys h) (λ m. all-contained P ys others x m)
  where
    go : (x ≡ y) ⊎ (is_in x ys ≡ true) → (is_in x ys ≡ true → P x) → P x
    go (inl same) ih = subst P (sym same) first
    go (inr m) ih = ih m

module _ (within_holds : WithinHolds) (g : Ground) (facts : List SignedFact) (n : SizedNode) (b : Signed)
    (safe : IsSafe g.is_safe) (hold : AllSignedHold g.program facts) (all : AllHold (sized_checks g facts n b)) where
  -- the form is at most the stated bound at a step by the rule
  sized-low : (start : List ℤ) (s : Step) (earlier : List Step) (d : Config) → IsRun g.program start (s ∷ earlier) d
      → s.rule ≡ n.rule → polynomial_value n.form (variables_at g.program start s earlier) ≤ℤ pos (signed_val b start)
  sized-low start s earlier d (c, run, step) same =
      let e = last_rule earlier in
      let parts = all-append (λ (c : Check). c.holds ≡ true) (map (size_shape facts n) (pre g.program n.rule)) (map (size_check g facts n b) (pre g.program n.rule)) all.1 in
      let shapes = all-map (size_shape facts n) (λ (c : Check). c.holds ≡ true) (pre g.program n.rule) parts.0 in
      let checks = all-map (size_check g facts n b) (λ (c : Check). c.holds ≡ true) (pre g.program n.rule) parts.1 in
      let inside = subst (λ (t : ℕ). is_in e (pre g.program t) ≡ true) same
      (is_in-contained (pre g.program s.rule) e (listed g.program start s earlier d (c, run, step))) in
      let there = is_there-some (form_size facts n e) (all-contained (λ (e : ℕ). is_there (form_size facts n e) ≡ true) (pre g.program n.rule) shapes e inside) in
      let test = all-contained (λ (e : ℕ). is_within_parts g (form_size facts n e) b ≡ true) (pre g.program n.rule) checks e inside in
      let fits = subst (λ (o : Option SignedParts). is_within_parts g o b ≡ true) there.1 test in
      let above = within-above within_holds g.is_safe safe (SumOf there.0) b fits start in
      let left = ap (λ (t : ℕ). left_in (rule_at g.program t)) (sym same) ∙ (ap left_in step.numbered ∙ sym step.leads.left) in
      let reads = subst (λ (k : ℕ). reads_below k n.form ≡ true) left all.0 in
      let low = polynomial-low g facts n hold start earlier c run s.free n.form reads there.0 there.1 in
      subst (λ (v : List ℤ). polynomial_value n.form v ≤ℤ pos (signed_val b start)) (variables-are g.program start s earlier c run)
      (through (polynomial_value n.form (c.values ++ s.free)) (signed_sum there.0 start) (signed_val b start) low above)
    where
      through : (z : ℤ) (k l : ℕ) → z ≤ℤ pos k → k ≤ l → z ≤ℤ pos l
      through z k l h i = omega (arith, ints, h, i)

  pub sized-holds : HoldsSigned g.program (PeakFact n.rule n.form b)
  sized-holds = record { each = sized-low }
