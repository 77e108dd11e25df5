-- The listed places are exactly those that the answer reads.
use Rattle.std.proofs.Common.{◌≡◌, ◌⊎◌, inl, inr, ℕ, ◌+◌, ◌<◌, ◌≤◌, ◌||◌, Bool, true, false, cond, List, [], ◌∷◌, ◌++◌}
use Rattle.std.proofs.Common.{get_or, filter, All, Contains, Option, refl, sym, ◌∙◌, ap, arith}
use Rattle.std.specs.List.{range_with_len}
use Rattle.std.proofs.lemmas.Bool.{or_left, or_right}
use Rattle.std.proofs.lemmas.List.Elements.{All-nil, All-append, All-from_get_or, Contains-get_or, filter-append}
use Rattle.std.proofs.lemmas.List.Elements.{Contains-append_left, Contains-append_right, Contains-append_cases}
use Rattle.std.proofs.lemmas.List.FromFn.{length-range_with_len, get_or-range_with_len, map-range_with_len_more}
use Rattle.std.proofs.lemmas.List.{map-id, append_assoc}
use Rattle.model.specs.Entries.{is_in}
use Rattle.model.specs.Polynomials.{Polynomial}
use Rattle.model.proofs.Membership.{is_in-filter, filter-in, contains-is_in, is_in-contained, is_in-numbers}
use Rattle.model.proofs.Membership.{no_is_not_yes}
use Rattle.cert_types.specs.cert_rules.Nodes.{ResultVariable, SideBound}
use Rattle.cert_types.specs.cert_rules.Setting.{Setting}
use Rattle.cert_types.specs.cert_rules.ComposedSizes.{reads, poly_at}
use Rattle.its_graph.proofs.Elements.{none_in_empty}
use Rattle.local_size.specs.LocalAnswers.{Local, HasBound, IsUnboundedOn, HasHitLimit}
use Rattle.rvg_components.specs.Flows.{local_reads}
use Rattle.cert_types.specs.Reading.{places_read}
use Rattle.rvg_components.specs.Reading.{answer_reads}

-- a number among the first n is below n
below : (n j : ℕ) → is_in j (range_with_len 0 n) ≡ true → j < n
below n j h = go (contains-is_in (range_with_len 0 n) j h)
  where
    go : Contains (range_with_len 0 n) j → j < n
    go (k, low, e) =
        let within : k < n = omega (arith, low, length-range_with_len 0 n) in
        omega (arith, within, get_or-range_with_len 0 n k j within, e)

-- if a disjunction is true, one of its parts is
either : (a b : Bool) → a || b ≡ true → (a ≡ true) ⊎ (b ≡ true)
either true b h = inl refl
either false b h = inr h

-- each listed place is read by the side bound
side_bound-sound : (poly : Option Polynomial) (side_bound : SideBound) (left j : ℕ) → Contains (places_read poly side_bound left) j → (j < left) × (reads poly side_bound j ≡ true)
side_bound-sound poly side_bound left j h =
    let k = filter-in (λ i. reads poly side_bound i) (range_with_len 0 left) j (is_in-contained (places_read poly side_bound left) j h) in
    (below left j k.0, k.1)

-- each place that the side bound reads is listed
side_bound-listed : (poly : Option Polynomial) (side_bound : SideBound) (left j : ℕ) → j < left → reads poly side_bound j ≡ true → Contains (places_read poly side_bound left) j
side_bound-listed poly side_bound left j low h =
    contains-is_in (places_read poly side_bound left) j (is_in-filter (λ i. reads poly side_bound i) (range_with_len 0 left) j (is_in-numbers left j low) h)

-- each listed place is read by the answer
pub read-sound : (s : Setting) (result_variable : ResultVariable) (a : Local) (left j : ℕ) → Contains (answer_reads (poly_at s result_variable) a left) j → (j < left) × (local_reads s result_variable a j ≡ true)
read-sound s result_variable (HasBound l) left j h =
    go (Contains-append_cases (places_read (poly_at s result_variable) l.up left) (places_read (poly_at s result_variable) l.low left) j h)
  where
    go : Contains (places_read (poly_at s result_variable) l.up left) j ⊎ Contains (places_read (poly_at s result_variable) l.low left) j
        → (j < left) × (local_reads s result_variable (HasBound l) j ≡ true)
    go (inl c) = let k = side_bound-sound (poly_at s result_variable) l.up left j c in (k.0, or_left (reads (poly_at s result_variable) l.up j) (reads (poly_at s result_variable) l.low j) k.1)
    go (inr c) = let k = side_bound-sound (poly_at s result_variable) l.low left j c in (k.0, or_right (reads (poly_at s result_variable) l.up j) (reads (poly_at s result_variable) l.low j) k.1)
read-sound s result_variable (IsUnboundedOn side ray kept) left j h = absurd (none_in_empty j h)
read-sound s result_variable (HasHitLimit t) left j h = absurd (none_in_empty j h)

-- each place that the answer reads is listed
pub read-listed : (s : Setting) (result_variable : ResultVariable) (a : Local) (left j : ℕ) → j < left → local_reads s result_variable a j ≡ true → Contains (answer_reads (poly_at s result_variable) a left) j
read-listed s result_variable (HasBound l) left j low h = go (either (reads (poly_at s result_variable) l.up j) (reads (poly_at s result_variable) l.low j) h)
  where
    go : (reads (poly_at s result_variable) l.up j ≡ true) ⊎ (reads (poly_at s result_variable) l.low j ≡ true) → Contains (answer_reads (poly_at s result_variable) (HasBound l) left) j
    go (inl e) = Contains-append_left (places_read (poly_at s result_variable) l.up left) (places_read (poly_at s result_variable) l.low left) j (side_bound-listed (poly_at s result_variable) l.up left j low e)
    go (inr e) = Contains-append_right (places_read (poly_at s result_variable) l.up left) (places_read (poly_at s result_variable) l.low left) j (side_bound-listed (poly_at s result_variable) l.low left j low e)
read-listed s result_variable (IsUnboundedOn side ray kept) left j low h = absurd (no_is_not_yes false refl h)
read-listed s result_variable (HasHitLimit t) left j low h = absurd (no_is_not_yes false refl h)

-- the places that are read among one more
read_more : (poly : Option Polynomial) (side_bound : SideBound) (n : ℕ) → places_read poly side_bound (n + 1) ≡ places_read poly side_bound n ++ cond (reads poly side_bound n) (n ∷ []) []
read_more poly side_bound n =
    ap (filter (λ j. reads poly side_bound j)) (numbers-more 0 n n (omega arith)) ∙ filter-append (λ j. reads poly side_bound j) (range_with_len 0 n) (n ∷ [])
  where
    numbers-more : (a n j : ℕ) → a + n ≡ j → range_with_len a (n + 1) ≡ range_with_len a n ++ j ∷ []
    numbers-more a n j e = sym (map-id (range_with_len a (n + 1))) ∙ (map-range_with_len_more (λ i. i) a n j e ∙ ap (λ (xs : List ℕ). xs ++ j ∷ []) (map-id (range_with_len a n)))

-- after one more place is tested
pub read_pushed : (poly : Option Polynomial) (side_bound : SideBound) (n : ℕ) (first old new : List ℕ) (v : Bool) → old ≡ first ++ places_read poly side_bound n → v ≡ reads poly side_bound n
    → new ≡ old ++ cond v (n ∷ []) [] → new ≡ first ++ places_read poly side_bound (n + 1)
read_pushed poly side_bound n first old new v kept is pushed =
    pushed
    ∙ (ap (λ (xs : List ℕ). xs ++ cond v (n ∷ []) []) kept
    ∙ (append_assoc first (places_read poly side_bound n) (cond v (n ∷ []) [])
    ∙ ap (λ (xs : List ℕ). first ++ xs) (ap (λ (w : Bool). places_read poly side_bound n ++ cond w (n ∷ []) []) is ∙ sym (read_more poly side_bound n))))

-- all of these places are below the number of left variables
pub read-few : (poly : Option Polynomial) (a : Local) (left m : ℕ) → left ≤ m → All (λ j. j < m) (answer_reads poly a left)
read-few poly (HasBound l) left m low =
    All-append (λ j. j < m) (places_read poly l.up left) (places_read poly l.low left) (few l.up) (few l.low)
  where
    few : (side_bound : SideBound) → All (λ j. j < m) (places_read poly side_bound left)
    few side_bound = All-from_get_or (λ j. j < m) (places_read poly side_bound left) 0
        (λ i inside. let k = side_bound-sound poly side_bound left (get_or (places_read poly side_bound left) i 0) (Contains-get_or (places_read poly side_bound left) i 0 inside) in omega (arith, low, k.0))
read-few poly (IsUnboundedOn side ray kept) left m low = All-nil (λ j. j < m)
read-few poly (HasHitLimit t) left m low = All-nil (λ j. j < m)
