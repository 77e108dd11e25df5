-- The list of candidate facts contains each of them, in order, and no others.
use Rattle.std.proofs.Common.{◌≡◌, ◌≢◌, ◌⊎◌, inl, inr, ℕ, zero, suc, ◌+◌, ◌*◌, ◌<◌, ◌≤◌, refl, arith, subst, ap, ◌∙◌}
use Rattle.std.proofs.Common.{eq-eqb}
use Rattle.std.proofs.Common.{List, [], ◌∷◌, ◌++◌, length, Bool, true, false, if◌then◌else◌, Some}
use Rattle.std.specs.Prelude.{ℤ, pos, negsuc, ◌≤ℤ◌, nat_eq, slice_get}
use Rattle.std.specs.List.{Contains, range_with_len}
use Rattle.std.proofs.lemmas.Bool.{eqb-true, cases_lt}
use Rattle.std.proofs.lemmas.Int.{ints}
use Rattle.std.proofs.lemmas.Option.{slice_get-get_or}
use Rattle.std.proofs.lemmas.List.Elements.{Contains-append_left, Contains-append_right}
use Rattle.poly_terms.specs.model.Programs.{Program}
use Rattle.poly_terms.proofs.model.Cases.{some_same}
use Rattle.location_facts.specs.declared.fact.LocFact.{LocFact}
use Rattle.location_facts.specs.Candidates.{last_place, IsCandidate, order_number, with_places, with_plus, with_symbol}
use Rattle.location_facts.specs.Candidates.{candidates_at, candidates_among, candidates}
use Rattle.location_facts.specs.Laws.{CandidatesAreListed}

-- candidate facts in ascending order, with numbers from k on and below n
abbrev pub Between : Program → ℕ → ℕ → List LocFact → Type 0
Between p k n [] = k ≤ n
Between p k n (f ∷ facts) = IsCandidate p f × (k ≤ order_number f) × Between p (suc (order_number f)) n facts

-- such facts are in order from a lesser number on, and below a greater one
pub lower : (p : Program) (j k n : ℕ) (facts : List LocFact) → j ≤ k → Between p k n facts → Between p j n facts
lower p j k n [] l h = omega (arith, l, h)
lower p j k n (f ∷ facts) l (c, m, h) = (c, omega (arith, l, m), h)

higher : (p : Program) (k m n : ℕ) (facts : List LocFact) → m ≤ n → Between p k m facts → Between p k n facts
higher p k m n [] l h = omega (arith, l, h)
higher p k m n (f ∷ facts) l (c, g, h) = (c, g, higher p (suc (order_number f)) m n facts l h)

-- appended lists of such facts
joined : (p : Program) (k m n : ℕ) (facts more : List LocFact) → Between p k m facts → Between p m n more
    → Between p k n (facts ++ more)
joined p k m n [] more h g = lower p k m n more h g
joined p k m n (f ∷ facts) more (c, l, h) g = (c, l, joined p (suc (order_number f)) m n facts more h g)

-- the number of the first fact with a symbol and two places
abbrev first_number : ℕ → ℕ → ℕ → ℕ
first_number s i j = ((s * 9 + i) * 9 + j) * 3

module _ (p : Program) (s : ℕ) (here : s < length p.symbols) (other : s ≢ p.start) where
  -- the three facts with two places are in order
  places-between : (i j : ℕ) → i ≤ last_place p s → j ≤ last_place p s → i ≢ j
      → Between p (first_number s i j) (first_number s i j + 3) (with_places s i j)
  places-between i j l m differ = (
    tried (negsuc 0) (omega (arith, ints)) (omega (arith, ints)),
    omega arith,
    (
      tried (pos 0) (omega (arith, ints)) (omega (arith, ints)),
      omega arith,
      (tried (pos 1) (omega (arith, ints)) (omega (arith, ints)), omega arith, omega arith),
    ),
  )
    where
      tried : (k : ℤ) → negsuc 0 ≤ℤ k → k ≤ℤ pos 1
          → IsCandidate p (record { symbol = s; plus = i; minus = j; least = k })
      tried k low high = record {
        symbol = here;
        not_start = other;
        plus = l;
        minus = m;
        different = differ;
        low = low;
        high = high;
      }

  -- the facts with a plus, and a minus among n places from a on, are in order
  plus-between : (i n a : ℕ) → i ≤ last_place p s → a + n ≤ suc (last_place p s)
      → Between p (first_number s i a) (first_number s i (a + n)) (with_plus s i (range_with_len a n))
  plus-between i zero a l m = omega arith
  plus-between i (suc n) a l m =
      go (nat_eq i a) refl (plus-between i n (a + 1) l (omega (arith, m)))
    where
      go : (v : Bool) → nat_eq i a ≡ v
          → Between p (first_number s i (a + 1)) (first_number s i ((a + 1) + n))
          (with_plus s i (range_with_len (a + 1) n))
          → Between p (first_number s i a) (first_number s i (a + suc n))
          ((if v then [] else with_places s i a) ++ with_plus s i (range_with_len (a + 1) n))
      go true e h =
          lower p (first_number s i a) (first_number s i (a + 1)) (first_number s i (a + suc n))
          (with_plus s i (range_with_len (a + 1) n)) (omega arith)
          (higher p (first_number s i (a + 1)) (first_number s i ((a + 1) + n)) (first_number s i (a + suc n))
          (with_plus s i (range_with_len (a + 1) n)) (omega arith) h)
      go false e h =
          joined p (first_number s i a) (first_number s i a + 3) (first_number s i (a + suc n)) (with_places s i a)
          (with_plus s i (range_with_len (a + 1) n))
          (places-between i a l (omega (arith, m)) (λ same. absurd (let no : ⊥ = cc (eq-eqb i a same) in no)))
          (lower p (first_number s i a + 3) (first_number s i (a + 1)) (first_number s i (a + suc n))
          (with_plus s i (range_with_len (a + 1) n)) (omega arith)
          (higher p (first_number s i (a + 1)) (first_number s i ((a + 1) + n)) (first_number s i (a + suc n))
          (with_plus s i (range_with_len (a + 1) n)) (omega arith) h))

  -- the facts with a plus among n places from a on are in order
  symbol-between : (n a : ℕ) → a + n ≤ suc (last_place p s) → last_place p s ≤ 8
      → Between p ((s * 9 + a) * 27) ((s * 9 + (a + n)) * 27)
      (with_symbol s (range_with_len a n) (range_with_len 0 (suc (last_place p s))))
  symbol-between zero a m few = omega arith
  symbol-between (suc n) a m few =
      joined p ((s * 9 + a) * 27) ((s * 9 + (a + 1)) * 27) ((s * 9 + (a + suc n)) * 27)
      (with_plus s a (range_with_len 0 (suc (last_place p s))))
      (with_symbol s (range_with_len (a + 1) n) (range_with_len 0 (suc (last_place p s))))
      (lower p ((s * 9 + a) * 27) (first_number s a 0) ((s * 9 + (a + 1)) * 27)
      (with_plus s a (range_with_len 0 (suc (last_place p s)))) (omega arith)
      (higher p (first_number s a 0) (first_number s a (0 + suc (last_place p s))) ((s * 9 + (a + 1)) * 27)
      (with_plus s a (range_with_len 0 (suc (last_place p s)))) (omega (arith, few))
      (plus-between a (suc (last_place p s)) 0 (omega (arith, m)) (omega arith))))
      (higher p ((s * 9 + (a + 1)) * 27) ((s * 9 + ((a + 1) + n)) * 27) ((s * 9 + (a + suc n)) * 27)
      (with_symbol s (range_with_len (a + 1) n) (range_with_len 0 (suc (last_place p s)))) (omega arith)
      (symbol-between n (a + 1) (omega (arith, m)) few))

-- a symbol has at most eight places that facts speak of
few-places : (p : Program) (s : ℕ) → last_place p s ≤ 8
few-places p s = omega arith

-- the candidate facts at a symbol are in order
at-between : (p : Program) (s : ℕ) → s < length p.symbols → Between p (s * 243) ((s + 1) * 243) (candidates_at p s)
at-between p s here = go (nat_eq s p.start) refl
  where
    go : (v : Bool) → nat_eq s p.start ≡ v
        → Between p (s * 243) ((s + 1) * 243) (if v then [] else with_symbol s
        (range_with_len 0 (suc (last_place p s))) (range_with_len 0 (suc (last_place p s))))
    go true e = omega arith
    go false e =
        lower p (s * 243) ((s * 9 + 0) * 27) ((s + 1) * 243)
        (with_symbol s (range_with_len 0 (suc (last_place p s))) (range_with_len 0 (suc (last_place p s))))
        (omega arith)
        (higher p ((s * 9 + 0) * 27) ((s * 9 + (0 + suc (last_place p s))) * 27) ((s + 1) * 243)
        (with_symbol s (range_with_len 0 (suc (last_place p s))) (range_with_len 0 (suc (last_place p s))))
        (omega (arith, few-places p s))
        (symbol-between p s here (λ same. absurd (let no : ⊥ = cc (eq-eqb s p.start same) in no))
        (suc (last_place p s)) 0 (omega arith) (few-places p s)))

-- the candidate facts at n symbols from a on are in order
among-between : (p : Program) (n a : ℕ) → a + n ≤ length p.symbols
    → Between p (a * 243) ((a + n) * 243) (candidates_among p (range_with_len a n))
among-between p zero a m = omega arith
among-between p (suc n) a m =
    joined p (a * 243) ((a + 1) * 243) ((a + suc n) * 243) (candidates_at p a)
    (candidates_among p (range_with_len (a + 1) n)) (at-between p a (omega (arith, m)))
    (higher p ((a + 1) * 243) (((a + 1) + n) * 243) ((a + suc n) * 243)
    (candidates_among p (range_with_len (a + 1) n)) (omega arith) (among-between p n (a + 1) (omega (arith, m))))

-- such facts are candidates, and in order
pub each-tried : (p : Program) (k n : ℕ) (facts : List LocFact) (i : ℕ) (f : LocFact) → Between p k n facts
    → slice_get facts i ≡ Some f → IsCandidate p f × (k ≤ order_number f)
each-tried p k n [] i f h e = absurd (let no : ⊥ = cc in no)
each-tried p k n (g ∷ facts) zero f (c, l, h) e =
    subst (λ (x : LocFact). IsCandidate p x × (k ≤ order_number x)) (some_same g f e) (c, l)
each-tried p k n (g ∷ facts) (suc i) f (c, l, h) e =
    let t = each-tried p (suc (order_number g)) n facts i f h e in (t.0, omega (arith, l, t.1))

pub in-order : (p : Program) (k n : ℕ) (facts : List LocFact) (i : ℕ) (f g : LocFact) → Between p k n facts
    → slice_get facts i ≡ Some f → slice_get facts (suc i) ≡ Some g → order_number f < order_number g
in-order p k n [] i f g h e m = absurd (let no : ⊥ = cc in no)
in-order p k n (x ∷ facts) zero f g (c, l, h) e m =
    subst (λ (y : LocFact). order_number y < order_number g) (some_same x f e)
    (omega (arith, (each-tried p (suc (order_number x)) n facts 0 g h m).1))
in-order p k n (x ∷ facts) (suc i) f g (c, l, h) e m = in-order p (suc (order_number x)) n facts i f g h e m

-- a fact with two places is one of the three
in-places : (s i j : ℕ) (k : ℤ) → negsuc 0 ≤ℤ k → k ≤ℤ pos 1
    → Contains (with_places s i j) (record { symbol = s; plus = i; minus = j; least = k })
in-places s i j (pos zero) l h = (1, omega arith, refl)
in-places s i j (pos (suc zero)) l h = (2, omega arith, refl)
in-places s i j (pos (suc (suc n))) l h = absurd (omega (arith, ints, h))
in-places s i j (negsuc zero) l h = (0, omega arith, refl)
in-places s i j (negsuc (suc n)) l h = absurd (omega (arith, ints, l))

-- a fact is among those with its plus
in-plus : (s i j n a : ℕ) (f : LocFact) → i ≢ j → a ≤ j → j < a + n → Contains (with_places s i j) f
    → Contains (with_plus s i (range_with_len a n)) f
in-plus s i j zero a f differ l m h = absurd (omega (arith, l, m))
in-plus s i j (suc n) a f differ l m h =
    go (λ k. in-plus s i j n (a + 1) f differ (omega (arith, k)) (omega (arith, m)) h) (nat_eq i a) refl
    (cases_lt a j)
  where
    later : Contains (with_plus s i (range_with_len (a + 1) n)) f → (first : List LocFact)
        → Contains (first ++ with_plus s i (range_with_len (a + 1) n)) f
    later again first = Contains-append_right first (with_plus s i (range_with_len (a + 1) n)) f again

    go : (a < j → Contains (with_plus s i (range_with_len (a + 1) n)) f) → (v : Bool) → nat_eq i a ≡ v
        → (a < j) ⊎ (j ≤ a)
        → Contains ((if v then [] else with_places s i a) ++ with_plus s i (range_with_len (a + 1) n)) f
    go again true e (inl k) = later (again k) []
    go again false e (inl k) = later (again k) (with_places s i a)
    go again true e (inr k) =
        absurd (differ (let same = eqb-true i a e in omega (arith, same, l, k)))
    go again false e (inr k) =
        Contains-append_left (with_places s i a) (with_plus s i (range_with_len (a + 1) n)) f
        (subst (λ (x : ℕ). Contains (with_places s i x) f) (let same : j ≡ a = omega (arith, l, k) in same) h)

-- a fact is among those of its symbol
in-symbol : (s i n a : ℕ) (js : List ℕ) (f : LocFact) → a ≤ i → i < a + n → Contains (with_plus s i js) f
    → Contains (with_symbol s (range_with_len a n) js) f
in-symbol s i zero a js f l m h = absurd (omega (arith, l, m))
in-symbol s i (suc n) a js f l m h =
    go (λ k. in-symbol s i n (a + 1) js f (omega (arith, k)) (omega (arith, m)) h) (cases_lt a i)
  where
    go : (a < i → Contains (with_symbol s (range_with_len (a + 1) n) js) f) → (a < i) ⊎ (i ≤ a)
        → Contains (with_plus s a js ++ with_symbol s (range_with_len (a + 1) n) js) f
    go again (inl k) =
        Contains-append_right (with_plus s a js) (with_symbol s (range_with_len (a + 1) n) js) f (again k)
    go again (inr k) =
        Contains-append_left (with_plus s a js) (with_symbol s (range_with_len (a + 1) n) js) f
        (subst (λ (x : ℕ). Contains (with_plus s x js) f) (let same : i ≡ a = omega (arith, l, k) in same) h)

-- a candidate fact is among those at its symbol, which isn't the start symbol
in-at : (p : Program) (f : LocFact) → IsCandidate p f → Contains (candidates_at p f.symbol) f
in-at p f c = go (nat_eq f.symbol p.start) refl
  where
    there : Contains (with_symbol f.symbol (range_with_len 0 (suc (last_place p f.symbol)))
        (range_with_len 0 (suc (last_place p f.symbol)))) f
    there =
        in-symbol f.symbol f.plus (suc (last_place p f.symbol)) 0 (range_with_len 0 (suc (last_place p f.symbol))) f
        (omega arith) (omega (arith, c.plus))
        (in-plus f.symbol f.plus f.minus (suc (last_place p f.symbol)) 0 f c.different (omega arith)
        (omega (arith, c.minus)) (in-places f.symbol f.plus f.minus f.least c.low c.high))

    go : (v : Bool) → nat_eq f.symbol p.start ≡ v
        → Contains (if v then [] else with_symbol f.symbol (range_with_len 0 (suc (last_place p f.symbol)))
        (range_with_len 0 (suc (last_place p f.symbol)))) f
    go true e = absurd (c.not_start (eqb-true f.symbol p.start e))
    go false e = there

-- a candidate fact is among those of all symbols
in-among : (p : Program) (f : LocFact) (n a : ℕ) → a ≤ f.symbol → f.symbol < a + n
    → Contains (candidates_at p f.symbol) f → Contains (candidates_among p (range_with_len a n)) f
in-among p f zero a l m h = absurd (omega (arith, l, m))
in-among p f (suc n) a l m h =
    go (λ k. in-among p f n (a + 1) (omega (arith, k)) (omega (arith, m)) h) (cases_lt a f.symbol)
  where
    go : (a < f.symbol → Contains (candidates_among p (range_with_len (a + 1) n)) f)
        → (a < f.symbol) ⊎ (f.symbol ≤ a)
        → Contains (candidates_at p a ++ candidates_among p (range_with_len (a + 1) n)) f
    go again (inl k) =
        Contains-append_right (candidates_at p a) (candidates_among p (range_with_len (a + 1) n)) f (again k)
    go again (inr k) =
        Contains-append_left (candidates_at p a) (candidates_among p (range_with_len (a + 1) n)) f
        (subst (λ (x : ℕ). Contains (candidates_at p x) f) (let same : f.symbol ≡ a = omega (arith, l, k) in same) h)

-- all candidate facts have numbers below that after the last symbol
pub all-between : (p : Program) → Between p (0 * 243) ((0 + length p.symbols) * 243) (candidates p)
all-between p = among-between p (length p.symbols) 0 (omega arith)

-- the list of candidate facts contains each of them, in order, and no others
pub candidates-are-listed : CandidatesAreListed
candidates-are-listed = record {
  listed = λ p f. (
    λ h. (each-tried p (0 * 243) ((0 + length p.symbols) * 243) (candidates p) h.0 f (all-between p)
        (slice_get-get_or (candidates p) h.0 f h.1 ∙ ap Some h.2)).0,
    λ c. in-among p f (length p.symbols) 0 (omega arith) (omega (arith, c.symbol)) (in-at p f c),
  );
  ordered = λ p i f g e h.
      in-order p (0 * 243) ((0 + length p.symbols) * 243) (candidates p) i f g (all-between p) e
      (subst (λ (n : ℕ). slice_get (candidates p) n ≡ Some g) (let more : i + 1 ≡ suc i = omega arith in more) h);
}
