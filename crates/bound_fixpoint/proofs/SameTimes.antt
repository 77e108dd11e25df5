-- Tables with the same bounds wherever a ranking node reads: over them the node composes the same time and is accepted
-- alike; and the bounds that it reads are its premises.
use Rattle.std.proofs.Common.{◌≡◌, ◌≢◌, ℕ, zero, suc, ◌+◌, ◌==◌, Bool, true, false, List, [], ◌∷◌}
use Rattle.std.proofs.Common.{map, refl, sym, ◌∙◌, ap, subst, arith}
use Rattle.std.specs.Prelude.{ℤ, pos, nat_abs, Option}
use Rattle.std.proofs.lemmas.Bool.{or_left, or_right}
use Rattle.rule_questions.specs.int_laws.NormalForm.{is_zero}
use Rattle.rule_questions.specs.model.Programs.{Program}
use Rattle.rule_questions.specs.model.Bounds.{Bound, SumOf, ProductOf, Constant, Parts, Part}
use Rattle.rule_questions.specs.model.Entries.{is_in, entries}
use Rattle.rule_questions.specs.model.Paths.{target_of}
use Rattle.rule_questions.proofs.model.Entries.{listed-from}
use Rattle.rule_questions.proofs.model.Membership.{same_number, is_in-cases, no_is_not_yes}
use Rattle.rule_questions.specs.linear_forms.Forms.{at}
use Rattle.rule_questions.specs.rule_forms.Bounds.{height}
use Rattle.rule_questions.specs.cert_rules.Nodes.{RankNode}
use Rattle.rule_questions.specs.cert_rules.Numbers.{rounded_up}
use Rattle.rule_questions.specs.cert_rules.Known.{Table, known}
use Rattle.rule_questions.specs.cert_rules.Setting.{Setting}
use Rattle.rule_questions.specs.cert_rules.Limits.{IsSmallComposed}
use Rattle.rule_questions.specs.cert_rules.Composed.{both_parts, parts_for, place_parts, no_place, rank_form}
use Rattle.rule_questions.specs.cert_rules.Composed.{entry_bound, sizes_after}
use Rattle.rule_questions.specs.cert_rules.AcceptsRank.{AcceptsRank, rank_time}
use Rattle.bound_fixpoint.specs.Keys.{key, time_key, has_key}
use Rattle.bound_fixpoint.specs.Needs.{read_places, entry_premises, premises_of_all, rank_premises}
use Rattle.bound_fixpoint.proofs.Cases.{either, by_cases}
use Rattle.bound_fixpoint.proofs.Keys.{has_key-first, has_key-later, has_key-left, has_key-right}
use Rattle.rule_questions.proofs.int_laws.ZeroLaws.{is_zero-true as zero_decided}

-- bounds that agree at each place with a coefficient other than 0, if the place isn't left out, give the same parts
pub place_parts-same : (cs : List ℤ) (den : ℕ) (left_out : ℕ → Bool) (f g : ℕ → Bound)
    → ((j : ℕ) → at cs j ≢ pos 0 → left_out j ≡ false → f j ≡ g j)
    → place_parts cs den left_out f ≡ place_parts cs den left_out g
place_parts-same [] den left_out f g h = refl
place_parts-same (c ∷ cs) den left_out f g h =
    go (place_parts-same cs den (λ j. left_out (suc j)) (λ j. f (suc j)) (λ j. g (suc j)) (λ j k. h (suc j) k))
    (is_zero c) refl (left_out 0) refl
  where
    here : is_zero c ≡ false → left_out 0 ≡ false → f 0 ≡ g 0
    here n = h 0 (λ e. no_is_not_yes (is_zero c) n (ap is_zero e))

    go : place_parts cs den (λ j. left_out (suc j)) (λ j. f (suc j)) ≡ place_parts cs den (λ j. left_out (suc j))
        (λ j. g (suc j))
        → (v : Bool) → is_zero c ≡ v → (w : Bool) → left_out 0 ≡ w
        → place_parts (c ∷ cs) den left_out f ≡ place_parts (c ∷ cs) den left_out g
    go rest true e w k = rw e rest
    go rest false e true k = rw (e, k) rest
    go rest false e false k =
        rw (e, k) (ap (λ (b : Bound). Part (ProductOf (both_parts (Constant (rounded_up (nat_abs c) den)) b))
        (place_parts cs den (λ j. left_out (suc j)) (λ j. f (suc j)))) (here e k)
        ∙ ap (λ (bs : Parts). Part (ProductOf (both_parts (Constant (rounded_up (nat_abs c) den)) (g 0))) bs) rest)

-- the parts of bounds that agree at each number of a list agree
pub parts_for-same : (es : List ℕ) (f g : ℕ → Bound) → ((e : ℕ) → is_in e es ≡ true → f e ≡ g e)
    → parts_for f es ≡ parts_for g es
parts_for-same [] f g h = refl
parts_for-same (e ∷ es) f g h =
    ap (λ (b : Bound). Part b (parts_for f es)) (h e (or_left (e == e) (is_in e es) (same_number e)))
    ∙ ap (λ (bs : Parts). Part (g e) bs) (parts_for-same es f g (λ x m. h x (or_right (x == e) (is_in x es) m)))

module _ (s : Setting) (a b : Table) (node : RankNode)
    (times : (e : ℕ) → is_in e (entries s.program node.set) ≡ true → b.time e ≡ a.time e)
    (sizes : (e j : ℕ) → is_in e (entries s.program node.set) ≡ true
    → at (rank_form node.forms (target_of s.program e)).coefs j ≢ pos 0 → b.size e (suc j) ≡ a.size e (suc j)) where
  -- a node composes the same time over a table that agrees where it looks
  pub rank_time-same : rank_time s node b ≡ rank_time s node a
  rank_time-same =
      ap (λ (bs : Parts). SumOf bs) (parts_for-same (entries s.program node.set)
      (entry_bound s.program node b.time b.size) (entry_bound s.program node a.time a.size) each)
    where
      entry_with : ℕ → Option Bound → Parts → Bound
      entry_with e o bs =
          ProductOf (both_parts (known o)
          (SumOf (Part (Constant (rounded_up (height (rank_form node.forms (target_of s.program e)).constant) node.den))
          bs)))

      each : (e : ℕ) → is_in e (entries s.program node.set) ≡ true
          → entry_bound s.program node b.time b.size e ≡ entry_bound s.program node a.time a.size e
      each e m =
          ap (λ (o : Option Bound). entry_with e o (place_parts
          (rank_form node.forms (target_of s.program e)).coefs node.den no_place (sizes_after b.size e))) (times e m)
          ∙ ap (λ (bs : Parts). entry_with e (a.time e) bs)
          (place_parts-same (rank_form node.forms (target_of s.program e)).coefs node.den no_place
          (sizes_after b.size e) (sizes_after a.size e) (λ j reads inside. ap known (sizes e j m reads)))

  -- the node is accepted over one table if it is over the other
  pub rank_accepted : AcceptsRank s a node → AcceptsRank s b node
  rank_accepted ok = record {
    shape = ok.shape;
    moves = ok.moves;
    floor = ok.floor;
    times = λ e h. let k = ok.times e h in (k.0, times e (listed-from s.program node.set e h) ∙ k.1);
    sizes = λ e h j reads. let k = ok.sizes e h j reads in
        (k.0, sizes e j (listed-from s.program node.set e h) reads ∙ k.1);
    small = subst (λ (x : Bound). IsSmallComposed s.rewrite x) (sym rank_time-same) ok.small;
  }

-- the places that a form reads are those whose coefficient isn't 0
pub read-in : (cs : List ℤ) (i j : ℕ) → at cs j ≢ pos 0 → is_in (j + i) (read_places i cs) ≡ true
read-in [] i j h = absurd (h refl)
read-in (c ∷ cs) i zero h =
    subst (λ (m : ℕ). is_in m (read_places i (c ∷ cs)) ≡ true) (omega arith)
    (by_cases (is_zero c) (λ e. absurd (h (zero_decided c e))) here)
  where
    here : is_zero c ≡ false → is_in i (read_places i (c ∷ cs)) ≡ true
    here e = rw e (or_left (i == i) (is_in i (read_places (suc i) cs)) (same_number i))
read-in (c ∷ cs) i (suc k) h =
    go (is_zero c) refl (subst (λ (m : ℕ). is_in m (read_places (suc i) cs) ≡ true) (omega arith)
    (read-in cs (suc i) k h))
  where
    go : (v : Bool) → is_zero c ≡ v → is_in (suc k + i) (read_places (suc i) cs) ≡ true
        → is_in (suc k + i) (read_places i (c ∷ cs)) ≡ true
    go true e m = rw e m
    go false e m = rw e (or_right (suc k + i == i) (is_in (suc k + i) (read_places (suc i) cs)) m)

module _ (p : Program) (node : RankNode) where
  -- the coefficients of the function where an entry leads to
  abbrev coefs_at : ℕ → List ℤ
  coefs_at e = (rank_form node.forms (target_of p e)).coefs

  -- the key of a place among some after an entry
  place_among : (e i : ℕ) (is : List ℕ) → is_in i is ≡ true → has_key (map (λ k. key e k) is) e i ≡ true
  place_among e i [] m = absurd (no_is_not_yes false refl m)
  place_among e i (k ∷ is) m =
      either (is_in-cases i k is m)
      (λ same. subst (λ (n : ℕ). has_key (key e k ∷ map (λ n. key e n) is) e n ≡ true) (sym same)
      (has_key-first (key e k) (map (λ n. key e n) is)))
      (λ later. has_key-later (key e k) (map (λ n. key e n) is) e i (place_among e i is later))

  -- the premises of an entry are among all premises
  entry_among : (es : List ℕ) (e t i : ℕ) → is_in e es ≡ true → has_key (entry_premises p node e) t i ≡ true
      → has_key (premises_of_all p node es) t i ≡ true
  entry_among [] e t i m h = absurd (no_is_not_yes false refl m)
  entry_among (x ∷ es) e t i m h =
      either (is_in-cases e x es m)
      (λ same. has_key-left (entry_premises p node x) (premises_of_all p node es) t i
      (subst (λ (n : ℕ). has_key (entry_premises p node n) t i ≡ true) same h))
      (λ later. has_key-right (entry_premises p node x) (premises_of_all p node es) t i (entry_among es e t i later h))

  -- each entry's time is a premise of the node
  pub time_needed : (e : ℕ) → is_in e (entries p node.set) ≡ true → has_key (rank_premises p node) e 0 ≡ true
  time_needed e m =
      entry_among (entries p node.set) e e 0 m
      (has_key-first (time_key e) (map (λ i. key e i) (read_places 1 (coefs_at e))))

  -- an entry's size at each place whose coefficient isn't 0 is a premise
  pub size_needed : (e j : ℕ) → is_in e (entries p node.set) ≡ true
      → at (rank_form node.forms (target_of p e)).coefs j ≢ pos 0 → has_key (rank_premises p node) e (suc j) ≡ true
  size_needed e j m reads =
      entry_among (entries p node.set) e e (suc j) m
      (has_key-later (time_key e) (map (λ i. key e i) (read_places 1 (coefs_at e))) e (suc j)
      (place_among e (suc j) (read_places 1 (coefs_at e))
      (subst (λ (k : ℕ). is_in k (read_places 1 (coefs_at e)) ≡ true) (omega arith) (read-in (coefs_at e) 1 j reads))))
