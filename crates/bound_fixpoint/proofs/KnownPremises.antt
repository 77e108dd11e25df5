-- The premises of an accepted node are known.
use Rattle.std.proofs.Common.{◌≡◌, ◌≢◌, ◌⊎◌, inl, inr, ℕ, zero, suc, ◌+◌, ◌==◌, ◌||◌, Some, Bool, true, false, List, []}
use Rattle.std.proofs.Common.{◌∷◌}
use Rattle.std.proofs.Common.{map, refl, sym, ap, subst, arith, All}
use Rattle.std.specs.Prelude.{ℤ, pos}
use Rattle.std.specs.List.{AllByRecursion}
use Rattle.std.proofs.lemmas.Bool.{or_left, or_right}
use Rattle.std.proofs.lemmas.List.Elements.{All-nil, All-cons, All-append, All-map, recursion_from_All}
use Rattle.rule_questions.specs.int_laws.NormalForm.{is_zero}
use Rattle.rule_questions.specs.model.Programs.{Program}
use Rattle.rule_questions.specs.model.Entries.{is_in, entries}
use Rattle.rule_questions.specs.model.Paths.{target_of}
use Rattle.rule_questions.proofs.model.Entries.{listed-sound}
use Rattle.rule_questions.proofs.model.Membership.{same_number, is_in-cases, no_is_not_yes, filter-in}
use Rattle.rule_questions.specs.linear_forms.Forms.{at}
use Rattle.rule_questions.specs.cert_rules.Nodes.{ResultVariable, Member, RankNode}
use Rattle.rule_questions.specs.cert_rules.Known.{IsKnown}
use Rattle.rule_questions.specs.cert_rules.Setting.{Setting}
use Rattle.rule_questions.specs.cert_rules.Composed.{rank_form}
use Rattle.rule_questions.specs.cert_rules.ComposedSizes.{rules_of, flows, multiplies, adds}
use Rattle.rule_questions.specs.cert_rules.Checks.{needed_into, needed_times}
use Rattle.rule_questions.specs.cert_rules.AcceptsRank.{AcceptsRank}
use Rattle.rule_questions.specs.cert_rules.AcceptsSizes.{HasSizesBefore, AcceptsSpread, AcceptsCycle}
use Rattle.rule_questions.proofs.cert_rules.FirstReasons.{HasSize}
use Rattle.rule_questions.proofs.cert_rules.SizeReasons.{known-members}
use Rattle.bound_fixpoint.specs.Keys.{Bounds, key, time_key, at_key, size_by, over}
use Rattle.bound_fixpoint.specs.Needs.{read_places, entry_premises, premises_of_all, rank_premises, spread_premises, cycle_premises}

-- a property of each number in a list is one of all
pub of_each_in : (P : ℕ → Type 0) (ns : List ℕ) → ((n : ℕ) → is_in n ns ≡ true → P n) → All P ns
of_each_in P [] each = All-nil P
of_each_in P (n ∷ ns) each =
    All-cons P n ns (each n (or_left (n == n) (is_in n ns) (same_number n)))
    (of_each_in P ns (λ m k. each m (or_right (m == n) (is_in m ns) k)))

-- the places that a form reads are those whose coefficient isn't 0
in-read : (cs : List ℤ) (i n : ℕ) → is_in n (read_places i cs) ≡ true → (j : ℕ) × (n ≡ j + i) × (at cs j ≢ pos 0)
in-read [] i n h = absurd (no_is_not_yes false refl h)
in-read (c ∷ cs) i n h = go (is_zero c) refl (in-read cs (suc i) n)
  where
    later : ((j : ℕ) × (n ≡ j + suc i) × (at cs j ≢ pos 0)) → (j : ℕ) × (n ≡ j + i) × (at (c ∷ cs) j ≢ pos 0)
    later (j, e, reads) = (suc j, omega (arith, e), reads)

    here : is_zero c ≡ false → (n ≡ i) ⊎ (is_in n (read_places (suc i) cs) ≡ true)
        → (is_in n (read_places (suc i) cs) ≡ true → (j : ℕ) × (n ≡ j + suc i) × (at cs j ≢ pos 0))
        → (j : ℕ) × (n ≡ j + i) × (at (c ∷ cs) j ≢ pos 0)
    here e (inl same) ih = (zero, omega (arith, same), λ z. no_is_not_yes (is_zero c) e (ap is_zero z))
    here e (inr m) ih = later (ih m)

    go : (v : Bool) → is_zero c ≡ v
        → (is_in n (read_places (suc i) cs) ≡ true → (j : ℕ) × (n ≡ j + suc i) × (at cs j ≢ pos 0))
        → (j : ℕ) × (n ≡ j + i) × (at (c ∷ cs) j ≢ pos 0)
    go true e ih = later (ih (rw e at h))
    go false e ih = here e (is_in-cases n i (read_places (suc i) cs) (rw e at h)) ih

-- a size in the table is a bound
size_known : (b : Bounds) (t i : ℕ) → IsKnown (size_by b t i) → IsKnown (b t i)
size_known b t zero (x, e) = absurd (none e)
  where
    none : size_by b t zero ≡ Some x → ⊥
    none k = cc
size_known b t (suc i) h = h

module _ (b : Bounds) where
  -- the bound of a key is known
  abbrev pub IsKnownAt : ResultVariable → Type 0
  IsKnownAt k = IsKnown (at_key b k)

  module _ (p : Program) (node : RankNode) where
    -- the coefficients of the function after an entry
    abbrev coefs_at : ℕ → List ℤ
    coefs_at e = (rank_form node.forms (target_of p e)).coefs

    -- the premises of an entry are known
    entry_known : (e : ℕ) → IsKnown (b e 0) → ((j : ℕ) → at (coefs_at e) j ≢ pos 0
        → IsKnown (b e (suc j))) → All IsKnownAt (entry_premises p node e)
    entry_known e time sizes =
        All-cons IsKnownAt (time_key e) (map (λ i. key e i) (read_places 1 (coefs_at e))) time
        (All-map IsKnownAt (λ i. key e i) (read_places 1 (coefs_at e))
        (of_each_in (λ i. IsKnown (b e i)) (read_places 1 (coefs_at e)) read))
      where
        read : (i : ℕ) → is_in i (read_places 1 (coefs_at e)) ≡ true → IsKnown (b e i)
        read i m =
            let place = in-read (coefs_at e) 1 i m in
            let same : i ≡ suc place.0 = omega (arith, place.1) in
            subst (λ (k : ℕ). IsKnown (b e k)) (sym same) (sizes place.0 place.2)

    -- the premises of all entries are known
    entries_known : (es : List ℕ) → ((e : ℕ) → is_in e es ≡ true → IsKnown (b e 0))
        → ((e : ℕ) → is_in e es ≡ true → (j : ℕ) → at (coefs_at e) j ≢ pos 0
        → IsKnown (b e (suc j))) → All IsKnownAt (premises_of_all p node es)
    entries_known [] times sizes = All-nil IsKnownAt
    entries_known (e ∷ es) times sizes =
        All-append IsKnownAt (entry_premises p node e) (premises_of_all p node es)
        (entry_known e (times e first) (sizes e first))
        (entries_known es (λ x m. times x (or_right (x == e) (is_in x es) m))
        (λ x m. sizes x (or_right (x == e) (is_in x es) m)))
      where
        first : is_in e (e ∷ es) ≡ true
        first = or_left (e == e) (is_in e es) (same_number e)

  -- these places have sizes
  pub sizes_known : (keys : List ResultVariable) → AllByRecursion (HasSize (over b)) keys → All IsKnownAt keys
  sizes_known [] h = All-nil IsKnownAt
  sizes_known (k ∷ keys) h = All-cons IsKnownAt k keys (size_known b k.rule k.place h.0) (sizes_known keys h.1)

  module _ (s : Setting) where
    -- the premises of an accepted ranking node are known
    pub rank_known : (node : RankNode) → AcceptsRank s (over b) node → All IsKnownAt (rank_premises s.program node)
    rank_known node ok =
        entries_known s.program node (entries s.program node.set)
        (λ e m. ok.times e (listed-sound s.program node.set e m))
        (λ e m j reads. ok.sizes e (listed-sound s.program node.set e m) j reads)

    -- the premises of an accepted spread node are known
    pub spread_known : (m : Member) → AcceptsSpread s (over b) m → All IsKnownAt (spread_premises s m)
    spread_known m ok =
        sizes_known (needed_into s [] (m ∷ [])) (known-members s (over b) [] (m ∷ []) (ok.sizes, tt))

    -- the premises of an accepted loop node are known
    pub cycle_known : (members : List Member) → AcceptsCycle s (over b) members
        → All IsKnownAt (cycle_premises s (over b) members)
    cycle_known members ok =
        All-append IsKnownAt (needed_into s members members) (map time_key (needed_times s (over b) members))
        (sizes_known (needed_into s members members)
        (known-members s (over b) members members
        (recursion_from_All (HasSizesBefore s (over b) members) members ok.sizes)))
        (All-map IsKnownAt time_key (needed_times s (over b) members)
        (of_each_in (λ t. IsKnown (b t 0)) (needed_times s (over b) members) times))
      where
        times : (t : ℕ) → is_in t (needed_times s (over b) members) ≡ true → IsKnown (b t 0)
        times t i =
            let k = filter-in
            (λ u. multiplies (flows s members (over b).size) u || adds s (flows s members (over b).size) u)
            (rules_of s members) t i in
            ok.times t k.0 k.1
