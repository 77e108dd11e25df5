-- An accepted node that covers a form is sound.
use Rattle.std.proofs.Common.{◌≡◌, ◌⊎◌, inl, inr, ℕ, ◌+◌, ◌*◌, ◌<◌, ◌≤◌, ◌==◌, max, Bool, true, false, List, [], ◌∷◌, ◌++◌, Option, Some, None}
use Rattle.std.proofs.Common.{refl, sym, ◌∙◌, ap, subst, arith, map, filter}
use Rattle.std.specs.Prelude.{ℤ, pos, ◌≤ℤ◌, ◌||◌, if◌then◌else◌}
use Rattle.std.specs.List.{AllByRecursion}
use Rattle.std.proofs.lemmas.Int.{ints}
use Rattle.std.proofs.lemmas.Bool.{cases_lt}
use Rattle.std.proofs.Math.Nat.{le-max_left, le-max_right, max-le}
use Rattle.potentials.specs.model.Terms.{Negation}
use Rattle.potentials.specs.model.Programs.{Program, rule_at}
use Rattle.potentials.specs.model.Polynomials.{Polynomial, polynomial_value}
use Rattle.potentials.specs.model.Paths.{source_in}
use Rattle.potentials.specs.Sums.{HoldsPeak, variables_at}
use Rattle.potentials.specs.Potentials.{Keeps, Resets, Never, nothing_paid}
use Rattle.potentials.specs.Nodes.{Bounding, first_level, AlwaysCovers, ResetsHavePeaks}
use Rattle.potentials.proofs.NodeLaws.{peaks, peak_bounds_above}
use Rattle.signed_bounds.specs.Bounds.{Signed, SumOf, SignedParts, NoParts, Part, signed_val, signed_sum, signed_maximum}
use Rattle.potentials.proofs.model.Cases.{none_some, some_same}
use Rattle.signed_bounds.specs.Safe.{IsSafe}
use Rattle.signed_bounds.specs.Within.{WithinHolds}
use Rattle.potential_nodes.specs.Lookup.{lookup, is_there}
use Rattle.potential_nodes.specs.PolynomialTerms.{form_term, reads_below}
use Rattle.potential_nodes.specs.Certificates.{shows}
use Rattle.potential_nodes.specs.Ground.{Ground, IsTrueGround}
use Rattle.potential_nodes.specs.Facts.{SignedFact, PeakFact, HoldsSigned, AllSignedHold, peak_bound, is_never}
use Rattle.potential_nodes.specs.Checks.{Check, check, AllHold, BadFloor}
use Rattle.potential_nodes.specs.Tables.{Move, rule_of, move_at, gain_in, kind_in, potential_of, has_function}
use Rattle.potential_nodes.specs.Tables.{floor_goal, table_shape, missing_checks, move_check, start_bound}
use Rattle.potential_nodes.specs.Falls.{cites_sum_by, gain_check, with_bound, gain_parts}
use Rattle.potential_nodes.specs.Peaks.{PeakNode, no_amounts, covered_shape, peak_cited, peak_cited_by, cites_peak_by, cited_shape}
use Rattle.potential_nodes.specs.Peaks.{keeps_function, sets_anew, kept_moves, reset_moves, peak_parts, head_check, head_checks}
use Rattle.potential_nodes.specs.Peaks.{peak_checks}
use Rattle.potential_nodes.specs.Laws.{PeaksAreSound}
use Rattle.potential_nodes.proofs.LookupLaws.{both-hold, is_there-some, lookup-all, all-map, all-append, all-weaker, all-both, all-filter}
use Rattle.potential_nodes.proofs.CheckLaws.{all-hold}
use Rattle.potential_nodes.proofs.FactLaws.{never-steps, peak_bound-holds}
use Rattle.potential_nodes.proofs.TableLaws.{TableHolds, table-holds, floor-holds, source-has, moves-hold}
use Rattle.potential_nodes.proofs.GainLaws.{HasGainBound, gains-bounded, potential-kept_gains, free-gain}
use Rattle.potential_nodes.proofs.FallLaws.{start-is, den-over_0}

-- the conditions that the checks of such a node ensure
record PeakHolds (g : Ground) (facts : List SignedFact) (n : PeakNode) (b : Signed) : Type 0 where
  pub table : TableHolds g n.potential no_amounts (is_never facts)
  pub shape : (covered_shape g n).holds ≡ true
  pub cited : AllByRecursion (λ m. (cited_shape facts m).holds ≡ true) n.potential.moves
  pub floor : shows g.is_safe (g.rows n.rule) n.floor (floor_goal g n.potential n.rule n.form) ≡ true
  pub gains : AllByRecursion (λ m. (gain_check g m).holds ≡ true) n.potential.moves
  pub first : (head_check g facts n.potential b (start_bound g n.potential)).holds ≡ true
  pub heads : AllHold (head_checks g facts n.potential b (peak_parts facts (reset_moves n.potential)))

-- if all checks hold, the conditions hold
peak-holds : (g : Ground) (facts : List SignedFact) (n : PeakNode) (b : Signed) → AllHold (peak_checks g facts n b)
    → PeakHolds g facts n b
peak-holds g facts n b all =
    let Holds : Check → Type 0 = λ (c : Check). c.holds ≡ true in
    let tab = n.potential in
    let heads = head_check g facts tab b (start_bound g tab) ∷ head_checks g facts tab b (peak_parts facts (reset_moves tab)) in
    let gains = map (gain_check g) tab.moves in
    let floor = check (BadFloor n.rule) (shows g.is_safe (g.rows n.rule) n.floor (floor_goal g tab n.rule n.form)) in
    let moves = map (move_check g tab no_amounts) tab.moves in
    let missing = missing_checks g tab (is_never facts) in
    let shape = covered_shape g n ∷ map (cited_shape facts) tab.moves in
    let one = all-append Holds (table_shape g tab ++ shape) (missing ++ (moves ++ (floor ∷ (gains ++ heads)))) all in
    let two = all-append Holds (table_shape g tab) shape one.0 in
    let three = all-append Holds missing (moves ++ (floor ∷ (gains ++ heads))) one.1 in
    let four = all-append Holds moves (floor ∷ (gains ++ heads)) three.1 in
    let five = all-append Holds gains heads four.1.1 in
    record {
      table = table-holds g tab no_amounts (is_never facts) two.0 three.0 four.0;
      shape = two.1.0;
      cited = all-map (cited_shape facts) Holds tab.moves two.1.1;
      floor = four.1.0;
      gains = all-map (gain_check g) Holds tab.moves five.0;
      first = five.1.0;
      heads = five.1.1;
    }

-- the maximum of some parts is at most that of the parts and one more
with-more : (o : Option Signed) (ps : SignedParts) (start : List ℤ) → signed_maximum ps start ≤ signed_maximum (with_bound o ps) start
with-more None ps start = omega arith
with-more (Some b) ps start = le-max_right (signed_val b start) (signed_maximum ps start)

-- the peak that a reset cites is among the levels that are checked
reset-listed : (facts : List SignedFact) (start : List ℤ) (t : ℕ) (m : Move) (moves : List Move)
    → lookup rule_of t moves ≡ Some m → m.keeps ≡ false → (b : Signed) → peak_cited facts m ≡ Some b
    → signed_val b start ≤ signed_maximum (peak_parts facts (filter sets_anew moves)) start
reset-listed facts start t m [] found resets b cited = absurd (none_some m found)
reset-listed facts start t m (x ∷ moves) found resets b cited =
    go (rule_of x == t) refl x.keeps refl (λ f. reset-listed facts start t m moves f resets b cited)
  where
    others : (k : Bool) → x.keeps ≡ k → signed_val b start ≤ signed_maximum (peak_parts facts (filter sets_anew moves)) start
        → signed_val b start ≤ signed_maximum (peak_parts facts (filter sets_anew (x ∷ moves))) start
    others true k ih = rw k ih
    others false k ih =
        let more = with-more (peak_cited facts x) (peak_parts facts (filter sets_anew moves)) start in
        rw k (omega (arith, ih, more))

    go : (v : Bool) → (rule_of x == t) ≡ v → (k : Bool) → x.keeps ≡ k
        → (lookup rule_of t moves ≡ Some m → signed_val b start ≤ signed_maximum (peak_parts facts (filter sets_anew moves)) start)
        → signed_val b start ≤ signed_maximum (peak_parts facts (filter sets_anew (x ∷ moves))) start
    go true e k kept ih =
        let same = some_same x m (rw e at found) in
        let anew = ap (λ (y : Move). y.keeps) same ∙ resets in
        let bound = ap (peak_cited facts) same ∙ cited in
        rw anew (subst (λ (o : Option Signed). signed_val b start
        ≤ signed_maximum (with_bound o (peak_parts facts (filter sets_anew moves))) start) (sym bound)
        (le-max_left (signed_val b start) (signed_maximum (peak_parts facts (filter sets_anew moves)) start)))
    go false e k kept ih = others k kept (ih (rw e at found))

-- a form that is never over 0 has any bound as its peak
free-peak : (p : Program) (t : ℕ) (q : Polynomial) (b : Bounding) → ((env : List ℤ) → polynomial_value q env ≤ℤ pos 0)
    → HoldsPeak p t (λ env. polynomial_value q env) b
free-peak p t q b low = record { each = λ start s earlier c run same. high (low (variables_at p start s earlier)) }
  where
    high : {z : ℤ} {n : ℕ} → z ≤ℤ pos 0 → z ≤ℤ pos n
    high h = omega (arith, ints, h)

-- the greatest of three numbers is the second, or at most the greater of the other two
greatest : (x v m : ℕ) → (max x (max v m) ≤ v) ⊎ (max x (max v m) ≤ max x m)
greatest x v m = go (cases_lt (max x m) v)
  where
    left : x ≤ max x m
    left = le-max_left x m

    right : m ≤ max x m
    right = le-max_right x m

    go : (max x m < v) ⊎ (v ≤ max x m) → (max x (max v m) ≤ v) ⊎ (max x (max v m) ≤ max x m)
    go (inl low) = inl (max-le (omega (arith, low, left)) (max-le (omega arith) (omega (arith, low, right))))
    go (inr high) = inr (max-le left (max-le high right))

module _ (g : Ground) (facts : List SignedFact) (n : PeakNode) (b : Signed) (ground : IsTrueGround g)
    (safe : IsSafe g.is_safe) (hold : AllSignedHold g.program facts) (checked : PeakHolds g facts n b) where
  -- the rule leaves a symbol with a function, and the form reads the rule's variables
  covered_parts : (has_function n.potential (source_in (rule_at g.program n.rule)) ≡ true) × (reads_below (g.variables n.rule) n.form ≡ true)
  covered_parts = both-hold (has_function n.potential (source_in (rule_at g.program n.rule))) (reads_below (g.variables n.rule) n.form) checked.shape

  -- the potential covers the form
  peak-covers : AlwaysCovers g.program (potential_of n.potential) n.potential.den n.rule (λ env. polynomial_value n.form env)
  peak-covers start = record {
    moves = moves-hold g n.potential no_amounts (is_never facts) ground safe checked.table
        (λ t h start c s d step same. never-steps g.program t facts hold h start c s d step same)
        nothing_paid (λ t env. refl) (λ t. refl) start;
    each = λ c s d step same. record {
      source = source-has g n.potential no_amounts (is_never facts) ground safe checked.table start c s d step n.rule same covered_parts.0;
      floor = floor-holds g n.potential no_amounts (is_never facts) ground safe checked.table start c s d step n.rule same n.form covered_parts.1 n.floor checked.floor;
    };
  }

  -- the gains of the moves that keep the function have bounds
  kept-bounds : AllByRecursion (λ m. HasGainBound g facts m) (kept_moves n.potential)
  kept-bounds = all-weaker
      (λ (m : Move). (((cited_shape facts m).holds ≡ true) × ((gain_check g m).holds ≡ true)) × (keeps_function m ≡ true))
      (λ (m : Move). HasGainBound g facts m)
      (λ m h. record {
        cites = subst (λ (v : Bool). (if v then cites_sum_by facts m m.cited else cites_peak_by facts m m.cited) ≡ true) h.1 h.0.0;
        free = h.0.1;
      }) (kept_moves n.potential)
      (all-filter (λ (m : Move). ((cited_shape facts m).holds ≡ true) × ((gain_check g m).holds ≡ true)) keeps_function n.potential.moves
      (all-both (λ (m : Move). (cited_shape facts m).holds ≡ true) (λ (m : Move). (gain_check g m).holds ≡ true) n.potential.moves checked.cited checked.gains))

  -- the greatest level that a reset reaches
  abbrev top : Bounding
  top start = signed_maximum (peak_parts facts (reset_moves n.potential)) start

  -- the gain of each reset has that level as its peak
  reset-peak : (t : ℕ) (m : Move) → move_at n.potential t ≡ Some m → m.keeps ≡ false
      → HoldsPeak g.program t (λ env. polynomial_value m.gain env) top
  reset-peak t m found resets =
      let cited = lookup-all rule_of (λ (m : Move). (cited_shape facts m).holds ≡ true) t n.potential.moves m found checked.cited in
      let gain = lookup-all rule_of (λ (m : Move). (gain_check g m).holds ≡ true) t n.potential.moves m found checked.gains in
      let cites = subst (λ (v : Bool). (if v then cites_sum_by facts m m.cited else cites_peak_by facts m m.cited) ≡ true) resets cited.0 in
      go m.cited refl cites gain.0 cited.1
    where
      bounded : (k : ℕ) → m.cited ≡ Some k → m.rule ≡ t → (b' : Signed) → peak_bound facts m.rule m.gain k ≡ Some b'
          → HoldsPeak g.program t (λ env. polynomial_value m.gain env) top
      bounded k e same b' bound =
          let peak = peak_bound-holds g.program facts hold m.rule m.gain k b' bound in
          let here = subst (λ (r : ℕ). HoldsPeak g.program r (λ env. polynomial_value m.gain env) (signed_val b')) same peak in
          peak_bounds_above g.program t (λ env. polynomial_value m.gain env) (signed_val b') top
          (λ start. reset-listed facts start t m n.potential.moves found resets b' (ap (peak_cited_by facts m) e ∙ bound)) here

      go : (o : Option ℕ) → m.cited ≡ o → cites_peak_by facts m o ≡ true
          → (is_there m.cited || g.is_safe (Negation (form_term m.gain))) ≡ true → m.rule ≡ t
          → HoldsPeak g.program t (λ env. polynomial_value m.gain env) top
      go (Some k) e cites free same =
          let found = is_there-some (peak_bound facts m.rule m.gain k) cites in bounded k e same found.0 found.1
      go None e cites free same =
          let test = subst (λ (o : Option ℕ). (is_there o || g.is_safe (Negation (form_term m.gain))) ≡ true) e free in
          free-peak g.program t m.gain top (free-gain g safe m.gain test)

  resets-have-peaks : ResetsHavePeaks g.program (potential_of n.potential) top
  resets-have-peaks = record { each = λ t resets. go t (move_at n.potential t) refl resets }
    where
      keeps_resets : Keeps ≡ Resets → ⊥
      keeps_resets e = cc

      never_resets : Never ≡ Resets → ⊥
      never_resets e = cc

      by_kind : (t : ℕ) (m : Move) → move_at n.potential t ≡ Some m → (v : Bool) → m.keeps ≡ v
          → (if v then Keeps else Resets) ≡ Resets → HoldsPeak g.program t (λ env. polynomial_value m.gain env) top
      by_kind t m found true e resets = absurd (keeps_resets resets)
      by_kind t m found false e resets = reset-peak t m found e

      go : (t : ℕ) (o : Option Move) → move_at n.potential t ≡ o → kind_in o ≡ Resets
          → HoldsPeak g.program t (λ env. polynomial_value (gain_in (move_at n.potential t)) env) top
      go t None e resets = absurd (never_resets resets)
      go t (Some m) e resets =
          subst (λ (o : Option Move). HoldsPeak g.program t (λ env. polynomial_value (gain_in o) env) top) (sym e)
          (by_kind t m e m.keeps refl resets)

  -- if the bound is high enough for each level, it is for the greatest
  head-enough : WithinHolds → (h : Signed) → (head_check g facts n.potential b h).holds ≡ true → (start : List ℤ) (k : ℕ)
      → n.potential.den * k ≤ signed_val h start + signed_sum (gain_parts facts (kept_moves n.potential)) start → k ≤ signed_val b start
  head-enough within_holds h test start k low =
      within_holds.each g.is_safe safe n.potential.den (SumOf (Part h (gain_parts facts (kept_moves n.potential)))) b
      (den-over_0 g n.potential no_amounts (is_never facts) checked.table) test start k low

  first-enough : WithinHolds → (start : List ℤ) (k : ℕ)
      → n.potential.den * k ≤ first_level g.program (potential_of n.potential) start + signed_sum (gain_parts facts (kept_moves n.potential)) start
      → k ≤ signed_val b start
  first-enough within_holds start k low =
      let is = start-is g n.potential start in
      head-enough within_holds (start_bound g n.potential) checked.first start k (omega (arith, low, is))

  heads-enough : WithinHolds → (heads : SignedParts) → AllHold (head_checks g facts n.potential b heads) → (start : List ℤ) (k : ℕ)
      → n.potential.den * k ≤ max (first_level g.program (potential_of n.potential) start) (signed_maximum heads start)
      + signed_sum (gain_parts facts (kept_moves n.potential)) start
      → k ≤ signed_val b start
  heads-enough within_holds NoParts all start k low =
      let none = max-le {a = first_level g.program (potential_of n.potential) start} {b = 0} {k = first_level g.program (potential_of n.potential) start} (omega arith) (omega arith) in
      first-enough within_holds start k (omega (arith, low, none))
  heads-enough within_holds (Part h heads) (first, others) start k low =
      go (greatest (first_level g.program (potential_of n.potential) start) (signed_val h start) (signed_maximum heads start))
      (λ l. heads-enough within_holds heads others start k l)
    where
      go : (max (first_level g.program (potential_of n.potential) start) (max (signed_val h start) (signed_maximum heads start)) ≤ signed_val h start)
          ⊎ (max (first_level g.program (potential_of n.potential) start) (max (signed_val h start) (signed_maximum heads start))
          ≤ max (first_level g.program (potential_of n.potential) start) (signed_maximum heads start))
          → (n.potential.den * k ≤ max (first_level g.program (potential_of n.potential) start) (signed_maximum heads start)
          + signed_sum (gain_parts facts (kept_moves n.potential)) start → k ≤ signed_val b start) → k ≤ signed_val b start
      go (inl above) ih = head-enough within_holds h first start k (omega (arith, low, above))
      go (inr below) ih = ih (omega (arith, low, below))

  -- the form is at most the stated bound at each step by the rule
  peak-bounded : WithinHolds → HoldsSigned g.program (PeakFact n.rule n.form b)
  peak-bounded within_holds =
      let sum = potential-kept_gains g.program n.potential (signed_sum (gain_parts facts (kept_moves n.potential)))
      (gains-bounded g facts safe hold (kept_moves n.potential) kept-bounds) in
      peaks g.program (potential_of n.potential) n.potential.den n.rule (λ env. polynomial_value n.form env) top
      (signed_sum (gain_parts facts (kept_moves n.potential))) (signed_val b)
      (den-over_0 g n.potential no_amounts (is_never facts) checked.table) peak-covers resets-have-peaks sum
      (record { each = λ start k low. heads-enough within_holds (peak_parts facts (reset_moves n.potential)) checked.heads start k low })

pub peaks-sound : WithinHolds → PeaksAreSound
peaks-sound within_holds g facts n b ground safe hold accepted =
    let checked = peak-holds g facts n b (all-hold (peak_checks g facts n b) accepted) in
    (peak-covers g facts n b ground safe hold checked, peak-bounded g facts n b ground safe hold checked within_holds)
