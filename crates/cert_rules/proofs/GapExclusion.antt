-- A gap that holds excludes every ranking function: its moves and its floor refute the question for one.
use Rattle.std.proofs.Common.{◌≡◌, ◌≢◌, ◌⊎◌, inl, inr, ℕ, zero, suc, ◌+◌, ◌<◌, ◌==◌, ◌||◌, not, Bool, true, false, cond}
use Rattle.std.proofs.Common.{if◌then◌else◌, nat_eq, List, [], ◌∷◌, ◌++◌, length, map, filter, get_or, refl, sym, ◌∙◌, ap}
use Rattle.std.proofs.Common.{subst, arith, All}
use Rattle.std.specs.Prelude.{ℤ, pos, negsuc, ◌+ℤ◌, ◌-ℤ◌, ◌*ℤ◌, neg_ℤ, ◌≤ℤ◌, ◌<ℤ◌, slice_index_or}
use Rattle.std.specs.List.{AllByRecursion, range_with_len}
use Rattle.std.proofs.lemmas.Int.{ints}
use Rattle.std.proofs.lemmas.Bool.{ne_eqb}
use Rattle.std.proofs.lemmas.Bool.Decides.{eqb_tells}
use Rattle.std.proofs.lemmas.List.Elements.{All-from_recursion, recursion_from_All, All-get_or, filter_agree}
use Rattle.run_counting.specs.model.Entries.{is_in}
use Rattle.run_counting.specs.model.Programs.{Program, arity_of}
use Rattle.rule_forms.specs.linear_forms.Forms.{Form, at, form_value}
use Rattle.rule_forms.specs.linear_forms.Certificates.{minus_one}
use Rattle.rule_forms.specs.linear_forms.Combinations.{form_sum, zero_form}
use Rattle.rule_forms.specs.linear_forms.Questions.{Group}
use Rattle.rule_forms.specs.linear_forms.QuestionLaws.{Element, AreElements, Refutes, total_of, fixed_total}
use Rattle.rule_forms.specs.linear_forms.RuleQuestions.{RankedSet, Coefficient, opposite, at_source, at_target}
use Rattle.rule_forms.specs.linear_forms.RuleQuestions.{open_places, coefficients, move_group, floor_group, rank_question}
use Rattle.rule_forms.specs.linear_forms.RuleQuestions.{symbols_of_set}
use Rattle.rule_forms.specs.Laws.{HasPoint}
use Rattle.rule_forms.specs.Ranking.{NoRank}
use Rattle.rule_forms.specs.RankLaws.{IsSetOf, HavePointsOf}
use Rattle.rule_forms.proofs.linear_forms.ColumnLaws.{get_or-map}
use Rattle.rule_forms.proofs.linear_forms.CombinationLaws.{form_value-sum, form_value-times}
use Rattle.rule_forms.proofs.linear_forms.RefutationLaws.{refuted-has_none}
use Rattle.rule_forms.proofs.RankExclusion.{numbers_of, ranks-hold, rank-points}
use Rattle.rule_forms.proofs.RankSolutions.{rank-shaped}
use Rattle.run_counting.proofs.model.Membership.{no_is_not_yes}
use Rattle.cert_rules.specs.Gaps.{ScaledPoint, Gap, is_shut}
use Rattle.cert_rules.specs.GapChecks.{MeetsAt, value_at, net, balance, point_of, balanced_at, balanced}
use Rattle.cert_rules.specs.GapChecks.{GapHolds}
use Rattle.cert_rules.specs.GapLaws.{IsAbout, GapsExcludeFunctions}
use Rattle.cert_rules.proofs.CheckLists.{in-each, each-append, append-each, map-each, each-map}
use Rattle.cert_rules.proofs.GapPoints.{AreEach, each-long, of-each}

-- a scaled point as an element of a group
abbrev pub element_of : ScaledPoint → Element
element_of z = record { parts = at z.parts; den = pos z.den }

-- the elements of moves and of a floor
abbrev pub elements_with : List ScaledPoint → ScaledPoint → List Element
elements_with moves floor = map element_of moves ++ (element_of floor ∷ [])

module _ (b : RankedSet) (cs : List Coefficient) (floor : ScaledPoint) where
  -- the groups of rules and of the floor
  abbrev pub groups_with : List ℕ → List Group
  groups_with set = map (move_group b cs) set ++ (floor_group b cs ∷ [])

  -- points and rays of the rules are elements of their groups
  pub elements-are : (set : List ℕ) (moves : List ScaledPoint) → AreEach (λ t z. MeetsAt (b.rule t).rows z) set moves
      → MeetsAt (b.rule b.strict).rows floor → AreElements (groups_with set) (elements_with moves floor)
  elements-are [] [] h f = ((omega (arith, ints), f), tt)
  elements-are [] (z ∷ moves) h f = absurd h
  elements-are (t ∷ set) [] h f = absurd h
  elements-are (t ∷ set) (z ∷ moves) h f = ((omega (arith, ints), h.0), elements-are set moves h.1 f)

  -- the sum over the elements at a coefficient is the sum at its place over the moves, and the floor's part
  pub total-is : (i : ℕ) (d : Coefficient) → i < length cs → (set : List ℕ) (moves : List ScaledPoint)
      → length moves ≡ length set
      → total_of i (groups_with set) (elements_with moves floor)
      ≡ net b.rule (get_or cs i d) set moves +ℤ value_at (at_source (b.rule b.strict) (get_or cs i d)) floor
  total-is i d l [] [] e =
      plus (form_value (slice_index_or (map (at_source (b.rule b.strict)) cs) i zero_form) (at floor.parts) (pos floor.den))
      ∙ ap (λ (f : Form). pos 0 +ℤ value_at f floor) (get_or-map (at_source (b.rule b.strict)) cs i zero_form d l)
    where
      plus : (v : ℤ) → v +ℤ pos 0 ≡ pos 0 +ℤ v
      plus v = omega (arith, ints)
  total-is i d l [] (z ∷ moves) e = absurd (omega (arith, e))
  total-is i d l (t ∷ set) [] e = absurd (omega (arith, e))
  total-is i d l (t ∷ set) (z ∷ moves) e =
      joined _ _ _ _ _ _ _
      (ap (λ (f : Form). value_at f z) (get_or-map (λ c. form_sum (at_source (b.rule t) c) (opposite (at_target (b.rule t) c))) cs i zero_form d l)
      ∙ form_value-sum (at_source (b.rule t) (get_or cs i d)) (opposite (at_target (b.rule t) (get_or cs i d))) (at z.parts) (pos z.den))
      (form_value-times (negsuc 0) (at_target (b.rule t) (get_or cs i d)) (at z.parts) (pos z.den))
      (total-is i d l set moves (omega (arith, e)))
    where
      joined : (v x o y r n s : ℤ) → v ≡ x +ℤ o → o ≡ negsuc 0 *ℤ y → r ≡ n +ℤ s → v +ℤ r ≡ ((x -ℤ y) +ℤ n) +ℤ s
      joined v x o y r n s f g h = omega (arith, ints, f, g, h)

  -- the fixed form gives 0 at an element of another rule's group, and minus the denominator at one of the strict rule's
  pub fixed-part : (s : Bool) (z : ScaledPoint)
      → value_at (if s then minus_one else zero_form) z ≡ (if s then neg_ℤ (pos z.den) else pos 0)
  fixed-part true z = value (pos z.den)
    where
      value : (d : ℤ) → pos 0 +ℤ negsuc 0 *ℤ d ≡ neg_ℤ d
      value d = omega (arith, ints)
  fixed-part false z = value (pos z.den)
    where
      value : (d : ℤ) → pos 0 +ℤ pos 0 *ℤ d ≡ pos 0
      value d = omega (arith, ints)

  -- the fixed forms add up to at most minus the floor's denominator
  fixed-floor : (set : List ℕ) (moves : List ScaledPoint) → length moves ≡ length set
      → fixed_total (groups_with set) (elements_with moves floor) ≤ℤ neg_ℤ (pos floor.den)
  fixed-floor [] [] e = least (pos floor.den)
    where
      least : (d : ℤ) → ((pos 0 +ℤ negsuc 0 *ℤ d) +ℤ pos 0) ≤ℤ neg_ℤ d
      least d = omega (arith, ints)
  fixed-floor [] (z ∷ moves) e = absurd (omega (arith, e))
  fixed-floor (t ∷ set) [] e = absurd (omega (arith, e))
  fixed-floor (t ∷ set) (z ∷ moves) e =
      go (nat_eq t b.strict) (fixed-part (nat_eq t b.strict) z) (fixed-floor set moves (omega (arith, e)))
    where
      go : (s : Bool) → value_at (if s then minus_one else zero_form) z ≡ (if s then neg_ℤ (pos z.den) else pos 0)
          → fixed_total (groups_with set) (elements_with moves floor) ≤ℤ neg_ℤ (pos floor.den)
          → (value_at (if s then minus_one else zero_form) z +ℤ fixed_total (groups_with set) (elements_with moves floor))
          ≤ℤ neg_ℤ (pos floor.den)
      go true f rest = least _ _ _ z.den f rest
        where
          least : (v r d : ℤ) (n : ℕ) → v ≡ neg_ℤ (pos n) → r ≤ℤ d → (v +ℤ r) ≤ℤ d
          least v r d n f h = omega (arith, ints, f, h)
      go false f rest = omega (arith, ints, f, rest)

  -- the fixed forms add up to at most minus the denominators of the strict rule's move and of the floor
  fixed-both : (set : List ℕ) (moves : List ScaledPoint) → length moves ≡ length set → is_in b.strict set ≡ true
      → fixed_total (groups_with set) (elements_with moves floor)
      ≤ℤ neg_ℤ (pos ((point_of set moves b.strict).den + floor.den))
  fixed-both [] moves e i = absurd (no_is_not_yes false refl i)
  fixed-both (t ∷ set) [] e i = absurd (omega (arith, e))
  fixed-both (t ∷ set) (z ∷ moves) e i =
      go (eqb_tells t b.strict) (fixed-part (nat_eq t b.strict) z) (fixed-floor set moves (omega (arith, e)))
      (λ k. fixed-both set moves (omega (arith, e)) k)
    where
      rest : ℤ
      rest = fixed_total (groups_with set) (elements_with moves floor)

      go : (((t == b.strict) ≡ true) × (t ≡ b.strict)) ⊎ (((t == b.strict) ≡ false) × (t ≢ b.strict))
          → value_at (if nat_eq t b.strict then minus_one else zero_form) z
          ≡ (if nat_eq t b.strict then neg_ℤ (pos z.den) else pos 0)
          → rest ≤ℤ neg_ℤ (pos floor.den)
          → (is_in b.strict set ≡ true → rest ≤ℤ neg_ℤ (pos ((point_of set moves b.strict).den + floor.den)))
          → (value_at (if nat_eq t b.strict then minus_one else zero_form) z +ℤ rest)
          ≤ℤ neg_ℤ (pos ((cond (t == b.strict) z (point_of set moves b.strict)).den + floor.den))
      go (inl g) f low later =
          subst (λ (v : Bool). (value_at (if nat_eq t b.strict then minus_one else zero_form) z +ℤ rest)
          ≤ℤ neg_ℤ (pos ((cond v z (point_of set moves b.strict)).den + floor.den))) (sym g.0)
          (least _ _ z.den floor.den (f ∙ ap (λ (v : Bool). if v then neg_ℤ (pos z.den) else pos 0) g.0) low)
        where
          least : (v r : ℤ) (m n : ℕ) → v ≡ neg_ℤ (pos m) → r ≤ℤ neg_ℤ (pos n) → (v +ℤ r) ≤ℤ neg_ℤ (pos (m + n))
          least v r m n f h = omega (arith, ints, f, h)
      go (inr g) f low later =
          subst (λ (v : Bool). (value_at (if nat_eq t b.strict then minus_one else zero_form) z +ℤ rest)
          ≤ℤ neg_ℤ (pos ((cond v z (point_of set moves b.strict)).den + floor.den))) (sym g.0)
          (none _ _ _ (f ∙ ap (λ (v : Bool). if v then neg_ℤ (pos z.den) else pos 0) g.0)
          (later (sym (ap (λ (v : Bool). v || is_in b.strict set) (ne_eqb b.strict t (λ k. g.1 (sym k)))) ∙ i)))
        where
          none : (v r d : ℤ) → v ≡ pos 0 → r ≤ℤ d → (v +ℤ r) ≤ℤ d
          none v r d f h = omega (arith, ints, f, h)

-- a property of each place that needs a balance is one of each coefficient of the question
module _ (P : Coefficient → Type 0) (p : Program) (b : RankedSet) (g : Gap)
    (shut : (s i : ℕ) → b.shut s i ≡ is_shut g.shut s i) (places : (s : ℕ) → b.arity s ≡ arity_of p s) where
  -- the places of a symbol that aren't shut, by the set and by the gap
  pub same-open : (s : ℕ) → open_places b s ≡ filter (λ i. not (is_shut g.shut s i)) (range_with_len 1 (arity_of p s))
  same-open s =
      ap (λ (n : ℕ). filter (λ i. not (b.shut s i)) (range_with_len 1 n)) (places s)
      ∙ filter_agree (λ i. not (b.shut s i)) (λ i. not (is_shut g.shut s i)) (λ i. ap (λ (v : Bool). not v) (shut s i))
      (range_with_len 1 (arity_of p s))

  pub coefficients-have : (ss : List ℕ) → AllByRecursion P (balanced_at p g ss) → AllByRecursion P (coefficients b ss)
  coefficients-have [] h = tt
  coefficients-have (s ∷ ss) h =
      each-append P (map (λ i. record { symbol = s; place = i }) (open_places b s ++ (0 ∷ []))) (coefficients b ss)
      (each-map P (λ i. record { symbol = s; place = i }) (open_places b s ++ (0 ∷ []))
      (each-append (λ i. P (record { symbol = s; place = i })) (open_places b s) (0 ∷ [])
      (subst (λ (is : List ℕ). AllByRecursion (λ i. P (record { symbol = s; place = i })) is) (sym (same-open s)) own.1)
      (own.0, tt)))
      (coefficients-have ss parts.1)
    where
      opens : List ℕ
      opens = filter (λ i. not (is_shut g.shut s i)) (range_with_len 1 (arity_of p s))

      parts : AllByRecursion P (map (λ i. record { symbol = s; place = i }) (0 ∷ opens)) × AllByRecursion P (balanced_at p g ss)
      parts = append-each P (map (λ i. record { symbol = s; place = i }) (0 ∷ opens)) (balanced_at p g ss) h

      own : P (record { symbol = s; place = 0 }) × AllByRecursion (λ i. P (record { symbol = s; place = i })) opens
      own = map-each P (λ i. record { symbol = s; place = i }) (0 ∷ opens) parts.0

module _ (p : Program) (b : RankedSet) (g : Gap) (is : IsSetOf b) (about : IsAbout p b g) (holds : GapHolds p b.rule g) where
  -- the coefficients of the question
  abbrev cs : List Coefficient
  cs = coefficients b (symbols_of_set b)

  moves-meet : AreEach (λ t z. MeetsAt (b.rule t).rows z) b.set g.moves
  moves-meet =
      subst (λ (ts : List ℕ). AreEach (λ t z. MeetsAt (b.rule t).rows z) ts g.moves) (sym about.same_set)
      (of-each (λ t z. MeetsAt (b.rule t).rows z) g.set g.moves holds.shape.ascending holds.shape.one_move holds.moves)

  floor-meets : MeetsAt (b.rule b.strict).rows g.floor
  floor-meets = subst (λ (t : ℕ). MeetsAt (b.rule t).rows g.floor) (sym about.same_rule) holds.floor

  long : length g.moves ≡ length b.set
  long = each-long (λ t z. MeetsAt (b.rule t).rows z) b.set g.moves moves-meet

  -- the balance at each coefficient of the question is 0
  balanced-all : All (λ c. balance b.rule g c ≡ pos 0) cs
  balanced-all =
      All-from_recursion (λ c. balance b.rule g c ≡ pos 0) cs
      (coefficients-have (λ c. balance b.rule g c ≡ pos 0) p b g about.same_shut about.places (symbols_of_set b)
      (subst (λ (ss : List ℕ). AllByRecursion (λ c. balance b.rule g c ≡ pos 0) (balanced_at p g ss)) (sym about.symbols)
      (recursion_from_All (λ c. balance b.rule g c ≡ pos 0) (balanced p g) holds.balances)))

  nowhere : Coefficient
  nowhere = record { symbol = 0; place = 0 }

  totals-none : (i : ℕ) → i < length cs
      → total_of i (groups_with b cs g.floor b.set) (elements_with g.moves g.floor) ≡ pos 0
  totals-none i l =
      total-is b cs g.floor i nowhere l b.set g.moves long
      ∙ (same b.set b.strict about.same_set about.same_rule
      ∙ All-get_or (λ c. balance b.rule g c ≡ pos 0) cs i nowhere l balanced-all)
    where
      same : (set : List ℕ) (t : ℕ) → set ≡ g.set → t ≡ g.rule
          → net b.rule (get_or cs i nowhere) set g.moves +ℤ value_at (at_source (b.rule t) (get_or cs i nowhere)) g.floor
          ≡ balance b.rule g (get_or cs i nowhere)
      same set t e f =
          ap (λ (xs : List ℕ). net b.rule (get_or cs i nowhere) xs g.moves
          +ℤ value_at (at_source (b.rule t) (get_or cs i nowhere)) g.floor) e
          ∙ ap (λ (u : ℕ). net b.rule (get_or cs i nowhere) g.set g.moves
          +ℤ value_at (at_source (b.rule u) (get_or cs i nowhere)) g.floor) f

  below : fixed_total (groups_with b cs g.floor b.set) (elements_with g.moves g.floor) <ℤ pos 0
  below =
      least _ (point_of b.set g.moves b.strict).den g.floor.den
      (fixed-both b cs g.floor b.set g.moves long inside) some
    where
      inside : is_in b.strict b.set ≡ true
      inside = ap (λ (t : ℕ). is_in t b.set) about.same_rule ∙ (ap (λ (xs : List ℕ). is_in g.rule xs) about.same_set ∙ holds.shape.inside)

      same : (point_of b.set g.moves b.strict).den ≡ (point_of g.set g.moves g.rule).den
      same = ap (λ (xs : List ℕ). (point_of xs g.moves b.strict).den) about.same_set ∙ ap (λ (t : ℕ). (point_of g.set g.moves t).den) about.same_rule

      some : ¬ (((point_of b.set g.moves b.strict).den ≡ 0) × (g.floor.den ≡ 0))
      some e = holds.loses (sym same ∙ e.0, e.1)

      least : (f : ℤ) (m n : ℕ) → f ≤ℤ neg_ℤ (pos (m + n)) → ¬ ((m ≡ 0) × (n ≡ 0)) → f <ℤ pos 0
      least f zero zero l k = absurd (k (refl, refl))
      least f (suc m) n l k = omega (arith, ints, l)
      least f zero (suc n) l k = omega (arith, ints, l)

  refutes : Refutes (rank_question b) (elements_with g.moves g.floor)
  refutes = record {
    elements = elements-are b cs g.floor b.set g.moves moves-meet floor-meets;
    balanced = totals-none;
    below = below;
  }

  points : HavePointsOf b
  points = record {
    each = subst (λ (ts : List ℕ). All (λ t. HasPoint (b.rule t).rows) ts) (sym about.same_set)
        (All-from_recursion (λ t. HasPoint (b.rule t).rows) g.set
        (in-each (λ t. HasPoint (b.rule t).rows) g.set (λ t i. record {
          z = at (point_of g.set g.kept t).parts;
          d = pos (point_of g.set g.kept t).den;
          point = holds.kept t i;
        })));
  }

  -- no function with coefficient 0 at every shut place ranks the strict rule
  pub gap-excludes : NoRank b
  gap-excludes = record {
    each = λ f q ranks fits.
        refuted-has_none (rank_question b) (elements_with g.moves g.floor) (rank-shaped b is) refutes
        (rank-points b is points) (numbers_of b f) (pos q) (ranks-hold b f q is ranks fits);
  }

-- gaps that hold exclude all functions
pub gaps-exclude : GapsExcludeFunctions
gaps-exclude = record { each = λ p b g is about holds. gap-excludes p b g is about holds }
