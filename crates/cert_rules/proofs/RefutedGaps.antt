-- Points that refute the question for a ranking function make a gap that holds: they are its moves and its floor.
use Rattle.std.proofs.Common.{◌≡◌, ℕ, not, Bool, true, false, if◌then◌else◌, nat_eq, List, [], ◌∷◌, ◌++◌}
use Rattle.std.proofs.Common.{length, map, filter, get_or, refl, sym, ◌∙◌, ap, subst, arith, All}
use Rattle.std.specs.Prelude.{ℤ, pos, negsuc, neg_ℤ, ◌+ℤ◌, ◌*ℤ◌, ◌<ℤ◌}
use Rattle.std.specs.List.{AllByRecursion, range_with_len}
use Rattle.std.proofs.lemmas.Int.{ints}
use Rattle.std.proofs.lemmas.Bool.{eqb-true}
use Rattle.std.proofs.lemmas.List.Elements.{All-from_recursion, recursion_from_All, All-from_get_or}
use Rattle.run_counting.specs.model.Entries.{is_in}
use Rattle.run_counting.specs.model.Programs.{Program, arity_of}
use Rattle.rule_forms.specs.linear_forms.QuestionLaws.{AreElements, Refutes, fixed_total}
use Rattle.rule_forms.specs.linear_forms.RuleQuestions.{RankedSet, Coefficient, at_source, open_places, coefficients}
use Rattle.rule_forms.specs.linear_forms.RuleQuestions.{rank_question, symbols_of_set}
use Rattle.cert_rules.specs.Gaps.{ScaledPoint, Gap, is_shut}
use Rattle.cert_rules.specs.GapChecks.{HasGapShape, MeetsAt, IsPointOf, value_at, net, balance, point_of, balanced_at}
use Rattle.cert_rules.specs.GapChecks.{balanced, GapHolds}
use Rattle.cert_rules.specs.GapLaws.{IsAbout}
use Rattle.cert_rules.proofs.CheckLists.{each-append, append-each, map-each, each-map}
use Rattle.cert_rules.proofs.GapExclusion.{groups_with, elements_with, total-is, fixed-part, same-open}
use Rattle.cert_rules.proofs.GapPoints.{AreEach, each-of, of-each}

module _ (b : RankedSet) (cs : List Coefficient) (floor : ScaledPoint) where
  -- the elements of the groups are points and rays of the rules, and the last one is one of the strict rule
  pub each-meets : (set : List ℕ) (moves : List ScaledPoint) → length moves ≡ length set
      → AreElements (groups_with b cs floor set) (elements_with moves floor)
      → AreEach (λ t z. MeetsAt (b.rule t).rows z) set moves × MeetsAt (b.rule b.strict).rows floor
  each-meets [] [] e h = (tt, h.0.1)
  each-meets [] (z ∷ moves) e h = absurd (omega (arith, e))
  each-meets (t ∷ set) [] e h = absurd (omega (arith, e))
  each-meets (t ∷ set) (z ∷ moves) e h =
      let k = each-meets set moves (omega (arith, e)) h.1 in ((h.0.1, k.0), k.1)

  -- if the strict rule's move and the floor have the denominator 0, the fixed forms add up to 0
  pub fixed-none : (set : List ℕ) (moves : List ScaledPoint) → AreEach (λ t z. t ≡ b.strict → z.den ≡ 0) set moves
      → floor.den ≡ 0 → fixed_total (groups_with b cs floor set) (elements_with moves floor) ≡ pos 0
  fixed-none [] [] h f = least floor.den f
    where
      least : (n : ℕ) → n ≡ 0 → (pos 0 +ℤ negsuc 0 *ℤ pos n) +ℤ pos 0 ≡ pos 0
      least n e = omega (arith, ints, e)
  fixed-none [] (z ∷ moves) h f = absurd h
  fixed-none (t ∷ set) [] h f = absurd h
  fixed-none (t ∷ set) (z ∷ moves) h f =
      none _ _ (fixed-part b cs floor (nat_eq t b.strict) z ∙ own (nat_eq t b.strict) refl) (fixed-none set moves h.1 f)
    where
      own : (v : Bool) → nat_eq t b.strict ≡ v → (if v then neg_ℤ (pos z.den) else pos 0) ≡ pos 0
      own true e = ap (λ (n : ℕ). neg_ℤ (pos n)) (h.0 (eqb-true t b.strict e))
      own false e = refl

      none : (v r : ℤ) → v ≡ pos 0 → r ≡ pos 0 → v +ℤ r ≡ pos 0
      none v r e g = omega (arith, ints, e, g)

-- a property of each coefficient is one of each place that has a balance
module _ (P : Coefficient → Type 0) (p : Program) (b : RankedSet) (g : Gap)
    (shut : (s i : ℕ) → b.shut s i ≡ is_shut g.shut s i) (places : (s : ℕ) → b.arity s ≡ arity_of p s) where
  pub balanced-have : (ss : List ℕ) → AllByRecursion P (coefficients b ss) → AllByRecursion P (balanced_at p g ss)
  balanced-have [] h = tt
  balanced-have (s ∷ ss) h =
      each-append P (map (λ i. record { symbol = s; place = i }) (0 ∷ opens)) (balanced_at p g ss)
      (each-map P (λ i. record { symbol = s; place = i }) (0 ∷ opens) (own.1.0, own.0))
      (balanced-have ss parts.1)
    where
      opens : List ℕ
      opens = filter (λ i. not (is_shut g.shut s i)) (range_with_len 1 (arity_of p s))

      parts : AllByRecursion P (map (λ i. record { symbol = s; place = i }) (open_places b s ++ (0 ∷ [])))
          × AllByRecursion P (coefficients b ss)
      parts =
          append-each P (map (λ i. record { symbol = s; place = i }) (open_places b s ++ (0 ∷ []))) (coefficients b ss) h

      own : AllByRecursion (λ i. P (record { symbol = s; place = i })) opens
          × AllByRecursion (λ i. P (record { symbol = s; place = i })) (0 ∷ [])
      own =
          append-each (λ i. P (record { symbol = s; place = i })) opens (0 ∷ [])
          (subst (λ (is : List ℕ). AllByRecursion (λ i. P (record { symbol = s; place = i })) (is ++ (0 ∷ [])))
          (same-open P p b g shut places s)
          (map-each P (λ i. record { symbol = s; place = i }) (open_places b s ++ (0 ∷ [])) parts.0))

module _ (p : Program) (b : RankedSet) (g : Gap) (about : IsAbout p b g) (shape : HasGapShape p b.rule g)
    (long : length g.moves ≡ length b.set) (refutes : Refutes (rank_question b) (elements_with g.moves g.floor)) where
  abbrev cs : List Coefficient
  cs = coefficients b (symbols_of_set b)

  meets : AreEach (λ t z. MeetsAt (b.rule t).rows z) b.set g.moves × MeetsAt (b.rule b.strict).rows g.floor
  meets = each-meets b cs g.floor b.set g.moves long refutes.elements

  nowhere : Coefficient
  nowhere = record { symbol = 0; place = 0 }

  -- the balance at each coefficient is the total there
  balanced-cs : All (λ c. balance b.rule g c ≡ pos 0) cs
  balanced-cs =
      All-from_get_or (λ c. balance b.rule g c ≡ pos 0) cs nowhere
      (λ i l. sym (same b.set b.strict about.same_set about.same_rule i)
      ∙ (sym (total-is b cs g.floor i nowhere l b.set g.moves long) ∙ refutes.balanced i l))
    where
      same : (set : List ℕ) (t : ℕ) → set ≡ g.set → t ≡ g.rule → (i : ℕ)
          → net b.rule (get_or cs i nowhere) set g.moves +ℤ value_at (at_source (b.rule t) (get_or cs i nowhere)) g.floor
          ≡ balance b.rule g (get_or cs i nowhere)
      same set t e f i =
          ap (λ (xs : List ℕ). net b.rule (get_or cs i nowhere) xs g.moves
          +ℤ value_at (at_source (b.rule t) (get_or cs i nowhere)) g.floor) e
          ∙ ap (λ (u : ℕ). net b.rule (get_or cs i nowhere) g.set g.moves
          +ℤ value_at (at_source (b.rule u) (get_or cs i nowhere)) g.floor) f

  -- the denominators of the strict rule's move and of the floor aren't both 0
  some-lost : ¬ (((point_of g.set g.moves g.rule).den ≡ 0) × (g.floor.den ≡ 0))
  some-lost h =
      below _ refutes.below
      (fixed-none b cs g.floor b.set g.moves
      (subst (λ (ts : List ℕ). AreEach (λ t z. t ≡ b.strict → z.den ≡ 0) ts g.moves) (sym about.same_set)
      (of-each (λ t z. t ≡ b.strict → z.den ≡ 0) g.set g.moves shape.ascending shape.one_move
      (λ t i e. ap (λ (u : ℕ). (point_of g.set g.moves u).den) (e ∙ about.same_rule) ∙ h.0)))
      h.1)
    where
      below : (f : ℤ) → f <ℤ pos 0 → f ≡ pos 0 → ⊥
      below f l e = omega (arith, ints, l, e)

  -- with kept points of the rules the gap holds
  pub refuted-holds : ((t : ℕ) → is_in t g.set ≡ true → IsPointOf (b.rule t).rows (point_of g.set g.kept t))
      → GapHolds p b.rule g
  refuted-holds kept = record {
    shape = shape;
    moves =
        each-of (λ t z. MeetsAt (b.rule t).rows z) g.set g.moves
        (subst (λ (ts : List ℕ). AreEach (λ t z. MeetsAt (b.rule t).rows z) ts g.moves) about.same_set meets.0);
    floor = subst (λ (t : ℕ). MeetsAt (b.rule t).rows g.floor) about.same_rule meets.1;
    kept = kept;
    balances =
        All-from_recursion (λ c. balance b.rule g c ≡ pos 0) (balanced p g)
        (subst (λ (ss : List ℕ). AllByRecursion (λ c. balance b.rule g c ≡ pos 0) (balanced_at p g ss)) about.symbols
        (balanced-have (λ c. balance b.rule g c ≡ pos 0) p b g about.same_shut about.places (symbols_of_set b)
        (recursion_from_All (λ c. balance b.rule g c ≡ pos 0) cs balanced-cs)));
    loses = some-lost;
  }
