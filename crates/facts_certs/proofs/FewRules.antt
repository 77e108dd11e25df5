-- The section of facts spells as many rules as the program has, and one of them leaves the start.
use Rattle.std.proofs.Common.{◌≡◌, ◌≤◌, ◌<◌, ◌||◌, ℕ, suc, ◌+◌, Bool, true, false, List, [], ◌∷◌, ◌++◌, filter, map, length}
use Rattle.std.proofs.Common.{refl, sym, ◌∙◌, ap, subst, arith, if◌then◌else◌, eq-eqb, length-append}
use Rattle.std.specs.Prelude.{nat_eq, IsTrue}
use Rattle.std.specs.List.{AllByRecursion, list_any, range_with_len}
use Rattle.std.proofs.lemmas.Bool.{eqb-true}
use Rattle.std.proofs.lemmas.List.{length-map}
use Rattle.std.proofs.lemmas.List.Folds.{list_any-append}
use Rattle.refined_programs.specs.model.Limits.{rule_limit}
use Rattle.refined_programs.specs.model.Programs.{Program, Rule, rule_at}
use Rattle.refined_programs.specs.its_model.Valid.{IsValid}
use Rattle.refined_programs.specs.refinement.Sections as plain
use Rattle.refined_programs.specs.refinement.Sections.{facts_of, passes}
use Rattle.refined_programs.specs.Annotated as annotated
use Rattle.refined_programs.specs.Annotated.{Branch, Cases}
use Rattle.refined_programs.specs.Ends.{End, ends}
use Rattle.section_checks.specs.Faults.{BranchEnd, ends_of, ends_of_branch, leaves_by, leaves_start, rules_among}
use Rattle.section_checks.specs.Faults.{rules_at, rules_checks}
use Rattle.cert_rules.specs.Reasons.{AllPass}
use Rattle.location_facts.specs.declared.fact.LocFact.{LocFact}
use Rattle.facts_section.specs.Copies.{copy_at, copy_number, fact_copies, is_other_copy}
use Rattle.facts_section.specs.Counted.{CountedBranch, HasFactsShape, counted, counted_at, counted_branch}
use Rattle.facts_section.specs.Counted.{counted_branches, needed_counts}
use Rattle.facts_section.proofs.CopyNumbers.{AreNumbered, all-numbered, copies-by_symbol, symbols_of}
use Rattle.facts_certs.proofs.StepEnds.{IsStep, steps}

-- 1 where a test passes
abbrev one_if : Bool → ℕ
one_if v = if v then 1 else 0

-- how many rules leave a symbol, and how many leave some symbol of a list
abbrev count_leaving : ℕ → List Rule → ℕ
count_leaving s [] = 0
count_leaving s (r ∷ rules) = one_if (nat_eq r.source s) + count_leaving s rules

abbrev count_leaving_some : List ℕ → List Rule → ℕ
count_leaving_some [] rules = 0
count_leaving_some (s ∷ ss) rules = count_leaving s rules + count_leaving_some ss rules

-- how often a symbol is in a list
abbrev occurrences : List ℕ → ℕ → ℕ
occurrences [] x = 0
occurrences (s ∷ ss) x = one_if (nat_eq x s) + occurrences ss x

-- a branch leaves the first copy
abbrev leaves_first : CountedBranch → Bool
leaves_first c = nat_eq c.branch.source 0

-- sums of numbers
sum_is_zero : (n : ℕ) → n ≡ 0 → 0 + n ≡ 0
sum_is_zero n e = omega (arith, e)

one_plus_zero : (n : ℕ) → n ≡ 0 → 1 + n ≤ 1
one_plus_zero n e = omega (arith, e)

zero_plus_at_most_one : (n : ℕ) → n ≤ 1 → 0 + n ≤ 1
zero_plus_at_most_one n l = omega (arith, l)

exchange_summands : (a l m t n : ℕ) → m ≡ t + n → (a + l) + m ≡ (a + t) + (l + n)
exchange_summands a l m t n e = omega (arith, e)

zero_at_most_zero : (n : ℕ) → n ≡ 0 → n ≤ 0
zero_at_most_zero n e = omega (arith, e)

sum_at_most_successor : (whole t n l : ℕ) → whole ≡ t + n → t ≤ 1 → n ≤ l → whole ≤ suc l
sum_at_most_successor whole t n l e once few = omega (arith, e, once, few)

successor_is_sum : (m n : ℕ) → m ≡ n → suc m ≡ 1 + n
successor_is_sum m n e = omega (arith, e)

number_is_sum : (m n : ℕ) → m ≡ n → m ≡ 0 + n
number_is_sum m n e = omega (arith, e)

sum_of_equals : (whole a b x y : ℕ) → whole ≡ a + b → a ≡ x → b ≡ y → whole ≡ x + y
sum_of_equals whole a b x y e f g = omega (arith, e, f, g)

associate_sum : (a w x y : ℕ) → w ≡ x + y → a + w ≡ (a + x) + y
associate_sum a w x y e = omega (arith, e)

sum_is_successor : (whole a b l : ℕ) → whole ≡ a + b → a ≡ 1 → b ≡ l → whole ≡ suc l
sum_is_successor whole a b l e f g = omega (arith, e, f, g)

chain_at_most : (b m c l r n : ℕ) → m ≡ b → m ≡ c → c ≡ l → l ≤ r → r ≤ n → b ≤ n
chain_at_most b m c l r n e f g few limit = omega (arith, e, f, g, few, limit)

module _ (p : Program) where
  -- a symbol whose copy has a lower number isn't in a numbered list
  not-in : (k : ℕ) (ss : List ℕ) (x : ℕ) → AreNumbered p k ss → copy_number p x < k → occurrences ss x ≡ 0
  not-in k [] x numbered low = refl
  not-in k (s ∷ ss) x numbered low =
      go (nat_eq x s) refl (not-in (suc k) ss x numbered.1 (omega (arith, low)))
    where
      go : (v : Bool) → nat_eq x s ≡ v → occurrences ss x ≡ 0 → one_if v + occurrences ss x ≡ 0
      go true e rest =
          let same = ap (copy_number p) (eqb-true x s e) in
          let number = numbered.0 in absurd (omega (arith, same, number, low))
      go false e rest = sum_is_zero (occurrences ss x) rest

  -- a symbol is in a numbered list once at most
  once-in : (k : ℕ) (ss : List ℕ) (x : ℕ) → AreNumbered p k ss → occurrences ss x ≤ 1
  once-in k [] x numbered = omega arith
  once-in k (s ∷ ss) x numbered = go (nat_eq x s) refl (once-in (suc k) ss x numbered.1)
    where
      go : (v : Bool) → nat_eq x s ≡ v → occurrences ss x ≤ 1 → one_if v + occurrences ss x ≤ 1
      go true e rest =
          let same = ap (copy_number p) (eqb-true x s e) in
          let number = numbered.0 in
          one_plus_zero (occurrences ss x) (not-in (suc k) ss x numbered.1 (omega (arith, same, number)))
      go false e rest = zero_plus_at_most_one (occurrences ss x) rest

  -- one more rule leaves as many symbols of a list as its source is in it
  one-more : (ss : List ℕ) (r : Rule) (rules : List Rule)
      → count_leaving_some ss (r ∷ rules) ≡ occurrences ss r.source + count_leaving_some ss rules
  one-more [] r rules = refl
  one-more (s ∷ ss) r rules =
      exchange_summands (one_if (nat_eq r.source s)) (count_leaving s rules) (count_leaving_some ss (r ∷ rules)) (occurrences ss r.source)
      (count_leaving_some ss rules) (one-more ss r rules)

  none-leave : (ss : List ℕ) → count_leaving_some ss [] ≡ 0
  none-leave [] = refl
  none-leave (s ∷ ss) = sum_is_zero (count_leaving_some ss []) (none-leave ss)

  -- so at most as many rules leave symbols of a numbered list as there are
  few-leave : (k : ℕ) (ss : List ℕ) (rules : List Rule) → AreNumbered p k ss → count_leaving_some ss rules ≤ length rules
  few-leave k ss [] numbered = zero_at_most_zero (count_leaving_some ss []) (none-leave ss)
  few-leave k ss (r ∷ rules) numbered =
      sum_at_most_successor (count_leaving_some ss (r ∷ rules)) (occurrences ss r.source) (count_leaving_some ss rules) (length rules)
      (one-more ss r rules) (once-in k ss r.source numbered) (few-leave k ss rules numbered)

  module _ (kept : List LocFact) where
    -- there are as many branches at a symbol as rules leave it
    many-at : (s t : ℕ) (rules : List Rule)
        → length (counted_at p (needed_counts p kept) s t rules) ≡ count_leaving s rules
    many-at s t [] = refl
    many-at s t (r ∷ rules) = go (nat_eq r.source s) (many-at s (suc t) rules)
      where
        go : (v : Bool) → length (counted_at p (needed_counts p kept) s (suc t) rules) ≡ count_leaving s rules
            → length ((if v then counted_branch p (needed_counts p kept) t r ∷ [] else [])
            ++ counted_at p (needed_counts p kept) s (suc t) rules) ≡ one_if v + count_leaving s rules
        go true rest =
            successor_is_sum (length (counted_at p (needed_counts p kept) s (suc t) rules)) (count_leaving s rules) rest
        go false rest =
            number_is_sum (length (counted_at p (needed_counts p kept) s (suc t) rules)) (count_leaving s rules) rest

    many : (ss : List ℕ)
        → length (counted_branches p (needed_counts p kept) (map (copy_at p kept) ss)) ≡ count_leaving_some ss p.rules
    many [] = refl
    many (s ∷ ss) =
        sum_of_equals (length (counted_branches p (needed_counts p kept) (map (copy_at p kept) (s ∷ ss))))
        (length (counted_at p (needed_counts p kept) s 1 p.rules))
        (length (counted_branches p (needed_counts p kept) (map (copy_at p kept) ss))) (count_leaving s p.rules)
        (count_leaving_some ss p.rules)
        (length-append (counted_at p (needed_counts p kept) s 1 p.rules)
        (counted_branches p (needed_counts p kept) (map (copy_at p kept) ss))) (many-at s 1 p.rules) (many ss)

    -- a rule that leaves the start has a branch at the first copy
    start-at : (t : ℕ) (rules : List Rule) → copy_number p p.start ≡ 0
        → list_any (λ r. nat_eq p.start r.source) rules ≡ true
        → list_any leaves_first (counted_at p (needed_counts p kept) p.start t rules) ≡ true
    start-at t [] number any = cc
    start-at t (r ∷ rules) number any =
        go (nat_eq r.source p.start) refl (nat_eq p.start r.source) refl any (start-at (suc t) rules number)
      where
        own : r.source ≡ p.start → nat_eq (copy_number p r.source) 0 ≡ true
        own same = eq-eqb (copy_number p r.source) 0 (ap (copy_number p) same ∙ number)

        false_true : false ≡ true → ⊥
        false_true x = cc

        go : (w : Bool) → nat_eq r.source p.start ≡ w → (v : Bool) → nat_eq p.start r.source ≡ v
            → (v || list_any (λ q. nat_eq p.start q.source) rules) ≡ true
            → (list_any (λ q. nat_eq p.start q.source) rules ≡ true
            → list_any leaves_first (counted_at p (needed_counts p kept) p.start (suc t) rules) ≡ true)
            → list_any leaves_first ((if w then counted_branch p (needed_counts p kept) t r ∷ [] else [])
            ++ counted_at p (needed_counts p kept) p.start (suc t) rules) ≡ true
        go true f v e h later =
            ap (λ (x : Bool). x || list_any leaves_first (counted_at p (needed_counts p kept) p.start (suc t) rules))
            (own (eqb-true r.source p.start f))
        go false f true e h later =
            absurd (false_true (sym f ∙ eq-eqb r.source p.start (sym (eqb-true p.start r.source e))))
        go false f false e h later = later h

    start-has : IsValid p → list_any leaves_first (counted_branches p (needed_counts p kept) (fact_copies p kept)) ≡ true
    start-has valid =
        list_any-append leaves_first (counted_at p (needed_counts p kept) p.start 1 p.rules)
        (counted_branches p (needed_counts p kept)
        (filter (is_other_copy p) (map (copy_at p kept) (range_with_len 0 (length p.symbols)))))
        ∙ ap (λ (v : Bool). v || list_any leaves_first (counted_branches p (needed_counts p kept)
        (filter (is_other_copy p) (map (copy_at p kept) (range_with_len 0 (length p.symbols))))))
        (start-at 1 p.rules (all-numbered p).0 valid.start_is_source)

    module _ (valid : IsValid p) (s : annotated.Section) (shape : HasFactsShape p kept s) where
      rules-both : (es fs : List BranchEnd) → rules_among (es ++ fs) ≡ rules_among es + rules_among fs
      rules-both [] fs = number_is_sum (rules_among fs) (rules_among fs) refl
      rules-both (e ∷ es) fs =
          associate_sum (rules_at e.end.goal) (rules_among (es ++ fs)) (rules_among es) (rules_among fs) (rules-both es fs)

      leaves-both : (es fs : List BranchEnd) → leaves_start (es ++ fs) ≡ (leaves_start es || leaves_start fs)
      leaves-both [] fs = refl
      leaves-both (e ∷ es) fs = go (leaves_by e.source e.end.goal) (leaves-both es fs)
        where
          go : (v : Bool) → leaves_start (es ++ fs) ≡ (leaves_start es || leaves_start fs)
              → (v || leaves_start (es ++ fs)) ≡ ((v || leaves_start es) || leaves_start fs)
          go true rest = refl
          go false rest = rest

      -- the ends of a branch, given its cases
      abbrev ends_by : Branch → Cases → List BranchEnd
      ends_by b c = map (λ (e : End). record { source = b.source; rule = rule_at p b.rule; end = e })
          (ends (map passes (facts_of (annotated.section_of s) b.source)) c)

      -- a step has one end, which is at a copy
      one-rule : (b : Branch) → IsStep p kept b → rules_among (ends_of_branch p s b) ≡ 1
      one-rule b step = subst (λ (c : Cases). rules_among (ends_by b c) ≡ 1) (sym step.cases) refl

      one-leaves : (b : Branch) → IsStep p kept b → leaves_start (ends_of_branch p s b) ≡ nat_eq b.source 0
      one-leaves b step = subst (λ (c : Cases). leaves_start (ends_by b c) ≡ nat_eq b.source 0) (sym step.cases)
          (or_false (nat_eq b.source 0))
        where
          or_false : (v : Bool) → (v || false) ≡ v
          or_false true = refl
          or_false false = refl

      -- there are as many rules as branches, and one leaves the start if a branch leaves the first copy
      many-rules : (bs : List Branch) → AllByRecursion (IsStep p kept) bs → rules_among (ends_of p s bs) ≡ length bs
      many-rules [] all = refl
      many-rules (b ∷ bs) all =
          sum_is_successor (rules_among (ends_of p s (b ∷ bs))) (rules_among (ends_of_branch p s b)) (rules_among (ends_of p s bs))
          (length bs) (rules-both (ends_of_branch p s b) (ends_of p s bs)) (one-rule b all.0) (many-rules bs all.1)

      some-leaves : (bs : List Branch) → AllByRecursion (IsStep p kept) bs
          → leaves_start (ends_of p s bs) ≡ list_any leaves_first (map counted bs)
      some-leaves [] all = refl
      some-leaves (b ∷ bs) all =
          leaves-both (ends_of_branch p s b) (ends_of p s bs)
          ∙ (ap (λ (v : Bool). v || leaves_start (ends_of p s bs)) (one-leaves b all.0)
          ∙ ap (λ (v : Bool). nat_eq b.source 0 || v) (some-leaves bs all.1))

      -- the number of branches
      branches-few : length s.branches ≤ rule_limit
      branches-few =
          chain_at_most (length s.branches) (length (map counted s.branches))
          (length (counted_branches p (needed_counts p kept) (map (copy_at p kept) (symbols_of p))))
          (count_leaving_some (symbols_of p) p.rules) (length p.rules) rule_limit (length-map s.branches counted)
          (ap (λ (cs : List CountedBranch). length cs) (shape.branches
          ∙ ap (λ (cs : List plain.Copy). counted_branches p (needed_counts p kept) cs) (copies-by_symbol p kept)))
          (many (symbols_of p)) (few-leave 0 (symbols_of p) p.rules (all-numbered p)) valid.few_rules

      -- the rules are few, and one leaves the start
      pub rules-pass : AllPass (rules_checks (ends_of p s s.branches))
      rules-pass = ((few, leaves), tt)
        where
          all : AllByRecursion (IsStep p kept) s.branches
          all = steps p kept valid s shape

          few : rules_among (ends_of p s s.branches) ≤ rule_limit
          few = subst (λ (n : ℕ). n ≤ rule_limit) (sym (many-rules s.branches all)) branches-few

          leaves : IsTrue (leaves_start (ends_of p s s.branches))
          leaves =
              some-leaves s.branches all
              ∙ (ap (λ (cs : List CountedBranch). list_any leaves_first cs) shape.branches
              ∙ start-has valid)
