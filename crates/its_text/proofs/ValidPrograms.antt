-- A program that a text spells within the limits is valid.
use Rattle.std.proofs.Common.{◌≡◌, ℕ, zero, suc, ◌+◌, ◌-◌, ◌<◌, ◌≤◌, Bool, true, false, cond, not, if◌then◌else◌, ◌||◌}
use Rattle.std.proofs.Common.{nat_eq, List, [], ◌∷◌, ◌++◌, length, length-append, Option, Some, None, refl, ap, sym}
use Rattle.std.proofs.Common.{subst, ◌∙◌, inl, inr, arith}
use Rattle.std.specs.Prelude.{◌⊎◌, slice_get}
use Rattle.std.specs.List.{AllByRecursion, list_any}
use Rattle.std.proofs.lemmas.List.{length-reverse}
use Rattle.std.proofs.lemmas.Bool.Decides.{nat_tests}
use Rattle.expr_text.specs.model.Programs as plain
use Rattle.expr_text.specs.model.Programs.{Name, Symbol, Program, arity_in}
use Rattle.expr_text.specs.its_model.Valid.{IsValidTerm, IsValidAtom, IsValidCost, IsValidSymbol, IsValidRule, IsValid}
use Rattle.expr_text.specs.text_core.Names.{IsName, is_same, is_among, AreDistinct}
use Rattle.expr_text.proofs.text_core.NameLaws.{same_equal, distinct_one_more}
use Rattle.expr_text.proofs.Stability.{among_more, among_last, extended}
use Rattle.its_text.specs.Written.{LeftTerm, WrittenRule, pieces_behind}
use Rattle.its_text.specs.Numbering.{term_in, names_of, with_symbol, with_left, symbols_of, number_of, arity_of}
use Rattle.its_text.specs.Numbering.{with_sums, left_names, arrow_names, rule_names, sums_terms, guard_terms, cost_term}
use Rattle.its_text.specs.Numbering.{rule_numbered}
use Rattle.its_text.specs.Numbering.{rules_numbered, start_of, rules_of, or_left, first_leaving, program_from}
use Rattle.its_text.specs.Numbering.{program_of_parts}
use Rattle.its_text.specs.Spelling.{IsRule, AreRules, HaveRules, IsRuleWithin, AreRulesWithin, HaveRulesWithin}
use Rattle.its_text.specs.Spelling.{SpellsWithin}
use Rattle.its_text.proofs.NamedPieces.{text_named, before_named, AreNamed}
use Rattle.its_text.proofs.DistinctNames.{all_one_more, AreGood, NamedRule, AreRulesNamed}
use Rattle.its_text.proofs.DistinctNames.{sections_named}
use Rattle.its_text.proofs.ValidRules.{position_below, sums_extends, guard_extends, arguments_valid, arguments_count}
use Rattle.its_text.proofs.ValidRules.{cost_extends, cost_along, cost_is_read, cost_valid, cost_counts, guard_valid}
use Rattle.its_text.proofs.ValidRules.{read_in_rule, no_fewer}
use Rattle.its_text.proofs.Reading.{some_is, none_is_some}

-- The symbols have distinct names, and no more places than the limit.
abbrev AreSymbolsGood : List Symbol → Type 0
AreSymbolsGood symbols = AllByRecursion IsValidSymbol symbols × AreDistinct (names_of symbols)

-- the names of symbols with one more at the end are theirs with its name at the end
pub names_one_more : (symbols : List Symbol) (s : Symbol) → names_of (symbols ++ s ∷ []) ≡ names_of symbols ++ s.name ∷ []
names_one_more [] s = refl
names_one_more (t ∷ symbols) s = ap (λ ns. t.name ∷ ns) (names_one_more symbols s)

symbol_good : (symbols : List Symbol) (name : Name) (arity : ℕ) → AreSymbolsGood symbols → IsName name → arity ≤ 32 → AreSymbolsGood (with_symbol symbols name arity)
symbol_good symbols name arity g is few = go (is_among name (names_of symbols)) refl
  where
    go : (v : Bool) → is_among name (names_of symbols) ≡ v → AreSymbolsGood (if v then symbols else symbols ++ record { name = name; arity = arity } ∷ [])
    go true e = g
    go false e = (
      all_one_more IsValidSymbol symbols (record { name = name; arity = arity }) g.0 (record { name = is; arity = few }),
      subst AreDistinct (sym (names_one_more symbols (record { name = name; arity = arity }))) (distinct_one_more (names_of symbols) name g.1 e),
    )

symbols_good : (rules : List WrittenRule) → AllByRecursion NamedRule rules → AreRulesWithin rules → AreSymbolsGood (symbols_of rules)
symbols_good [] n w = (tt, tt)
symbols_good (r ∷ rules) n w =
    symbol_good (with_left (symbols_of rules) r.left) (term_in r.target).name (length (term_in r.target).arguments)
    (symbol_good (symbols_of rules) r.left.name (length r.left.arguments) (symbols_good rules n.1 w.1) n.0.source w.0.left) n.0.target w.0.right

-- A known symbol stays known after one more is read.
pub stays_there : (symbols : List Symbol) (n name : Name) (arity : ℕ) → is_among n (names_of symbols) ≡ true → is_among n (names_of (with_symbol symbols name arity)) ≡ true
stays_there symbols n name arity h = go (is_among name (names_of symbols))
  where
    go : (v : Bool) → is_among n (names_of (if v then symbols else symbols ++ record { name = name; arity = arity } ∷ [])) ≡ true
    go true = h
    go false = ap (is_among n) (names_one_more symbols (record { name = name; arity = arity })) ∙ among_more n (names_of symbols) (name ∷ []) h

-- A symbol is known after it is read.
pub comes_there : (symbols : List Symbol) (name : Name) (arity : ℕ) → is_among name (names_of (with_symbol symbols name arity)) ≡ true
comes_there symbols name arity = go (is_among name (names_of symbols)) refl
  where
    go : (v : Bool) → is_among name (names_of symbols) ≡ v → is_among name (names_of (if v then symbols else symbols ++ record { name = name; arity = arity } ∷ [])) ≡ true
    go true e = e
    go false e = ap (is_among name) (names_one_more symbols (record { name = name; arity = arity })) ∙ among_last name (names_of symbols)

-- Both symbols of a rule are among these.
abbrev pub IsKnown : List Symbol → WrittenRule → Type 0
IsKnown symbols r = (is_among r.left.name (names_of symbols) ≡ true) × (is_among (term_in r.target).name (names_of symbols) ≡ true)

-- Rules whose symbols are known stay so with one more symbol.
pub all_stay : (symbols : List Symbol) (name : Name) (arity : ℕ) (rules : List WrittenRule) → AllByRecursion (IsKnown symbols) rules → AllByRecursion (IsKnown (with_symbol symbols name arity)) rules
all_stay symbols name arity [] h = tt
all_stay symbols name arity (r ∷ rules) h =
    ((stays_there symbols r.left.name name arity h.0.0, stays_there symbols (term_in r.target).name name arity h.0.1), all_stay symbols name arity rules h.1)

-- the symbols of rules are all among those that the rules have
pub all_known : (rules : List WrittenRule) → AllByRecursion (IsKnown (symbols_of rules)) rules
all_known [] = tt
all_known (r ∷ rules) =
    let left = with_left (symbols_of rules) r.left in (
      (
        stays_there left r.left.name (term_in r.target).name (length (term_in r.target).arguments) (comes_there (symbols_of rules) r.left.name (length r.left.arguments)),
        comes_there left (term_in r.target).name (length (term_in r.target).arguments),
      ),
      all_stay left (term_in r.target).name (length (term_in r.target).arguments) rules (all_stay (symbols_of rules) r.left.name (length r.left.arguments) rules (all_known rules)),
    )

-- There are as many names of symbols as symbols.
names_count : (symbols : List Symbol) → length (names_of symbols) ≡ length symbols
names_count [] = refl
names_count (s ∷ symbols) = let e = names_count symbols in omega (arith, e)

number_below : (symbols : List Symbol) (n : Name) → is_among n (names_of symbols) ≡ true → number_of symbols n < length symbols
number_below symbols n h = let b = position_below n (names_of symbols) h in let e = names_count symbols in omega (arith, b, e)

-- a named symbol has as many places as the symbol at its number
places_at : (symbols : List Symbol) (n : Name) → is_among n (names_of symbols) ≡ true → arity_of symbols n ≡ arity_in (slice_get symbols (number_of symbols n))
places_at [] n h = cc
places_at (s ∷ symbols) n h = go (is_same n s.name) refl h (λ k. places_at symbols n k)
  where
    at : (k : ℕ) → number_of (s ∷ symbols) n ≡ k → arity_in (slice_get (s ∷ symbols) k) ≡ arity_in (slice_get (s ∷ symbols) (number_of (s ∷ symbols) n))
    at k e = ap (λ j. arity_in (slice_get (s ∷ symbols) j)) (sym e)

    go : (v : Bool) → is_same n s.name ≡ v → v || is_among n (names_of symbols) ≡ true → (is_among n (names_of symbols) ≡ true → arity_of symbols n ≡ arity_in (slice_get symbols (number_of symbols n)))
        → arity_of (s ∷ symbols) n ≡ arity_in (slice_get (s ∷ symbols) (number_of (s ∷ symbols) n))
    go true e k ih =
        ap (λ (v : Bool). if v then s.arity else arity_of symbols n) e
        ∙ at zero (ap (λ (v : Bool). cond (not v) (1 + number_of symbols n) 0) e)
    go false e k ih =
        ap (λ (v : Bool). if v then s.arity else arity_of symbols n) e
        ∙ (ih k ∙ at (suc (number_of symbols n)) (ap (λ (v : Bool). cond (not v) (1 + number_of symbols n) 0) e ∙ (let one : 1 + number_of symbols n ≡ suc (number_of symbols n) = omega arith in one)))

-- A rule within the limits is valid by numbers.
rule_valid : (p : Program) (r : WrittenRule) → NamedRule r → IsRuleWithin r → IsRule p.symbols r → IsKnown p.symbols r → IsValidRule p (rule_numbered p.symbols r)
rule_valid p r n w is known =
    let names = rule_names r in
    let arrow = arrow_names r.left r.cost in
    let sums = with_sums arrow (term_in r.target).arguments in
    let costs = cost_extends (left_names r.left) r.cost in
    let behind = extended arrow sums names (sums_extends arrow (term_in r.target).arguments) (guard_extends sums r.guard) in
    let more = extended (left_names r.left) arrow names costs behind in
    let fewer = no_fewer (left_names r.left) names more in
    let left = length-reverse r.left.arguments in
    let whole : length names ≡ length r.left.arguments + (length names - length r.left.arguments) = omega (arith, fewer, left) in
    let guard = guard_valid r.cost sums r.guard w.guard in
    let counts = cost_counts names r.cost in
    record {
      source = number_below p.symbols r.left.name known.0;
      target = number_below p.symbols (term_in r.target).name known.1;
      left = sym is.source_arity ∙ places_at p.symbols r.left.name known.0;
      places = arguments_count names (term_in r.target).arguments ∙ (sym is.target_arity ∙ places_at p.symbols (term_in r.target).name known.1);
      named = whole;
      names = (n.names is.left).0;
      distinct = (n.names is.left).1;
      few_variables = (let k = w.variables in omega (arith, whole, k));
      few_atoms = (let few = guard.1 in omega (arith, few, counts));
      updates = subst (λ m. AllByRecursion (IsValidTerm m) (sums_terms names (term_in r.target).arguments)) whole
          (arguments_valid names (term_in r.target).arguments (read_in_rule arrow (term_in r.target).arguments r.guard) w.arguments);
      guard = subst (λ m. AllByRecursion (IsValidAtom m) (guard_terms names r.guard)) whole guard.0;
      cost = subst (λ m. IsValidCost m (cost_term names r.cost)) whole
          (cost_valid names r.cost (cost_along arrow names r.cost behind (cost_is_read (left_names r.left) r.cost)) w.cost);
    }

-- Rules within the limits are valid by numbers.
rules_valid : (p : Program) (rules : List WrittenRule) → AllByRecursion NamedRule rules → AreRulesWithin rules → AreRules p.symbols rules → AllByRecursion (IsKnown p.symbols) rules
    → AllByRecursion (IsValidRule p) (rules_numbered p.symbols rules)
rules_valid p [] n w is known = tt
rules_valid p (r ∷ rules) n w is known =
    all_one_more (IsValidRule p) (rules_numbered p.symbols rules) (rule_numbered p.symbols r) (rules_valid p rules n.1 w.1 is.1 known.1) (rule_valid p r n.0 w.0 is.0 known.0)

rules_count : (symbols : List Symbol) (rules : List WrittenRule) → length (rules_numbered symbols rules) ≡ length rules
rules_count symbols [] = refl
rules_count symbols (r ∷ rules) =
    let e = length-append (rules_numbered symbols rules) (rule_numbered symbols r ∷ []) in let k = rules_count symbols rules in omega (arith, e, k)

-- If a test holds of an element of a list or of one more, it finds one in the list with that one appended.
any_one_more : {X : Type 0} (test : X → Bool) (xs : List X) (x : X) → (list_any test xs ≡ true) ⊎ (test x ≡ true) → list_any test (xs ++ x ∷ []) ≡ true
any_one_more test [] x (inl h) = cc
any_one_more test [] x (inr h) = rw h refl
any_one_more test (y ∷ xs) x h = go (test y) refl h (λ k. any_one_more test xs x k)
  where
    go : (v : Bool) → test y ≡ v → (v || list_any test xs ≡ true) ⊎ (test x ≡ true) → ((list_any test xs ≡ true) ⊎ (test x ≡ true) → list_any test (xs ++ x ∷ []) ≡ true) → test y || list_any test (xs ++ x ∷ []) ≡ true
    go true e k ih = ap (λ (v : Bool). v || list_any test (xs ++ x ∷ [])) e
    go false e (inl k) ih = ap (λ (v : Bool). v || list_any test (xs ++ x ∷ [])) e ∙ ih (inl k)
    go false e (inr k) ih = ap (λ (v : Bool). v || list_any test (xs ++ x ∷ [])) e ∙ ih (inr k)

record IsLeft (symbols : List Symbol) (start : Name) (rules : List WrittenRule) (t : LeftTerm) : Type 0 where
  same : start ≡ t.name
  distinct : AreDistinct t.arguments
  good : AreGood (left_names t)
  places : arity_of symbols t.name ≡ length t.arguments
  there : is_among t.name (names_of symbols) ≡ true
  source : list_any (λ r. nat_eq (number_of symbols start) r.source) (rules_numbered symbols rules) ≡ true

number_same : (n : ℕ) → nat_eq n n ≡ true
number_same n = grind (arith, nat_tests)

first_left : (symbols : List Symbol) (start : Name) (rules : List WrittenRule) (t : LeftTerm) → AllByRecursion NamedRule rules → AreRules symbols rules → AllByRecursion (IsKnown symbols) rules
    → first_leaving start rules ≡ Some t → IsLeft symbols start rules t
first_left symbols start [] t n is known e = absurd (none_is_some e)
first_left symbols start (r ∷ rules) t n is known e = go (first_leaving start rules) refl e (λ u k. first_left symbols start rules u n.1 is.1 known.1 k)
  where
    test : plain.Rule → Bool
    test q = nat_eq (number_of symbols start) q.source

    alone : (v : Bool) → is_same start r.left.name ≡ v → (if v then Some r.left else None) ≡ Some t → IsLeft symbols start (r ∷ rules) t
    alone false k e = absurd (none_is_some e)
    alone true k e =
        let same : start ≡ r.left.name = same_equal start r.left.name k in
        subst (IsLeft symbols start (r ∷ rules)) (some_is e)
        (record {
          same = same;
          distinct = is.0.left;
          good = n.0.left is.0.left;
          places = is.0.source_arity;
          there = known.0.0;
          source = any_one_more test (rules_numbered symbols rules) (rule_numbered symbols r) (inr (ap (λ m. nat_eq (number_of symbols start) (number_of symbols m)) (sym same) ∙ number_same (number_of symbols start)));
        })

    go : (o : Option LeftTerm) → first_leaving start rules ≡ o → or_left o start r.left ≡ Some t → ((u : LeftTerm) → first_leaving start rules ≡ Some u → IsLeft symbols start rules u) → IsLeft symbols start (r ∷ rules) t
    go None k e ih = alone (is_same start r.left.name) refl e
    go (Some u) k e ih =
        let i = ih u k in
        subst (IsLeft symbols start (r ∷ rules)) (some_is e)
        (record { same = i.same; distinct = i.distinct; good = i.good; places = i.places; there = i.there; source = any_one_more test (rules_numbered symbols rules) (rule_numbered symbols r) (inl i.source) })

-- the program of a start symbol and rules, of which the first that leaves it has this left term
abbrev made : Name → List WrittenRule → LeftTerm → Program
made start rules t = record { symbols = symbols_of rules; start = number_of (symbols_of rules) start; start_names = left_names t; rules = rules_numbered (symbols_of rules) rules }

made_valid : (start : Name) (rules : List WrittenRule) (t : LeftTerm) → AllByRecursion NamedRule rules → (length rules ≤ 1000) × AreRulesWithin rules → AreRules (symbols_of rules) rules
    → IsLeft (symbols_of rules) start rules t → IsValid (made start rules t)
made_valid start rules t n w is l =
    let there : is_among start (names_of (symbols_of rules)) ≡ true = ap (λ m. is_among m (names_of (symbols_of rules))) l.same ∙ l.there in
    let good = symbols_good rules n w.1 in
    record {
      symbols = good.0;
      distinct = good.1;
      few_rules = (let c = rules_count (symbols_of rules) rules in let f = w.0 in omega (arith, c, f));
      rules = rules_valid (made start rules t) rules n w.1 is (all_known rules);
      start = number_below (symbols_of rules) start there;
      start_is_source = l.source;
      start_places = length-reverse t.arguments ∙ (sym l.places ∙ (ap (arity_of (symbols_of rules)) (sym l.same) ∙ places_at (symbols_of rules) start there));
      start_names = l.good.0;
      start_distinct = l.good.1;
    }

-- the program of a start symbol and rules is valid
program_valid : (start : Name) (rules : List WrittenRule) (o : Option LeftTerm) (p : Program) → first_leaving start rules ≡ o → program_from start rules o ≡ Some p
    → AllByRecursion NamedRule rules → (length rules ≤ 1000) × AreRulesWithin rules → AreRules (symbols_of rules) rules → IsValid p
program_valid start rules None p k e n w is = absurd (none_is_some e)
program_valid start rules (Some t) p k e n w is = subst IsValid (some_is e) (made_valid start rules t n w is (first_left (symbols_of rules) start rules t n is (all_known rules) k))

parts_valid : (start : Option Name) (rules : Option (List WrittenRule)) (p : Program) → program_of_parts start rules ≡ Some p → AreRulesNamed rules → HaveRulesWithin rules → HaveRules rules → IsValid p
parts_valid None None p e n w is = absurd (none_is_some e)
parts_valid None (Some rules) p e n w is = absurd (none_is_some e)
parts_valid (Some start) None p e n w is = absurd (none_is_some e)
parts_valid (Some start) (Some rules) p e n w is = program_valid start rules (first_leaving start rules) p refl e n w is

-- a program that a text spells within the limits is valid
pub spelled_valid : (bytes : List ℕ) (p : Program) → SpellsWithin bytes p → IsValid p
spelled_valid bytes p s =
    let written = s.spells.written in
    let named : AreNamed (pieces_behind written) = (before_named (pieces_behind written) [] (subst AreNamed (sym s.spells.text.pieces) (text_named bytes))).0 in
    parts_valid (start_of written) (rules_of written) p s.spells.numbered (sections_named written named) s.within.rules s.spells.rules
