-- The written sections of a program that a text spells denote the program.
use Rattle.std.proofs.Common.{◌≡◌, ℕ, zero, suc, ◌+◌, ◌-◌, ◌<◌, ◌≤◌, nat_eq, Bool, true, false, if◌then◌else◌, List, []}
use Rattle.std.proofs.Common.{◌∷◌, ◌++◌, length, take, reverse, Some, None, refl, ap, sym, subst, ◌∙◌}
use Rattle.std.proofs.Common.{arith, append_assoc, append-nil}
use Rattle.std.specs.List.{AllByRecursion}
use mathlib.Core.List.{reverse-cons}
use Rattle.std.proofs.lemmas.List.{reverse-reverse}
use Rattle.std.proofs.lemmas.Bool.{or_parts as neither}
use Rattle.std.proofs.lemmas.Bool.Decides.{nat_tests}
use Rattle.its_text.specs.expr_text.model.Programs.{Name, Symbol, Rule, Program}
use Rattle.its_text.specs.expr_text.model.Terms.{Term}
use Rattle.its_text.specs.expr_text.text_core.Names.{IsName, is_same, is_among, position_of, AreDistinct}
use Rattle.its_text.specs.expr_text.text_core.Readers.{onto}
use Rattle.its_text.proofs.expr_text.text_core.NameLaws.{is_same_self, same_equal}
use Rattle.its_text.specs.expr_text.Terms.{with_name}
use Rattle.its_text.specs.Written.{LeftTerm, WrittenRule}
use Rattle.its_text.specs.Numbering as numbered
use Rattle.its_text.specs.Numbering.{with_left, with_right, term_in, symbols_of, number_of, arrow_names, rule_names, rule_numbered}
use Rattle.its_text.specs.Numbering.{rules_numbered, or_left, first_leaving, program_from, program_numbered, with_sums, with_guard}
use Rattle.its_text.specs.Numbering.{with_cost, names_of, sums_terms, guard_terms, cost_term}
use Rattle.its_text.specs.Spelling.{IsRule, AreRules, Spells, AreWithin, SpellsWithin}
use Rattle.its_text.proofs.DistinctNames.{all_one_more, distinct_reverse}
use Rattle.its_text.proofs.Reading.{some_is}
use Rattle.its_writer.specs.Expressions.{name_at}
use Rattle.its_writer.specs.Texts.{symbol_names, left_names, with_names, with_rules, canonical_text}
use Rattle.its_writer.proofs.CanonicalSections.{rule_written, rules_written, canonical_sections, arguments_written, guard_written, cost_written}
use Rattle.its_writer.specs.Spellable.{known_with, known_behind_all, known_behind, AreSpellable}
use Rattle.its_writer.specs.Spellable.{terms_of_cost, terms_of_guard, IsSpellableRule, symbols_behind, AreInOrder, names_at, IsSpellable}
use Rattle.its_writer.proofs.NamesAt.{name_at_is, position_at, known_grows, known_above, names_count, symbols_with, places_named}
use Rattle.its_writer.proofs.TermsBack.{all_grow, arguments_back, cost_back, guard_back}
use Rattle.its_writer.proofs.RulesRead.{IsWritableRule}
use Rattle.its_writer.proofs.TextsRead.{canonical_read}

-- the reverse of a list built by `onto`
pub onto_back : {X : Type 0} (xs rest : List X) → reverse (onto xs rest) ≡ reverse rest ++ xs
onto_back [] rest = sym (append-nil (reverse rest))
onto_back (x ∷ xs) rest = onto_back xs (x ∷ rest) ∙ ap (λ ys. ys ++ xs) (reverse-cons x rest) ∙ append_assoc (reverse rest) (x ∷ []) xs

onto_is : {X : Type 0} (xs : List X) → onto xs [] ≡ reverse xs
onto_is xs = sym (reverse-reverse (onto xs [])) ∙ ap reverse (onto_back xs [])

onto_count : {X : Type 0} (xs rest : List X) → length (onto xs rest) ≡ length xs + length rest
onto_count [] rest = let e : length rest ≡ 0 + length rest = omega arith in e
onto_count (x ∷ xs) rest = let e = onto_count xs (x ∷ rest) in omega (arith, e)

-- the first n of distinct names are distinct names
none_taken : (m : Name) (names : List Name) (n : ℕ) → is_among m names ≡ false → is_among m (take n names) ≡ false
none_taken m [] zero e = refl
none_taken m [] (suc n) e = refl
none_taken m (k ∷ names) zero e = refl
none_taken m (k ∷ names) (suc n) e = let x = neither (is_same m k) (is_among m names) e in rw (x.0, none_taken m names n x.1) refl

distinct_taken : (names : List Name) (n : ℕ) → AreDistinct names → AreDistinct (take n names)
distinct_taken [] zero d = tt
distinct_taken [] (suc n) d = tt
distinct_taken (m ∷ names) zero d = tt
distinct_taken (m ∷ names) (suc n) d = (none_taken m names n d.0, distinct_taken names n d.1)

names_taken : (names : List Name) (n : ℕ) → AllByRecursion IsName names → AllByRecursion IsName (take n names)
names_taken [] zero is = tt
names_taken [] (suc n) is = tt
names_taken (m ∷ names) zero is = tt
names_taken (m ∷ names) (suc n) is = (is.0, names_taken names n is.1)

taken_count : {X : Type 0} (xs : List X) (n : ℕ) → n ≤ length xs → length (take n xs) ≡ n
taken_count [] zero h = refl
taken_count [] (suc n) h = absurd (omega (arith, h))
taken_count (x ∷ xs) zero h = refl
taken_count (x ∷ xs) (suc n) h = let e = taken_count xs n (omega (arith, h)) in omega (arith, e)

-- the number of variables known after appended lists of expressions, in two steps
all_behind : (es fs : List Term) (n : ℕ) → known_behind_all n (es ++ fs) ≡ known_behind_all (known_behind_all n es) fs
all_behind [] fs n = refl
all_behind (e ∷ es) fs n = all_behind es fs (known_behind n e)

spellable_parts : (es fs : List Term) (n : ℕ) → AreSpellable n (es ++ fs) → AreSpellable n es × AreSpellable (known_behind_all n es) fs
spellable_parts [] fs n s = (tt, s)
spellable_parts (e ∷ es) fs n s = let x = spellable_parts es fs (known_behind n e) s.1 in ((s.0, x.0), x.1)

-- the left term and the target of a written rule
abbrev left_of : List Name → Rule → LeftTerm
left_of symbols r = record { name = name_at symbols r.source; arguments = onto (left_names r) [] }

-- the written form of a rule denotes the rule
record IsRuleBack (p : Program) (r : Rule) : Type 0 where
  numbered : rule_numbered p.symbols (rule_written (symbol_names p) r) ≡ r
  rule : IsRule p.symbols (rule_written (symbol_names p) r)
  writable : IsWritableRule (symbol_names p) r
  left : length (onto (left_names r) []) ≡ r.left
  right : length (arguments_written r.names [] r.updates) ≡ length r.updates

rule_back : (p : Program) → AllByRecursion IsName (symbol_names p) → AreDistinct (symbol_names p) → (r : Rule) → IsSpellableRule p r → r.source < length p.symbols → r.target < length p.symbols → IsRuleBack p r
rule_back p are differ r is source target =
    let names : List Name = r.names in
    let k1 : ℕ = known_behind_all r.left (terms_of_cost r.cost) in
    let k2 : ℕ = known_behind_all k1 r.updates in
    let k3 : ℕ = known_behind_all k2 (terms_of_guard r.guard) in
    let parts = spellable_parts (terms_of_cost r.cost) (r.updates ++ terms_of_guard r.guard) r.left is.terms in
    let others = spellable_parts r.updates (terms_of_guard r.guard) k1 parts.1 in
    let last : k3 ≡ length names =
    sym (all_behind (terms_of_cost r.cost) (r.updates ++ terms_of_guard r.guard) r.left ∙ all_behind r.updates (terms_of_guard r.guard) k1) ∙ is.known ∙ sym is.named in
    let g3 = all_grow (terms_of_guard r.guard) k2 in
    let g2 = all_grow r.updates k1 in
    let cost = cost_back names is.names is.distinct r.cost r.left parts.0 (omega (arith, g2, g3, last)) in
    let arguments = arguments_back names is.names is.distinct r.updates k1 [] others.0 (omega (arith, g3, last)) in
    let guard = guard_back names is.names is.distinct r.guard k2 others.1 (omega (arith, last)) in
    let left_count : r.left ≤ length names = let e = is.named in omega (arith, e) in
    let left : length (onto (left_names r) []) ≡ r.left =
    onto_count (left_names r) [] ∙ (let e = taken_count names r.left left_count in omega (arith, e)) in
    let start : numbered.left_names (left_of (symbol_names p) r) ≡ take r.left names = onto_back (left_names r) [] in
    let arrow : arrow_names (left_of (symbol_names p) r) (cost_written names r.cost) ≡ take k1 names = ap (λ ns. with_cost ns (cost_written names r.cost)) start ∙ cost.known in
    let all : rule_names (rule_written (symbol_names p) r) ≡ names =
    ap (λ ns. with_guard ns (guard_written names r.guard)) (arguments.known (arrow_names (left_of (symbol_names p) r) (cost_written names r.cost)) arrow)
    ∙ guard.known ∙ ap (λ n. take n names) last ∙ take_all_names names in
    let source_named : r.source < length (symbol_names p) = let c = names_count p.symbols in omega (arith, c, source) in
    let target_named : r.target < length (symbol_names p) = let c = names_count p.symbols in omega (arith, c, target) in
    let counted : length (arguments_written names [] r.updates) ≡ length r.updates = let e = arguments.count in omega (arith, e) in
    let free : length (rule_names (rule_written (symbol_names p) r)) - length (onto (left_names r) []) ≡ r.free =
    let e = ap length all in let n = is.named in omega (arith, e, n, left) in
    record {
      numbered = λ i. record {
        source = position_at (symbol_names p) r.source differ source_named i;
        target = position_at (symbol_names p) r.target differ target_named i;
        left = left i;
        free = free i;
        names = all i;
        updates = (ap (λ ns. sums_terms ns (arguments_written names [] r.updates)) all ∙ arguments.terms) i;
        guard = (ap (λ ns. guard_terms ns (guard_written names r.guard)) all ∙ guard.terms) i;
        cost = (ap (λ ns. cost_term ns (cost_written names r.cost)) all ∙ cost.term) i;
      };
      rule = record {
        left = subst AreDistinct (sym (onto_is (left_names r))) (distinct_reverse (left_names r) (distinct_taken names r.left is.distinct));
        target = is.target;
        source_arity = places_named p.symbols r.source differ source ∙ is.source_arity ∙ sym left;
        target_arity = places_named p.symbols r.target differ target ∙ is.target_arity ∙ sym counted;
      };
      writable = record {
        source = name_at_is (symbol_names p) r.source are source_named;
        target = name_at_is (symbol_names p) r.target are target_named;
        left = names_taken names r.left is.names;
        cost = cost.writable;
        updates = arguments.writable;
        guard = guard.writable;
      };
      left = left;
      right = counted;
    }
  where
    take_all_names : (ns : List Name) → take (length ns) ns ≡ ns
    take_all_names [] = refl
    take_all_names (n ∷ ns) = ap (λ ms. n ∷ ms) (take_all_names ns)

-- the number of known symbols never decreases
symbols_grow : (rules : List Rule) (n : ℕ) → n ≤ symbols_behind n rules
symbols_grow [] n = omega arith
symbols_grow (r ∷ rules) n =
    let a = known_grows n r.source in
    let b = known_grows (known_with n r.source) r.target in
    let c = symbols_grow rules (known_with (known_with n r.source) r.target) in
    omega (arith, a, b, c)

-- the written forms of rules, after others, denote the rules
record AreRulesBack (p : Program) (n : ℕ) (done : List WrittenRule) (rules : List Rule) : Type 0 where
  known : symbols_of done ≡ take n p.symbols → symbols_of (rules_written (symbol_names p) done rules) ≡ take (symbols_behind n rules) p.symbols
  numbered : rules_numbered p.symbols (rules_written (symbol_names p) done rules) ≡ rules_numbered p.symbols done ++ rules
  are : AreRules p.symbols done → AreRules p.symbols (rules_written (symbol_names p) done rules)
  writable : AllByRecursion (IsWritableRule (symbol_names p)) rules

rules_back : (p : Program) → AllByRecursion IsName (symbol_names p) → AreDistinct (symbol_names p) → (rules : List Rule) (n : ℕ) (done : List WrittenRule)
    → AreInOrder n rules → symbols_behind n rules ≤ length p.symbols → AllByRecursion (IsSpellableRule p) rules → AreRulesBack p n done rules
rules_back p are differ [] n done order h is = record { known = λ e. e; numbered = sym (append-nil (rules_numbered p.symbols done)); are = λ k. k; writable = tt }
rules_back p are differ (r ∷ rules) n done order h is =
    let m : ℕ = known_with n r.source in
    let k : ℕ = known_with m r.target in
    let more = symbols_grow rules k in
    let up = known_grows m r.target in
    let source : r.source < length p.symbols = let a = known_above n r.source in omega (arith, a, up, more, h) in
    let target : r.target < length p.symbols = let a = known_above m r.target in omega (arith, a, more, h) in
    let one = rule_back p are differ r is.0 source target in
    let rest = rules_back p are differ rules k (rule_written (symbol_names p) r ∷ done) order.2 h is.1 in
    record {
      known = λ same.
          rest.known (
          ap (λ ss. with_right (with_left ss (left_of (symbol_names p) r)) (term_in (rule_written (symbol_names p) r).target)) same
          ∙ ap (λ ss. with_right ss (term_in (rule_written (symbol_names p) r).target))
          (symbols_with p.symbols n r.source (length (onto (left_names r) [])) differ order.0 source (is.0.source_arity ∙ sym one.left))
          ∙ symbols_with p.symbols m r.target (length (arguments_written r.names [] r.updates)) differ order.1 target (is.0.target_arity ∙ sym one.right)
          );
      numbered = rest.numbered ∙ append_assoc (rules_numbered p.symbols done) (rule_numbered p.symbols (rule_written (symbol_names p) r) ∷ []) rules
          ∙ ap (λ q. rules_numbered p.symbols done ++ q ∷ rules) one.numbered;
      are = λ a. rest.are (one.rule, a);
      writable = (one.writable, rest.writable);
    }

-- two positions among distinct names have the same name exactly if they are equal
same_numbers : (names : List Name) (i j : ℕ) → AreDistinct names → i < length names → j < length names → is_same (name_at names i) (name_at names j) ≡ nat_eq i j
same_numbers names i j d h k = go (is_same (name_at names i) (name_at names j)) refl (nat_eq i j) refl
  where
    go : (v : Bool) → is_same (name_at names i) (name_at names j) ≡ v → (u : Bool) → nat_eq i j ≡ u → is_same (name_at names i) (name_at names j) ≡ u
    go true e true f = e
    go false e false f = e
    go true e false f =
        let same : i ≡ j = sym (position_at names i d h) ∙ ap (λ m. position_of m names) (same_equal (name_at names i) (name_at names j) e) ∙ position_at names j d k in
        absurd (grind (arith, nat_tests))
    go false e true f =
        let same : i ≡ j = grind (arith, nat_tests) in
        ap (λ m. is_same (name_at names i) (name_at names m)) (sym same) ∙ is_same_self (name_at names i)

-- the first rule that leaves a symbol is still the first when more rules follow
first_stays : (symbols : List Name) (start : Name) (done : List WrittenRule) (rules : List Rule) (t : LeftTerm) → first_leaving start done ≡ Some t → first_leaving start (rules_written symbols done rules) ≡ Some t
first_stays symbols start done [] t e = e
first_stays symbols start done (r ∷ rules) t e = first_stays symbols start (rule_written symbols r ∷ done) rules t (ap (λ o. or_left o start (left_of symbols r)) e)

-- the first written rule that leaves the start symbol has the left names of the first rule that does
record IsFirstBack (symbols : List Name) (start : Name) (rules : List WrittenRule) (found : List Name) : Type 0 where
  term : LeftTerm
  first : first_leaving start rules ≡ Some term
  names : numbered.left_names term ≡ found

first_back : (names : List Name) (start : ℕ) (done : List WrittenRule) (rules : List Rule) (found : List Name) → AreDistinct names → start < length names → AllByRecursion (λ (r : Rule). r.source < length names) rules
    → first_leaving (name_at names start) done ≡ None → names_at start rules ≡ Some found → IsFirstBack names (name_at names start) (rules_written names done rules) found
first_back names start done [] found d h below none e = cc
first_back names start done (r ∷ rules) found d h below none e =
    go (nat_eq start r.source) refl e (λ k f. first_back names start (rule_written names r ∷ done) rules found d h below.1 k f)
  where
    here : or_left (first_leaving (name_at names start) done) (name_at names start) (left_of names r) ≡ (if is_same (name_at names start) (name_at names r.source) then Some (left_of names r) else None)
    here = ap (λ o. or_left o (name_at names start) (left_of names r)) none

    go : (v : Bool) → nat_eq start r.source ≡ v → (if v then Some (left_names r) else names_at start rules) ≡ Some found
        → (first_leaving (name_at names start) (rule_written names r ∷ done) ≡ None → names_at start rules ≡ Some found → IsFirstBack names (name_at names start) (rules_written names (rule_written names r ∷ done) rules) found)
        → IsFirstBack names (name_at names start) (rules_written names (rule_written names r ∷ done) rules) found
    go true same f ih = record {
      term = left_of names r;
      first = first_stays names (name_at names start) (rule_written names r ∷ done) rules (left_of names r)
          (here ∙ ap (λ (v : Bool). if v then Some (left_of names r) else None) (same_numbers names start r.source d h below.0 ∙ same));
      names = onto_back (left_names r) [] ∙ some_is f;
    }
    go false other f ih = ih (here ∙ ap (λ (v : Bool). if v then Some (left_of names r) else None) (same_numbers names start r.source d h below.0 ∙ other)) f

-- the sources of rules in order are below the number of symbols
sources_below : (rules : List Rule) (n most : ℕ) → symbols_behind n rules ≤ most → AllByRecursion (λ (r : Rule). r.source < most) rules
sources_below [] n most h = tt
sources_below (r ∷ rules) n most h =
    let a = known_above n r.source in
    let b = known_grows (known_with n r.source) r.target in
    let c = symbols_grow rules (known_with (known_with n r.source) r.target) in
    (omega (arith, a, b, c, h), sources_below rules (known_with (known_with n r.source) r.target) most h)

-- the names of all variables are names
names_with : (known names : List Name) → AllByRecursion IsName known → AllByRecursion IsName names → AllByRecursion IsName (with_names known names)
names_with known [] k is = k
names_with known (n ∷ names) k is = names_with (with_name known n) names (one (is_among n known)) is.1
  where
    one : (v : Bool) → AllByRecursion IsName (if v then known else known ++ n ∷ [])
    one true = k
    one false = all_one_more IsName known n k is.0

rules_with : (p : Program) (known : List Name) (rules : List Rule) → AllByRecursion IsName known → AllByRecursion (IsSpellableRule p) rules → AllByRecursion IsName (with_rules known rules)
rules_with p known [] k is = k
rules_with p known (r ∷ rules) k is = rules_with p (with_names known r.names) rules (names_with known r.names k is.0.names) is.1

-- the canonical text of a program that a text spells spells it
pub spellable_spells : (p : Program) → IsSpellable p → Spells (canonical_text p) p
spellable_spells p is =
    let names : List Name = symbol_names p in
    let rules : List WrittenRule = rules_written names [] p.rules in
    let start : Name = name_at names p.start in
    let count = names_count p.symbols in
    let within : p.start < length names = let s = is.start in omega (arith, count, s) in
    let back = rules_back p is.names is.distinct p.rules 0 [] is.order (let k = is.known in omega (arith, k)) is.rules in
    let first = first_back names p.start [] p.rules p.start_names is.distinct within (sources_below p.rules 0 (length names) (let k = is.known in omega (arith, k, count))) refl is.start_names in
    let symbols : symbols_of rules ≡ p.symbols = back.known refl ∙ ap (λ n. take n p.symbols) is.known ∙ take_all_symbols p.symbols in
    record {
      written = canonical_sections p;
      text = canonical_read p (record { start = name_at_is names p.start is.names within; variables = rules_with p [] p.rules tt is.rules; rules = back.writable });
      once = record { goal = omega arith; start = refl; variables = omega arith; rules = refl };
      rules = subst (λ ss. AreRules ss rules) (sym symbols) (back.are tt);
      numbered = ap (program_from start rules) first.first ∙ (λ i. Some (record {
        symbols = symbols i;
        start = (ap (λ ss. number_of ss start) symbols ∙ position_at names p.start is.distinct within) i;
        start_names = first.names i;
        rules = (ap (λ ss. rules_numbered ss rules) symbols ∙ back.numbered) i;
      }));
    }
  where
    take_all_symbols : (ss : List Symbol) → take (length ss) ss ≡ ss
    take_all_symbols [] = refl
    take_all_symbols (s ∷ ss) = ap (λ ts. s ∷ ts) (take_all_symbols ss)

-- if its written sections are within the limits, the canonical text spells the program within the limits
pub spellable_within : (p : Program) → IsSpellable p → AreWithin (canonical_sections p) → SpellsWithin (canonical_text p) p
unfolding spellable_spells
spellable_within p is w = record { spells = spellable_spells p is; within = w }
