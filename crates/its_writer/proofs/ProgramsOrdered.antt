-- A program that a text spells has its symbols and variables numbered in order of occurrence.
use Rattle.std.proofs.Common.{◌≡◌, ℕ, zero, suc, ◌+◌, ◌-◌, ◌≤◌, nat_eq, Bool, true, false, cond, not, if◌then◌else◌, ◌||◌}
use Rattle.std.proofs.Common.{List, [], ◌∷◌, ◌++◌, length, take, Option, Some, None, refl, ap, sym, subst, ◌∙◌}
use Rattle.std.proofs.Common.{arith}
use Rattle.std.specs.Prelude.{slice_get}
use Rattle.std.specs.List.{AllByRecursion}
use Rattle.std.proofs.lemmas.List.{length-reverse}
use Rattle.std.proofs.lemmas.Bool.Decides.{nat_tests}
use Rattle.its_text.specs.expr_text.model.Programs.{Name, Symbol, Rule, Program, arity_in}
use Rattle.its_text.specs.expr_text.text_core.Names.{IsName, is_same, is_among, position_of, AreDistinct}
use Rattle.its_text.proofs.expr_text.text_core.NameLaws.{is_same_self, same_equal, distinct_one_more}
use Rattle.its_text.specs.expr_text.Terms.{with_name}
use Rattle.its_text.proofs.expr_text.Stability.{extended, name_extends}
use Rattle.its_text.proofs.expr_text.NamesRead.{Extends, extends_self}
use Rattle.its_text.specs.Written.{LeftTerm, WrittenRule, pieces_behind}
use Rattle.its_text.specs.Numbering as numbered
use Rattle.its_text.specs.Numbering.{is_com, term_in, names_of, with_symbol, with_left, with_right, symbols_of, number_of, with_sums}
use Rattle.its_text.specs.Numbering.{with_guard, arrow_names, rule_names, sums_terms, guard_terms, cost_term, rule_numbered}
use Rattle.its_text.specs.Numbering.{rules_numbered, start_of, rules_of, or_left, first_leaving, program_from, program_of_parts}
use Rattle.its_text.specs.Spelling.{IsRule, AreRules, HaveRules, Spells}
use Rattle.its_text.proofs.NamedPieces.{text_named, before_named, AreNamed}
use Rattle.its_text.proofs.DistinctNames.{all_one_more, NamedRule, AreRulesNamed, sections_named}
use Rattle.its_text.proofs.ValidRules.{position_below, sums_extends, cost_extends, guard_extends, arguments_count, no_fewer}
use Rattle.its_text.proofs.ValidPrograms.{names_one_more, IsKnown, all_known}
use Rattle.its_text.proofs.Reading.{some_is, none_is_some}
use Rattle.its_writer.specs.Expressions.{name_at}
use Rattle.its_writer.specs.Texts.{symbol_names, left_names}
use Rattle.its_writer.specs.Spellable.{known_behind_all, AreSpellable}
use Rattle.its_writer.specs.Spellable.{known_with, terms_of, terms_of_cost, terms_of_guard, IsSpellableRule, symbols_behind}
use Rattle.its_writer.specs.Spellable.{AreInOrder, names_at, IsSpellable}
use Rattle.its_writer.proofs.NamesAt.{names_count}
use Rattle.its_writer.proofs.TermsOrdered.{name_next, AreOrdered, more_ordered, sums_ordered, cost_ordered, guard_ordered}

-- the name at a name's position is that name
name_back : (n : Name) (names : List Name) → is_among n names ≡ true → name_at names (position_of n names) ≡ n
name_back n [] h = cc
name_back n (m ∷ names) h = go (is_same n m) refl h (λ k. name_back n names k)
  where
    at : (k : ℕ) → position_of n (m ∷ names) ≡ k → name_at (m ∷ names) (position_of n (m ∷ names)) ≡ name_at (m ∷ names) k
    at k e = ap (name_at (m ∷ names)) e

    go : (v : Bool) → is_same n m ≡ v → v || is_among n names ≡ true → (is_among n names ≡ true → name_at names (position_of n names) ≡ n) → name_at (m ∷ names) (position_of n (m ∷ names)) ≡ n
    go true e k ih = at zero (ap (λ (v : Bool). cond (not v) (1 + position_of n names) 0) e) ∙ sym (same_equal n m e)
    go false e k ih =
        at (suc (position_of n names)) (ap (λ (v : Bool). cond (not v) (1 + position_of n names) 0) e ∙ (let one : 1 + position_of n names ≡ suc (position_of n names) = omega arith in one))
        ∙ ih k

-- two known names are the same exactly if their positions are
same_positions : (a b : Name) (names : List Name) → is_among a names ≡ true → is_among b names ≡ true → nat_eq (position_of a names) (position_of b names) ≡ is_same a b
same_positions a b names h k = go (nat_eq (position_of a names) (position_of b names)) refl (is_same a b) refl
  where
    go : (v : Bool) → nat_eq (position_of a names) (position_of b names) ≡ v → (u : Bool) → is_same a b ≡ u → nat_eq (position_of a names) (position_of b names) ≡ u
    go true e true f = e
    go false e false f = e
    go true e false f =
        let at : position_of a names ≡ position_of b names = grind (arith, nat_tests) in
        let same : a ≡ b = sym (name_back a names h) ∙ ap (name_at names) at ∙ name_back b names k in
        let yes : is_same a b ≡ true = ap (is_same a) (sym same) ∙ is_same_self a in cc
    go false e true f =
        let at : position_of a names ≡ position_of b names = ap (λ n. position_of n names) (same_equal a b f) in
        let yes : nat_eq (position_of a names) (position_of b names) ≡ true = grind (arith, nat_tests) in cc

-- the number of places of a symbol that is in the list, by its name
places_at : (symbols : List Symbol) (n : Name) → is_among n (names_of symbols) ≡ true → arity_in (slice_get symbols (number_of symbols n)) ≡ numbered.arity_of symbols n
places_at [] n h = cc
places_at (s ∷ symbols) n h = go (is_same n s.name) refl h (λ k. places_at symbols n k)
  where
    at : (k : ℕ) → number_of (s ∷ symbols) n ≡ k → arity_in (slice_get (s ∷ symbols) (number_of (s ∷ symbols) n)) ≡ arity_in (slice_get (s ∷ symbols) k)
    at k e = ap (λ j. arity_in (slice_get (s ∷ symbols) j)) e

    go : (v : Bool) → is_same n s.name ≡ v → v || is_among n (names_of symbols) ≡ true → (is_among n (names_of symbols) ≡ true → arity_in (slice_get symbols (number_of symbols n)) ≡ numbered.arity_of symbols n)
        → arity_in (slice_get (s ∷ symbols) (number_of (s ∷ symbols) n)) ≡ numbered.arity_of (s ∷ symbols) n
    go true e k ih =
        at zero (ap (λ (v : Bool). cond (not v) (1 + number_of symbols n) 0) e)
        ∙ sym (ap (λ (v : Bool). if v then s.arity else numbered.arity_of symbols n) e)
    go false e k ih =
        at (suc (number_of symbols n)) (ap (λ (v : Bool). cond (not v) (1 + number_of symbols n) 0) e ∙ (let one : 1 + number_of symbols n ≡ suc (number_of symbols n) = omega arith in one))
        ∙ ih k
        ∙ sym (ap (λ (v : Bool). if v then s.arity else numbered.arity_of symbols n) e)

-- taking the first part of an appended list
taken_back : (xs ys zs : List Name) → zs ≡ xs ++ ys → take (length xs) zs ≡ xs
taken_back xs ys zs e = ap (take (length xs)) e ∙ go xs
  where
    go : (xs : List Name) → take (length xs) (xs ++ ys) ≡ xs
    go [] = none ys
      where
        none : (zs : List Name) → take 0 zs ≡ []
        none [] = refl
        none (z ∷ zs) = refl
    go (x ∷ xs) = ap (λ ns. x ∷ ns) (go xs)

-- a rule of a text, with numbered symbols and variables, is spellable
rule_ordered : (p : Program) (r : WrittenRule) → NamedRule r → IsRule p.symbols r → IsKnown p.symbols r → IsSpellableRule p (rule_numbered p.symbols r)
rule_ordered p r n is known =
    let names : List Name = rule_names r in
    let start : List Name = numbered.left_names r.left in
    let arrow : List Name = arrow_names r.left r.cost in
    let sums : List Name = with_sums arrow (term_in r.target).arguments in
    let guards = guard_extends sums r.guard in
    let behind = extended arrow sums names (sums_extends arrow (term_in r.target).arguments) guards in
    let more = extended start arrow names (cost_extends start r.cost) behind in
    let fewer = no_fewer start names more in
    let left : length start ≡ length r.left.arguments = length-reverse r.left.arguments in
    let whole : length names ≡ length r.left.arguments + (length names - length r.left.arguments) = omega (arith, fewer, left) in
    let all : AreOrdered start names (terms_of (rule_numbered p.symbols r)) =
    more_ordered start arrow names (terms_of_cost (cost_term names r.cost)) (sums_terms names (term_in r.target).arguments ++ terms_of_guard (guard_terms names r.guard)) (cost_ordered start names r.cost behind)
    (more_ordered arrow sums names (sums_terms names (term_in r.target).arguments) (terms_of_guard (guard_terms names r.guard)) (sums_ordered arrow names (term_in r.target).arguments guards)
    (guard_ordered sums names r.guard (extends_self names))) in
    record {
      names = (n.names is.left).0;
      distinct = (n.names is.left).1;
      named = whole;
      source_arity = places_at p.symbols r.left.name known.0 ∙ is.source_arity;
      target_arity = places_at p.symbols (term_in r.target).name known.1 ∙ is.target_arity ∙ sym (arguments_count names (term_in r.target).arguments);
      target = subst (λ m. is_com m ≡ false) (sym (name_back (term_in r.target).name (symbol_names p) known.1)) is.target;
      terms = subst (λ m. AreSpellable m (terms_of (rule_numbered p.symbols r))) left all.spellable;
      known = ap (λ m. known_behind_all m (terms_of (rule_numbered p.symbols r))) (sym left) ∙ all.known ∙ whole;
    }

rules_ordered : (p : Program) (rules : List WrittenRule) → AllByRecursion NamedRule rules → AreRules p.symbols rules → AllByRecursion (IsKnown p.symbols) rules
    → AllByRecursion (IsSpellableRule p) (rules_numbered p.symbols rules)
rules_ordered p [] n is known = tt
rules_ordered p (r ∷ rules) n is known =
    all_one_more (IsSpellableRule p) (rules_numbered p.symbols rules) (rule_numbered p.symbols r) (rules_ordered p rules n.1 is.1 known.1) (rule_ordered p r n.0 is.0 known.0)

-- the names of the symbols after one is read are the names before, with its name
names_with : (symbols : List Symbol) (n : Name) (arity : ℕ) → names_of (with_symbol symbols n arity) ≡ with_name (names_of symbols) n
names_with symbols n arity = go (is_among n (names_of symbols))
  where
    go : (v : Bool) → names_of (if v then symbols else symbols ++ record { name = n; arity = arity } ∷ []) ≡ (if v then names_of symbols else names_of symbols ++ n ∷ [])
    go true = refl
    go false = names_one_more symbols (record { name = n; arity = arity })

-- rules in order, followed by one more rule in order, are in order
order_more : (rules : List Rule) (r : Rule) (n : ℕ) → AreInOrder n rules → (r.source ≤ symbols_behind n rules) → (r.target ≤ known_with (symbols_behind n rules) r.source) → AreInOrder n (rules ++ r ∷ [])
order_more [] r n o a b = (a, b, tt)
order_more (q ∷ rules) r n o a b = (o.0, o.1, order_more rules r (known_with (known_with n q.source) q.target) o.2 a b)

behind_more : (rules : List Rule) (r : Rule) (n : ℕ) → symbols_behind n (rules ++ r ∷ []) ≡ known_with (known_with (symbols_behind n rules) r.source) r.target
behind_more [] r n = refl
behind_more (q ∷ rules) r n = behind_more rules r (known_with (known_with n q.source) q.target)

-- the symbols of rules are numbered in order of occurrence
record SymbolsOrdered (last : List Symbol) (rules : List WrittenRule) : Type 0 where
  order : AreInOrder 0 (rules_numbered last rules)
  known : symbols_behind 0 (rules_numbered last rules) ≡ length (names_of (symbols_of rules))

symbols_ordered : (last : List Symbol) (rules : List WrittenRule) → Extends (names_of (symbols_of rules)) (names_of last) → SymbolsOrdered last rules
symbols_ordered last [] x = record { order = tt; known = refl }
symbols_ordered last (r ∷ rules) x =
    let before : List Name = names_of (symbols_of rules) in
    let left : List Symbol = with_left (symbols_of rules) r.left in
    let source : Name = r.left.name in
    let target : Name = (term_in r.target).name in
    let a : names_of left ≡ with_name before source = names_with (symbols_of rules) source (length r.left.arguments) in
    let b : names_of (symbols_of (r ∷ rules)) ≡ with_name (names_of left) target = names_with left target (length (term_in r.target).arguments) in
    let to_last : Extends (with_name (names_of left) target) (names_of last) = subst (λ ns. Extends ns (names_of last)) b x in
    let left_last : Extends (names_of left) (names_of last) = extended (names_of left) (with_name (names_of left) target) (names_of last) (name_extends (names_of left) target) to_last in
    let source_last : Extends (with_name before source) (names_of last) = subst (λ ns. Extends ns (names_of last)) a left_last in
    let earlier = symbols_ordered last rules (extended before (with_name before source) (names_of last) (name_extends before source) source_last) in
    let s = name_next before (names_of last) source source_last in
    let t = name_next (names_of left) (names_of last) target to_last in
    let known : known_with (symbols_behind 0 (rules_numbered last rules)) (number_of last source) ≡ length (names_of left) =
    ap (λ m. known_with m (number_of last source)) earlier.known ∙ s.known ∙ ap length (sym a) in
    record {
      order = order_more (rules_numbered last rules) (rule_numbered last r) 0 earlier.order (subst (λ m. number_of last source ≤ m) (sym earlier.known) s.next)
          (subst (λ m. number_of last target ≤ m) (sym known) t.next);
      known = behind_more (rules_numbered last rules) (rule_numbered last r) 0 ∙ ap (λ m. known_with m (number_of last target)) known ∙ t.known ∙ ap length (sym b);
    }

-- the left names of the first rule that leaves a symbol, after one more rule
abbrev or_names : Option (List Name) → ℕ → Rule → Option (List Name)
or_names (Some found) start r = Some found
or_names None start r = if nat_eq start r.source then Some (left_names r) else None

names_at_more : (start : ℕ) (rules : List Rule) (r : Rule) → names_at start (rules ++ r ∷ []) ≡ or_names (names_at start rules) start r
names_at_more start [] r = refl
names_at_more start (q ∷ rules) r = go (nat_eq start q.source) (names_at_more start rules r)
  where
    go : (v : Bool) → names_at start (rules ++ r ∷ []) ≡ or_names (names_at start rules) start r
        → (if v then Some (left_names q) else names_at start (rules ++ r ∷ [])) ≡ or_names (if v then Some (left_names q) else names_at start rules) start r
    go true ih = refl
    go false ih = ih

-- the names of an optional left term
abbrev names_found : Option LeftTerm → Option (List Name)
names_found None = None
names_found (Some t) = Some (numbered.left_names t)

-- a numbered rule has the left names with which it is written
left_back : (symbols : List Symbol) (r : WrittenRule) → left_names (rule_numbered symbols r) ≡ numbered.left_names r.left
left_back symbols r =
    let start : List Name = numbered.left_names r.left in
    let arrow : List Name = arrow_names r.left r.cost in
    let sums : List Name = with_sums arrow (term_in r.target).arguments in
    let more = extended start arrow (rule_names r) (cost_extends start r.cost) (extended arrow sums (rule_names r) (sums_extends arrow (term_in r.target).arguments) (guard_extends sums r.guard)) in
    ap (λ n. take n (rule_names r)) (sym (length-reverse r.left.arguments)) ∙ taken_back start more.0 (rule_names r) more.1

-- the first written rule that leaves the start symbol corresponds to the first numbered one
first_names : (symbols : List Symbol) (start : Name) (rules : List WrittenRule) → is_among start (names_of symbols) ≡ true → AllByRecursion (IsKnown symbols) rules
    → names_at (number_of symbols start) (rules_numbered symbols rules) ≡ names_found (first_leaving start rules)
first_names symbols start [] there known = refl
first_names symbols start (r ∷ rules) there known =
    names_at_more (number_of symbols start) (rules_numbered symbols rules) (rule_numbered symbols r)
    ∙ ap (λ o. or_names o (number_of symbols start) (rule_numbered symbols r)) (first_names symbols start rules there known.1)
    ∙ go (first_leaving start rules)
  where
    alone : (v : Bool) → (if v then Some (left_names (rule_numbered symbols r)) else None) ≡ names_found (if v then Some r.left else None)
    alone true = ap Some (left_back symbols r)
    alone false = refl

    go : (o : Option LeftTerm) → or_names (names_found o) (number_of symbols start) (rule_numbered symbols r) ≡ names_found (or_left o start r.left)
    go (Some t) = refl
    go None =
        ap (λ (v : Bool). if v then Some (left_names (rule_numbered symbols r)) else None) (same_positions start r.left.name (names_of symbols) there known.0.0)
        ∙ alone (is_same start r.left.name)

-- if a rule leaves the start symbol, that symbol is among the symbols of the rules
start_there : (symbols : List Symbol) (start : Name) (rules : List WrittenRule) (t : LeftTerm) → AllByRecursion (IsKnown symbols) rules → first_leaving start rules ≡ Some t → is_among start (names_of symbols) ≡ true
start_there symbols start [] t known e = absurd (none_is_some e)
start_there symbols start (r ∷ rules) t known e = go (first_leaving start rules) refl e (λ u k. start_there symbols start rules u known.1 k)
  where
    alone : (v : Bool) → is_same start r.left.name ≡ v → (if v then Some r.left else None) ≡ Some t → is_among start (names_of symbols) ≡ true
    alone true k e = ap (λ n. is_among n (names_of symbols)) (same_equal start r.left.name k) ∙ known.0.0
    alone false k e = absurd (none_is_some e)

    go : (o : Option LeftTerm) → first_leaving start rules ≡ o → or_left o start r.left ≡ Some t → ((u : LeftTerm) → first_leaving start rules ≡ Some u → is_among start (names_of symbols) ≡ true)
        → is_among start (names_of symbols) ≡ true
    go None k e earlier = alone (is_same start r.left.name) refl e
    go (Some u) k e earlier = earlier u k

-- the symbols of rules have distinct, well-formed names
symbol_named : (symbols : List Symbol) (n : Name) (arity : ℕ) → AllByRecursion IsName (names_of symbols) × AreDistinct (names_of symbols) → IsName n
    → AllByRecursion IsName (names_of (with_symbol symbols n arity)) × AreDistinct (names_of (with_symbol symbols n arity))
symbol_named symbols n arity g is = go (is_among n (names_of symbols)) refl
  where
    one : List Name
    one = names_of symbols ++ n ∷ []

    go : (v : Bool) → is_among n (names_of symbols) ≡ v
        → AllByRecursion IsName (names_of (if v then symbols else symbols ++ record { name = n; arity = arity } ∷ [])) × AreDistinct (names_of (if v then symbols else symbols ++ record { name = n; arity = arity } ∷ []))
    go true e = g
    go false e =
        subst (λ ns. AllByRecursion IsName ns × AreDistinct ns) (sym (names_one_more symbols (record { name = n; arity = arity })))
        (all_one_more IsName (names_of symbols) n g.0 is, distinct_one_more (names_of symbols) n g.1 e)

symbols_named : (rules : List WrittenRule) → AllByRecursion NamedRule rules → AllByRecursion IsName (names_of (symbols_of rules)) × AreDistinct (names_of (symbols_of rules))
symbols_named [] n = (tt, tt)
symbols_named (r ∷ rules) n =
    symbol_named (with_left (symbols_of rules) r.left) (term_in r.target).name (length (term_in r.target).arguments)
    (symbol_named (symbols_of rules) r.left.name (length r.left.arguments) (symbols_named rules n.1) n.0.source) n.0.target

-- the program of a start symbol and rules is spellable
made_spellable : (start : Name) (rules : List WrittenRule) (t : LeftTerm) → first_leaving start rules ≡ Some t → AllByRecursion NamedRule rules → AreRules (symbols_of rules) rules
    → IsSpellable (record { symbols = symbols_of rules; start = number_of (symbols_of rules) start; start_names = numbered.left_names t; rules = rules_numbered (symbols_of rules) rules })
made_spellable start rules t e n is =
    let symbols : List Symbol = symbols_of rules in
    let p : Program = record { symbols = symbols; start = number_of symbols start; start_names = numbered.left_names t; rules = rules_numbered symbols rules } in
    let good = symbols_named rules n in
    let there = start_there symbols start rules t (all_known rules) e in
    let order = symbols_ordered symbols rules (extends_self (names_of symbols)) in
    let count = names_count symbols in
    record {
      names = good.0;
      distinct = good.1;
      order = order.order;
      known = order.known ∙ count;
      rules = rules_ordered p rules n is (all_known rules);
      start = (let b = position_below start (names_of symbols) there in omega (arith, b, count));
      start_names = first_names symbols start rules there (all_known rules) ∙ ap names_found e;
    }

program_spellable : (start : Name) (rules : List WrittenRule) (o : Option LeftTerm) (p : Program) → first_leaving start rules ≡ o → program_from start rules o ≡ Some p → AllByRecursion NamedRule rules
    → AreRules (symbols_of rules) rules → IsSpellable p
program_spellable start rules None p k e n is = absurd (none_is_some e)
program_spellable start rules (Some t) p k e n is = subst IsSpellable (some_is e) (made_spellable start rules t k n is)

parts_spellable : (start : Option Name) (rules : Option (List WrittenRule)) (p : Program) → program_of_parts start rules ≡ Some p → AreRulesNamed rules → HaveRules rules → IsSpellable p
parts_spellable None None p e n is = absurd (none_is_some e)
parts_spellable None (Some rules) p e n is = absurd (none_is_some e)
parts_spellable (Some start) None p e n is = absurd (none_is_some e)
parts_spellable (Some start) (Some rules) p e n is = program_spellable start rules (first_leaving start rules) p refl e n is

-- a program that a text spells is spellable
pub spelled_spellable : (bytes : List ℕ) (p : Program) → Spells bytes p → IsSpellable p
spelled_spellable bytes p s =
    let named : AreNamed (pieces_behind s.written) = (before_named (pieces_behind s.written) [] (subst AreNamed (sym s.text.pieces) (text_named bytes))).0 in
    parts_spellable (start_of s.written) (rules_of s.written) p s.numbered (sections_named s.written named) s.rules
