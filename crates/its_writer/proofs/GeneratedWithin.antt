-- The canonical texts of the generated programs are within the limits.
use Rattle.std.proofs.Common.{◌≡◌, ℕ, zero, suc, ◌+◌, ◌*◌, ◌<◌, ◌≤◌, List, [], ◌∷◌, ◌++◌, length, length-append}
use Rattle.std.proofs.Common.{refl, ap, sym, subst, ◌∙◌, arith}
use Rattle.std.specs.List.{AllByRecursion}
use Rattle.std.proofs.lemmas.Fmt.{length-decimal-le_wide}
use Rattle.its_text.specs.expr_text.model.Limits.{name_limit, coefficient_limit}
use Rattle.its_text.specs.expr_text.model.Programs.{Name, Rule}
use Rattle.its_text.specs.expr_text.its_model.Valid.{IsValid}
use Rattle.its_text.specs.expr_text.text_core.Readers.{onto}
use Rattle.its_text.specs.Pieces.{Piece}
use Rattle.its_text.specs.Written.{WrittenRule, rules_behind, rule_behind, pieces_behind, Start}
use Rattle.its_text.specs.Written.{Variables, Goal}
use Rattle.its_text.specs.Spelling.{AreSmall, IsRuleWithin, AreRulesWithin, AreWithin, SpellsWithin}
use Rattle.its_text.proofs.ValidPrograms.{spelled_valid}
use Rattle.its_writer.specs.Layout.{numeral}
use Rattle.its_writer.specs.Expressions.{name_at}
use Rattle.its_writer.specs.Texts.{symbol_names, with_names, with_rules, variables_of, canonical_text}
use Rattle.its_writer.proofs.CanonicalSections.{rule_written, rules_written, canonical_sections}
use Rattle.its_writer.specs.Generated.{location, two_names, entry_rule, counting_rule, leaving_rule, locations, generated_rules}
use Rattle.its_writer.specs.Generated.{generated}
use Rattle.its_writer.proofs.Numerals.{numeral_decimal}
use Rattle.its_writer.proofs.NamesAt.{names_count}
use Rattle.its_writer.proofs.ProgramsBack.{spellable_within}
use Rattle.its_writer.proofs.GeneratedLaws.{locations_count, rules_all, generated_spellable}
use Rattle.its_text.specs.Numbering.{names_of}
use Rattle.its_text.proofs.ValidPrograms.{names_one_more}
use Rattle.its_text.proofs.DistinctNames.{all_one_more}

-- names of at most three digits after `l` are short
short_location : (i : ℕ) → i < 1000 → length (location i).name ≤ name_limit
short_location i h =
    let same : length (numeral i) ≤ 3 = subst (λ (ds : List ℕ). length ds ≤ 3) (sym (numeral_decimal i (omega (arith, h)))) (length-decimal-le_wide 3 i (omega arith) (omega (arith, h)) (omega (arith, h))) in
    omega (arith, same)

abbrev pub IsShortName : Name → Type 0
IsShortName n = length n ≤ name_limit

short_names : (m : ℕ) → m ≤ 1000 → AllByRecursion IsShortName (names_of (locations m))
short_names zero h = tt
short_names (suc m) h =
    subst (AllByRecursion IsShortName) (sym (names_one_more (locations m) (location m)))
    (all_one_more IsShortName (names_of (locations m)) (location m).name (short_names m (omega (arith, h))) (short_location m (omega (arith, h))))

short_at : (names : List Name) (i : ℕ) → AllByRecursion IsShortName names → i < length names → IsShortName (name_at names i)
short_at [] i is h = absurd (omega (arith, h))
short_at (n ∷ names) zero is h = is.0
short_at (n ∷ names) (suc i) is h = short_at names i is.1 (omega (arith, h))

pub symbol_short : (n i : ℕ) → n ≤ 100 → i < n + 2 → IsShortName (name_at (symbol_names (generated n)) i)
symbol_short n i few h =
    short_at (names_of (locations (n + 2))) i (short_names (n + 2) (omega (arith, few)))
    (let c = locations_count (n + 2) in let d = names_count (locations (n + 2)) in omega (arith, c, d, h))

word_small : 1 ≤ name_limit
word_small = omega arith

marked_small : 5 ≤ name_limit
marked_small = omega arith

one_small : 1 ≤ coefficient_limit
one_small = omega arith

-- the written form of a rule has small pieces, and is within the limits
record IsSmallRule (symbols : List Name) (r : Rule) : Type 0 where
  pieces : (before : List Piece) → AreSmall before → AreSmall (rule_behind (rule_written symbols r) before)
  within : IsRuleWithin (rule_written symbols r)

entry_small : (symbols : List Name) → IsShortName (name_at symbols 0) → IsShortName (name_at symbols 1) → IsSmallRule symbols entry_rule
entry_small symbols source target = record {
  pieces = λ ps before. (tt, (tt, (word_small, (tt, (word_small, (tt, (target, (tt, (marked_small, (tt, (tt, (word_small, (tt, (word_small, (tt, (source, before))))))))))))))));
  within = record {
    left = omega arith;
    right = omega arith;
    variables = omega arith;
    arguments = (record { tokens = omega arith; expanded = refl }, (record { tokens = omega arith; expanded = refl }, tt));
    cost = tt;
    guard = tt;
  };
}

counting_small : (symbols : List Name) (i : ℕ) → IsShortName (name_at symbols i) → IsSmallRule symbols (counting_rule i)
counting_small symbols i source = record {
  pieces = λ ps before.
      (one_small, (tt, (word_small, (tt, (tt, (tt, (word_small, (tt, (one_small, (tt, (word_small, (tt, (source, (tt, (marked_small, (tt, (tt, (word_small, (tt, (word_small, (tt, (source, before))))))))))))))))))))));
  within = record {
    left = omega arith;
    right = omega arith;
    variables = omega arith;
    arguments = (record { tokens = omega arith; expanded = refl }, (record { tokens = omega arith; expanded = refl }, tt));
    cost = tt;
    guard = (omega arith, (omega arith, omega arith, refl));
  };
}

leaving_small : (symbols : List Name) (i : ℕ) → IsShortName (name_at symbols i) → IsShortName (name_at symbols (suc i)) → IsSmallRule symbols (leaving_rule i)
leaving_small symbols i source target = record {
  pieces = λ ps before. (tt, (tt, (word_small, (tt, (word_small, (tt, (target, (tt, (marked_small, (tt, (tt, (word_small, (tt, (word_small, (tt, (source, before))))))))))))))));
  within = record {
    left = omega arith;
    right = omega arith;
    variables = omega arith;
    arguments = (record { tokens = omega arith; expanded = refl }, (record { tokens = omega arith; expanded = refl }, tt));
    cost = tt;
    guard = tt;
  };
}

-- the written forms of rules after small ones are small, too
rules_small : (symbols : List Name) (done : List WrittenRule) (rules : List Rule) (before : List Piece) → AllByRecursion (IsSmallRule symbols) rules → AreSmall (rules_behind done before) → AreSmall (rules_behind (rules_written symbols done rules) before)
rules_small symbols done [] before s h = h
rules_small symbols done (r ∷ rules) before s h = rules_small symbols (rule_written symbols r ∷ done) rules before s.1 (s.0.pieces (rules_behind done before) h)

rules_within : (symbols : List Name) (done : List WrittenRule) (rules : List Rule) → AllByRecursion (IsSmallRule symbols) rules → AreRulesWithin done → AreRulesWithin (rules_written symbols done rules)
rules_within symbols done [] s h = h
rules_within symbols done (r ∷ rules) s h = rules_within symbols (rule_written symbols r ∷ done) rules s.1 (s.0.within, h)

written_count : (symbols : List Name) (done : List WrittenRule) (rules : List Rule) → length (rules_written symbols done rules) ≡ length done + length rules
written_count symbols done [] = let e : length done ≡ length done + 0 = omega arith in e
written_count symbols done (r ∷ rules) = let e = written_count symbols (rule_written symbols r ∷ done) rules in omega (arith, e)

pub rules_count : (n : ℕ) → length (generated_rules n) ≡ 1 + 2 * n
rules_count zero = refl
rules_count (suc n) =
    let e = length-append (generated_rules n) (counting_rule (suc n) ∷ leaving_rule (suc n) ∷ []) in let k = rules_count n in omega (arith, e, k)

-- the variables of appended lists of rules are those of the first list, then those of the second
with_joined : (xs ys : List Rule) (known : List Name) → with_rules known (xs ++ ys) ≡ with_rules (with_rules known xs) ys
with_joined [] ys known = refl
with_joined (x ∷ xs) ys known = with_joined xs ys (with_names known x.names)

pub variables_are : (n : ℕ) → with_rules [] (generated_rules n) ≡ two_names
variables_are zero = refl
variables_are (suc n) =
    with_joined (generated_rules n) (counting_rule (suc n) ∷ leaving_rule (suc n) ∷ []) []
    ∙ ap (λ known. with_rules known (counting_rule (suc n) ∷ leaving_rule (suc n) ∷ [])) (variables_are n)

-- the rules of the generated program are small up to n = 100
rules_are_small : (n : ℕ) → n ≤ 100 → AllByRecursion (IsSmallRule (symbol_names (generated n))) (generated_rules n)
rules_are_small n few =
    let symbols : List Name = symbol_names (generated n) in
    rules_all (IsSmallRule symbols) n (entry_small symbols (symbol_short n 0 few (omega arith)) (symbol_short n 1 few (omega arith)))
    (λ i some le. (
      counting_small symbols i (symbol_short n i few (omega (arith, le))),
      leaving_small symbols i (symbol_short n i few (omega (arith, le))) (symbol_short n (suc i) few (omega (arith, le))),
    ))

names_small : (start : Name) → IsShortName start → (names : List Name) → names ≡ two_names → AreSmall (pieces_behind (Variables (onto names []) ∷ Start start ∷ Goal ∷ []))
names_small start s names e =
    subst (λ ns. AreSmall (pieces_behind (Variables (onto ns []) ∷ Start start ∷ Goal ∷ []))) (sym e)
    (tt, (word_small, (word_small, ((omega arith), (tt, (tt, (tt, (s, (omega arith, (tt, (omega arith, (tt, (tt, (omega arith, (omega arith, (tt, tt))))))))))))))))

generated_within : (n : ℕ) → n ≤ 100 → AreWithin (canonical_sections (generated n))
generated_within n few =
    let symbols : List Name = symbol_names (generated n) in
    let start = symbol_short n 0 few (omega arith) in
    let small = rules_are_small n few in
    record {
      small = (tt, rules_small symbols [] (generated_rules n) _ small (omega arith, (tt, names_small (name_at symbols 0) start (variables_of (generated n)) (variables_are n))));
      rules = (
        (let c = written_count symbols [] (generated_rules n) in let k = rules_count n in omega (arith, c, k, few)),
        rules_within symbols [] (generated_rules n) small tt,
      );
    }

pub generated_spelled : (n : ℕ) → n ≤ 100 → SpellsWithin (canonical_text (generated n)) (generated n)
generated_spelled n few = spellable_within (generated n) (generated_spellable n) (generated_within n few)

pub generated_valid : (n : ℕ) → n ≤ 100 → IsValid (generated n)
generated_valid n few = spelled_valid (canonical_text (generated n)) (generated n) (generated_spelled n few)
