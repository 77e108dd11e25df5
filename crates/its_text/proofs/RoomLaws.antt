-- Laws of the tests of limits; and that names and terms don't change when names are appended.
use Rattle.std.proofs.Common.{◌≡◌, ℕ, suc, ◌≤◌, Bool, true, false, not, ◌&&◌, ◌||◌, if◌then◌else◌, ◌==◌, ◌↔◌, nat_le}
use Rattle.std.proofs.Common.{List, [], ◌∷◌, ◌++◌, Option, Some, None, refl, ap, sym, ◌∙◌, arith}
use Rattle.std.proofs.lemmas.Bool.Decides.{nat_tests}
use Rattle.std.specs.List.{AllByRecursion}
use Rattle.expr_text.specs.model.Programs.{Name, Symbol}
use Rattle.expr_text.specs.poly_terms.Faults as polynomials
use Rattle.expr_text.specs.text_core.Names.{is_same, is_among}
use Rattle.expr_text.specs.Trees.{Sum}
use Rattle.expr_text.specs.Terms.{sum_term}
use Rattle.expr_text.specs.Guards.{Atom, Always, Compared, Atoms, First, Joined, relation_of}
use Rattle.expr_text.proofs.Stability.{SumReads}
use Rattle.its_text.specs.Written.{WrittenRule}
use Rattle.its_text.specs.Numbering.{names_of, with_symbol, arity_of, term_in}
use Rattle.expr_text.specs.Differences.{differences, first_of_all}
use Rattle.its_text.specs.StateFaults.{other_arity}
use Rattle.its_text.specs.Spelling.{IsArgumentWithin, AreArgumentsWithin, IsCostWithin, IsAtomWithin, AreAtomsWithin}
use Rattle.its_text.specs.Spelling.{IsRule, AreRules}
use Rattle.expr_text.proofs.NamesRead.{Extends, term_along, AtomReads, AtomsRead}
use Rattle.its_text.proofs.ValidRules.{AllRead, CostReads}
use Rattle.its_text.proofs.ValidPrograms.{IsKnown}
pub use Rattle.std.proofs.lemmas.Bool.{not-true as passes_not}

-- If a number isn't at most another, it is greater.
pub below : (a b : ℕ) → nat_le a b ≡ false → suc b ≤ a
below a b h = grind (arith, nat_tests, h)

-- a greater number isn't at most a lesser one
pub not_at : (a b : ℕ) → suc b ≤ a → nat_le a b ≡ false
not_at a b h = grind (arith, nat_tests, h)

-- if the test finds no difference between two numbers, they are equal
pub same_number : (a b : ℕ) → not (a == b) ≡ false → a ≡ b
same_number a b h = go (a == b) refl h
  where
    go : (v : Bool) → (a == b) ≡ v → not v ≡ false → a ≡ b
    go true e k = grind (arith, nat_tests, e)
    go false e k = cc

-- the test finds no difference between equal numbers
pub number_same : (a b : ℕ) → a ≡ b → not (a == b) ≡ false
number_same a b h = ap not (let e : (a == b) ≡ true = grind (arith, nat_tests, h) in e)

-- a number that passes the test for 0 is 0
pub is_zero : (a : ℕ) → (a == 0) ≡ true → a ≡ 0
is_zero a h = grind (arith, nat_tests, h)

-- A number that fails the test for 0 is at least 1.
pub not_zero : (a : ℕ) → (a == 0) ≡ false → 1 ≤ a
not_zero a h = grind (arith, nat_tests, h)

-- A test can't both hold and fail.
pub contrary : {X : Type 0} (v : Bool) → v ≡ true → v ≡ false → X
contrary true on stop_kind = cc
contrary false on stop_kind = cc

-- A conjunction with a test that fails fails.
pub and_false : (v : Bool) → (v && false) ≡ false
and_false true = refl
and_false false = refl

-- A conjunction with a test that holds has the value of the other test.
pub and_true : (v : Bool) → (v && true) ≡ v
and_true true = refl
and_true false = refl

-- a term has as many arguments as its symbol has places exactly if the test for another number fails
pub arity_same : (symbols : List Symbol) (name : Name) (arity : ℕ) → (other_arity symbols name arity ≡ false)
    ↔ (arity_of symbols name ≡ arity)
arity_same symbols name arity = (same_number (arity_of symbols name) arity, number_same (arity_of symbols name) arity)

-- a known symbol keeps its number of places when others are added
arity_append : (symbols : List Symbol) (s : Symbol) (n : Name) → is_among n (names_of symbols) ≡ true
    → arity_of (symbols ++ s ∷ []) n ≡ arity_of symbols n
arity_append [] s n h = cc
arity_append (t ∷ symbols) s n h = go (is_same n t.name) refl h (λ k. arity_append symbols s n k)
  where
    go : (v : Bool) → is_same n t.name ≡ v → v || is_among n (names_of symbols) ≡ true
        → (is_among n (names_of symbols) ≡ true → arity_of (symbols ++ s ∷ []) n ≡ arity_of symbols n)
        → arity_of (t ∷ (symbols ++ s ∷ [])) n ≡ arity_of (t ∷ symbols) n
    go true e k ih = rw e refl
    go false e k ih = rw (e, ih k) refl

-- A known symbol keeps its number of places after one more is read.
pub arity_stays : (symbols : List Symbol) (n name : Name) (arity : ℕ) → is_among n (names_of symbols) ≡ true
    → arity_of (with_symbol symbols name arity) n ≡ arity_of symbols n
arity_stays symbols n name arity h = go (is_among name (names_of symbols))
  where
    go : (v : Bool)
        → arity_of (if v then symbols else symbols ++ record { name = name; arity = arity } ∷ []) n ≡ arity_of symbols n
    go true = refl
    go false = arity_append symbols (record { name = name; arity = arity }) n h

-- A rule is valid exactly if it was before another symbol came.
rule_same : (symbols last : List Symbol) (r : WrittenRule) → arity_of last r.left.name ≡ arity_of symbols r.left.name
    → arity_of last (term_in r.target).name ≡ arity_of symbols (term_in r.target).name
    → IsRule symbols r → IsRule last r
rule_same symbols last r a b h =
    record { left = h.left; target = h.target; source_arity = a ∙ h.source_arity; target_arity = b ∙ h.target_arity }

-- Rules whose symbols are known are valid exactly if they are with one more symbol.
pub rules_stay : (symbols : List Symbol) (name : Name) (arity : ℕ) (rules : List WrittenRule)
    → AllByRecursion (IsKnown symbols) rules → AreRules symbols rules ↔ AreRules (with_symbol symbols name arity) rules
rules_stay symbols name arity [] known = (λ h. tt, λ h. tt)
rules_stay symbols name arity (r ∷ rules) known =
    let a = arity_stays symbols r.left.name name arity known.0.0 in
    let b = arity_stays symbols (term_in r.target).name name arity known.0.1 in
    let ih = rules_stay symbols name arity rules known.1 in (
      λ h. (rule_same symbols (with_symbol symbols name arity) r a b h.0, ih.0 h.1),
      λ h. (rule_same (with_symbol symbols name arity) symbols r (sym a) (sym b) h.0, ih.1 h.1),
    )

-- Arguments over some names are within the limits exactly if they are over more names.
module _ (names last : List Name) (e : Extends names last) where
  argument_stays : (s : Sum) → SumReads names s → IsArgumentWithin names s ↔ IsArgumentWithin last s
  argument_stays s h =
      let same = ap polynomials.first_fault (term_along names last s e h) in (
        λ w. record {
          tokens = w.tokens;
          expanded = same ∙ w.expanded;
        },
        λ w. record { tokens = w.tokens; expanded = sym same ∙ w.expanded },
      )

  -- arguments are within the limits over their variables exactly if they are over more
  pub arguments_stay : (sums : List Sum) → AllRead names sums → AreArgumentsWithin names sums
      ↔ AreArgumentsWithin last sums
  arguments_stay [] h = (λ w. tt, λ w. tt)
  arguments_stay (s ∷ sums) h =
      let a = argument_stays s h.0 in
      let b = arguments_stay sums h.1 in
      (λ w. (a.0 w.0, b.0 w.1), λ w. (a.1 w.0, b.1 w.1))

  -- a cost within the limits stays so over more names
  pub cost_stays : (cost : Option Sum) → CostReads names cost → IsCostWithin names cost ↔ IsCostWithin last cost
  cost_stays None h = (λ w. tt, λ w. tt)
  cost_stays (Some c) h = argument_stays c h

  -- atoms within the limits stay so over more names
  atom_stays : (a : Atom) → AtomReads names a → IsAtomWithin names a ↔ IsAtomWithin last a
  atom_stays (Always t) h = (λ w. tt, λ w. tt)
  atom_stays (Compared l sign r) h =
      let left = term_along names last l e h.0 in
      let right = term_along names last r e h.1 in
      let same : first_of_all (differences (sum_term last l) (relation_of sign) (sum_term last r)) ≡ first_of_all
      (differences (sum_term names l) (relation_of sign) (sum_term names r))
      = ap (λ t. first_of_all (differences t (relation_of sign) (sum_term last r))) left
      ∙ ap (λ t. first_of_all (differences (sum_term names l) (relation_of sign) t)) right in
      (λ w. (w.0, w.1, same ∙ w.2), λ w. (w.0, w.1, sym same ∙ w.2))

  -- atoms are within the limits over their variables exactly if they are over more
  pub atoms_stay : (atoms : Atoms) → AtomsRead names atoms → AreAtomsWithin names atoms ↔ AreAtomsWithin last atoms
  atoms_stay (First a) h = atom_stays a h
  atoms_stay (Joined atoms joint a) h =
      let x = atoms_stay atoms h.0 in
      let y = atom_stays a h.1 in
      (λ w. (x.0 w.0, y.0 w.1), λ w. (x.1 w.0, y.1 w.1))
