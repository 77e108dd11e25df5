-- The expressions of a text have their variables numbered in order of occurrence, and no negative literals.
use Rattle.std.proofs.Common.{◌≡◌, ℕ, suc, ◌+◌, ◌<◌, ◌≤◌, nat_lt, Bool, true, false, cond, not, if◌then◌else◌, List, []}
use Rattle.std.proofs.Common.{◌∷◌, ◌++◌, length, length-append, Option, Some, None, refl, ap, sym, subst, ◌∙◌, arith}
use Rattle.std.proofs.lemmas.Bool.{or_parts as neither}
use Rattle.std.proofs.lemmas.Bool.Decides.{nat_tests}
use Rattle.its_text.specs.expr_text.model.Programs as plain
use Rattle.its_text.specs.expr_text.model.Programs.{Name}
use Rattle.its_text.specs.expr_text.model.Terms.{Term}
use Rattle.its_text.specs.expr_text.text_core.Names.{is_same, is_among, position_of}
use Rattle.its_text.proofs.expr_text.text_core.NameLaws.{is_same_self}
use Rattle.its_text.specs.expr_text.Trees.{Sum, Alone, Added, Subtracted, Product, Single, Multiplied, Factor, Plain}
use Rattle.its_text.specs.expr_text.Trees.{Raised, Negated, Base, Number, Named, Bracketed}
use Rattle.its_text.specs.expr_text.Terms.{with_name, with_sum, with_product, with_factor, with_base, sum_term}
use Rattle.its_text.specs.expr_text.Terms.{product_term, factor_term, base_term}
use Rattle.its_text.specs.expr_text.Guards.{Atom, Always, Compared, Atoms, First, Joined, with_atom, with_atoms, atom_term}
use Rattle.its_text.specs.expr_text.Guards.{atoms_terms}
use Rattle.its_text.proofs.expr_text.Stability.{position_stays, among_last, extended, sum_extends}
use Rattle.its_text.proofs.expr_text.NamesRead.{Extends, atoms_extends}
use Rattle.its_text.specs.Written.{Guard, NoGuard, BehindMark, InSquares}
use Rattle.its_text.specs.Numbering.{with_sums, sums_terms, with_maybe, maybe_terms, with_guard, guard_terms, with_cost}
use Rattle.its_text.specs.Numbering.{cost_term}
use Rattle.its_text.proofs.ValidRules.{position_below}
use Rattle.its_writer.specs.Spellable.{known_with, known_behind, IsSpellableTerm, known_behind_all, AreSpellable}
use Rattle.its_writer.specs.Spellable.{terms_of_cost, terms_before, terms_of_guard}

-- the names of a product, and those of a factor, are appended to the names before them
product_extends : (names : List Name) (p : Product) → Extends names (with_product names p)
product_extends names p = sum_extends names (Alone p)

factor_extends : (names : List Name) (f : Factor) → Extends names (with_factor names f)
factor_extends names f = sum_extends names (Alone (Single f))

-- an item that is known adds none to the number of known items, and the next one adds one
pub known_below : (n i : ℕ) → i < n → known_with n i ≡ n
known_below n i h = let e : nat_lt i n ≡ true = grind (arith, nat_tests) in ap (λ (v : Bool). if v then n else suc i) e

pub known_next : (n : ℕ) → known_with n n ≡ suc n
known_next n = let e : nat_lt n n ≡ false = grind (arith, nat_tests) in ap (λ (v : Bool). if v then n else suc n) e

-- the position of a new name is that of the end of the list
position_new : (n : Name) (names : List Name) → is_among n names ≡ false → position_of n (names ++ n ∷ []) ≡ length names
position_new n [] e = ap (λ (v : Bool). cond (not v) (1 + position_of n []) 0) (is_same_self n)
position_new n (m ∷ names) e =
    let x = neither (is_same n m) (is_among n names) e in
    let p = position_new n names x.1 in
    ap (λ (v : Bool). cond (not v) (1 + position_of n (names ++ n ∷ [])) 0) x.0
    ∙ (let k : 1 + position_of n (names ++ n ∷ []) ≡ length (m ∷ names) = omega (arith, p) in k)

-- a name is one of those before it, or the next one
pub record IsNext (names last : List Name) (n : Name) : Type 0 where
  pub next : position_of n last ≤ length names
  pub known : known_with (length names) (position_of n last) ≡ length (with_name names n)

pub name_next : (names last : List Name) (n : Name) → Extends (with_name names n) last → IsNext names last n
name_next names last n = go (is_among n names) refl
  where
    go : (v : Bool) → is_among n names ≡ v → Extends (with_name names n) last → IsNext names last n
    go true e x =
        let same : with_name names n ≡ names = ap (λ (v : Bool). if v then names else names ++ n ∷ []) e in
        let at : position_of n last ≡ position_of n names = ap (position_of n) (x.1 ∙ ap (λ ns. ns ++ x.0) same) ∙ position_stays n names x.0 e in
        let below : position_of n last < length names = let b = position_below n names e in omega (arith, at, b) in
        record { next = omega (arith, below); known = known_below (length names) (position_of n last) below ∙ ap length (sym same) }
    go false e x =
        let same : with_name names n ≡ names ++ n ∷ [] = ap (λ (v : Bool). if v then names else names ++ n ∷ []) e in
        let at : position_of n last ≡ length names =
        ap (position_of n) (x.1 ∙ ap (λ ns. ns ++ x.0) same) ∙ position_stays n (names ++ n ∷ []) x.0 (among_last n names) ∙ position_new n names e in
        record {
          next = omega (arith, at);
          known = ap (known_with (length names)) at ∙ known_next (length names)
              ∙ (let l = length-append names (n ∷ []) in let k : suc (length names) ≡ length (names ++ n ∷ []) = omega (arith, l) in k)
              ∙ ap length (sym same);
        }

-- an expression is spellable after the names known before it, and the names known after it are counted right
pub record IsOrdered (names behind : List Name) (t : Term) : Type 0 where
  pub spellable : IsSpellableTerm (length names) t
  pub known : known_behind (length names) t ≡ length behind

-- an operation is spellable if its two operands are
two_spellable : (names middle behind : List Name) (d e : Term) → IsOrdered names middle d → IsOrdered middle behind e → IsSpellableTerm (length names) d × IsSpellableTerm (known_behind (length names) d) e
two_spellable names middle behind d e a b = (a.spellable, subst (λ m. IsSpellableTerm m e) (sym a.known) b.spellable)

two_known : (names middle behind : List Name) (d e : Term) → IsOrdered names middle d → IsOrdered middle behind e → known_behind (known_behind (length names) d) e ≡ length behind
two_known names middle behind d e a b = ap (λ m. known_behind m e) a.known ∙ b.known

mutual
  pub sum_ordered : (names last : List Name) (s : Sum) → Extends (with_sum names s) last → IsOrdered names (with_sum names s) (sum_term last s)
  sum_ordered names last (Alone p) x = product_ordered names last p x
  sum_ordered names last (Added s p) x =
      let a = sum_ordered names last s (extended (with_sum names s) (with_product (with_sum names s) p) last (product_extends (with_sum names s) p) x) in
      let b = product_ordered (with_sum names s) last p x in
      record {
        spellable = two_spellable names (with_sum names s) (with_product (with_sum names s) p) (sum_term last s) (product_term last p) a b;
        known = two_known names (with_sum names s) (with_product (with_sum names s) p) (sum_term last s) (product_term last p) a b;
      }
  sum_ordered names last (Subtracted s p) x =
      let a = sum_ordered names last s (extended (with_sum names s) (with_product (with_sum names s) p) last (product_extends (with_sum names s) p) x) in
      let b = product_ordered (with_sum names s) last p x in
      record {
        spellable = two_spellable names (with_sum names s) (with_product (with_sum names s) p) (sum_term last s) (product_term last p) a b;
        known = two_known names (with_sum names s) (with_product (with_sum names s) p) (sum_term last s) (product_term last p) a b;
      }

  product_ordered : (names last : List Name) (p : Product) → Extends (with_product names p) last → IsOrdered names (with_product names p) (product_term last p)
  product_ordered names last (Single f) x = factor_ordered names last f x
  product_ordered names last (Multiplied p f) x =
      let a = product_ordered names last p (extended (with_product names p) (with_factor (with_product names p) f) last (factor_extends (with_product names p) f) x) in
      let b = factor_ordered (with_product names p) last f x in
      record {
        spellable = two_spellable names (with_product names p) (with_factor (with_product names p) f) (product_term last p) (factor_term last f) a b;
        known = two_known names (with_product names p) (with_factor (with_product names p) f) (product_term last p) (factor_term last f) a b;
      }

  factor_ordered : (names last : List Name) (f : Factor) → Extends (with_factor names f) last → IsOrdered names (with_factor names f) (factor_term last f)
  factor_ordered names last (Plain b) x = base_ordered names last b x
  factor_ordered names last (Raised b ds) x = let a = base_ordered names last b x in record { spellable = a.spellable; known = a.known }
  factor_ordered names last (Negated f) x = let a = factor_ordered names last f x in record { spellable = a.spellable; known = a.known }

  base_ordered : (names last : List Name) (b : Base) → Extends (with_base names b) last → IsOrdered names (with_base names b) (base_term last b)
  base_ordered names last (Number ds) x = record { spellable = tt; known = refl }
  base_ordered names last (Named n) x = let a = name_next names last n x in record { spellable = a.next; known = a.known }
  base_ordered names last (Bracketed s) x = sum_ordered names last s x

-- expressions are spellable after the names known before them, and the names known after them are counted right
pub record AreOrdered (names behind : List Name) (ts : List Term) : Type 0 where
  pub spellable : AreSpellable (length names) ts
  pub known : known_behind_all (length names) ts ≡ length behind

-- an empty list of expressions, and a single one
pub none_ordered : (names : List Name) → AreOrdered names names []
none_ordered names = record { spellable = tt; known = refl }

pub one_ordered : (names behind : List Name) (t : Term) → IsOrdered names behind t → AreOrdered names behind (t ∷ [])
one_ordered names behind t a = record { spellable = (a.spellable, tt); known = a.known }

-- appended lists of spellable expressions are spellable
more_spellable : (ts us : List Term) (n : ℕ) → AreSpellable n ts → AreSpellable (known_behind_all n ts) us → AreSpellable n (ts ++ us)
more_spellable [] us n a b = b
more_spellable (t ∷ ts) us n a b = (a.0, more_spellable ts us (known_behind n t) a.1 b)

more_known : (ts us : List Term) (n : ℕ) → known_behind_all n (ts ++ us) ≡ known_behind_all (known_behind_all n ts) us
more_known [] us n = refl
more_known (t ∷ ts) us n = more_known ts us (known_behind n t)

pub more_ordered : (names middle behind : List Name) (ts us : List Term) → AreOrdered names middle ts → AreOrdered middle behind us → AreOrdered names behind (ts ++ us)
more_ordered names middle behind ts us a b = record {
  spellable = more_spellable ts us (length names) a.spellable (subst (λ m. AreSpellable m us) (sym a.known) b.spellable);
  known = more_known ts us (length names) ∙ ap (λ m. known_behind_all m us) a.known ∙ b.known;
}

-- the arguments of a rule are spellable
pub sums_ordered : (names last : List Name) (sums : List Sum) → Extends (with_sums names sums) last → AreOrdered names (with_sums names sums) (sums_terms last sums)
sums_ordered names last [] x = none_ordered names
sums_ordered names last (s ∷ sums) x =
    more_ordered names (with_sums names sums) (with_sum (with_sums names sums) s) (sums_terms last sums) (sum_term last s ∷ [])
    (sums_ordered names last sums (extended (with_sums names sums) (with_sum (with_sums names sums) s) last (sum_extends (with_sums names sums) s) x))
    (one_ordered (with_sums names sums) (with_sum (with_sums names sums) s) (sum_term last s) (sum_ordered (with_sums names sums) last s x))

-- the cost of a rule is spellable
pub cost_ordered : (names last : List Name) (cost : Option Sum) → Extends (with_cost names cost) last → AreOrdered names (with_cost names cost) (terms_of_cost (cost_term last cost))
cost_ordered names last None x = none_ordered names
cost_ordered names last (Some c) x = one_ordered names (with_sum names c) (sum_term last c) (sum_ordered names last c x)

-- the sides of an atom are spellable
atom_ordered : (names last : List Name) (a : Atom) → Extends (with_atom names a) last → AreOrdered names (with_atom names a) (terms_before (atom_term last a) [])
atom_ordered names last (Always t) x = none_ordered names
atom_ordered names last (Compared l sign r) x =
    more_ordered names (with_sum names l) (with_sum (with_sum names l) r) (sum_term last l ∷ []) (sum_term last r ∷ [])
    (one_ordered names (with_sum names l) (sum_term last l) (sum_ordered names last l (extended (with_sum names l) (with_sum (with_sum names l) r) last (sum_extends (with_sum names l) r) x)))
    (one_ordered (with_sum names l) (with_sum (with_sum names l) r) (sum_term last r) (sum_ordered (with_sum names l) last r x))

-- the expressions of atoms and of one more, in order
terms_more : (atoms : List plain.Atom) (a : plain.Atom) → terms_of_guard (atoms ++ a ∷ []) ≡ terms_of_guard atoms ++ terms_before a []
terms_more [] a = refl
terms_more (plain.Always ∷ atoms) a = terms_more atoms a
terms_more (plain.Compare l relation r ∷ atoms) a = ap (λ ts. l ∷ r ∷ ts) (terms_more atoms a)

atom_extended : (names : List Name) (a : Atom) → Extends names (with_atom names a)
atom_extended names a = atoms_extends names (First a)

atoms_ordered : (names last : List Name) (atoms : Atoms) → Extends (with_atoms names atoms) last → AreOrdered names (with_atoms names atoms) (terms_of_guard (atoms_terms last atoms))
atoms_ordered names last (First a) x = atom_ordered names last a x
atoms_ordered names last (Joined atoms joint a) x =
    subst (AreOrdered names (with_atom (with_atoms names atoms) a)) (sym (terms_more (atoms_terms last atoms) (atom_term last a)))
    (more_ordered names (with_atoms names atoms) (with_atom (with_atoms names atoms) a) (terms_of_guard (atoms_terms last atoms)) (terms_before (atom_term last a) [])
    (atoms_ordered names last atoms (extended (with_atoms names atoms) (with_atom (with_atoms names atoms) a) last (atom_extended (with_atoms names atoms) a) x))
    (atom_ordered (with_atoms names atoms) last a x))

-- the sides of an optional guard's atoms are spellable
maybe_ordered : (names last : List Name) (o : Option Atoms) → Extends (with_maybe names o) last → AreOrdered names (with_maybe names o) (terms_of_guard (maybe_terms last o))
maybe_ordered names last None x = none_ordered names
maybe_ordered names last (Some atoms) x = atoms_ordered names last atoms x

pub guard_ordered : (names last : List Name) (g : Guard) → Extends (with_guard names g) last → AreOrdered names (with_guard names g) (terms_of_guard (guard_terms last g))
guard_ordered names last NoGuard x = none_ordered names
guard_ordered names last (BehindMark o) x = maybe_ordered names last o x
guard_ordered names last (InSquares o) x = maybe_ordered names last o x
