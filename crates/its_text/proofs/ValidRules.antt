-- Expressions and atoms that are written within the limits denote valid ones over the variables of their rule.
use Rattle.std.proofs.Common.{◌≡◌, ◌+◌, ◌<◌, ◌≤◌, Bool, true, false, cond, not, ◌||◌, List, [], ◌∷◌, length}
use Rattle.std.proofs.Common.{length-append, Option, Some, None, refl, ap, ◌∙◌, arith}
use Rattle.std.specs.Prelude.{⊤}
use Rattle.std.specs.List.{AllByRecursion}
use Rattle.expr_text.specs.model.Programs as plain
use Rattle.expr_text.specs.model.Programs.{Name}
use Rattle.expr_text.specs.model.Terms.{Term}
use Rattle.expr_text.specs.poly_terms.Checked.{ReadsBelow}
use Rattle.expr_text.specs.poly_terms.Faults as polynomials
use Rattle.expr_text.specs.its_model.Valid.{difference_of, IsValidTerm, IsValidAtom, IsValidCost, cost_atoms}
use Rattle.expr_text.specs.text_core.Names.{is_same, is_among, position_of}
use Rattle.expr_text.specs.Pieces as inner
use Rattle.expr_text.specs.Trees.{Sum, Alone, Added, Subtracted, Product, Single, Multiplied, Factor, Plain, Raised}
use Rattle.expr_text.specs.Trees.{Negated, Base, Number, Named, Bracketed}
use Rattle.expr_text.specs.Terms.{with_sum, sum_term, product_term, factor_term, base_term}
use Rattle.expr_text.specs.Guards.{Atom, Always, Compared, Atoms, First, Joined, count_of, relation_of, with_atoms}
use Rattle.expr_text.specs.Guards.{atom_term, atoms_terms}
use Rattle.expr_text.proofs.Stability.{SumReads, ProductReads, FactorReads, BaseReads, sum_extends, sum_is_read}
use Rattle.expr_text.proofs.Stability.{extended}
use Rattle.expr_text.proofs.NamesRead.{Extends, extends_self, sum_along, AtomReads, AtomsRead, atoms_extends}
use Rattle.expr_text.proofs.NamesRead.{atoms_are_read}
use Rattle.its_text.specs.Written.{Guard, NoGuard, BehindMark, InSquares}
use Rattle.its_text.specs.Numbering.{with_sums, with_maybe, with_guard, sums_terms, guard_terms, with_cost, cost_term}
use Rattle.its_text.specs.Numbering.{atoms_of_cost}
use Rattle.expr_text.specs.Differences.{differences, first_of_all}
use Rattle.its_text.specs.Spelling.{AreArgumentsWithin, IsCostWithin, IsAtomWithin, AreAtomsWithin, IsGuardWithin}
use Rattle.its_text.proofs.DistinctNames.{all_one_more}

-- a name that is in a list has a position below the list's length
pub position_below : (n : Name) (names : List Name) → is_among n names ≡ true → position_of n names < length names
position_below n [] h = cc
position_below n (m ∷ names) h = go (is_same n m) refl h (λ k. position_below n names k)
  where
    go : (v : Bool) → is_same n m ≡ v → v || is_among n names ≡ true → (is_among n names ≡ true → position_of n names < length names) → position_of n (m ∷ names) < length (m ∷ names)
    go true e k ih = let p : position_of n (m ∷ names) ≡ 0 = ap (λ (v : Bool). cond (not v) (1 + position_of n names) 0) e in omega (arith, p)
    go false e k ih =
        let p : position_of n (m ∷ names) ≡ 1 + position_of n names = ap (λ (v : Bool). cond (not v) (1 + position_of n names) 0) e in
        let b = ih k in omega (arith, p, b)

mutual
  -- an expression whose names are among names reads variables below their number
  pub sum_below : (names : List Name) (s : Sum) → SumReads names s → ReadsBelow (length names) (sum_term names s)
  sum_below names (Alone p) h = product_below names p h
  sum_below names (Added s p) h = (sum_below names s h.0, product_below names p h.1)
  sum_below names (Subtracted s p) h = (sum_below names s h.0, product_below names p h.1)

  product_below : (names : List Name) (p : Product) → ProductReads names p → ReadsBelow (length names) (product_term names p)
  product_below names (Single f) h = factor_below names f h
  product_below names (Multiplied p f) h = (product_below names p h.0, factor_below names f h.1)

  factor_below : (names : List Name) (f : Factor) → FactorReads names f → ReadsBelow (length names) (factor_term names f)
  factor_below names (Plain b) h = base_below names b h
  factor_below names (Raised b ds) h = base_below names b h
  factor_below names (Negated f) h = factor_below names f h

  base_below : (names : List Name) (b : Base) → BaseReads names b → ReadsBelow (length names) (base_term names b)
  base_below names (Number ds) h = tt
  base_below names (Named n) h = position_below n names h
  base_below names (Bracketed s) h = sum_below names s h

-- The names after arguments are those before, with new ones at the end.
pub sums_extends : (names : List Name) (sums : List Sum) → Extends names (with_sums names sums)
sums_extends names [] = extends_self names
sums_extends names (s ∷ sums) = extended names (with_sums names sums) (with_sum (with_sums names sums) s) (sums_extends names sums) (sum_extends (with_sums names sums) s)

-- The names after a cost are those before, with new ones at the end.
pub cost_extends : (names : List Name) (cost : Option Sum) → Extends names (with_cost names cost)
cost_extends names None = extends_self names
cost_extends names (Some c) = sum_extends names c

maybe_extends : (names : List Name) (o : Option Atoms) → Extends names (with_maybe names o)
maybe_extends names None = extends_self names
maybe_extends names (Some atoms) = atoms_extends names atoms

-- The names after a guard are those before, with new ones at the end.
pub guard_extends : (names : List Name) (g : Guard) → Extends names (with_guard names g)
guard_extends names NoGuard = extends_self names
guard_extends names (BehindMark o) = maybe_extends names o
guard_extends names (InSquares o) = maybe_extends names o

-- The names of the arguments are among these names.
abbrev pub AllRead : List Name → List Sum → Type 0
AllRead names [] = ⊤
AllRead names (s ∷ sums) = SumReads names s × AllRead names sums

-- The names of the cost are among these names.
abbrev pub CostReads : List Name → Option Sum → Type 0
CostReads names None = ⊤
CostReads names (Some c) = SumReads names c

-- The names of a cost that are among some names are among any that extend these.
pub cost_along : (names last : List Name) (cost : Option Sum) → Extends names last → CostReads names cost → CostReads last cost
cost_along names last None e h = tt
cost_along names last (Some c) e h = sum_along names last c e h

-- the names of a cost are among the variables once it is read
pub cost_is_read : (names : List Name) (cost : Option Sum) → CostReads (with_cost names cost) cost
cost_is_read names None = tt
cost_is_read names (Some c) = sum_is_read names c

-- The names of arguments that are among some names are among any that extend these.
pub all_read_more : (names last : List Name) (sums : List Sum) → Extends names last → AllRead names sums → AllRead last sums
all_read_more names last [] e h = tt
all_read_more names last (s ∷ sums) e h = (sum_along names last s e h.0, all_read_more names last sums e h.1)

-- the names of arguments are among the variables once these are read
pub sums_are_read : (names : List Name) (sums : List Sum) → AllRead (with_sums names sums) sums
sums_are_read names [] = tt
sums_are_read names (s ∷ sums) =
    (sum_is_read (with_sums names sums) s, all_read_more (with_sums names sums) (with_sum (with_sums names sums) s) sums (sum_extends (with_sums names sums) s) (sums_are_read names sums))

-- arguments within the limits are valid expressions
pub arguments_valid : (names : List Name) (sums : List Sum) → AllRead names sums → AreArgumentsWithin names sums → AllByRecursion (IsValidTerm (length names)) (sums_terms names sums)
arguments_valid names [] h w = tt
arguments_valid names (s ∷ sums) h w =
    all_one_more (IsValidTerm (length names)) (sums_terms names sums) (sum_term names s) (arguments_valid names sums h.1 w.1) (record { variables = sum_below names s h.0; expands = w.0.expanded })

-- a cost within the limits denotes a valid one
pub cost_valid : (names : List Name) (cost : Option Sum) → CostReads names cost → IsCostWithin names cost → IsValidCost (length names) (cost_term names cost)
cost_valid names None h w = tt
cost_valid names (Some c) h w = record { variables = sum_below names c h; expands = w.expanded }

-- A cost counts as at most one atom, and as many by numbers as in its written form.
pub at_most_one : (cost : Option Sum) → atoms_of_cost cost ≤ 1
at_most_one None = omega arith
at_most_one (Some c) = omega arith

pub cost_counts : (names : List Name) (cost : Option Sum) → cost_atoms (cost_term names cost) ≡ atoms_of_cost cost
cost_counts names None = refl
cost_counts names (Some c) = refl

-- there are as many terms as arguments
pub arguments_count : (names : List Name) (sums : List Sum) → length (sums_terms names sums) ≡ length sums
arguments_count names [] = refl
arguments_count names (s ∷ sums) =
    let e = length-append (sums_terms names sums) (sum_term names s ∷ []) in let k = arguments_count names sums in omega (arith, e, k)

-- If none of several expressions has a fault, the first one has none.
first_none : (d : Term) (others : List Term) → first_of_all (d ∷ others) ≡ None → polynomials.first_fault d ≡ None
first_none d others h = go (polynomials.first_fault d) h
  where
    go : (o : Option polynomials.Fault) → polynomials.or_else o (first_of_all others) ≡ None → o ≡ None
    go None h = refl
    go (Some x) h = cc

difference_none : (d e : Term) (sign : inner.Sign) → first_of_all (differences d (relation_of sign) e) ≡ None → polynomials.first_fault (difference_of d (relation_of sign) e) ≡ None
difference_none d e inner.AtLeastSign h = first_none (difference_of d plain.AtLeast e) [] h
difference_none d e inner.MoreThanSign h = first_none (difference_of d plain.MoreThan e) [] h
difference_none d e inner.AtMostSign h = first_none (difference_of d plain.AtMost e) [] h
difference_none d e inner.LessThanSign h = first_none (difference_of d plain.LessThan e) [] h
difference_none d e inner.EqualSign h = first_none (difference_of d plain.EqualTo e) (difference_of e plain.EqualTo d ∷ []) h
difference_none d e inner.DoubleEqualSign h = first_none (difference_of d plain.EqualTo e) (difference_of e plain.EqualTo d ∷ []) h

-- atoms within the limits are valid
atom_valid : (names : List Name) (a : Atom) → AtomReads names a → IsAtomWithin names a → IsValidAtom (length names) (atom_term names a)
atom_valid names (Always t) h w = tt
atom_valid names (Compared l sign r) h w =
    record { left = sum_below names l h.0; right = sum_below names r h.1; expands = difference_none (sum_term names l) (sum_term names r) sign w.2 }

atoms_valid : (names : List Name) (atoms : Atoms) → AtomsRead names atoms → AreAtomsWithin names atoms → AllByRecursion (IsValidAtom (length names)) (atoms_terms names atoms)
atoms_valid names (First a) h w = (atom_valid names a h w, tt)
atoms_valid names (Joined atoms joint a) h w =
    all_one_more (IsValidAtom (length names)) (atoms_terms names atoms) (atom_term names a) (atoms_valid names atoms h.0 w.0) (atom_valid names a h.1 w.1)

atoms_count : (names : List Name) (atoms : Atoms) → length (atoms_terms names atoms) ≡ count_of atoms
atoms_count names (First a) = refl
atoms_count names (Joined atoms joint a) =
    let e = length-append (atoms_terms names atoms) (atom_term names a ∷ []) in let k = atoms_count names atoms in omega (arith, e, k)

-- a guard within the limits is valid, and with the cost it has no more atoms than the limit
pub guard_valid : (cost : Option Sum) (names : List Name) (g : Guard) → IsGuardWithin (atoms_of_cost cost) (with_guard names g) g → AllByRecursion (IsValidAtom (length (with_guard names g))) (guard_terms (with_guard names g) g) × (length (guard_terms (with_guard names g) g) + atoms_of_cost cost ≤ 64)
guard_valid cost names NoGuard w = (tt, (let one = at_most_one cost in omega (arith, one)))
guard_valid cost names (BehindMark None) w = (tt, (let one = at_most_one cost in omega (arith, one)))
guard_valid cost names (BehindMark (Some atoms)) w =
    (atoms_valid (with_atoms names atoms) atoms (atoms_are_read names atoms) w.1, (let e = atoms_count (with_atoms names atoms) atoms in let k = w.0 in omega (arith, e, k)))
guard_valid cost names (InSquares None) w = (tt, (let one = at_most_one cost in omega (arith, one)))
guard_valid cost names (InSquares (Some atoms)) w =
    (atoms_valid (with_atoms names atoms) atoms (atoms_are_read names atoms) w.1, (let e = atoms_count (with_atoms names atoms) atoms in let k = w.0 in omega (arith, e, k)))

-- The names of the arguments are among those of the whole rule.
pub read_in_rule : (names : List Name) (sums : List Sum) (g : Guard) → AllRead (with_guard (with_sums names sums) g) sums
read_in_rule names sums g = all_read_more (with_sums names sums) (with_guard (with_sums names sums) g) sums (guard_extends (with_sums names sums) g) (sums_are_read names sums)

-- an extension of names is at least as long
pub no_fewer : (names last : List Name) → Extends names last → length names ≤ length last
no_fewer names last e = let k = ap length e.1 ∙ length-append names e.0 in omega (arith, k)
