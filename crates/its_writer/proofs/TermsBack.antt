-- The written form of an expression denotes the expression.
use Rattle.std.proofs.Common.{◌≡◌, ℕ, ◌+◌, ◌<◌, ◌≤◌, List, [], ◌∷◌, ◌++◌, length, take, Option, Some, None}
use Rattle.std.proofs.Common.{refl, ap, sym, subst, ◌∙◌, arith, append_assoc, append-nil}
use Rattle.std.specs.Prelude.{pos, negsuc}
use Rattle.std.specs.List.{AllByRecursion}
use Rattle.std.specs.Str.Parse.{digits_value}
use Rattle.its_text.specs.expr_text.model.Programs as plain
use Rattle.its_text.specs.expr_text.model.Programs.{Name, Relation, AtLeast, MoreThan, AtMost, LessThan, EqualTo}
use Rattle.its_text.specs.expr_text.model.Terms.{Term, Literal, Variable, Negation, Addition, Subtraction}
use Rattle.its_text.specs.expr_text.model.Terms.{Multiplication, Exponentiation}
use Rattle.its_text.specs.expr_text.text_core.Names.{IsName, AreDistinct}
use Rattle.its_text.specs.expr_text.Pieces.{Ampersands}
use Rattle.its_text.specs.expr_text.Trees.{Sum}
use Rattle.its_text.specs.expr_text.Terms.{with_sum, with_base, sum_term, base_term}
use Rattle.its_text.specs.expr_text.Guards.{Atoms, First, Joined, relation_of, with_atom, with_atoms, atom_term, atoms_terms}
use Rattle.its_text.specs.Numbering.{with_sums, sums_terms, with_cost, cost_term, with_guard, guard_terms}
use Rattle.its_writer.specs.Layout.{numeral}
use Rattle.its_writer.proofs.CanonicalSections.{operand_written, expression_written, arguments_written, sign_written, atom_written}
use Rattle.its_writer.proofs.CanonicalSections.{atoms_written, guard_written, cost_written}
use Rattle.its_writer.specs.Spellable.{known_behind, IsSpellableTerm, known_behind_all, AreSpellable}
use Rattle.its_writer.specs.Spellable.{terms_of_cost, terms_before, terms_of_guard}
use Rattle.its_writer.proofs.Numerals.{numeral_is}
use Rattle.its_writer.proofs.NamesAt.{name_at_is, position_at, first_with, known_grows, known_above}
use Rattle.its_writer.proofs.ExpressionsRead.{IsWritable}
use Rattle.its_writer.proofs.RulesRead.{IsWritableAtom, IsWritableCost}

-- the written form of an operand has the same names and value as that of its expression
operand_names : (names known : List Name) (e : Term) → with_base known (operand_written names e (expression_written names e)) ≡ with_sum known (expression_written names e)
operand_names names known (Literal z) = refl
operand_names names known (Variable i) = refl
operand_names names known (Negation e) = refl
operand_names names known (Addition d e) = refl
operand_names names known (Subtraction d e) = refl
operand_names names known (Multiplication d e) = refl
operand_names names known (Exponentiation e n) = refl

operand_term : (names known : List Name) (e : Term) → base_term known (operand_written names e (expression_written names e)) ≡ sum_term known (expression_written names e)
operand_term names known (Literal z) = refl
operand_term names known (Variable i) = refl
operand_term names known (Negation e) = refl
operand_term names known (Addition d e) = refl
operand_term names known (Subtraction d e) = refl
operand_term names known (Multiplication d e) = refl
operand_term names known (Exponentiation e n) = refl

-- at least as many variables are known after an expression as before it
pub behind_grows : (e : Term) (n : ℕ) → n ≤ known_behind n e
behind_grows (Literal z) n = omega arith
behind_grows (Variable i) n = known_grows n i
behind_grows (Negation e) n = behind_grows e n
behind_grows (Addition d e) n = let a = behind_grows d n in let b = behind_grows e (known_behind n d) in omega (arith, a, b)
behind_grows (Subtraction d e) n = let a = behind_grows d n in let b = behind_grows e (known_behind n d) in omega (arith, a, b)
behind_grows (Multiplication d e) n = let a = behind_grows d n in let b = behind_grows e (known_behind n d) in omega (arith, a, b)
behind_grows (Exponentiation e m) n = behind_grows e n

pub all_grow : (es : List Term) (n : ℕ) → n ≤ known_behind_all n es
all_grow [] n = omega arith
all_grow (e ∷ es) n = let a = behind_grows e n in let b = all_grow es (known_behind n e) in omega (arith, a, b)

-- the literal of a numeral is the number that it writes
numeral_value : (n : ℕ) → Literal (pos (digits_value 10 (numeral n))) ≡ Literal (pos n)
numeral_value n = ap (λ m. Literal (pos m)) (numeral_is n).value

-- the written form of an expression has its variables, denotes it, and is writable
pub record IsBack (names : List Name) (n : ℕ) (e : Term) : Type 0 where
  pub known : with_sum (take n names) (expression_written names e) ≡ take (known_behind n e) names
  pub term : sum_term names (expression_written names e) ≡ e
  pub writable : IsWritable names e

module _ (names : List Name) (are : AllByRecursion IsName names) (differ : AreDistinct names) where
  -- reading two operands one after the other gives the variables known after both
  two_known : (n : ℕ) (d e : Term) → IsBack names n d → IsBack names (known_behind n d) e
      → with_base (with_base (take n names) (operand_written names d (expression_written names d))) (operand_written names e (expression_written names e)) ≡ take (known_behind (known_behind n d) e) names
  two_known n d e a b =
      ap (λ ns. with_base ns (operand_written names e (expression_written names e))) (operand_names names (take n names) d ∙ a.known)
      ∙ operand_names names (take (known_behind n d) names) e ∙ b.known

  operand_back : (n : ℕ) (e : Term) → IsBack names n e → base_term names (operand_written names e (expression_written names e)) ≡ e
  operand_back n e a = operand_term names names e ∙ a.term

  pub expression_back : (e : Term) (n : ℕ) → IsSpellableTerm n e → known_behind n e ≤ length names → IsBack names n e
  expression_back (Literal (pos m)) n s h = record { known = refl; term = numeral_value m; writable = tt }
  expression_back (Literal (negsuc m)) n s h = absurd s
  expression_back (Variable i) n s h =
      let within : i < length names = let k = known_above n i in omega (arith, k, h) in
      record { known = first_with names n i differ s within; term = ap Variable (position_at names i differ within); writable = name_at_is names i are within }
  expression_back (Negation e) n s h =
      let a = expression_back e n s h in
      record { known = operand_names names (take n names) e ∙ a.known; term = ap Negation (operand_back n e a); writable = a.writable }
  expression_back (Addition d e) n s h =
      let a = expression_back d n s.0 (let g = behind_grows e (known_behind n d) in omega (arith, g, h)) in
      let b = expression_back e (known_behind n d) s.1 h in
      record { known = two_known n d e a b; term = (λ i. Addition (operand_back n d a i) (operand_back (known_behind n d) e b i)); writable = (a.writable, b.writable) }
  expression_back (Subtraction d e) n s h =
      let a = expression_back d n s.0 (let g = behind_grows e (known_behind n d) in omega (arith, g, h)) in
      let b = expression_back e (known_behind n d) s.1 h in
      record { known = two_known n d e a b; term = (λ i. Subtraction (operand_back n d a i) (operand_back (known_behind n d) e b i)); writable = (a.writable, b.writable) }
  expression_back (Multiplication d e) n s h =
      let a = expression_back d n s.0 (let g = behind_grows e (known_behind n d) in omega (arith, g, h)) in
      let b = expression_back e (known_behind n d) s.1 h in
      record { known = two_known n d e a b; term = (λ i. Multiplication (operand_back n d a i) (operand_back (known_behind n d) e b i)); writable = (a.writable, b.writable) }
  expression_back (Exponentiation e m) n s h =
      let a = expression_back e n s h in
      record {
        known = operand_names names (take n names) e ∙ a.known;
        term = (λ i. Exponentiation (operand_back n e a i) ((numeral_is m).value i));
        writable = a.writable;
      }

  -- the written forms of arguments have their variables, and denote them
  pub record AreBack (n : ℕ) (done : List Sum) (es : List Term) : Type 0 where
    pub known : (start : List Name) → with_sums start done ≡ take n names → with_sums start (arguments_written names done es) ≡ take (known_behind_all n es) names
    pub terms : sums_terms names (arguments_written names done es) ≡ sums_terms names done ++ es
    pub count : length (arguments_written names done es) ≡ length done + length es
    pub writable : AllByRecursion (IsWritable names) es

  pub arguments_back : (es : List Term) (n : ℕ) (done : List Sum) → AreSpellable n es → known_behind_all n es ≤ length names → AreBack n done es
  arguments_back [] n done s h =
      record { known = λ start e. e; terms = sym (append-nil (sums_terms names done)); count = (let e : length done ≡ length done + 0 = omega arith in e); writable = tt }
  arguments_back (e ∷ es) n done s h =
      let a = expression_back e n s.0 (let g = all_grow es (known_behind n e) in omega (arith, g, h)) in
      let b = arguments_back es (known_behind n e) (expression_written names e ∷ done) s.1 h in
      record {
        known = λ start same. b.known start (ap (λ ns. with_sum ns (expression_written names e)) same ∙ a.known);
        terms = b.terms ∙ append_assoc (sums_terms names done) (sum_term names (expression_written names e) ∷ []) es ∙ ap (λ t. sums_terms names done ++ t ∷ es) a.term;
        count = (let c = b.count in omega (arith, c));
        writable = (a.writable, b.writable);
      }

  -- the written form of a cost has its variables, and denotes it
  pub record IsCostBack (n : ℕ) (cost : Option Term) : Type 0 where
    pub known : with_cost (take n names) (cost_written names cost) ≡ take (known_behind_all n (terms_of_cost cost)) names
    pub term : cost_term names (cost_written names cost) ≡ cost
    pub writable : IsWritableCost names cost

  pub cost_back : (cost : Option Term) (n : ℕ) → AreSpellable n (terms_of_cost cost) → known_behind_all n (terms_of_cost cost) ≤ length names → IsCostBack n cost
  cost_back None n s h = record { known = refl; term = refl; writable = tt }
  cost_back (Some c) n s h = let a = expression_back c n s.0 h in record { known = a.known; term = ap Some a.term; writable = a.writable }

  relation_back : (relation : Relation) → relation_of (sign_written relation) ≡ relation
  relation_back AtLeast = refl
  relation_back MoreThan = refl
  relation_back AtMost = refl
  relation_back LessThan = refl
  relation_back EqualTo = refl

  -- the written form of an atom has its variables, and denotes it
  pub record IsAtomBack (n : ℕ) (a : plain.Atom) (es : List Term) : Type 0 where
    pub middle : ℕ
    pub known : with_atom (take n names) (atom_written names a) ≡ take middle names
    pub term : atom_term names (atom_written names a) ≡ a
    pub writable : IsWritableAtom names a
    pub behind : known_behind_all n (terms_before a es) ≡ known_behind_all middle es
    pub left : AreSpellable middle es

  atom_back : (a : plain.Atom) (es : List Term) (n : ℕ) → AreSpellable n (terms_before a es) → known_behind_all n (terms_before a es) ≤ length names → IsAtomBack n a es
  atom_back plain.Always es n s h = record { middle = n; known = refl; term = refl; writable = tt; behind = refl; left = s }
  atom_back (plain.Compare l relation r) es n s h =
      let more = all_grow es (known_behind (known_behind n l) r) in
      let a = expression_back l n s.0 (let g = behind_grows r (known_behind n l) in omega (arith, g, more, h)) in
      let b = expression_back r (known_behind n l) s.1.0 (omega (arith, more, h)) in
      record {
        middle = known_behind (known_behind n l) r;
        known = ap (λ ns. with_sum ns (expression_written names r)) a.known ∙ b.known;
        term = (λ i. plain.Compare (a.term i) (relation_back relation i) (b.term i));
        writable = (a.writable, b.writable);
        behind = refl;
        left = s.1.1;
      }

  -- the written forms of atoms have their variables, and denote them
  pub record AreAtomsBack (n : ℕ) (done : Atoms) (atoms : List plain.Atom) : Type 0 where
    pub known : (start : List Name) → with_atoms start done ≡ take n names → with_atoms start (atoms_written names done atoms) ≡ take (known_behind_all n (terms_of_guard atoms)) names
    pub terms : atoms_terms names (atoms_written names done atoms) ≡ atoms_terms names done ++ atoms
    pub writable : AllByRecursion (IsWritableAtom names) atoms

  atoms_back : (atoms : List plain.Atom) (n : ℕ) (done : Atoms) → AreSpellable n (terms_of_guard atoms) → known_behind_all n (terms_of_guard atoms) ≤ length names → AreAtomsBack n done atoms
  atoms_back [] n done s h = record { known = λ start e. e; terms = sym (append-nil (atoms_terms names done)); writable = tt }
  atoms_back (a ∷ atoms) n done s h =
      let x = atom_back a (terms_of_guard atoms) n s h in
      let y = atoms_back atoms x.middle (Joined done Ampersands (atom_written names a)) x.left (subst (λ m. m ≤ length names) x.behind h) in
      record {
        known = λ start same. y.known start (ap (λ ns. with_atom ns (atom_written names a)) same ∙ x.known) ∙ ap (λ m. take m names) (sym x.behind);
        terms = y.terms ∙ append_assoc (atoms_terms names done) (atom_term names (atom_written names a) ∷ []) atoms ∙ ap (λ t. atoms_terms names done ++ t ∷ atoms) x.term;
        writable = (x.writable, y.writable);
      }

  -- the written form of a guard has its variables, and denotes it
  pub record IsGuardBack (n : ℕ) (atoms : List plain.Atom) : Type 0 where
    pub known : with_guard (take n names) (guard_written names atoms) ≡ take (known_behind_all n (terms_of_guard atoms)) names
    pub terms : guard_terms names (guard_written names atoms) ≡ atoms
    pub writable : AllByRecursion (IsWritableAtom names) atoms

  pub guard_back : (atoms : List plain.Atom) (n : ℕ) → AreSpellable n (terms_of_guard atoms) → known_behind_all n (terms_of_guard atoms) ≤ length names → IsGuardBack n atoms
  guard_back [] n s h = record { known = refl; terms = refl; writable = tt }
  guard_back (a ∷ atoms) n s h =
      let x = atom_back a (terms_of_guard atoms) n s h in
      let y = atoms_back atoms x.middle (First (atom_written names a)) x.left (subst (λ m. m ≤ length names) x.behind h) in
      record {
        known = y.known (take n names) x.known ∙ ap (λ m. take m names) (sym x.behind);
        terms = y.terms ∙ ap (λ t. t ∷ atoms) x.term;
        writable = (x.writable, y.writable);
      }
