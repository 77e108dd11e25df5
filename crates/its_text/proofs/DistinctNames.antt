-- The variables of a rule are names, and differ: each is numbered once.
use Rattle.std.proofs.Common.{◌≡◌, Bool, true, false, if◌then◌else◌, List, [], ◌∷◌, ◌++◌, reverse, Option, Some, None}
use Rattle.std.proofs.Common.{refl, ap, sym, subst, ◌∙◌}
use Rattle.std.specs.Prelude.{⊤, codes}
use Rattle.std.specs.List.{AllByRecursion}
use mathlib.Core.List.{reverse-cons}
use Rattle.expr_text.specs.model.Programs.{Name}
use Rattle.expr_text.specs.text_core.Names.{IsName, is_same, is_among, AreDistinct}
use Rattle.expr_text.proofs.text_core.NameLaws.{none_of_more, distinct_one_more}
use Rattle.expr_text.specs.Pieces as inner
use Rattle.expr_text.specs.Trees.{Sum, Alone, Added, Subtracted, Product, Single, Multiplied, Factor, Plain, Raised}
use Rattle.expr_text.specs.Trees.{Negated, Base, Number, Named, Bracketed, sum_behind, product_behind, factor_behind}
use Rattle.expr_text.specs.Trees.{base_behind}
use Rattle.expr_text.specs.Terms.{with_name, with_sum, with_product, with_factor, with_base}
use Rattle.expr_text.specs.Guards.{Atom, Always, Compared, Atoms, First, Joined, with_atom, with_atoms, atom_behind}
use Rattle.expr_text.specs.Guards.{atoms_behind}
use Rattle.its_text.specs.Pieces.{Piece, In, Comma, CostOpen, GuardMark, SquareOpen, word, open_bracket}
use Rattle.its_text.specs.Written.{LeftTerm, RightTerm, Target, Marked, Bare, Guard, NoGuard, BehindMark, InSquares}
use Rattle.its_text.specs.Written.{WrittenRule, Section, Goal, Start, Variables, Rules, Comment, names_behind}
use Rattle.its_text.specs.Written.{sums_behind, left_behind, right_behind, arrow_behind, target_behind, maybe_behind}
use Rattle.its_text.specs.Written.{guard_behind, rule_behind, rules_behind, words_behind, section_behind, pieces_behind}
use Rattle.its_text.specs.Numbering.{term_in, with_sums, with_maybe, with_guard, left_names, with_cost, arrow_names}
use Rattle.its_text.specs.Numbering.{rule_names, or_rules}
use Rattle.its_text.specs.Numbering.{rules_of}
use Rattle.its_text.proofs.NamedPieces.{AreNamed}
use Rattle.std.proofs.lemmas.Bool.{or_parts as neither}

-- A predicate that holds of all elements and of one more holds of the list with that one appended.
pub all_one_more : {X : Type 0} (P : X → Type 0) (xs : List X) (x : X) → AllByRecursion P xs → P x → AllByRecursion P (xs ++ x ∷ [])
all_one_more P [] x h p = (p, tt)
all_one_more P (y ∷ xs) x h p = (h.0, all_one_more P xs x h.1 p)

-- a name that isn't among some names isn't among them in reverse
none_in_reverse : (m : Name) (names : List Name) → is_among m names ≡ false → is_among m (reverse names) ≡ false
none_in_reverse m [] h = refl
none_in_reverse m (n ∷ names) h =
    let x = neither (is_same m n) (is_among m names) h in
    ap (is_among m) (reverse-cons n names) ∙ none_of_more m n (reverse names) (none_in_reverse m names x.1) x.0

-- Distinct names are distinct in reverse.
pub distinct_reverse : (names : List Name) → AreDistinct names → AreDistinct (reverse names)
distinct_reverse [] h = tt
distinct_reverse (n ∷ names) h = subst AreDistinct (sym (reverse-cons n names)) (distinct_one_more (reverse names) n (distinct_reverse names h.1) (none_in_reverse n names h.0))

-- a property of each element of a list holds in the reversed list
pub all_reverse : {X : Type 0} (P : X → Type 0) (xs : List X) → AllByRecursion P xs → AllByRecursion P (reverse xs)
all_reverse P [] h = tt
all_reverse P (x ∷ xs) h = subst (AllByRecursion P) (sym (reverse-cons x xs)) (all_one_more P (reverse xs) x (all_reverse P xs h.1) h.0)

-- The names are valid names, and distinct.
abbrev pub AreGood : List Name → Type 0
AreGood names = AllByRecursion IsName names × AreDistinct names

-- Valid and distinct names stay so after a valid name is read.
pub good_with : (names : List Name) (n : Name) → AreGood names → IsName n → AreGood (with_name names n)
good_with names n g is = go (is_among n names) refl
  where
    go : (v : Bool) → is_among n names ≡ v → AreGood (if v then names else names ++ n ∷ [])
    go true e = g
    go false e = (all_one_more IsName names n g.0 is, distinct_one_more names n g.1 e)

mutual
  -- If the words of an expression and of the tokens before it are names, so are those of the tokens.
  sum_peel : (s : Sum) (before : List Piece) → AreNamed (sum_behind In s before) → AreNamed before
  sum_peel (Alone p) before h = product_peel p before h
  sum_peel (Added s p) before h = sum_peel s before (product_peel p (In inner.Plus ∷ sum_behind In s before) h).1
  sum_peel (Subtracted s p) before h = sum_peel s before (product_peel p (In inner.Minus ∷ sum_behind In s before) h).1

  product_peel : (p : Product) (before : List Piece) → AreNamed (product_behind In p before) → AreNamed before
  product_peel (Single f) before h = factor_peel f before h
  product_peel (Multiplied p f) before h = product_peel p before (factor_peel f (In inner.Times ∷ product_behind In p before) h).1

  factor_peel : (f : Factor) (before : List Piece) → AreNamed (factor_behind In f before) → AreNamed before
  factor_peel (Plain b) before h = base_peel b before h
  factor_peel (Raised b ds) before h = base_peel b before h.1.1
  factor_peel (Negated f) before h = (factor_peel f (In inner.Minus ∷ before) h).1

  base_peel : (b : Base) (before : List Piece) → AreNamed (base_behind In b before) → AreNamed before
  base_peel (Number ds) before h = h.1
  base_peel (Named n) before h = h.1
  base_peel (Bracketed s) before h = (sum_peel s (In inner.Open ∷ before) h.1).1

mutual
  -- The variables after an expression are valid and distinct names if those before it are and its words are names.
  sum_good : (s : Sum) (before : List Piece) (names : List Name) → AreGood names → AreNamed (sum_behind In s before) → AreGood (with_sum names s)
  sum_good (Alone p) before names g h = product_good p before names g h
  sum_good (Added s p) before names g h =
      product_good p (In inner.Plus ∷ sum_behind In s before) (with_sum names s) (sum_good s before names g (product_peel p (In inner.Plus ∷ sum_behind In s before) h).1) h
  sum_good (Subtracted s p) before names g h =
      product_good p (In inner.Minus ∷ sum_behind In s before) (with_sum names s) (sum_good s before names g (product_peel p (In inner.Minus ∷ sum_behind In s before) h).1) h

  product_good : (p : Product) (before : List Piece) (names : List Name) → AreGood names → AreNamed (product_behind In p before) → AreGood (with_product names p)
  product_good (Single f) before names g h = factor_good f before names g h
  product_good (Multiplied p f) before names g h =
      factor_good f (In inner.Times ∷ product_behind In p before) (with_product names p) (product_good p before names g (factor_peel f (In inner.Times ∷ product_behind In p before) h).1) h

  factor_good : (f : Factor) (before : List Piece) (names : List Name) → AreGood names → AreNamed (factor_behind In f before) → AreGood (with_factor names f)
  factor_good (Plain b) before names g h = base_good b before names g h
  factor_good (Raised b ds) before names g h = base_good b before names g h.1.1
  factor_good (Negated f) before names g h = factor_good f (In inner.Minus ∷ before) names g h

  base_good : (b : Base) (before : List Piece) (names : List Name) → AreGood names → AreNamed (base_behind In b before) → AreGood (with_base names b)
  base_good (Number ds) before names g h = g
  base_good (Named n) before names g h = good_with names n g h.0
  base_good (Bracketed s) before names g h = sum_good s (In inner.Open ∷ before) names g h.1

-- If the words of atoms and of the tokens before them are names, so are those of the tokens, and the variables stay
-- valid and distinct.
atom_peel : (a : Atom) (before : List Piece) → AreNamed (atom_behind In a before) → AreNamed before
atom_peel (Always t) before h = h.1
atom_peel (Compared l sign r) before h = sum_peel l before (sum_peel r (In (inner.Related sign) ∷ sum_behind In l before) h).1

atom_good : (a : Atom) (before : List Piece) (names : List Name) → AreGood names → AreNamed (atom_behind In a before) → AreGood (with_atom names a)
atom_good (Always t) before names g h = g
atom_good (Compared l sign r) before names g h =
    sum_good r (In (inner.Related sign) ∷ sum_behind In l before) (with_sum names l) (sum_good l before names g (sum_peel r (In (inner.Related sign) ∷ sum_behind In l before) h).1) h

atoms_peel : (atoms : Atoms) (before : List Piece) → AreNamed (atoms_behind In atoms before) → AreNamed before
atoms_peel (First a) before h = atom_peel a before h
atoms_peel (Joined atoms joint a) before h = atoms_peel atoms before (atom_peel a (In (inner.Joining joint) ∷ atoms_behind In atoms before) h).1

atoms_good : (atoms : Atoms) (before : List Piece) (names : List Name) → AreGood names → AreNamed (atoms_behind In atoms before) → AreGood (with_atoms names atoms)
atoms_good (First a) before names g h = atom_good a before names g h
atoms_good (Joined atoms joint a) before names g h =
    atom_good a (In (inner.Joining joint) ∷ atoms_behind In atoms before) (with_atoms names atoms) (atoms_good atoms before names g (atom_peel a (In (inner.Joining joint) ∷ atoms_behind In atoms before) h).1) h

-- If the words of arguments and of the tokens before them are names, so are those of the tokens, and the variables stay
-- valid and distinct.
sums_peel : (sums : List Sum) (before : List Piece) → AreNamed (sums_behind sums before) → AreNamed before
sums_peel [] before h = h
sums_peel (s ∷ []) before h = sum_peel s before h
sums_peel (s ∷ r ∷ sums) before h = sums_peel (r ∷ sums) before (sum_peel s (Comma ∷ sums_behind (r ∷ sums) before) h).1

sums_good : (sums : List Sum) (before : List Piece) (names : List Name) → AreGood names → AreNamed (sums_behind sums before) → AreGood (with_sums names sums)
sums_good [] before names g h = g
sums_good (s ∷ []) before names g h = sum_good s before names g h
sums_good (s ∷ r ∷ sums) before names g h =
    sum_good s (Comma ∷ sums_behind (r ∷ sums) before) (with_sums names (r ∷ sums)) (sums_good (r ∷ sums) before names g (sum_peel s (Comma ∷ sums_behind (r ∷ sums) before) h).1) h

names_named : (names : List Name) (before : List Piece) → AreNamed (names_behind names before) → AllByRecursion IsName names × AreNamed before
names_named [] before h = (tt, h)
names_named (a ∷ []) before h = ((h.0, tt), h.1)
names_named (a ∷ b ∷ names) before h = let x = names_named (b ∷ names) before h.1.1 in ((h.0, x.0), x.1)

-- the words of a left term, of a right one and of a target are names
pub record LeftNamed (t : LeftTerm) (before : List Piece) : Type 0 where
  pub name : IsName t.name
  pub arguments : AllByRecursion IsName t.arguments
  pub earlier : AreNamed before

left_named : (t : LeftTerm) (before : List Piece) → AreNamed (left_behind t before) → LeftNamed t before
left_named t before h = let x = names_named t.arguments (open_bracket ∷ word t.name ∷ before) h.1 in record { name = x.1.1.0; arguments = x.0; earlier = x.1.1.1 }

pub record RightNamed (t : RightTerm) (before : List Piece) : Type 0 where
  pub name : IsName t.name
  pub good : (names : List Name) → AreGood names → AreGood (with_sums names t.arguments)
  pub earlier : AreNamed before

right_named : (t : RightTerm) (before : List Piece) → AreNamed (right_behind t before) → RightNamed t before
right_named t before h =
    let x = sums_peel t.arguments (open_bracket ∷ word t.name ∷ before) h.1 in
    record { name = x.1.0; good = λ names g. sums_good t.arguments (open_bracket ∷ word t.name ∷ before) names g h.1; earlier = x.1.1 }

target_named : (t : Target) (before : List Piece) → AreNamed (target_behind t before) → RightNamed (term_in t) before
target_named (Marked t) before h =
    let x = right_named t _ h.1 in
    record { name = x.name; good = x.good; earlier = x.earlier.1.1 }
target_named (Bare t) before h = right_named t before h

-- If the words of an arrow, with its cost, and of the tokens before it are names, so are those of the tokens.
arrow_peel : (cost : Option Sum) (before : List Piece) → AreNamed (arrow_behind cost before) → AreNamed before
arrow_peel None before h = h.1
arrow_peel (Some c) before h = (sum_peel c (CostOpen ∷ before) h.1).1

arrow_good : (cost : Option Sum) (before : List Piece) (names : List Name) → AreGood names → AreNamed (arrow_behind cost before) → AreGood (with_cost names cost)
arrow_good None before names g h = g
arrow_good (Some c) before names g h = sum_good c (CostOpen ∷ before) names g h.1

-- If the words of a guard and of the tokens before it are names, so are those of the tokens, and its variables are
-- valid and distinct.
pub record GuardNamed (g : Guard) (before : List Piece) : Type 0 where
  pub good : (names : List Name) → AreGood names → AreGood (with_guard names g)
  pub earlier : AreNamed before

maybe_peel : (o : Option Atoms) (before : List Piece) → AreNamed (maybe_behind o before) → AreNamed before
maybe_peel None before h = h
maybe_peel (Some atoms) before h = atoms_peel atoms before h

maybe_good : (o : Option Atoms) (before : List Piece) (names : List Name) → AreGood names → AreNamed (maybe_behind o before) → AreGood (with_maybe names o)
maybe_good None before names g h = g
maybe_good (Some atoms) before names g h = atoms_good atoms before names g h

guard_named : (g : Guard) (before : List Piece) → AreNamed (guard_behind g before) → GuardNamed g before
guard_named NoGuard before h = record { good = λ names g. g; earlier = h }
guard_named (BehindMark o) before h = record { good = λ names g. maybe_good o (GuardMark ∷ before) names g h; earlier = (maybe_peel o (GuardMark ∷ before) h).1 }
guard_named (InSquares o) before h = record { good = λ names g. maybe_good o (SquareOpen ∷ before) names g h.1; earlier = (maybe_peel o (SquareOpen ∷ before) h.1).1 }

-- The symbols of the rule have valid names, and its variables have valid and distinct names if its left variables are
-- distinct.
pub record NamedRule (r : WrittenRule) : Type 0 where
  pub source : IsName r.left.name
  pub target : IsName (term_in r.target).name
  pub left : AreDistinct r.left.arguments → AreGood (left_names r.left)
  pub names : AreDistinct r.left.arguments → AreGood (rule_names r)

rule_named : (r : WrittenRule) (before : List Piece) → AreNamed (rule_behind r before) → NamedRule r × AreNamed before
rule_named r before h =
    let g = guard_named r.guard (target_behind r.target (arrow_behind r.cost (left_behind r.left before))) h in
    let t = target_named r.target (arrow_behind r.cost (left_behind r.left before)) g.earlier in
    let l = left_named r.left before (arrow_peel r.cost (left_behind r.left before) t.earlier) in (
      record {
        source = l.name;
        target = t.name;
        left = λ d. (all_reverse IsName r.left.arguments l.arguments, distinct_reverse r.left.arguments d);
        names = λ d. g.good _ (t.good (arrow_names r.left r.cost) (arrow_good r.cost (left_behind r.left before) (left_names r.left)
            (all_reverse IsName r.left.arguments l.arguments, distinct_reverse r.left.arguments d) t.earlier));
      },
      l.earlier,
    )

rules_named : (rules : List WrittenRule) (before : List Piece) → AreNamed (rules_behind rules before) → AllByRecursion NamedRule rules × AreNamed before
rules_named [] before h = (tt, h)
rules_named (r ∷ rules) before h = let x = rule_named r (rules_behind rules before) h in let y = rules_named rules before x.1 in ((x.0, y.0), y.1)

words_peel : (names : List Name) (before : List Piece) → AreNamed (words_behind names before) → AreNamed before
words_peel [] before h = h
words_peel (a ∷ names) before h = words_peel names before h.1

-- The rules of sections, if there are any, have valid names.
abbrev pub AreRulesNamed : Option (List WrittenRule) → Type 0
AreRulesNamed None = ⊤
AreRulesNamed (Some rules) = AllByRecursion NamedRule rules

section_named : (s : Section) (found : Option (List WrittenRule)) (before : List Piece) → AreNamed (section_behind s before) → (AreNamed before → AreRulesNamed found) → AreRulesNamed (or_rules found s)
section_named Goal found before h ih = ih h.1.1.1.1
section_named (Start name) found before h ih = ih h.1.1.1.1.1.1.1
section_named (Variables names) found before h ih = ih (words_peel names (word (codes "VAR") ∷ open_bracket ∷ before) h.1).1.1
section_named (Rules rules) found before h ih = (rules_named rules (word (codes "RULES") ∷ open_bracket ∷ before) h.1).0
section_named (Comment bytes) found before h ih = ih h.1.1.1

-- in sections whose words are names the rules have names for symbols and variables
pub sections_named : (sections : List Section) → AreNamed (pieces_behind sections) → AreRulesNamed (rules_of sections)
sections_named [] h = tt
sections_named (s ∷ sections) h = section_named s (rules_of sections) (pieces_behind sections) h (λ k. sections_named sections k)
