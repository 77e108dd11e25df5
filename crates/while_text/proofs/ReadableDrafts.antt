-- The limits that a while program without a fault keeps, token by token.
use Rattle.std.proofs.Common.{◌≡◌, ◌⊎◌, inl, inr, ℕ, zero, suc, ◌+◌, ◌-◌, ◌<◌, ◌≤◌, ◌^◌, min, Bool, true, false, cond, ◌&&◌}
use Rattle.std.proofs.Common.{List, [], ◌∷◌, ◌++◌, length, Option, Some, None, refl, ap, sym, subst, ◌∙◌, arith, length-append, append_assoc, ◌||◌}
use Rattle.std.specs.Prelude.{⊤, not, nat_lt, nat_le, pos}
use Rattle.std.specs.List.{AllByRecursion}
use Rattle.std.proofs.lemmas.Bool.Decides.{nat_tests}
use Rattle.text_grammar.specs.text_core.Choices.{when}
use Rattle.text_grammar.specs.text_core.Names.{IsName, AreDistinct, is_among, is_same, position_of}
use Rattle.while_text.specs.model.Limits.{rule_limit, place_limit, atom_limit}
use Rattle.while_text.specs.model.Terms.{Term, Literal}
use Rattle.while_text.specs.model.Programs.{Name, Relation, AtLeast, MoreThan, AtMost, LessThan, EqualTo, Atom, Always, Compare}
use Rattle.while_text.specs.poly_terms.Checked.{ReadsBelow}
use Rattle.while_text.specs.poly_terms.Faults.{Fault, LargeCoefficient, ManyTerms, HighDegree, first_fault, or_else}
use Rattle.while_text.specs.its_model.Valid.{IsValidTerm, IsValidAtom, difference_of}
use Rattle.while_text.specs.while_model.Moves.{negations, negations_of}
use Rattle.while_text.specs.while_tree.Views.{joined}
use Rattle.while_text.specs.while_tree.Readable.{FitsTest, Fits, rules_of}
use Rattle.expr_text.specs.Differences.{differences, first_of_all}
use Rattle.while_text.specs.declared.block.Opener.{Opener}
use Rattle.while_text.specs.declared.block.Opener.TheVariants as openers
use Rattle.while_text.specs.declared.kind.Kind.{Kind}
use Rattle.while_text.specs.declared.phase.Phase.{Phase}
use Rattle.while_text.specs.declared.phase.Phase.TheVariants as phases
use Rattle.while_text.specs.declared.piece.Piece.{Piece}
use Rattle.while_text.specs.declared.piece.Sort.{Sort}
use Rattle.while_text.specs.declared.piece.Sort.TheVariants as sorts
use Rattle.while_text.specs.Courses.{Course, plus, is_last, opens_block, is_relation, negation_count, is_in_expression}
use Rattle.while_text.specs.Drafts.{Block, Draft, bytes_of, number_of, with_token, term_of, atom_of, no_state}
use Rattle.while_text.specs.Faults.{or_kind, is_name, is_inputs, begins_atom, begins_statement, fault_of_first, fault_of_name}
use Rattle.while_text.specs.Faults.{fault_of_token, fault_of_count, kind_in, lesser, fault_of_atom, least_of, fault_of_forms}
use Rattle.while_text.proofs.BelowStates.{StateBelow, term_below, no_state_below, state_below}
use Rattle.while_text.proofs.DraftRules.{FitsBlock, rules_of_blocks, negations_append}

-- If neither of two kinds is chosen, both are absent.
pub or_none : (a b : Option Kind) → or_kind a b ≡ None → (a ≡ None) × (b ≡ None)
or_none None b h = (refl, h)
or_none (Some k) b h = cc

pub when_none : (v : Bool) (k : Kind) → when v k ≡ None → v ≡ false
when_none true k h = cc
when_none false k h = refl

-- A token has no fault of a limit or of names.
pub record IsClear (text : List ℕ) (p : Piece) (c : Course) (d : Draft) : Type 0 where
  pub unknown : (is_name p.sort && not (is_inputs c.phase) && not (is_among (bytes_of text p) d.names)) ≡ false
  pub repeated : (is_name p.sort && is_inputs c.phase && is_among (bytes_of text p) d.names) ≡ false
  pub atoms : (begins_atom c.phase c.tokens && nat_le atom_limit (length d.test)) ≡ false
  pub inputs : (is_inputs c.phase && is_name p.sort && nat_le place_limit (length d.names)) ≡ false
  pub rules : (begins_statement c.phase p.sort && nat_le rule_limit c.rules) ≡ false

pub clear : (text : List ℕ) (p : Piece) (c : Course) (d : Draft) → fault_of_first text p c d ≡ None → IsClear text p c d
clear text p c d h =
    let a = or_none _ _ h in
    let b = or_none (fault_of_name text p c d) _ a.1 in
    let e = or_none (fault_of_token p c d) (fault_of_count p c d) b.1 in
    let f = or_none _ _ b.0 in
    let g = or_none _ _ f.1 in
    let i = or_none _ _ e.0 in
    let j = or_none _ _ e.1 in
    let k = or_none _ _ j.1 in
    record {
      unknown = when_none _ _ f.0;
      repeated = when_none _ _ g.0;
      atoms = when_none _ _ i.1;
      inputs = when_none _ _ j.0;
      rules = when_none _ _ k.1;
    }

-- A name that is among others has a position there.
pub among_below : (name : Name) (names : List Name) → is_among name names ≡ true → position_of name names < length names
among_below name [] h = cc
among_below name (n ∷ names) h = go (is_same name n) refl h (among_below name names)
  where
    go : (v : Bool) → is_same name n ≡ v → (v || is_among name names) ≡ true
        → (is_among name names ≡ true → position_of name names < length names)
        → position_of name (n ∷ names) < suc (length names)
    go true e k later = rw e (omega arith)
    go false e k later = let low = later k in rw e (omega (arith, low))

-- The number of a name among the inputs is below the number of inputs.
pub number_below : (name : Name) (names : List Name) → is_among name names ≡ true → number_of names name < length names
number_below name names h = let low = among_below name names h in omega (arith, low)

-- A name that is neither among names nor the same as x is not among the names with x appended.
pub absent_append : (n : Name) (names : List Name) (x : Name) → is_among n names ≡ false → is_same n x ≡ false
    → is_among n (names ++ x ∷ []) ≡ false
absent_append n [] x a s = rw s refl
absent_append n (y ∷ names) x a s = go (is_same n y) a (λ h. absent_append n names x h s)
  where
    go : (v : Bool) → (v || is_among n names) ≡ false
        → (is_among n names ≡ false → is_among n (names ++ x ∷ []) ≡ false)
        → (v || is_among n (names ++ x ∷ [])) ≡ false
    go true h f = cc
    go false h f = f h

-- If an expanded form has no kind of refusal, it has no fault.
pub kind_none : (o : Option Fault) → kind_in o ≡ None → o ≡ None
kind_none None h = refl
kind_none (Some f) h = cc

lesser_none : (a b : Option Fault) → lesser a b ≡ None → (a ≡ None) × (b ≡ None)
lesser_none None b h = (refl, h)
lesser_none (Some f) None h = cc
lesser_none (Some LargeCoefficient) (Some g) h = cc
lesser_none (Some ManyTerms) (Some LargeCoefficient) h = cc
lesser_none (Some ManyTerms) (Some ManyTerms) h = cc
lesser_none (Some ManyTerms) (Some HighDegree) h = cc
lesser_none (Some HighDegree) (Some g) h = cc

either_none : (a b : Option Fault) → or_else a b ≡ None → a ≡ None
either_none None b h = refl
either_none (Some f) b h = cc

-- The differences of a comparison without a fault can be expanded.
atom_expands : (l r : Term) (relation : Relation) → fault_of_atom (Compare l relation r) ≡ None
    → first_fault (difference_of l relation r) ≡ None
atom_expands l r AtLeast h = either_none _ _ h
atom_expands l r MoreThan h = either_none _ _ h
atom_expands l r AtMost h = either_none _ _ h
atom_expands l r LessThan h = either_none _ _ h
atom_expands l r EqualTo h = either_none _ _ h

-- A comparison of expressions over n variables without a fault is valid, and so are its negations.
valid_atom : (n : ℕ) (l r : Term) (relation : Relation) → ReadsBelow n l → ReadsBelow n r
    → fault_of_atom (Compare l relation r) ≡ None → IsValidAtom n (Compare l relation r)
valid_atom n l r relation a b h = record { left = a; right = b; expands = atom_expands l r relation h }

pub valid_forms : (n : ℕ) (l r : Term) (relation : Relation) → ReadsBelow n l → ReadsBelow n r
    → kind_in (fault_of_forms (Compare l relation r)) ≡ None
    → IsValidAtom n (Compare l relation r) × AllByRecursion (IsValidAtom n) (negations_of (Compare l relation r))
valid_forms n l r relation a b h =
    let e = lesser_none (fault_of_atom (Compare l relation r)) (least_of (negations_of (Compare l relation r)))
    (kind_none _ h) in
    (valid_atom n l r relation a b e.0, go relation e.1)
  where
    go : (x : Relation) → least_of (negations_of (Compare l x r)) ≡ None
        → AllByRecursion (IsValidAtom n) (negations_of (Compare l x r))
    go AtLeast k = (valid_atom n l r LessThan a b (lesser_none _ _ k).0, tt)
    go MoreThan k = (valid_atom n l r AtMost a b (lesser_none _ _ k).0, tt)
    go AtMost k = (valid_atom n l r MoreThan a b (lesser_none _ _ k).0, tt)
    go LessThan k = (valid_atom n l r AtLeast a b (lesser_none _ _ k).0, tt)
    go EqualTo k =
        let e = lesser_none (fault_of_atom (Compare l LessThan r)) _ k in
        (valid_atom n l r LessThan a b e.0, (valid_atom n l r MoreThan a b (lesser_none _ _ e.1).0, tt))

-- The negations of a comparison are as many as counted.
pub negations_counted : (l r : Term) (relation : Relation)
    → length (negations_of (Compare l relation r)) ≡ negation_count relation
negations_counted l r AtLeast = refl
negations_counted l r MoreThan = refl
negations_counted l r AtMost = refl
negations_counted l r LessThan = refl
negations_counted l r EqualTo = refl

-- A predicate that holds of two lists holds of both together.
all_append : {X : Type 0} (P : X → Type 0) (xs ys : List X) → AllByRecursion P xs → AllByRecursion P ys
    → AllByRecursion P (xs ++ ys)
all_append P [] ys h k = k
all_append P (x ∷ xs) ys (a, h) k = (a, all_append P xs ys h k)

negations-append : (test : List Atom) (atom : Atom)
    → negations (test ++ atom ∷ []) ≡ negations test ++ (negations_of atom ++ [])
negations-append [] atom = refl
negations-append (a ∷ test) atom =
    ap (λ (xs : List Atom). negations_of a ++ xs) (negations-append test atom)
    ∙ sym (append_assoc (negations_of a) (negations test) (negations_of atom ++ []))

pub test_append : (n : ℕ) (test : List Atom) (atom : Atom) → FitsTest n test → length test < atom_limit
    → IsValidAtom n atom → AllByRecursion (IsValidAtom n) (negations_of atom) → FitsTest n (test ++ atom ∷ [])
test_append n test atom h low valid negated = record {
  few = (let e = length-append test (atom ∷ []) in omega (arith, e, low));
  atoms = all_append (IsValidAtom n) test (atom ∷ []) h.atoms (valid, tt);
  negated = subst (AllByRecursion (IsValidAtom n)) (sym (negations-append test atom))
      (all_append (IsValidAtom n) (negations test) (negations_of atom ++ []) h.negated
      (all_append (IsValidAtom n) (negations_of atom) [] negated tt));
}

-- The number of rules of the statement that is being read.
abbrev pub pending : Phase → List Atom → ℕ
pending phases.Inputs test = 0
pending phases.Statements test = 0
pending phases.Assignment test = 1
pending phases.Value test = 1
pending phases.Test test = suc (length (negations test))
pending phases.Left test = suc (length (negations test))
pending phases.Right test = suc (length (negations test))

-- The variable of the assignment that is being read is an input.
abbrev pub VariableBelow : Phase → ℕ → ℕ → Type 0
VariableBelow phases.Assignment n x = x < n
VariableBelow phases.Value n x = x < n
VariableBelow phase n x = ⊤

-- There is room for the atom that is being read.
abbrev pub HasRoom : Phase → ℕ → List Atom → Type 0
HasRoom phases.Left tokens test = (tokens ≡ 0) ⊎ (length test < atom_limit)
HasRoom phases.Right tokens test = length test < atom_limit
HasRoom phase tokens test = ⊤

-- Outside of tests the next block is a second one.
abbrev pub IsSecond : Phase → Opener → Type 0
IsSecond phases.Test opener = ⊤
IsSecond phases.Left opener = ⊤
IsSecond phases.Right opener = ⊤
IsSecond phase opener = opener ≡ openers.Second

-- The whole parser state is within the limits, over n inputs with these names.
pub record Fitting (names : List Name) (n : ℕ) (c : Course) (d : Draft) : Type 0 where
  pub names_are : d.names ≡ names
  pub grammar_state : StateBelow n d.grammar_state
  pub value : IsValidTerm n d.value
  pub left : ReadsBelow n d.left
  pub test : FitsTest n d.test
  pub variable : VariableBelow c.phase n d.variable
  pub room : HasRoom c.phase c.tokens d.test
  pub opener : IsSecond c.phase d.opener
  pub blocks : AllByRecursion (FitsBlock n) d.blocks
  pub body : Fits n (joined d.body)
  pub count : pending c.phase d.test + (rules_of_blocks d.blocks + rules_of (joined d.body)) ≤ c.rules
  pub few : c.rules ≤ rule_limit

-- The inputs are names, all different, and not too many.
pub record Named (names : List Name) : Type 0 where
  pub valid : AllByRecursion IsName names
  pub distinct : AreDistinct names
  pub few : length names ≤ place_limit
