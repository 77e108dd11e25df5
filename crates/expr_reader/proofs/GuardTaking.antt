-- The code's state after each piece of a guard represents the written state after it.
use Rattle.std.proofs.Common.{◌≡◌, ◌<◌, Bool, true, false, not, ◌&&◌, ◌||◌, if◌then◌else◌, List, [], ◌∷◌, ◌++◌, refl}
use Rattle.std.proofs.Common.{ap, sym, subst, ◌∙◌, map, Option, Some, None, codes, IsTrue, IsFalse, arith}
use Rattle.std.specs.Prelude.{⊤}
use Rattle.model.specs.Programs as plain
use Rattle.model.specs.Programs.{Name}
use Rattle.its_model.specs.Views.{atom_of}
use Rattle.text_core.specs.Names.{is_same}
use Rattle.expr_text.specs.Pieces.{Sign, Piece, Word, Digits, Open, Close, Plus, Minus, Times, Caret, Related, Joining}
use Rattle.expr_text.specs.Trees.{Sum}
use Rattle.expr_text.specs.Terms.{with_sum}
use Rattle.expr_text.specs.GrammarStates.{GrammarState, beginning}
use Rattle.expr_text.specs.Steps as inner
use Rattle.expr_text.specs.Guards as guards
use Rattle.expr_text.specs.Guards.{Capitals, Smalls, Always, Atoms, with_atoms}
use Rattle.expr_text.specs.GuardGrammarStates.{Conjoined, JointAfter, GuardGrammarState, LeftSide, RightSide, truth_named, truth_of}
use Rattle.expr_text.specs.GuardGrammarStates.{related, step, within}
use Rattle.expr_text.specs.StateNames.{with_conjoined, is_state, token_count, truth_worded}
use Rattle.expr_text.specs.TermGrammarStates as terms
use Rattle.expr_text.proofs.Stability.{extended, sum_extends}
use Rattle.expr_reader.specs.declared.guard.GuardState.TheVariants as places
use Rattle.expr_reader.specs.declared.guard.GuardReader.{GuardReader}
use Rattle.expr_reader.specs.Views.{grammar_state_of}
use Rattle.expr_reader.specs.Standing.{RepresentsExpression, IsFresh, IsModest, Leads}
use Rattle.expr_reader.specs.GuardRepresentation.{atoms_of, atoms_before, atoms_in, Relating, relating_in, is_operating}
use Rattle.expr_reader.specs.GuardRepresentation.{IsInRight, Reads, reading_none, reading_left, reading_right, reading_truth}
use Rattle.expr_reader.specs.GuardRepresentation.{IsPartEnded, part_ended_none, part_ended_left, part_ended_right, part_ended_end}
use Rattle.expr_reader.specs.GuardRepresentation.{joined_only, LeadsTo, Takes}
use Rattle.expr_reader.specs.GuardParts.{is_wanting, is_read, begun_at, is_joining, names_truth}
use Rattle.expr_text.proofs.NamesRead.{Extends}
use Rattle.expr_reader.proofs.StateNames.{state_extends}
use Rattle.expr_reader.proofs.AtomNames.{before_kept, sum_kept}
use Rattle.expr_reader.proofs.Standing.{fresh_stands, token_added}
use Rattle.expr_reader.proofs.Endings.{goes_on_is}
use Rattle.expr_reader.proofs.AtomEnds.{word_state, truth_word}
use Rattle.std.proofs.lemmas.Bool.{not-true as not_true}

-- a word of the atom that always holds is that atom
named_truth : (n : Name) → truth_worded n ≡ true → (a : guards.Atom) × (truth_named n ≡ Some a)
named_truth n h = capitals (is_same n (codes "TRUE")) (is_same n (codes "true")) h
  where
    capitals : (v w : Bool) → v || w ≡ true → (a : guards.Atom) × ((if v then Some (Always Capitals) else (if w then Some (Always Smalls) else None)) ≡ Some a)
    capitals true w h = (Always Capitals, refl)
    capitals false true h = (Always Smalls, refl)
    capitals false false h = absurd cc

named_untrue : (n : Name) → truth_worded n ≡ false → truth_named n ≡ None
named_untrue n h = capitals (is_same n (codes "TRUE")) (is_same n (codes "true")) h
  where
    capitals : (v w : Bool) → v || w ≡ false → (if v then Some (Always Capitals) else (if w then Some (Always Smalls) else None)) ≡ None
    capitals true w h = absurd cc
    capitals false true h = absurd cc
    capitals false false h = refl

-- the parts of a conjunction of three tests that holds
both_true : (a b c : Bool) → a && b && c ≡ true → (a ≡ true) × (b ≡ true) × (c ≡ true)
both_true true true true h = (refl, refl, refl)
both_true true true false h = absurd cc
both_true true false c h = absurd cc
both_true false b c h = absurd cc

middle_false : (a b c : Bool) → a && b && c ≡ false → a ≡ true → c ≡ true → b ≡ false
middle_false a true c h e f = absurd cc
middle_false a false c h e f = refl

-- an optional state that passes the test for one is a state
a_step : (o : Option GrammarState) → is_state o ≡ true → (f : GrammarState) × (o ≡ Some f)
a_step None h = absurd cc
a_step (Some f) h = (f, refl)

pub no_step : (o : Option GrammarState) → is_state o ≡ false → o ≡ None
no_step None h = refl
no_step (Some f) h = absurd cc

-- a state in which no atom has been read isn't the state after an atom
pub read_unread : (r : GuardReader) → is_read r.state ≡ false → r.state ≡ places.AtomRead → ⊥
read_unread r h e = let t = ap is_read e in cc

-- if the written text rejects the piece and nothing has changed, the contract holds
pub unchanged : (behind : Option Piece) (before : List Name) (o : Option GuardGrammarState) (old new : List Name) (r q : GuardReader) → o ≡ None → new ≡ old → q ≡ r → LeadsTo false behind before o old r new q
unchanged behind before o old new r q none names same = subst (λ o. LeadsTo false behind before o old r new q) (sym none) (names, same)

-- if the written text accepts the piece, and the code's state represents the written state after it, the contract holds
pub changed : (behind : Option Piece) (before : List Name) (o : Option GuardGrammarState) (g : GuardGrammarState) (old new : List Name) (r q : GuardReader) → o ≡ Some g → Reads behind before g new q → LeadsTo true behind before o old r new q
changed behind before o g old new r q to reads = subst (λ o. LeadsTo true behind before o old r new q) (sym to) reads

-- the word of the atom that always holds leads to the state after that atom
truth_leads : (behind : Option Piece) (before : List Name) (c : Conjoined) (old new : List Name) (r q : GuardReader) (p : Piece)
    → names_truth p ≡ true → is_operating behind ≡ false → new ≡ with_conjoined before c → q.state ≡ places.AtomRead → atoms_in q ≡ atoms_before new c ++ plain.Always ∷ [] → IsFresh q.expression
    → LeadsTo true behind before (step (LeftSide c beginning) p) old r new q
truth_leads behind before c old new r q (Word n) truth follows names state atoms fresh =
    let named = named_truth n truth in
    reading_truth (record { conjoined = c; read = word_state n; atom = named.0; state_is_represented = refl; truth_is = named.1; state_is = state; names_are = names; atoms_are = atoms; expression = fresh; follows = follows })
truth_leads behind before c old new r q (Digits ds) truth follows names state atoms fresh = absurd cc
truth_leads behind before c old new r q Open truth follows names state atoms fresh = absurd cc
truth_leads behind before c old new r q Close truth follows names state atoms fresh = absurd cc
truth_leads behind before c old new r q Plus truth follows names state atoms fresh = absurd cc
truth_leads behind before c old new r q Minus truth follows names state atoms fresh = absurd cc
truth_leads behind before c old new r q Times truth follows names state atoms fresh = absurd cc
truth_leads behind before c old new r q Caret truth follows names state atoms fresh = absurd cc
truth_leads behind before c old new r q (Related s) truth follows names state atoms fresh = absurd cc
truth_leads behind before c old new r q (Joining j) truth follows names state atoms fresh = absurd cc

-- where an atom must follow, a word of the one that always holds is taken unless an operator follows
pub takes_truth : (old new : List Name) (r q : GuardReader) (p : Piece) (behind : Option Piece)
    → is_wanting r.state && names_truth p && not (is_operating behind) ≡ true → new ≡ old → q.state ≡ places.AtomRead → atoms_in q ≡ atoms_in r ++ plain.Always ∷ [] → q.expression ≡ r.expression → Takes old r p behind true new q
takes_truth old new r q p behind test names state atoms expression = record { each = each }
  where
    tests : (is_wanting r.state ≡ true) × (names_truth p ≡ true) × (not (is_operating behind) ≡ true)
    tests = both_true (is_wanting r.state) (names_truth p) (not (is_operating behind)) test

    misplaced : is_wanting r.state ≡ false → ⊥
    misplaced e = let t = tests.0 in cc

    each : (before : List Name) (g : GuardGrammarState) → IsPartEnded (Some p) before g old r → IsModest p → LeadsTo true behind before (step g p) old r new q
    each before g (part_ended_none at) modest =
        subst (λ g. LeadsTo true behind before (step g p) old r new q) (sym at.state_is_represented)
        (truth_leads behind before at.conjoined old new r q p tests.1 (not_true (is_operating behind) tests.2) (names ∙ at.names_are) state
        (atoms ∙ (ap (λ found. found ++ plain.Always ∷ []) at.atoms_are ∙ ap (λ ns. atoms_before ns at.conjoined ++ plain.Always ∷ []) (sym names))) (subst IsFresh (sym expression) at.expression))
    each before g (part_ended_left at) modest = absurd (misplaced (ap is_wanting at.state_is))
    each before g (part_ended_right at) modest = absurd (misplaced (ap is_wanting at.right.state_is))
    each before g (part_ended_end at) modest = absurd (misplaced (ap is_wanting at.state_is))

-- a conjunction sign leads to the next atom in the code and in the written text
joint_leads : (behind : Option Piece) (before : List Name) (atoms : Atoms) (old new : List Name) (r q : GuardReader) → new ≡ with_atoms before atoms → atoms_in r ≡ atoms_of new atoms → IsFresh r.expression → new ≡ old
    → (p : Piece) → (is_joining p ≡ true → q ≡ record { state = places.AtomWanted; atoms = r.atoms; related = r.related; expression = r.expression }) → (is_joining p ≡ false → q ≡ r)
    → LeadsTo (is_joining p) behind before (joined_only (Some atoms) p) old r new q
joint_leads behind before atoms old new r q names are fresh same (Joining j) taken kept =
    let q_is = taken refl in
    reading_none (record {
      conjoined = JointAfter atoms j;
      state_is_represented = refl;
      state_is = ap (λ (q : GuardReader). q.state) q_is;
      names_are = names;
      atoms_are = ap atoms_in q_is ∙ are;
      expression = subst IsFresh (sym (ap (λ (q : GuardReader). q.expression) q_is)) fresh;
    })
joint_leads behind before atoms old new r q names are fresh same (Word n) taken kept = (same, kept refl)
joint_leads behind before atoms old new r q names are fresh same (Digits ds) taken kept = (same, kept refl)
joint_leads behind before atoms old new r q names are fresh same Open taken kept = (same, kept refl)
joint_leads behind before atoms old new r q names are fresh same Close taken kept = (same, kept refl)
joint_leads behind before atoms old new r q names are fresh same Plus taken kept = (same, kept refl)
joint_leads behind before atoms old new r q names are fresh same Minus taken kept = (same, kept refl)
joint_leads behind before atoms old new r q names are fresh same Times taken kept = (same, kept refl)
joint_leads behind before atoms old new r q names are fresh same Caret taken kept = (same, kept refl)
joint_leads behind before atoms old new r q names are fresh same (Related s) taken kept = (same, kept refl)

-- after an atom only a conjunction sign is taken, and then the next atom must follow
pub takes_joint : (old new : List Name) (r q : GuardReader) (p : Piece) (behind : Option Piece) (b : Bool) → is_read r.state ≡ true → new ≡ old → b ≡ is_joining p
    → (IsTrue b → q ≡ record { state = places.AtomWanted; atoms = r.atoms; related = r.related; expression = r.expression }) → (IsFalse b → q ≡ r) → Takes old r p behind b new q
takes_joint old new r q p behind b test names is taken kept = record { each = each }
  where
    misplaced : is_read r.state ≡ false → ⊥
    misplaced e = let t = test in cc

    each : (before : List Name) (g : GuardGrammarState) → IsPartEnded (Some p) before g old r → IsModest p → LeadsTo b behind before (step g p) old r new q
    each before g (part_ended_end at) modest =
        subst (λ v. LeadsTo v behind before (step g p) old r new q) (sym is)
        (subst (λ o. LeadsTo (is_joining p) behind before o old r new q) (sym (at.joins p refl ∙ ap (λ o. joined_only o p) at.finish_is))
        (joint_leads behind before at.atoms old new r q (names ∙ at.names_are) (at.atoms_are ∙ ap (λ ns. atoms_of ns at.atoms) (sym names)) at.expression names p
        (λ h. taken (is ∙ h)) (λ h. kept (is ∙ h))))
    each before g (part_ended_none at) modest = absurd (misplaced (ap is_read at.state_is))
    each before g (part_ended_left at) modest = absurd (misplaced (ap is_read at.state_is))
    each before g (part_ended_right at) modest = absurd (misplaced (ap is_read at.right.state_is))

-- the expression isn't the atom that always holds
abbrev Untrue : Option GrammarState → Type 0
Untrue None = ⊤
Untrue (Some f) = truth_of f ≡ None

-- the first piece of an expression is the atom that always holds only if it is a word of that atom
first_untrue : (p : Piece) (f : GrammarState) → inner.step beginning p ≡ Some f → names_truth p ≡ false → truth_of f ≡ None
first_untrue p f to h = subst (λ o. Untrue o) to (by p h)
  where
    by : (p : Piece) → names_truth p ≡ false → Untrue (inner.step beginning p)
    by (Word n) h = named_untrue n h
    by (Digits ds) h = refl
    by Open h = refl
    by Minus h = refl
    by Close h = tt
    by Plus h = tt
    by Times h = tt
    by Caret h = tt
    by (Related s) h = tt
    by (Joining j) h = tt

-- an expression of two or more pieces isn't the atom that always holds
later_untrue : (e f : GrammarState) (p : Piece) → 0 < token_count e → inner.step e p ≡ Some f → truth_of f ≡ None
later_untrue e f p begun to = go (truth_of f) refl
  where
    go : (o : Option guards.Atom) → truth_of f ≡ o → o ≡ None
    go None t = refl
    go (Some a) t =
        let is = truth_word f a t in
        let counted = token_added e f p to in
        let one : token_count f ≡ 1 = ap token_count is.same in
        absurd (omega (arith, counted, one, begun))

-- a piece that continues the expression of a side continues the written guard
taken_within : (c : Conjoined) (e f : GrammarState) (p : Piece) → inner.step e p ≡ Some f → step (LeftSide c e) p ≡ Some (LeftSide c f)
taken_within c e f p to = ap (λ o. within (LeftSide c e) o p) to

taken_right : (c : Conjoined) (l : Sum) (sign : Sign) (e f : GrammarState) (p : Piece) → inner.step e p ≡ Some f → step (RightSide c l sign e) p ≡ Some (RightSide c l sign f)
taken_right c l sign e f p to = ap (λ o. within (RightSide c l sign e) o p) to

module _ (old new : List Name) (r q : GuardReader) (p : Piece) (behind : Option Piece) (test : is_wanting r.state && names_truth p && not (is_operating behind) ≡ false)
    (leads : Leads old r.expression p new q.expression) (state : q.state ≡ begun_at r.state) (atoms : q.atoms ≡ r.atoms) (related_same : q.related ≡ r.related) where
  -- the atoms before the one that is being read are unchanged
  atoms_same : (before : List Name) (c : Conjoined) → Extends (with_conjoined before c) old → Extends (with_conjoined before c) new → atoms_in r ≡ atoms_before old c → atoms_in q ≡ atoms_before new c
  atoms_same before c a b are = ap (λ (v : _). map atom_of v.items) atoms ∙ (are ∙ before_kept before old new c a b)

  more_left : (before : List Name) (c : Conjoined) (e f : GrammarState) → RepresentsExpression (with_conjoined before c) e old r.expression → inner.step e p ≡ Some f → IsModest p → q.state ≡ places.LeftSide → atoms_in r ≡ atoms_before old c
      → (is_operating behind ≡ false → truth_of f ≡ None) → Reads behind before (LeftSide c f) new q
  more_left before c e f stands to modest at are follows =
      let holds = leads.each (with_conjoined before c) e f stands to modest in
      let counted = token_added e f p to in
      reading_left (record {
        conjoined = c;
        read = f;
        state_is_represented = refl;
        begun = omega (arith, counted);
        state_is = at;
        atoms_are = atoms_same before c (subst (Extends (with_conjoined before c)) (sym stands.names_are) (state_extends (with_conjoined before c) e)) (subst (Extends (with_conjoined before c)) (sym holds.names_are) (state_extends (with_conjoined before c) f)) are;
        expression = holds;
        follows = follows;
      })

  more_right : (before : List Name) (g : GuardGrammarState) (f : GrammarState) (at : IsInRight before g old r) → inner.step at.read p ≡ Some f → IsModest p → Reads behind before (RightSide at.conjoined at.left at.sign f) new q
  more_right before g f at to modest =
      let names = with_conjoined before at.conjoined in
      let sums = with_sum names at.left in
      let holds = leads.each sums at.read f at.expression to modest in
      let was : Extends sums old = subst (Extends sums) (sym at.expression.names_are) (state_extends sums at.read) in
      let is : Extends sums new = subst (Extends sums) (sym holds.names_are) (state_extends sums f) in
      reading_right (record {
        conjoined = at.conjoined;
        left = at.left;
        sign = at.sign;
        read = f;
        state_is_represented = refl;
        state_is = state ∙ ap begun_at at.state_is;
        atoms_are = atoms_same before at.conjoined (extended names sums old (sum_extends names at.left) was) (extended names sums new (sum_extends names at.left) is) at.atoms_are;
        related_is = ap relating_in related_same ∙ (at.related_is ∙ ap (λ t. let x : Relating = record { left = t; relation = guards.relation_of at.sign } in Some x) (sum_kept names old new at.left was is));
        expression = holds;
      })

  -- a piece that continues the expression of a side is taken
  pub takes_more : is_read r.state ≡ false → terms.goes_on_from (grammar_state_of r.expression).outer (grammar_state_of r.expression).operand p ≡ true → Takes old r p behind true new q
  takes_more unread goes = record { each = each }
    where
      wanted : (before : List Name) (c : Conjoined) → old ≡ with_conjoined before c → IsFresh r.expression → RepresentsExpression (with_conjoined before c) beginning old r.expression
      wanted before c names fresh = subst (λ ns. RepresentsExpression (with_conjoined before c) beginning ns r.expression) (sym names) (fresh_stands (with_conjoined before c) r.expression fresh)

      stepped : (base : List Name) (e : GrammarState) → RepresentsExpression base e old r.expression → (f : GrammarState) × (inner.step e p ≡ Some f)
      stepped base e stands = a_step (inner.step e p) (sym (goes_on_is base e old r.expression p stands) ∙ goes)

      each : (before : List Name) (g : GuardGrammarState) → IsPartEnded (Some p) before g old r → IsModest p → LeadsTo true behind before (step g p) old r new q
      each before g (part_ended_none at) modest =
          let stands = wanted before at.conjoined at.names_are at.expression in
          let to = stepped (with_conjoined before at.conjoined) beginning stands in
          changed behind before (step g p) (LeftSide at.conjoined to.0) old new r q (ap (λ g. step g p) at.state_is_represented ∙ taken_within at.conjoined beginning to.0 p to.1)
          (more_left before at.conjoined beginning to.0 stands to.1 modest (state ∙ ap begun_at at.state_is) at.atoms_are
          (λ other. first_untrue p to.0 to.1 (middle_false (is_wanting r.state) (names_truth p) (not (is_operating behind)) test (ap is_wanting at.state_is) (ap not other))))
      each before g (part_ended_left at) modest =
          let to = stepped (with_conjoined before at.conjoined) at.read at.expression in
          changed behind before (step g p) (LeftSide at.conjoined to.0) old new r q (ap (λ g. step g p) at.state_is_represented ∙ taken_within at.conjoined at.read to.0 p to.1)
          (more_left before at.conjoined at.read to.0 at.expression to.1 modest (state ∙ ap begun_at at.state_is) at.atoms_are (λ other. later_untrue at.read to.0 p at.begun to.1))
      each before g (part_ended_right at) modest =
          let right = at.right in
          let to = stepped (with_sum (with_conjoined before right.conjoined) right.left) right.read right.expression in
          changed behind before (step g p) (RightSide right.conjoined right.left right.sign to.0) old new r q (ap (λ g. step g p) right.state_is_represented ∙ taken_right right.conjoined right.left right.sign right.read to.0 p to.1)
          (more_right before g to.0 right to.1 modest)
      each before g (part_ended_end at) modest = absurd (read_unread r unread at.state_is)
