-- The reader builds the terms and atoms of programs from the expressions and atoms of a while program.
use Rattle.std.proofs.Common.{◌≡◌, ℕ, ◌≤◌, Bool, true, false, cond, List, [], ◌∷◌, ◌++◌, length, map, Option, Some, None}
use Rattle.std.proofs.Common.{refl, sym, ap, subst, ◌∙◌, append_assoc, inl, inr}
use Rattle.std.specs.Prelude.{◌⊎◌, codes, pos}
use Rattle.text_core.specs.Names.{is_same}
use Rattle.expr_text.specs.Guards.{Truth, Atom, Always, Compared, atom_term, relation_of as relation_in}
use Rattle.expr_text.specs.Pieces.{Sign, AtLeastSign, MoreThanSign, AtMostSign, LessThanSign, EqualSign, DoubleEqualSign}
use Rattle.expr_text.specs.GrammarStates.{beginning}
use Rattle.expr_text.specs.Terms.{sum_term}
use Rattle.expr_text.specs.TermGrammarStates as terms
use Rattle.expr_text.specs.TermGrammarStates.{terms_of_state, limited}
use Rattle.expr_text.specs.Trees.{Sum}
use Rattle.expr_text.proofs.Reading.{behind_sum, sum_finish}
use Rattle.while_text.specs.poly_terms.Faults.{first_fault}
use Rattle.while_text.specs.model.Programs as plain
use Rattle.while_text.specs.model.Programs.{Relation}
use Rattle.while_text.specs.model.Terms.{Term, Literal}
use Rattle.while_text.specs.declared.kind.Kind.{Kind}
use Rattle.while_text.specs.declared.phase.Phase.{Phase}
use Rattle.while_text.specs.declared.phase.Phase.TheVariants as phases
use Rattle.while_text.specs.declared.phase.Standing.TheVariants.{Sound}
use Rattle.while_text.specs.declared.piece.Piece.{Piece}
use Rattle.while_text.specs.declared.piece.Sort.{Sort}
use Rattle.while_text.specs.declared.piece.Sort.TheVariants as sorts
use Rattle.while_text.specs.Courses.{Course, is_relation, opens_block, course_after, after_phase, after_left}
use Rattle.while_text.specs.Courses.{relation_of, negation_count, plus, with_token as counted}
use Rattle.while_text.specs.Drafts.{Draft, bytes_of, no_state, with_token, term_of, draft_after, block_opens, made_in}
use Rattle.while_text.specs.Drafts.{made_of_value, made_of_value_token, made_of_left, made_of_left_side, atom_of}
use Rattle.while_text.specs.Faults.{fault_of_last_in, kind_in, fault_of_forms}
use Rattle.while_text.specs.Reading.{State, read}
use Rattle.while_text.proofs.ReadableDrafts.{kind_none}
use Rattle.while_laws.specs.Laws.{ValuesAreOfPrograms, TestsAreOfPrograms}
use Rattle.while_laws.specs.Spelled.{spelled, sign_by, sign_of, truth_by, truth_of, SpellSum, SpellAtom}
use Rattle.while_laws.specs.Values.{read_all, AreIn, BeginsExpression}
use Rattle.while_laws.proofs.Along.{Along, state_made}
use Rattle.while_laws.proofs.StatesMade.{term_made}
use Rattle.while_laws.proofs.Quiet.{IsQuiet, quiet, quiet_before, read_append, IsExpression}
use Rattle.while_laws.proofs.Runs.{far, Final, left_run, run, spelled_far, some_piece, begins_along, chain_in}
use Rattle.while_laws.proofs.Sorts.{some_is, agrees, by_sort}
use Rattle.while_laws.proofs.TokenFacts.{IsChain, chain_behind, chain_tail}
use Rattle.while_laws.proofs.Unlimited.{unlimited, unlimited_sides}

-- Whether the kind is absent.
abbrev none_at : Option Kind
none_at = None

module _ (text : List ℕ) (relation : Relation) (d : Draft) (few : length d.names ≤ 32) (s : Sum) where
  -- The term of an expression whose last token was read.
  last_term : (phase : Phase) (z : State) (w : Final text relation d few phase (behind_sum [] s) z)
      → (phase ≡ phases.Value) ⊎ (phase ≡ phases.Right)
      → term_of (with_token text w.last w.before.draft) ≡ limited (sum_term d.names s)
  last_term phase z w e =
      ap term_of (state_made text phase relation d w.grammar_state (behind_sum [] s) w.last w.piece w.before few w.along w.is
      w.step_is w.counts (expression e) w.none)
      ∙ term_made d.names (behind_sum [] s) s (sum_finish s)
    where
      expression : (phase ≡ phases.Value) ⊎ (phase ≡ phases.Right) → IsExpression phase
      expression (inl k) = subst IsExpression (sym k) (refl, refl)
      expression (inr k) = subst IsExpression (sym k) (refl, refl)

  -- The state after a value whose last token was read.
  value_last : (z : State) (w : Final text relation d few phases.Value (behind_sum [] s) z)
      → z.draft ≡ record d { value = sum_term d.names s; grammar_state = no_state }
  value_last z w =
      ap (λ (x : State). x.draft) w.made ∙ made
      ∙ ap (λ (x : Draft). record x { value = term_of (with_token text w.last w.before.draft); grammar_state = no_state })
      w.along.draft_is
      ∙ ap (λ (x : Term). record d { value = x; grammar_state = no_state }) (term ∙ itself)
    where
      term : term_of (with_token text w.last w.before.draft) ≡ limited (sum_term d.names s)
      term = last_term phases.Value z w (inl refl)

      block : opens_block w.last.sort ≡ false
      block = (agrees w.last.sort (bytes_of text w.last) w.piece w.is).no_block

      made : draft_after text w.last w.before.course w.before.draft
          ≡ record w.before.draft { value = term_of (with_token text w.last w.before.draft); grammar_state = no_state }
      made =
          ap (λ (v : Bool). cond v (block_opens w.before.draft.opener w.before.draft)
          (made_in w.before.course.phase text w.last w.before.course w.before.draft)) block
          ∙ ap (λ (x : Phase). made_in x text w.last w.before.course w.before.draft) w.along.phase_is
          ∙ by_sort (λ k y. made_of_value text w.last w.before.course k w.before.draft
          ≡ made_of_value_token text w.last w.before.course w.before.draft) (bytes_of text w.last) refl (λ n. refl) refl
          refl refl refl refl refl w.last.sort w.piece w.is
          ∙ ap (λ (v : Bool). cond v (record w.before.draft {
            value = term_of (with_token text w.last w.before.draft);
            grammar_state = no_state;
          }) (record w.before.draft { grammar_state = with_token text w.last w.before.draft })) w.ends

      fault : kind_in (first_fault (term_of (with_token text w.last w.before.draft))) ≡ None
      fault =
          sym (ap (λ (v : Bool). cond v none_at
          (fault_of_last_in w.before.course.phase text w.last w.before.course w.before.draft)) block
          ∙ ap (λ (x : Phase). fault_of_last_in x text w.last w.before.course w.before.draft) w.along.phase_is
          ∙ ap (λ (v : Bool). cond v (kind_in (first_fault (term_of (with_token text w.last w.before.draft)))) none_at) w.ends)
          ∙ w.none.last

      itself : limited (sum_term d.names s) ≡ sum_term d.names s
      itself =
          unlimited (sum_term d.names s) (sym (ap first_fault term) ∙ kind_none _ fault)

  -- The atom that ends with the last token on its right side.
  right_atom : (z : State) (w : Final text relation d few phases.Right (behind_sum [] s) z)
      → atom_of text w.last w.before.course w.before.draft
      ≡ plain.Compare d.left relation (limited (sum_term d.names s))
  right_atom z w =
      ap (λ (x : Draft). plain.Compare x.left w.before.course.relation (term_of (with_token text w.last w.before.draft)))
      w.along.draft_is
      ∙ ap (λ (x : Relation). plain.Compare d.left x (term_of (with_token text w.last w.before.draft)))
      w.along.relation_is
      ∙ ap (λ (x : Term). plain.Compare d.left relation x) (last_term phases.Right z w (inr refl))

  -- The draft with one more atom.
  abbrev with_atom : Draft → plain.Atom → Draft
  with_atom x a = record x { test = x.test ++ a ∷ []; left = Literal (pos 0); grammar_state = no_state }

  right_last : (z : State) (w : Final text relation d few phases.Right (behind_sum [] s) z)
      → z.draft ≡ with_atom d (plain.Compare d.left relation (limited (sum_term d.names s)))
  right_last z w =
      ap (λ (x : State). x.draft) w.made ∙ made
      ∙ ap (λ (x : Draft). with_atom x (atom_of text w.last w.before.course w.before.draft)) w.along.draft_is
      ∙ ap (λ (x : plain.Atom). with_atom d x) (right_atom z w)
    where
      made : draft_after text w.last w.before.course w.before.draft
          ≡ with_atom w.before.draft (atom_of text w.last w.before.course w.before.draft)
      made =
          ap (λ (v : Bool). cond v (block_opens w.before.draft.opener w.before.draft)
          (made_in w.before.course.phase text w.last w.before.course w.before.draft))
          (agrees w.last.sort (bytes_of text w.last) w.piece w.is).no_block
          ∙ ap (λ (x : Phase). made_in x text w.last w.before.course w.before.draft) w.along.phase_is
          ∙ ap (λ (v : Bool). cond v (with_atom w.before.draft (atom_of text w.last w.before.course w.before.draft))
          (record w.before.draft { grammar_state = with_token text w.last w.before.draft })) w.ends

  -- The test continues after it.
  right_phase : (z : State) (w : Final text relation d few phases.Right (behind_sum [] s) z)
      → z.course.phase ≡ phases.Test
  right_phase z w =
      ap (λ (x : State). x.course.phase) w.made
      ∙ ap (λ (v : Bool). (cond v (record w.before.course { phase = phases.Statements })
      (after_phase w.before.course.phase w.last w.before.course)).phase)
      (agrees w.last.sort (bytes_of text w.last) w.piece w.is).no_block
      ∙ ap (λ (x : Phase). (after_phase x w.last w.before.course).phase) w.along.phase_is
      ∙ ap (λ (v : Bool). (cond v (record (counted w.last.sort w.before.course) {
        phase = phases.Test;
        rules = plus w.before.course.rules (negation_count w.before.course.relation);
      }) (counted w.last.sort w.before.course)).phase) w.ends

  -- The atom can be expanded.
  right_expands : (z : State) (w : Final text relation d few phases.Right (behind_sum [] s) z)
      → kind_in (fault_of_forms (plain.Compare d.left relation (limited (sum_term d.names s)))) ≡ None
  right_expands z w =
      sym (ap (λ (v : Bool). cond v none_at
      (fault_of_last_in w.before.course.phase text w.last w.before.course w.before.draft))
      (agrees w.last.sort (bytes_of text w.last) w.piece w.is).no_block
      ∙ ap (λ (x : Phase). fault_of_last_in x text w.last w.before.course w.before.draft) w.along.phase_is
      ∙ ap (λ (v : Bool). cond v (kind_in (fault_of_forms (atom_of text w.last w.before.course w.before.draft))) none_at)
      w.ends
      ∙ ap (λ (x : plain.Atom). kind_in (fault_of_forms x)) (right_atom z w)) ∙ w.none.last

-- The value of an assignment is read.
pub value_read : (text : List ℕ) (s : Sum) (ps : List Piece) (next : Piece) (b : State) → SpellSum text s ps
    → AreIn text ps next → BeginsExpression phases.Value b → (read_all text b ps).standing ≡ Sound
    → (read_all text b ps).draft ≡ record b.draft { value = sum_term b.draft.names s; grammar_state = no_state }
value_read text s ps next b w i v h =
    go (some_piece text s ps (spelled_far text s ps w)) (spelled_far text s ps w) (chain_in text ps next i) h
  where
    go : (p : Piece) × (rest : List Piece) × (ps ≡ p ∷ rest)
        → far (Some beginning) (map (spelled text) ps) ≡ Some (behind_sum [] s) → IsChain text (ps ++ next ∷ i.after)
        → (read_all text b ps).standing ≡ Sound
        → (read_all text b ps).draft ≡ record b.draft { value = sum_term b.draft.names s; grammar_state = no_state }
    go (p, rest, e) f c k =
        subst (λ (x : List Piece). (read_all text b x).draft ≡ record b.draft { value = sum_term b.draft.names s; grammar_state = no_state })
        (sym e)
        (value_last text b.course.relation b.draft v.inputs s (read_all text b (p ∷ rest))
        (run text b.course.relation b.draft v.inputs phases.Value (refl, refl) refl next i.ends s rest i.after p beginning
        (behind_sum [] s) b (begins_along text phases.Value b.course.relation b v refl)
        (subst (λ (x : List Piece). far (Some beginning) (map (spelled text) x) ≡ Some (behind_sum [] s)) e f)
        (sum_finish s) (subst (λ (x : List Piece). IsChain text (x ++ next ∷ i.after)) e c)
        (subst (λ (x : List Piece). (read_all text b x).standing ≡ Sound) e k)))

-- The token is a relation, which ends the left side.
record IsSigned (text : List ℕ) (p : Piece) (c : Course) (d : Draft) (relation : Relation) : Type 0 where
  pub course : course_after p c ≡ record c { phase = phases.Right; tokens = 0; depth = 0; raised = false; relation = relation }
  pub draft : draft_after text p c d ≡ record d { left = term_of d.grammar_state; grammar_state = no_state }

record Relates (sort : Sort) (relation : Relation) : Type 0 where
  pub relation_is : (other : Relation) → relation_of sort other ≡ relation
  pub is : is_relation sort ≡ true
  pub block : opens_block sort ≡ false
  pub course : (c : Course) → after_left sort c
      ≡ record c { phase = phases.Right; tokens = 0; depth = 0; raised = false; relation = relation_of sort c.relation }
  pub draft : (text : List ℕ) (p : Piece) (d : Draft) → made_of_left text p sort d ≡ made_of_left_side text p d

relates : (sort : Sort) (bytes : List ℕ) (sign : Sign) → sign_by sort bytes ≡ Some sign → Relates sort (relation_in sign)
relates sorts.AtLeast bytes sign e = subst (λ x. Relates sorts.AtLeast (relation_in x)) (some_is AtLeastSign sign e)
    (record { relation_is = λ o. refl; is = refl; block = refl; course = λ c. refl; draft = λ t p d. refl })
relates sorts.MoreThan bytes sign e = subst (λ x. Relates sorts.MoreThan (relation_in x)) (some_is MoreThanSign sign e)
    (record { relation_is = λ o. refl; is = refl; block = refl; course = λ c. refl; draft = λ t p d. refl })
relates sorts.AtMost bytes sign e = subst (λ x. Relates sorts.AtMost (relation_in x)) (some_is AtMostSign sign e)
    (record { relation_is = λ o. refl; is = refl; block = refl; course = λ c. refl; draft = λ t p d. refl })
relates sorts.LessThan bytes sign e = subst (λ x. Relates sorts.LessThan (relation_in x)) (some_is LessThanSign sign e)
    (record { relation_is = λ o. refl; is = refl; block = refl; course = λ c. refl; draft = λ t p d. refl })
relates sorts.Equal bytes sign e = subst (λ x. Relates sorts.Equal (relation_in x)) (some_is _ sign e)
    (equals (is_same bytes (codes "==")))
  where
    equals : (v : Bool) → Relates sorts.Equal (relation_in (cond v DoubleEqualSign EqualSign))
    equals true = record { relation_is = λ o. refl; is = refl; block = refl; course = λ c. refl; draft = λ t p d. refl }
    equals false = record { relation_is = λ o. refl; is = refl; block = refl; course = λ c. refl; draft = λ t p d. refl }
relates sort bytes sign e = cc

signed : (text : List ℕ) (p : Piece) (c : Course) (d : Draft) (relation : Relation) → c.phase ≡ phases.Left
    → Relates p.sort relation → IsSigned text p c d relation
signed text p c d relation e r = record {
  course = ap (λ (v : Bool). cond v (record c { phase = phases.Statements }) (after_phase c.phase p c)) r.block
      ∙ ap (λ (x : Phase). after_phase x p c) e ∙ r.course c
      ∙ ap (λ (x : Relation). record c { phase = phases.Right; tokens = 0; depth = 0; raised = false; relation = x })
      (r.relation_is c.relation);
  draft = ap (λ (v : Bool). cond v (block_opens d.opener d) (made_in c.phase text p c d)) r.block
      ∙ ap (λ (x : Phase). made_in x text p c d) e ∙ r.draft text p d
      ∙ ap (λ (v : Bool). cond v (record d { left = term_of d.grammar_state; grammar_state = no_state })
      (record d { grammar_state = with_token text p d })) r.is;
}

-- An atom is read: it is appended to the test, which continues.
pub record ReadsAtom (b z : State) (a : plain.Atom) : Type 0 where
  pub draft : z.draft ≡ record b.draft { test = b.draft.test ++ a ∷ [] }
  pub phase : z.course.phase ≡ phases.Test

-- The atom that always holds is read.
truth_read : (text : List ℕ) (truth : Truth) (p : Piece) (b : State) → truth_of text p ≡ Some truth
    → b.course.phase ≡ phases.Left → (read text p b).standing ≡ Sound → ReadsAtom b (read text p b) plain.Always
truth_read text truth p b e f h = record {
  draft = ap (λ (x : State). x.draft) (quiet text p b h).after ∙ go p.sort e refl;
  phase = after p.sort e refl;
}
  where
    after : (sort : Sort) → truth_by sort (bytes_of text p) ≡ Some truth → p.sort ≡ sort
        → (course_after p b.course).phase ≡ phases.Test
    after sorts.Truth d same = rw (same, f) refl
    after sort d same = cc

    go : (sort : Sort) → truth_by sort (bytes_of text p) ≡ Some truth → p.sort ≡ sort
        → draft_after text p b.course b.draft ≡ record b.draft { test = b.draft.test ++ plain.Always ∷ [] }
    go sorts.Truth d same =
        ap (λ (x : Sort). cond (opens_block x) (block_opens b.draft.opener b.draft)
        (made_in b.course.phase text p b.course b.draft)) same
        ∙ ap (λ (x : Phase). made_in x text p b.course b.draft) f
        ∙ ap (λ (x : Sort). made_of_left text p x b.draft) same
    go sort d same = cc

-- A comparison is read.
compared_read : (text : List ℕ) (l r : Sum) (sign : Sign) (ls rs : List Piece) (p next : Piece) (b : State)
    → SpellSum text l ls → sign_of text p ≡ Some sign → SpellSum text r rs → AreIn text (ls ++ p ∷ rs) next
    → BeginsExpression phases.Left b → b.draft.left ≡ Literal (pos 0)
    → (read_all text b (ls ++ p ∷ rs)).standing ≡ Sound
    → ReadsAtom b (read_all text b (ls ++ p ∷ rs)) (atom_term b.draft.names (Compared l sign r))
compared_read text l r sign ls rs p next b left is right i v none h =
    subst (λ (x : State). ReadsAtom b x (atom_term b.draft.names (Compared l sign r)))
    (sym (read_append text ls (p ∷ rs) b)) (go (some_piece text r rs far_right))
  where
    far_right : far (Some beginning) (map (spelled text) rs) ≡ Some (behind_sum [] r)
    far_right = spelled_far text r rs right

    chain : IsChain text (ls ++ p ∷ (rs ++ next ∷ i.after))
    chain = subst (IsChain text) (append_assoc ls (p ∷ rs) (next ∷ i.after)) (chain_in text (ls ++ p ∷ rs) next i)

    one : State
    one = read_all text b ls

    sound : (read_all text one (p ∷ rs)).standing ≡ Sound
    sound = ap (λ (x : State). x.standing) (sym (read_append text ls (p ∷ rs) b)) ∙ h

    calm : IsQuiet text p one
    calm = quiet text p one (quiet_before text rs (read text p one) sound)

    first : Along text phases.Left b.course.relation b.draft (behind_sum [] l) one
    first = left_run text b.course.relation b.draft v.inputs ls (p ∷ (rs ++ next ∷ i.after)) beginning (behind_sum [] l) b
        (begins_along text phases.Left b.course.relation b v refl) (spelled_far text l ls left) chain calm.before

    made : IsSigned text p one.course one.draft (relation_in sign)
    made = signed text p one.course one.draft (relation_in sign) first.phase_is (relates p.sort (bytes_of text p) sign is)

    -- The draft in which the right side begins.
    begun : Draft
    begun = record b.draft { left = limited (sum_term b.draft.names l); grammar_state = no_state }

    second : Along text phases.Right (relation_in sign) begun beginning (read text p one)
    second = subst (Along text phases.Right (relation_in sign) begun beginning) (sym calm.after) (record {
      phase_is = ap (λ (c : Course). c.phase) made.course;
      tokens_are = ap (λ (c : Course). c.tokens) made.course;
      depth_is = ap (λ (c : Course). c.depth) made.course;
      raised_is = ap (λ (c : Course). c.raised) made.course;
      relation_is = ap (λ (c : Course). c.relation) made.course;
      names_are = refl;
      draft_is = made.draft
          ∙ ap (λ (x : Draft). record x { left = term_of x.grammar_state; grammar_state = no_state }) first.draft_is
          ∙ ap (λ (x : Term). record b.draft { left = x; grammar_state = no_state })
          (term_made b.draft.names (behind_sum [] l) l (sum_finish l));
    })

    go : (q : Piece) × (rest : List Piece) × (rs ≡ q ∷ rest)
        → ReadsAtom b (read_all text (read text p one) rs) (atom_term b.draft.names (Compared l sign r))
    go (q, rest, e) =
        subst (λ (x : List Piece). ReadsAtom b (read_all text (read text p one) x)
        (atom_term b.draft.names (Compared l sign r))) (sym e) (record {
          draft = tested;
          phase = right_phase text (relation_in sign) begun v.inputs r (read_all text (read text p one) (q ∷ rest)) final;
        })
      where
        final : Final text (relation_in sign) begun v.inputs phases.Right (behind_sum [] r)
            (read_all text (read text p one) (q ∷ rest))
        final =
            run text (relation_in sign) begun v.inputs phases.Right (refl, refl) refl next i.ends r rest i.after q
            beginning (behind_sum [] r) (read text p one) second
            (subst (λ (x : List Piece). far (Some beginning) (map (spelled text) x) ≡ Some (behind_sum [] r)) e far_right)
            (sum_finish r)
            (subst (λ (x : List Piece). IsChain text (x ++ next ∷ i.after)) e
            (chain_tail text p (rs ++ next ∷ i.after) (chain_behind text ls (p ∷ (rs ++ next ∷ i.after)) chain)))
            (subst (λ (x : List Piece). (read_all text (read text p one) x).standing ≡ Sound) e sound)

        exact : (limited (sum_term b.draft.names l) ≡ sum_term b.draft.names l)
            × (limited (sum_term b.draft.names r) ≡ sum_term b.draft.names r)
        exact = unlimited_sides (sum_term b.draft.names l) (sum_term b.draft.names r) (relation_in sign)
            (right_expands text (relation_in sign) begun v.inputs r (read_all text (read text p one) (q ∷ rest)) final)

        tested : (read_all text (read text p one) (q ∷ rest)).draft
            ≡ record b.draft { test = b.draft.test ++ atom_term b.draft.names (Compared l sign r) ∷ [] }
        tested = (right_last text (relation_in sign) begun v.inputs r (read_all text (read text p one) (q ∷ rest)) final
            ∙ ap (λ (x : Term). record b.draft {
              test = b.draft.test ++ plain.Compare x (relation_in sign) (limited (sum_term b.draft.names r)) ∷ [];
              left = Literal (pos 0);
              grammar_state = no_state;
            }) exact.0
            ∙ ap (λ (x : Term). record b.draft {
              test = b.draft.test ++ plain.Compare (sum_term b.draft.names l) (relation_in sign) x ∷ [];
              left = Literal (pos 0);
              grammar_state = no_state;
            }) exact.1
            ∙ ap (λ (x : Term). record b.draft {
              test = b.draft.test ++ atom_term b.draft.names (Compared l sign r) ∷ [];
              left = x;
              grammar_state = no_state;
            }) (sym none)
            ∙ ap (λ (x : terms.GrammarState). record b.draft {
              test = b.draft.test ++ atom_term b.draft.names (Compared l sign r) ∷ [];
              grammar_state = x;
            }) (sym v.state_is_represented))

-- An atom is read.
pub atom_read : (text : List ℕ) (a : Atom) (ps : List Piece) (next : Piece) (b : State) → SpellAtom text a ps
    → AreIn text ps next → BeginsExpression phases.Left b → b.draft.left ≡ Literal (pos 0)
    → (read_all text b ps).standing ≡ Sound
    → ReadsAtom b (read_all text b ps) (atom_term b.draft.names a)
atom_read text (Always truth) ps next b (p, e, w) i v none h =
    subst (λ (x : List Piece). ReadsAtom b (read_all text b x) plain.Always) (sym e)
    (truth_read text truth p b w v.phase_is (subst (λ (x : List Piece). (read_all text b x).standing ≡ Sound) e h))
atom_read text (Compared l sign r) ps next b (ls, p, rs, e, left, is, right) i v none h =
    subst (λ (x : List Piece). ReadsAtom b (read_all text b x) (atom_term b.draft.names (Compared l sign r))) (sym e)
    (compared_read text l r sign ls rs p next b left is right (subst (λ (x : List Piece). AreIn text x next) e i) v none
    (subst (λ (x : List Piece). (read_all text b x).standing ≡ Sound) e h))

pub values_alike : ValuesAreOfPrograms
values_alike = record { each = value_read }

pub tests_alike : TestsAreOfPrograms
tests_alike = record { each = λ text a ps next b w i v none h. (atom_read text a ps next b w i v none h).draft }
