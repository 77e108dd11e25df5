-- Each token of a while program without a fault keeps all within the limits.
use Rattle.std.proofs.Common.{◌≡◌, ◌⊎◌, inl, inr, ℕ, ◌+◌, ◌<◌, ◌≤◌, Bool, true, false, cond, ◌&&◌, ◌||◌, List, [], ◌∷◌}
use Rattle.std.proofs.Common.{◌++◌, length, None, refl, ap, sym, subst, ◌∙◌, arith, length-append}
use Rattle.std.specs.Prelude.{not, nat_lt, nat_le}
use Rattle.std.specs.List.{AllByRecursion}
use Rattle.std.proofs.lemmas.Bool.Decides.{nat_tests}
use Rattle.text_core.proofs.NameLaws.{same_equal, is_same_self}
use Rattle.text_grammar.specs.text_core.Names.{IsName, AreDistinct, is_among, is_same}
use Rattle.text_grammar.specs.Grammars.{nothing, made}
use Rattle.while_text.specs.model.Limits.{rule_limit, place_limit, atom_limit}
use Rattle.while_text.specs.model.Programs.{Name}
use Rattle.while_text.specs.while_model.Statements.{Statements}
use Rattle.while_text.specs.declared.phase.Phase.{Phase}
use Rattle.while_text.specs.declared.phase.Phase.TheVariants as phases
use Rattle.while_text.specs.declared.phase.Standing.TheVariants.{Sound}
use Rattle.while_text.specs.declared.piece.Piece.{Piece}
use Rattle.while_text.specs.declared.piece.Sort.{Sort}
use Rattle.while_text.specs.declared.piece.Sort.TheVariants as sorts
use Rattle.while_text.specs.Courses.{Course, opens_block, is_last, plus, negation_count, after_phase}
use Rattle.while_text.specs.Courses.{after_input, after_statement, after_variable, after_value, after_test, after_left}
use Rattle.while_text.specs.Courses.{with_token as with_token_of}
use Rattle.while_text.specs.Drafts.{Draft, begun_draft, bytes_of, number_of, with_token, made_in, made_of_input}
use Rattle.while_text.specs.Drafts.{block_opens}
use Rattle.while_text.specs.Faults.{is_name, is_inputs, is_first_word, fault_of_last_in, fault_of_rules}
use Rattle.while_text.specs.Faults.{begins_atom, begins_statement, passes_rules, ends_atom_in}
use Rattle.while_text.specs.Lexing.{tokens}
use Rattle.while_text.specs.Reading.{State, begun, state}
use Rattle.while_text.proofs.BelowStates.{StateBelow, no_state_below, state_below}
use Rattle.while_text.proofs.KeptDrafts.{kept_statement, kept_variable, kept_value}
use Rattle.while_text.proofs.KeptTests.{kept_test, kept_left, kept_right, kept_block}
use Rattle.while_text.proofs.PieceNames.{IsPieceOf}
use Rattle.while_text.proofs.ReadableDrafts.{IsClear, clear, number_below, absent_append, HasRoom, Fitting, Named}
use Rattle.while_text.proofs.ReadableDrafts.{when_none}
use Rattle.while_text.proofs.SilentReading.{HasNone, sound_after}

-- If a conjunction fails whose first part holds, its second part fails.
fails : (a b : Bool) → a ≡ true → (a && b) ≡ false → b ≡ false
fails true b e h = h
fails false b e h = cc

both_hold : (a b : Bool) → a ≡ true → b ≡ true → (a && b) ≡ true
both_hold true b e f = f
both_hold false b e f = cc

-- While the inputs are being read, nothing else has been built.
pub record IsListed (names : List Name) (s : State) : Type 0 where
  pub phase : s.course.phase ≡ phases.Inputs
  pub rules : s.course.rules ≡ 0
  pub draft : s.draft ≡ record begun_draft { names = names }

-- The state is within the limits.
pub record Good (s : State) : Type 0 where
  pub names : List Name
  pub named : Named names
  pub made : IsListed names s ⊎ (is_inputs s.course.phase ≡ false) × Fitting names (length names) s.course s.draft

-- The state before the first token is within the limits.
pub begun_good : Good begun
begun_good = record {
  names = [];
  named = record { valid = tt; distinct = tt; few = omega arith };
  made = inl (record { phase = refl; rules = refl; draft = refl });
}

-- The draft with only inputs is within the limits once statements begin.
begins_fitting : (names : List Name) (c : Course) → c.rules ≡ 0
    → Fitting names (length names) (record c { phase = phases.Statements }) (record begun_draft { names = names })
begins_fitting names c e = record {
  names_are = refl;
  grammar_state = no_state_below (length names);
  value = record { variables = tt; expands = refl };
  left = tt;
  test = record { few = omega arith; atoms = tt; negated = tt };
  variable = tt;
  room = tt;
  opener = refl;
  blocks = tt;
  body = tt;
  count = omega arith;
  few = omega (arith, e);
}

-- Valid inputs with one new name are valid.
names_append : (names : List Name) (x : Name) → Named names → IsName x → is_among x names ≡ false
    → length names < place_limit → Named (names ++ x ∷ [])
names_append names x h valid absent low = record {
  valid = all_append names h.valid;
  distinct = go names h.distinct absent;
  few = (let e = length-append names (x ∷ []) in omega (arith, e, low));
}
  where
    all_append : (ns : List Name) → AllByRecursion IsName ns → AllByRecursion IsName (ns ++ x ∷ [])
    all_append [] a = (valid, tt)
    all_append (n ∷ ns) (a, b) = (a, all_append ns b)

    both_absent : (n : Name) (ns : List Name) → (is_same x n || is_among x ns) ≡ false
        → (is_same x n ≡ false) × (is_among x ns ≡ false)
    both_absent n ns a = ors (is_same x n) (is_among x ns) a
      where
        ors : (a b : Bool) → (a || b) ≡ false → (a ≡ false) × (b ≡ false)
        ors true b k = cc
        ors false b k = (refl, k)

    go : (ns : List Name) → AreDistinct ns → is_among x ns ≡ false → AreDistinct (ns ++ x ∷ [])
    go [] d a = (refl, tt)
    go (n ∷ ns) (first, d) a =
        let w = both_absent n ns a in
        (absent_append n ns x first (other n w.0), go ns d w.1)
      where
        other : (n : Name) → is_same x n ≡ false → is_same n x ≡ false
        other n e = turned (is_same n x) refl
          where
            turned : (v : Bool) → is_same n x ≡ v → v ≡ false
            turned false k = refl
            turned true k = let q = same_equal n x k in let r = is_same_self x in cc

-- A token among the inputs without a fault keeps the limits.
kept_input : (text : List ℕ) (p : Piece) (names : List Name) (sort : Sort) (c : Course) → Named names
    → c.phase ≡ phases.Inputs → c.rules ≡ 0 → (sort ≡ sorts.Name → IsName (bytes_of text p))
    → (is_name sort ≡ true → is_among (bytes_of text p) names ≡ false)
    → (is_name sort ≡ true → length names < place_limit)
    → Good (record {
      course = after_input sort c;
      draft = made_of_input text p sort (record begun_draft { names = names });
      standing = Sound;
    })
kept_input text p names sorts.Semicolon c named e r valid absent low =
    record { names = names; named = named; made = inr (refl, begins_fitting names c r) }
kept_input text p names sorts.Name c named e r valid absent low = record {
  names = names ++ bytes_of text p ∷ [];
  named = names_append names (bytes_of text p) named (valid refl) (absent refl) (low refl);
  made = inl (record { phase = e; rules = r; draft = refl });
}
kept_input text p names sort c named e r valid absent low =
    record { names = names; named = named; made = inl (record { phase = e; rules = r; draft = refl }) }

-- The state after a token is that of the part, or of the block that the token opens.
placed : (text : List ℕ) (p : Piece) (s : State) (v : Bool) → opens_block p.sort ≡ v
    → Good (record {
      course = cond v (record s.course { phase = phases.Statements }) (after_phase s.course.phase p s.course);
      draft = cond v (block_opens s.draft.opener s.draft) (made_in s.course.phase text p s.course s.draft);
      standing = Sound;
    }) → Good (sound_after text p s)
placed text p s v o g =
    subst (λ (w : Bool). Good (record {
      course = cond w (record s.course { phase = phases.Statements }) (after_phase s.course.phase p s.course);
      draft = cond w (block_opens s.draft.opener s.draft) (made_in s.course.phase text p s.course s.draft);
      standing = Sound;
    })) (sym o) g

-- A token that opens a block among the inputs opens none, since there is no statement yet.
first_block : (text : List ℕ) (p : Piece) (names : List Name) (s : State) → Named names → IsListed names s
    → opens_block p.sort ≡ true → Good (sound_after text p s)
first_block text p names s named l o =
    placed text p s true o (record {
      names = names;
      named = named;
      made = inr (
        refl,
        subst (λ (d : Draft). Fitting names (length names) (record s.course { phase = phases.Statements })
            (block_opens d.opener d)) (sym l.draft) (begins_fitting names s.course l.rules),
      );
    })

-- A name in an expression without a fault is that of an input.
known : (text : List ℕ) (p : Piece) (s : State) → is_inputs s.course.phase ≡ false
    → IsClear text p s.course s.draft → is_name p.sort ≡ true
    → number_of s.draft.names (bytes_of text p) < length s.draft.names
known text p s i h e =
    number_below (bytes_of text p) s.draft.names
    (go (is_among (bytes_of text p) s.draft.names)
    (fails (is_name p.sort && not (is_inputs s.course.phase)) _ (both_hold _ _ e (ap not i)) h.unknown))
  where
    go : (v : Bool) → not v ≡ false → v ≡ true
    go true k = refl
    go false k = cc

-- Each token without a fault keeps the limits, by the part that is being read.
module _ (text : List ℕ) (p : Piece) (names : List Name) (s : State) (i : is_inputs s.course.phase ≡ false)
    (f : Fitting names (length names) s.course s.draft) (h : IsClear text p s.course s.draft)
    (last : fault_of_last_in s.course.phase text p s.course s.draft ≡ None) (rules : fault_of_rules p s.course ≡ None) where
  number_known : is_name p.sort ≡ true → number_of s.draft.names (bytes_of text p) < length names
  number_known e =
      let k = known text p s i h e in
      subst (λ (ns : List Name). number_of s.draft.names (bytes_of text p) < length ns) f.names_are k

  state_kept : StateBelow (length names) (with_token text p s.draft)
  state_kept = state_below (length names) (number_of s.draft.names (bytes_of text p)) p.sort s.draft.grammar_state number_known f.grammar_state

  statement_room : s.course.phase ≡ phases.Statements → is_first_word p.sort ≡ true → s.course.rules < rule_limit
  statement_room e w = go (fails (is_first_word p.sort) _ w (subst (λ (x : Phase).
      (begins_statement x p.sort && nat_le rule_limit s.course.rules) ≡ false) e h.rules))
    where
      go : nat_le rule_limit s.course.rules ≡ false → s.course.rules < rule_limit
      go k = grind (arith, nat_tests, k)

  atom_room : s.course.phase ≡ phases.Left → length s.draft.test < atom_limit
  atom_room e = go (subst (λ (x : Phase). HasRoom x s.course.tokens s.draft.test) e f.room)
    where
      test : (begins_atom phases.Left s.course.tokens && nat_le atom_limit (length s.draft.test)) ≡ false
      test = subst (λ (x : Phase). (begins_atom x s.course.tokens && nat_le atom_limit (length s.draft.test)) ≡ false) e
          h.atoms

      go : (s.course.tokens ≡ 0) ⊎ (length s.draft.test < atom_limit) → length s.draft.test < atom_limit
      go (inl z) = let k = test in grind (arith, nat_tests, z, k)
      go (inr low) = low

  rules_room : s.course.phase ≡ phases.Right → is_last p s.course ≡ true
      → plus s.course.rules (negation_count s.course.relation) ≤ rule_limit
  rules_room e l = go (fails (is_last p s.course) _ l (subst (λ (x : Phase).
      (ends_atom_in x p s.course && nat_lt rule_limit (plus s.course.rules (negation_count s.course.relation))) ≡ false)
      e (when_none (passes_rules p s.course) _ rules)))
    where
      go : nat_lt rule_limit (plus s.course.rules (negation_count s.course.relation)) ≡ false
          → plus s.course.rules (negation_count s.course.relation) ≤ rule_limit
      go k = grind (arith, nat_tests, k)

  kept_in : (phase : Phase) → s.course.phase ≡ phase
      → (is_inputs (after_phase phase p s.course).phase ≡ false)
      × Fitting names (length names) (after_phase phase p s.course) (made_in phase text p s.course s.draft)
  kept_in phases.Inputs e = absurd (not_inputs (sym (ap is_inputs e) ∙ i))
    where
      not_inputs : ¬ (true ≡ false)
      not_inputs k = cc
  kept_in phases.Statements e =
      (outside_statement p.sort, kept_statement names (length names) text p s.course s.draft f p.sort e (statement_room e) number_known)
    where
      outside_statement : (sort : Sort) → is_inputs (after_statement sort p.at s.course).phase ≡ false
      outside_statement sorts.Name = refl
      outside_statement sorts.Skip = refl
      outside_statement sorts.While = refl
      outside_statement sorts.If = refl
      outside_statement sort = i
  kept_in phases.Assignment e =
      (outside_variable p.sort, kept_variable names (length names) text p s.course s.draft f p.sort e)
    where
      outside_variable : (sort : Sort) → is_inputs (after_variable sort s.course).phase ≡ false
      outside_variable sorts.Becomes = refl
      outside_variable sort = i
  kept_in phases.Value e = (
    outside_value p.sort,
    kept_value names (length names) text p s.course s.draft f p.sort e state_kept
        (subst (λ (x : Phase). fault_of_last_in x text p s.course s.draft ≡ None) e last),
  )
    where
      outside_value : (sort : Sort) → is_inputs (after_value sort s.course).phase ≡ false
      outside_value sorts.Semicolon = refl
      outside_value sort = i
  kept_in phases.Test e = (outside_test p.sort, kept_test names (length names) text p s.course s.draft f p.sort e)
    where
      outside_test : (sort : Sort) → is_inputs (after_test sort s.course).phase ≡ false
      outside_test sorts.Open = refl
      outside_test sorts.Joint = refl
      outside_test sort = i
  kept_in phases.Left e =
      (outside_left p.sort, kept_left names (length names) text p s.course s.draft f p.sort refl e (atom_room e) state_kept)
    where
      outside_left : (sort : Sort) → is_inputs (after_left sort s.course).phase ≡ false
      outside_left sorts.Input = i
      outside_left sorts.Skip = i
      outside_left sorts.While = i
      outside_left sorts.If = i
      outside_left sorts.Else = i
      outside_left sorts.Truth = refl
      outside_left sorts.Name = i
      outside_left (sorts.Number n) = i
      outside_left sorts.Becomes = i
      outside_left sorts.Question = i
      outside_left sorts.Semicolon = i
      outside_left sorts.Comma = i
      outside_left sorts.Open = i
      outside_left sorts.Close = i
      outside_left sorts.BlockOpen = i
      outside_left sorts.BlockClose = i
      outside_left sorts.Joint = i
      outside_left sorts.AtLeast = refl
      outside_left sorts.MoreThan = refl
      outside_left sorts.AtMost = refl
      outside_left sorts.LessThan = refl
      outside_left sorts.Equal = refl
      outside_left sorts.Plus = i
      outside_left sorts.Minus = i
      outside_left sorts.Times = i
      outside_left sorts.Caret = i
      outside_left sorts.Strange = i
      outside_left sorts.Wrong = i
  kept_in phases.Right e = (
    outside_right (is_last p s.course),
    kept_right names (length names) text p s.course s.draft f e state_kept
        (subst (λ (x : Phase). fault_of_last_in x text p s.course s.draft ≡ None) e last) (rules_room e),
  )
    where
      outside_right : (v : Bool) → is_inputs (cond v (record (with_token_of p.sort s.course) {
        phase = phases.Test;
        rules = plus s.course.rules (negation_count s.course.relation);
      }) (with_token_of p.sort s.course)).phase ≡ false
      outside_right true = refl
      outside_right false = i

-- Each token without a fault keeps the whole state within the limits.
pub kept_good : (text : List ℕ) (p : Piece) (s : State) → IsPieceOf text p → Good s → HasNone text p s
    → Good (sound_after text p s)
kept_good text p s valid g h = go g.made (opens_block p.sort) refl
  where
    cleared : IsClear text p s.course s.draft
    cleared = clear text p s.course s.draft h.first

    listed : IsListed g.names s → opens_block p.sort ≡ false → Good (sound_after text p s)
    listed l o =
        placed text p s false o
        (subst (λ (x : Phase). Good (record {
          course = after_phase x p s.course;
          draft = made_in x text p s.course s.draft;
          standing = Sound;
        })) (sym l.phase)
        (subst (λ (d : Draft). Good (record {
          course = after_input p.sort s.course;
          draft = made_of_input text p p.sort d;
          standing = Sound;
        })) (sym l.draft) (kept_input text p g.names p.sort s.course g.named l.phase l.rules valid absent low)))
      where
        absent : is_name p.sort ≡ true → is_among (bytes_of text p) g.names ≡ false
        absent e =
            subst (λ (ns : List Name). is_among (bytes_of text p) ns ≡ false) (ap (λ (d : Draft). d.names) l.draft)
            (fails (is_name p.sort && is_inputs s.course.phase) _ (both_hold _ _ e (ap is_inputs l.phase)) cleared.repeated)

        low : is_name p.sort ≡ true → length g.names < place_limit
        low e = from (subst (λ (ns : List Name). nat_le place_limit (length ns) ≡ false)
            (ap (λ (d : Draft). d.names) l.draft)
            (fails (is_inputs s.course.phase && is_name p.sort) _ (both_hold _ _ (ap is_inputs l.phase) e) cleared.inputs))
          where
            from : nat_le place_limit (length g.names) ≡ false → length g.names < place_limit
            from k = grind (arith, nat_tests, k)

    opened : (i : is_inputs s.course.phase ≡ false) → Fitting g.names (length g.names) s.course s.draft
        → opens_block p.sort ≡ true → Good (sound_after text p s)
    opened i f o =
        placed text p s true o (record {
          names = g.names;
          named = g.named;
          made = inr (refl, kept_block g.names (length g.names) text p s.course s.draft f s.draft.opener refl);
        })

    inside : (i : is_inputs s.course.phase ≡ false) → Fitting g.names (length g.names) s.course s.draft
        → opens_block p.sort ≡ false → Good (sound_after text p s)
    inside i f o =
        let last : fault_of_last_in s.course.phase text p s.course s.draft ≡ None =
        subst (λ (v : Bool). (cond v None (fault_of_last_in s.course.phase text p s.course s.draft)) ≡ None) o h.last in
        placed text p s false o (record {
          names = g.names;
          named = g.named;
          made = inr (kept_in text p g.names s i f cleared last h.rules s.course.phase refl);
        })

    go : IsListed g.names s ⊎ (is_inputs s.course.phase ≡ false) × Fitting g.names (length g.names) s.course s.draft
        → (v : Bool) → opens_block p.sort ≡ v → Good (sound_after text p s)
    go (inl l) true o = first_block text p g.names s g.named l o
    go (inl l) false o = listed l o
    go (inr (i, f)) true o = opened i f o
    go (inr (i, f)) false o = inside i f o
