-- Each token of tests and of blocks without a fault keeps what has been made within the limits.
use Rattle.std.proofs.Common.{◌≡◌, inl, inr, ℕ, suc, ◌+◌, ◌-◌, ◌<◌, ◌≤◌, Bool, true, false, cond}
use Rattle.std.proofs.Common.{List, [], ◌∷◌, ◌++◌, length, Option, Some, None, refl, ap, sym, subst, ◌∙◌, arith}
use Rattle.std.specs.Prelude.{pos}
use Rattle.while_text.specs.model.Limits.{rule_limit, atom_limit}
use Rattle.while_text.specs.model.Terms.{Literal}
use Rattle.while_text.specs.model.Programs.{Name, Always}
use Rattle.while_text.specs.while_model.Moves.{negations}
use Rattle.while_text.specs.while_tree.Views.{Statement, Plain, Loop, Branch, joined}
use Rattle.while_text.specs.while_tree.Readable.{Fits, rules_of}
use Rattle.while_text.specs.declared.block.Opener.{Opener}
use Rattle.while_text.specs.declared.block.Opener.TheVariants as openers
use Rattle.while_text.specs.declared.phase.Phase.{Phase}
use Rattle.while_text.specs.declared.phase.Phase.TheVariants as phases
use Rattle.while_text.specs.declared.piece.Piece.{Piece}
use Rattle.while_text.specs.declared.piece.Sort.{Sort}
use Rattle.while_text.specs.declared.piece.Sort.TheVariants as sorts
use Rattle.while_text.specs.Courses.{Course, plus, is_last, is_relation, negation_count}
use Rattle.while_text.specs.Courses.{after_test, after_left, after_left_side, after_right, relation_of, with_token as with_token_of}
use Rattle.while_text.specs.Drafts.{Block, InLoop, InFirst, InSecond, Draft, with_token, term_of, atom_of}
use Rattle.while_text.specs.Drafts.{last_of, before_last, block_opens}
use Rattle.while_text.specs.Drafts.{made_of_test, made_of_left}
use Rattle.while_text.specs.Drafts.{made_of_right, second_of, with_block, no_state}
use Rattle.while_text.specs.Faults.{fault_in_atom, kind_in, fault_of_forms}
use Rattle.while_text.proofs.BelowStates.{StateBelow, term_below, no_state_below}
use Rattle.while_text.proofs.DraftRules.{FitsBlock, rules_of_block, rules_of_blocks}
use Rattle.while_text.proofs.DraftRules.{fits_last, rules_last, blocks_append, fits_blocks_append}
use Rattle.while_text.proofs.DraftRules.{negations_append}
use Rattle.while_text.proofs.ReadableDrafts.{pending, VariableBelow, HasRoom, IsSecond, Fitting, test_append, valid_forms}
use Rattle.while_text.proofs.GrammarStates.{last_back}
use Rattle.while_text.proofs.ReadableDrafts.{negations_counted}
use Rattle.while_text.proofs.KeptDrafts.{counted, moved}

module _ (names : List Name) (n : ℕ) (text : List ℕ) (p : Piece) (c : Course) (d : Draft) (f : Fitting names n c d) where
  -- An atom begins in a test.
  atom_begins : c.phase ≡ phases.Test
      → Fitting names n (record c { phase = phases.Left; tokens = 0; depth = 0; raised = false }) (record d { grammar_state = no_state })
  atom_begins e = record {
    names_are = f.names_are;
    grammar_state = no_state_below n;
    value = f.value;
    left = f.left;
    test = f.test;
    variable = tt;
    room = inl refl;
    opener = tt;
    blocks = f.blocks;
    body = f.body;
    count = counted names n text p c d f phases.Test e;
    few = f.few;
  }

  pub kept_test : (sort : Sort) → c.phase ≡ phases.Test → Fitting names n (after_test sort c) (made_of_test sort d)
  kept_test sorts.Open e = atom_begins e
  kept_test sorts.Joint e = atom_begins e
  kept_test sort e = f

  -- A token of the left side of a comparison keeps the limits.
  left_side : (sort : Sort) → p.sort ≡ sort → c.phase ≡ phases.Left → length d.test < atom_limit
      → StateBelow n (with_token text p d) → (v : Bool) → is_relation sort ≡ v
      → Fitting names n (cond v (record c { phase = phases.Right; tokens = 0; depth = 0; raised = false; relation = relation_of sort c.relation })
      (with_token_of sort c))
      (cond v (record d { left = term_of d.grammar_state; grammar_state = no_state }) (record d { grammar_state = with_token text p d }))
  left_side sort s e low below true r = record {
    names_are = f.names_are;
    grammar_state = no_state_below n;
    value = f.value;
    left = term_below n d.grammar_state f.grammar_state;
    test = f.test;
    variable = tt;
    room = low;
    opener = tt;
    blocks = f.blocks;
    body = f.body;
    count = counted names n text p c d f phases.Left e;
    few = f.few;
  }
  left_side sort s e low below false r =
      moved names n text p c d f (with_token_of sort c) (with_token text p d) refl refl
      (subst (λ (x : Phase). HasRoom x (plus c.tokens 1) d.test) (sym e) (inr low)) below

  truth : c.phase ≡ phases.Left → length d.test < atom_limit
      → Fitting names n (record c { phase = phases.Test }) (record d { test = d.test ++ Always ∷ [] })
  truth e low =
      let k = counted names n text p c d f phases.Left e in
      let s = negations_append d.test Always in
      record {
        names_are = f.names_are;
        grammar_state = f.grammar_state;
        value = f.value;
        left = f.left;
        test = test_append n d.test Always f.test low tt tt;
        variable = tt;
        room = tt;
        opener = tt;
        blocks = f.blocks;
        body = f.body;
        count = omega (arith, k, s);
        few = f.few;
      }

  pub kept_left : (sort : Sort) → p.sort ≡ sort → c.phase ≡ phases.Left → length d.test < atom_limit
      → StateBelow n (with_token text p d) → Fitting names n (after_left sort c) (made_of_left text p sort d)
  kept_left sorts.Truth s e low below = truth e low
  kept_left sort s e low below =
      subst (λ (x : Sort). Fitting names n (after_left_side sort c)
      (cond (is_relation x) (record d { left = term_of d.grammar_state; grammar_state = no_state }) (record d { grammar_state = with_token text p d })))
      (sym s) (left_side sort s e low below (is_relation sort) refl)

  -- An atom ends on the right side.
  atom_ends : (b : Course) → b.phase ≡ phases.Test → b.rules ≡ plus c.rules (negation_count c.relation)
      → c.phase ≡ phases.Right → StateBelow n (with_token text p d)
      → kind_in (fault_of_forms (atom_of text p c d)) ≡ None → plus c.rules (negation_count c.relation) ≤ rule_limit
      → Fitting names n b
      (record d { test = d.test ++ atom_of text p c d ∷ []; left = Literal (pos 0); grammar_state = no_state })
  atom_ends b v r e below none few =
      let valid = valid_forms n d.left (term_of (with_token text p d)) c.relation f.left
      (term_below n (with_token text p d) below) none in
      let low = subst (λ (x : Phase). HasRoom x c.tokens d.test) e f.room in
      let k = counted names n text p c d f phases.Right e in
      let s = negations_append d.test (atom_of text p c d) in
      let t = negations_counted d.left (term_of (with_token text p d)) c.relation in
      record {
        names_are = f.names_are;
        grammar_state = no_state_below n;
        value = f.value;
        left = tt;
        test = test_append n d.test (atom_of text p c d) f.test low valid.0 valid.1;
        variable = subst (λ (x : Phase). VariableBelow x n d.variable) (sym v) tt;
        room = subst (λ (x : Phase). HasRoom x b.tokens (d.test ++ atom_of text p c d ∷ [])) (sym v) tt;
        opener = subst (λ (x : Phase). IsSecond x d.opener) (sym v) tt;
        blocks = f.blocks;
        body = f.body;
        count = subst (λ (x : Phase). pending x (d.test ++ atom_of text p c d ∷ [])
            + (rules_of_blocks d.blocks + rules_of (joined d.body)) ≤ b.rules) (sym v) (omega (arith, k, s, t, r, few));
        few = omega (arith, r, few);
      }

  pub kept_right : c.phase ≡ phases.Right → StateBelow n (with_token text p d) → fault_in_atom text p c d ≡ None
      → (is_last p c ≡ true → plus c.rules (negation_count c.relation) ≤ rule_limit)
      → Fitting names n (after_right p c) (made_of_right text p c d)
  kept_right e below none few = go (is_last p c) refl none
    where
      go : (w : Bool) → is_last p c ≡ w → (cond w (kind_in (fault_of_forms (atom_of text p c d))) None) ≡ None
          → Fitting names n (cond w (record (with_token_of p.sort c) {
            phase = phases.Test;
            rules = plus c.rules (negation_count c.relation);
          }) (with_token_of p.sort c))
          (cond w (record d { test = d.test ++ atom_of text p c d ∷ []; left = Literal (pos 0); grammar_state = no_state })
          (record d { grammar_state = with_token text p d }))
      go true l k = atom_ends _ refl refl e below k (few l)
      go false l k = moved names n text p c d f (with_token_of p.sort c) (with_token text p d) refl refl
          (subst (λ (x : Phase). HasRoom x (plus c.tokens 1) d.test) (sym e)
          (subst (λ (x : Phase). HasRoom x c.tokens d.test) e f.room)) below

  -- A block opens.
  opened : (block : Block) → FitsBlock n block
      → rules_of_block block ≤ pending c.phase d.test + rules_of (joined d.body)
      → Fitting names n (record c { phase = phases.Statements }) (with_block block d)
  opened block fits most =
      let k = f.count in
      let s = blocks_append d.blocks block in
      record {
        names_are = f.names_are;
        grammar_state = f.grammar_state;
        value = f.value;
        left = f.left;
        test = record { few = omega arith; atoms = tt; negated = tt };
        variable = tt;
        room = tt;
        opener = refl;
        blocks = fits_blocks_append n d.blocks block f.blocks fits;
        body = tt;
        count = omega (arith, k, s, most);
        few = f.few;
      }

  unopened : d.opener ≡ openers.Second → Fitting names n (record c { phase = phases.Statements }) d
  unopened e = record {
    names_are = f.names_are;
    grammar_state = f.grammar_state;
    value = f.value;
    left = f.left;
    test = f.test;
    variable = tt;
    room = tt;
    opener = e;
    blocks = f.blocks;
    body = f.body;
    count = (let k = f.count in omega (arith, k));
    few = f.few;
  }

  still : d.opener ≡ openers.Second → (ss : List Statement) → ss ≡ d.body
      → Fitting names n (record c { phase = phases.Statements }) (record d { body = ss })
  still e ss same = record {
    names_are = f.names_are;
    grammar_state = f.grammar_state;
    value = f.value;
    left = f.left;
    test = f.test;
    variable = tt;
    room = tt;
    opener = e;
    blocks = f.blocks;
    body = subst (λ (ss : List Statement). Fits n (joined ss)) (sym same) f.body;
    count = (let k = f.count in let s = ap (λ (ss : List Statement). rules_of (joined ss)) same in omega (arith, k, s));
    few = f.few;
  }

  -- Within a test, the kind of the next block isn't the second block of a branch.
  in_test : (phase : Phase) (opener : Opener) → IsSecond phase opener → ¬ (opener ≡ openers.Second)
      → pending phase d.test ≡ suc (length (negations d.test))
  in_test phases.Test opener s h = refl
  in_test phases.Left opener s h = refl
  in_test phases.Right opener s h = refl
  in_test phase opener s h = absurd (h s)

  reopened : d.opener ≡ openers.Second → (o : Option Statement) → last_of d.body ≡ o
      → Fitting names n (record c { phase = phases.Statements }) (second_of o d)
  reopened e None l = unopened e
  reopened e (Some (Plain action)) l = still e (before_last d.body ++ Plain action ∷ []) (last_back d.body (Plain action) l)
  reopened e (Some (Loop test block)) l =
      still e (before_last d.body ++ Loop test block ∷ []) (last_back d.body (Loop test block) l)
  reopened e (Some (Branch test block other)) l =
      let b = fits_last n d.body (Branch test block other) f.body l in
      let r = rules_last d.body (Branch test block other) l in
      opened (InSecond test block (before_last d.body)) (b.0.0, b.0.1, b.1) (omega (arith, r))

  pub kept_block : (opener : Opener) → d.opener ≡ opener
      → Fitting names n (record c { phase = phases.Statements }) (block_opens opener d)
  kept_block openers.Loop e =
      let t = in_test c.phase d.opener f.opener (λ s. not_second (sym e ∙ s)) in
      opened (InLoop d.test d.body) (f.test, f.body) (omega (arith, t))
    where
      not_second : ¬ (openers.Loop ≡ openers.Second)
      not_second s = cc
  kept_block openers.First e =
      let t = in_test c.phase d.opener f.opener (λ s. not_second (sym e ∙ s)) in
      opened (InFirst d.test d.body) (f.test, f.body) (omega (arith, t))
    where
      not_second : ¬ (openers.First ≡ openers.Second)
      not_second s = cc
  kept_block openers.Second e = reopened e (last_of d.body) refl
