-- Each token of inputs, statements and values without a fault keeps what has been made within the limits.
use Rattle.std.proofs.Common.{◌≡◌, ℕ, ◌+◌, ◌-◌, ◌<◌, ◌≤◌, Bool, true, false, cond}
use Rattle.std.proofs.Common.{List, [], ◌∷◌, ◌++◌, Option, Some, None, refl, sym, subst, ◌∙◌, arith}
use Rattle.while_text.specs.model.Limits.{rule_limit}
use Rattle.while_text.specs.its_model.Valid.{IsValidTerm}
use Rattle.while_text.specs.model.Programs.{Name}
use Rattle.while_text.specs.poly_terms.Faults.{first_fault}
use Rattle.while_text.specs.while_model.Statements.{Assign, Choose, Skip, Nothing}
use Rattle.while_text.specs.while_tree.Views.{Plain, Loop, Branch, joined}
use Rattle.while_text.specs.while_tree.Readable.{rules_of}
use Rattle.while_text.specs.declared.phase.Phase.{Phase}
use Rattle.while_text.specs.declared.phase.Phase.TheVariants as phases
use Rattle.while_text.specs.declared.piece.Piece.{Piece}
use Rattle.while_text.specs.declared.piece.Sort.{Sort}
use Rattle.while_text.specs.declared.piece.Sort.TheVariants as sorts
use Rattle.while_text.specs.Courses.{Course, is_last, after_statement, after_variable}
use Rattle.while_text.specs.Courses.{after_value, with_token as with_token_of}
use Rattle.expr_text.specs.TermGrammarStates.{GrammarState}
use Rattle.while_text.specs.Drafts.{Block, InLoop, InFirst, InSecond, Draft, bytes_of, number_of, with_token, term_of}
use Rattle.while_text.specs.Drafts.{last_of, before_last, assignment, block_closes, made_of_statement}
use Rattle.while_text.specs.Drafts.{made_of_variable, made_of_value, made_of_value_token}
use Rattle.while_text.specs.Drafts.{no_state}
use Rattle.while_text.specs.Faults.{is_name, is_first_word, fault_of_value, kind_in}
use Rattle.while_text.proofs.BelowStates.{StateBelow, term_below, no_state_below}
use Rattle.while_text.proofs.DraftRules.{FitsOne, rules_of_one, rules_of_blocks, fits_append, rules_append}
use Rattle.while_text.proofs.DraftRules.{blocks_last}
use Rattle.while_text.proofs.DraftRules.{fits_blocks_last}
use Rattle.while_text.proofs.ReadableDrafts.{pending, VariableBelow, HasRoom, IsSecond, Fitting}
use Rattle.while_text.proofs.ReadableDrafts.{kind_none}

module _ (names : List Name) (n : ℕ) (text : List ℕ) (p : Piece) (c : Course) (d : Draft) (f : Fitting names n c d) where
  -- The limits are kept if another part of the text begins and the counts stay.
  pub counted : (phase : Phase) → c.phase ≡ phase
      → pending phase d.test + (rules_of_blocks d.blocks + rules_of (joined d.body)) ≤ c.rules
  counted phase e =
      subst (λ (x : Phase). pending x d.test + (rules_of_blocks d.blocks + rules_of (joined d.body)) ≤ c.rules) e f.count

  -- The innermost block closes outside of the parts of statements.
  closes : c.phase ≡ phases.Statements → (o : Option Block) → last_of d.blocks ≡ o → Fitting names n c (block_closes o d)
  closes e None l = f
  closes e (Some (InLoop test before)) l =
      let b = fits_blocks_last n d.blocks (InLoop test before) f.blocks l in
      let r = blocks_last d.blocks (InLoop test before) l in
      let s = rules_append before (Loop test (joined d.body)) in
      let k = counted phases.Statements e in
      record {
        names_are = f.names_are;
        grammar_state = f.grammar_state;
        value = f.value;
        left = f.left;
        test = f.test;
        variable = f.variable;
        room = f.room;
        opener = f.opener;
        blocks = b.1;
        body = fits_append n before (Loop test (joined d.body)) b.0.1 (b.0.0, f.body, tt);
        count = subst (λ (x : Phase). pending x d.test + (rules_of_blocks (before_last d.blocks)
            + rules_of (joined (before ++ Loop test (joined d.body) ∷ []))) ≤ c.rules) (sym e) (omega (arith, r, s, k));
        few = f.few;
      }
  closes e (Some (InFirst test before)) l =
      let b = fits_blocks_last n d.blocks (InFirst test before) f.blocks l in
      let r = blocks_last d.blocks (InFirst test before) l in
      let s = rules_append before (Branch test (joined d.body) Nothing) in
      let k = counted phases.Statements e in
      record {
        names_are = f.names_are;
        grammar_state = f.grammar_state;
        value = f.value;
        left = f.left;
        test = f.test;
        variable = f.variable;
        room = f.room;
        opener = f.opener;
        blocks = b.1;
        body = fits_append n before (Branch test (joined d.body) Nothing) b.0.1 (b.0.0, f.body, tt, tt);
        count = subst (λ (x : Phase). pending x d.test + (rules_of_blocks (before_last d.blocks)
            + rules_of (joined (before ++ Branch test (joined d.body) Nothing ∷ []))) ≤ c.rules) (sym e)
            (omega (arith, r, s, k));
        few = f.few;
      }
  closes e (Some (InSecond test first before)) l =
      let b = fits_blocks_last n d.blocks (InSecond test first before) f.blocks l in
      let r = blocks_last d.blocks (InSecond test first before) l in
      let s = rules_append before (Branch test first (joined d.body)) in
      let k = counted phases.Statements e in
      record {
        names_are = f.names_are;
        grammar_state = f.grammar_state;
        value = f.value;
        left = f.left;
        test = f.test;
        variable = f.variable;
        room = f.room;
        opener = f.opener;
        blocks = b.1;
        body = fits_append n before (Branch test first (joined d.body)) b.0.2 (b.0.0, b.0.1, f.body, tt);
        count = subst (λ (x : Phase). pending x d.test + (rules_of_blocks (before_last d.blocks)
            + rules_of (joined (before ++ Branch test first (joined d.body) ∷ []))) ≤ c.rules) (sym e)
            (omega (arith, r, s, k));
        few = f.few;
      }

  pub kept_statement : (sort : Sort) → c.phase ≡ phases.Statements
      → (is_first_word sort ≡ true → c.rules < rule_limit)
      → (is_name sort ≡ true → number_of d.names (bytes_of text p) < n)
      → Fitting names n (after_statement sort p.at c) (made_of_statement text p sort d)
  kept_statement sorts.Name e few low =
      let k = counted phases.Statements e in
      let r = few refl in
      record {
        names_are = f.names_are;
        grammar_state = f.grammar_state;
        value = f.value;
        left = f.left;
        test = f.test;
        variable = low refl;
        room = tt;
        opener = subst (λ (x : Phase). IsSecond x d.opener) e f.opener;
        blocks = f.blocks;
        body = f.body;
        count = omega (arith, k, r);
        few = omega (arith, r);
      }
  kept_statement sorts.Skip e few low =
      let k = counted phases.Statements e in
      let r = few refl in
      let s = rules_append d.body (Plain Skip) in
      record {
        names_are = f.names_are;
        grammar_state = f.grammar_state;
        value = f.value;
        left = f.left;
        test = f.test;
        variable = tt;
        room = tt;
        opener = subst (λ (x : Phase). IsSecond x d.opener) e f.opener;
        blocks = f.blocks;
        body = fits_append n d.body (Plain Skip) f.body (tt, tt);
        count = omega (arith, k, r, s);
        few = omega (arith, r);
      }
  kept_statement sorts.While e few low =
      let k = counted phases.Statements e in
      let r = few refl in
      record {
        names_are = f.names_are;
        grammar_state = f.grammar_state;
        value = f.value;
        left = f.left;
        test = record { few = omega arith; atoms = tt; negated = tt };
        variable = tt;
        room = tt;
        opener = tt;
        blocks = f.blocks;
        body = f.body;
        count = omega (arith, k, r);
        few = omega (arith, r);
      }
  kept_statement sorts.If e few low =
      let k = counted phases.Statements e in
      let r = few refl in
      record {
        names_are = f.names_are;
        grammar_state = f.grammar_state;
        value = f.value;
        left = f.left;
        test = record { few = omega arith; atoms = tt; negated = tt };
        variable = tt;
        room = tt;
        opener = tt;
        blocks = f.blocks;
        body = f.body;
        count = omega (arith, k, r);
        few = omega (arith, r);
      }
  kept_statement sorts.BlockClose e few low = closes e (last_of d.blocks) refl
  kept_statement sort e few low = f

  -- A token that follows the variable of an assignment keeps the limits.
  pub kept_variable : (sort : Sort) → c.phase ≡ phases.Assignment
      → Fitting names n (after_variable sort c) (made_of_variable sort d)
  kept_variable sorts.Becomes e = record {
    names_are = f.names_are;
    grammar_state = no_state_below n;
    value = f.value;
    left = f.left;
    test = f.test;
    variable = subst (λ (x : Phase). VariableBelow x n d.variable) e f.variable;
    room = tt;
    opener = subst (λ (x : Phase). IsSecond x d.opener) e f.opener;
    blocks = f.blocks;
    body = f.body;
    count = counted phases.Assignment e;
    few = f.few;
  }
  kept_variable sort e = f

  -- The assignment that has been read fits.
  assignment_fits : d.variable < n → FitsOne n (assignment d)
  assignment_fits low = go d.chosen
    where
      go : (v : Bool) → FitsOne n (Plain (cond v (Choose d.variable) (Assign d.variable d.value)))
      go true = (low, tt)
      go false = ((low, f.value), tt)

  -- The limits are kept with another front if the part that is being read stays the same.
  pub moved : (b : Course) (grammar_state : GrammarState) → b.phase ≡ c.phase → b.rules ≡ c.rules → HasRoom c.phase b.tokens d.test
      → StateBelow n grammar_state → Fitting names n b (record d { grammar_state = grammar_state })
  moved b grammar_state e r room below = record {
    names_are = f.names_are;
    grammar_state = below;
    value = f.value;
    left = f.left;
    test = f.test;
    variable = subst (λ (x : Phase). VariableBelow x n d.variable) (sym e) f.variable;
    room = subst (λ (x : Phase). HasRoom x b.tokens d.test) (sym e) room;
    opener = subst (λ (x : Phase). IsSecond x d.opener) (sym e) f.opener;
    blocks = f.blocks;
    body = f.body;
    count = subst (λ (x : Phase). pending x d.test + (rules_of_blocks d.blocks + rules_of (joined d.body)) ≤ b.rules)
        (sym e) (let k = f.count in omega (arith, k, r));
    few = (let k = f.few in omega (arith, k, r));
  }

  -- The value of an assignment ends with a token of an expression.
  value_ended : (b : Course) → b.phase ≡ c.phase → b.rules ≡ c.rules → c.phase ≡ phases.Value
      → IsValidTerm n (term_of (with_token text p d))
      → Fitting names n b (record d { value = term_of (with_token text p d); grammar_state = no_state })
  value_ended b e r v valid = record {
    names_are = f.names_are;
    grammar_state = no_state_below n;
    value = valid;
    left = f.left;
    test = f.test;
    variable = subst (λ (x : Phase). VariableBelow x n d.variable) (sym e) f.variable;
    room = subst (λ (x : Phase). HasRoom x b.tokens d.test) (sym (e ∙ v)) tt;
    opener = subst (λ (x : Phase). IsSecond x d.opener) (sym e) f.opener;
    blocks = f.blocks;
    body = f.body;
    count = subst (λ (x : Phase). pending x d.test + (rules_of_blocks d.blocks + rules_of (joined d.body)) ≤ b.rules)
        (sym e) (let k = f.count in omega (arith, k, r));
    few = (let k = f.few in omega (arith, k, r));
  }

  value_token : (b : Course) → b.phase ≡ c.phase → b.rules ≡ c.rules → c.phase ≡ phases.Value
      → StateBelow n (with_token text p d) → fault_of_value text p c d ≡ None
      → Fitting names n b (made_of_value_token text p c d)
  value_token b e r v below none = go (is_last p c) refl none
    where
      go : (w : Bool) → is_last p c ≡ w
          → (cond w (kind_in (first_fault (term_of (with_token text p d)))) None) ≡ None
          → Fitting names n b (cond w (record d { value = term_of (with_token text p d); grammar_state = no_state })
          (record d { grammar_state = with_token text p d }))
      go true l k = value_ended b e r v
          (record { variables = term_below n (with_token text p d) below; expands = kind_none _ k })
      go false l k = moved b (with_token text p d) e r (subst (λ (x : Phase). HasRoom x b.tokens d.test) (sym v) tt) below

  pub kept_value : (sort : Sort) → c.phase ≡ phases.Value → StateBelow n (with_token text p d)
      → fault_of_value text p c d ≡ None → Fitting names n (after_value sort c) (made_of_value text p c sort d)
  kept_value sorts.Question v below none = record {
    names_are = f.names_are;
    grammar_state = f.grammar_state;
    value = f.value;
    left = f.left;
    test = f.test;
    variable = f.variable;
    room = f.room;
    opener = f.opener;
    blocks = f.blocks;
    body = f.body;
    count = f.count;
    few = f.few;
  }
  kept_value sorts.Semicolon v below none =
      let k = counted phases.Value v in
      let s = rules_append d.body (assignment d) in
      let one = assignment_rules in
      record {
        names_are = f.names_are;
        grammar_state = f.grammar_state;
        value = record { variables = tt; expands = refl };
        left = f.left;
        test = f.test;
        variable = tt;
        room = tt;
        opener = subst (λ (x : Phase). IsSecond x d.opener) v f.opener;
        blocks = f.blocks;
        body = fits_append n d.body (assignment d) f.body
            (assignment_fits (subst (λ (x : Phase). VariableBelow x n d.variable) v f.variable));
        count = omega (arith, k, s, one);
        few = f.few;
      }
    where
      assignment_rules : rules_of_one (assignment d) ≡ 1
      assignment_rules = go d.chosen
        where
          go : (w : Bool) → rules_of_one (Plain (cond w (Choose d.variable) (Assign d.variable d.value))) ≡ 1
          go true = refl
          go false = refl
  kept_value sort v below none = value_token (with_token_of sort c) refl refl v below none
