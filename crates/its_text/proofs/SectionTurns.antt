-- Each step between sections, and within all but those of rules, keeps the limits: what was read is within them after
-- the step exactly if it was before and the state is quiet (it shows no fault at the next token).
use Rattle.std.proofs.Common.{◌≡◌, ℕ, suc, ◌≤◌, Bool, true, false, if◌then◌else◌, ◌&&◌, ◌||◌, ◌↔◌, codes, List, [], ◌∷◌}
use Rattle.std.proofs.Common.{Option, Some, None, refl, ap, sym, subst, ◌∙◌, arith}
use Rattle.std.specs.Prelude.{⊤}
use Rattle.expr_text.specs.model.Programs.{Name}
use Rattle.expr_text.specs.text_core.Names.{is_same}
use Rattle.expr_text.specs.text_core.Choices.{when}
use Rattle.expr_text.proofs.text_core.NameLaws.{same_equal}
use Rattle.its_text.specs.Pieces.{Piece, word}
use Rattle.its_text.specs.Written.{Section, Goal, Start, Variables, Rules, Comment}
use Rattle.its_text.specs.Numbering.{rules_of}
use Rattle.its_text.specs.GrammarStates.{Ruling, GrammarState, Opened, GoalNamed, StartNamed, Listing, CommentNamed, AfterRule}
use Rattle.its_text.specs.GrammarStates.{section_of}
use Rattle.its_text.specs.Steps.{section_named}
use Rattle.its_text.specs.StateFaults.{is_goal, is_start, is_variables, is_rules, has, has_named}
use Rattle.its_text.specs.Spelling.{times, HaveRules, HaveRulesWithin}
use Rattle.its_text.proofs.KeptStates.{first, AreDone, IsRulingKept, IsKept, IsQuiet}

-- a piece is rejected, or leads to a state that keeps the limits exactly if the one before does and is quiet
abbrev pub Turns : GrammarState → Piece → List Piece → Option GrammarState → Type 0
Turns f p ps None = ⊤
Turns f p ps (Some g) = IsKept g ps ↔ (IsKept f (p ∷ ps) × IsQuiet f (Some p) (first ps))

-- A step that keeps the limits exactly if the state is quiet does so, too, if a test may reject it.
pub when_turns : (v : Bool) (f : GrammarState) (p : Piece) (ps : List Piece) (g : GrammarState) → Turns f p ps (Some g)
    → Turns f p ps (when v g)
when_turns true f p ps g h = h
when_turns false f p ps g h = tt

-- If a test finds no section, no section is counted by it.
times_none : (test : Section → Bool) (ss : List Section) → has test ss ≡ false → times test ss ≡ 0
times_none test [] h = refl
times_none test (s ∷ ss) h = go (test s) h (λ k. times_none test ss k)
  where
    go : (v : Bool) → v || has test ss ≡ false → (has test ss ≡ false → times test ss ≡ 0)
        → (if v then suc (times test ss) else times test ss) ≡ 0
    go true k ih = cc
    go false k ih = ih k

none_times : (test : Section → Bool) (ss : List Section) → times test ss ≡ 0 → has test ss ≡ false
none_times test [] h = refl
none_times test (s ∷ ss) h = go (test s) h (λ k. none_times test ss k)
  where
    go : (v : Bool) → (if v then suc (times test ss) else times test ss) ≡ 0 → (times test ss ≡ 0 → has test ss ≡ false)
        → v || has test ss ≡ false
    go true k ih = absurd (omega (arith, k))
    go false k ih = ih k

-- With one more section that the test finds, at most one is counted exactly if none was found before.
once_more : (test : Section → Bool) (ss : List Section) → (suc (times test ss) ≤ 1) ↔ (has test ss ≡ false)
once_more test ss = (
  λ h. none_times test ss (omega (arith, h)),
  λ h. let e = times_none test ss h in omega (arith, e),
)

fewer : (n : ℕ) → suc n ≤ 1 → n ≤ 1
fewer n h = omega (arith, h)

no_rules : (ss : List Section) → has is_rules ss ≡ false → rules_of ss ≡ None
no_rules [] h = refl
no_rules (Goal ∷ ss) h = no_rules ss h
no_rules (Start name ∷ ss) h = no_rules ss h
no_rules (Variables names ∷ ss) h = no_rules ss h
no_rules (Rules rules ∷ ss) h = cc
no_rules (Comment bytes ∷ ss) h = no_rules ss h

-- With a goal, the sections are within the limits exactly if they were and had none.
pub goal_done : (ss : List Section) → AreDone (Goal ∷ ss) ↔ (AreDone ss × (has is_goal ss ≡ false))
goal_done ss = (
  λ h. (
    record {
      goal = fewer (times is_goal ss) h.goal;
      start = h.start;
      variables = h.variables;
      rules = h.rules;
      named = h.named;
      within = h.within;
    },
    (once_more is_goal ss).0 h.goal,
  ),
  λ h. record {
    goal = (once_more is_goal ss).1 h.1;
    start = h.0.start;
    variables = h.0.variables;
    rules = h.0.rules;
    named = h.0.named;
    within = h.0.within;
  },
)

-- With a start symbol, the sections are within the limits exactly if they were and had none.
pub start_done : (ss : List Section) (name : Name) → AreDone (Start name ∷ ss)
    ↔ (AreDone ss × (has is_start ss ≡ false))
start_done ss name = (
  λ h. (
    record {
      goal = h.goal;
      start = fewer (times is_start ss) h.start;
      variables = h.variables;
      rules = h.rules;
      named = h.named;
      within = h.within;
    },
    (once_more is_start ss).0 h.start,
  ),
  λ h. record {
    goal = h.0.goal;
    start = (once_more is_start ss).1 h.1;
    variables = h.0.variables;
    rules = h.0.rules;
    named = h.0.named;
    within = h.0.within;
  },
)

-- With a list of variables, the sections are within the limits exactly if they were and had none.
pub variables_done : (ss : List Section) (names : List Name) → AreDone (Variables names ∷ ss)
    ↔ (AreDone ss × (has is_variables ss ≡ false))
variables_done ss names = (
  λ h. (
    record {
      goal = h.goal;
      start = h.start;
      variables = fewer (times is_variables ss) h.variables;
      rules = h.rules;
      named = h.named;
      within = h.within;
    },
    (once_more is_variables ss).0 h.variables,
  ),
  λ h. record {
    goal = h.0.goal;
    start = h.0.start;
    variables = (once_more is_variables ss).1 h.1;
    rules = h.0.rules;
    named = h.0.named;
    within = h.0.within;
  },
)

-- With a comment, the sections are within the limits exactly if they were.
pub comment_done : (ss : List Section) (bytes : List ℕ) → AreDone (Comment bytes ∷ ss) ↔ AreDone ss
comment_done ss bytes = (
  λ h. record {
    goal = h.goal;
    start = h.start;
    variables = h.variables;
    rules = h.rules;
    named = h.named;
    within = h.within;
  },
  λ h. record {
    goal = h.goal;
    start = h.start;
    variables = h.variables;
    rules = h.rules;
    named = h.named;
    within = h.within;
  },
)

-- Sections that end with rules are within the limits exactly if the rules so far are.
pub rules_done : (r : Ruling) → AreDone (section_of r) ↔ IsRulingKept r
rules_done r = (
  λ h.
      let once = (once_more is_rules r.sections).0 h.rules in
      let none = no_rules r.sections once in
      record {
        sections =
            record {
              goal = h.goal;
              start = h.start;
              variables = h.variables;
              rules = fewer (times is_rules r.sections) h.rules;
              named = subst HaveRules (sym none) tt;
              within = subst HaveRulesWithin (sym none) tt;
            };
        once = once;
        few = h.within.0;
        rules = h.named;
        within = h.within.1;
      },
  λ h.
      record {
        goal = h.sections.goal;
        start = h.sections.start;
        variables = h.sections.variables;
        rules = (once_more is_rules r.sections).1 h.once;
        named = h.rules;
        within = (h.few, h.within);
      },
)

-- The empty list of rules is within the limits.
pub no_rule : (ss : List Section) → IsRulingKept (record { sections = ss; rules = [] })
    ↔ (AreDone ss × (has is_rules ss ≡ false))
no_rule ss = (
  λ h. (h.sections, h.once),
  λ h. record { sections = h.0; once = h.1; few = omega arith; rules = tt; within = tt },
)

-- The test of a repeated section selects the test of the keyword's kind.
first_of_four : (a b c d : Bool) → (true && a) || (false && b) || (false && c) || (false && d) ≡ a
first_of_four true b c d = refl
first_of_four false b c d = refl

second_of_four : (a b c d : Bool) → (false && a) || (true && b) || (false && c) || (false && d) ≡ b
second_of_four a true c d = refl
second_of_four a false c d = refl

third_of_four : (a b c d : Bool) → (false && a) || (false && b) || (true && c) || (false && d) ≡ c
third_of_four a b true d = refl
third_of_four a b false d = refl

module _ (ss : List Section) (name : Name) (ps : List Piece) where
  -- The keyword begins a section that may occur only once.
  begins_once : (test : Section → Bool) (g : GrammarState) → IsKept g ps ↔ (AreDone ss × (has test ss ≡ false))
      → has_named ss name ≡ has test ss → Turns (Opened ss) (word name) ps (Some g)
  begins_once test g kept named = (
    λ h. let k = kept.0 h in ((k.0, named ∙ k.1), tt),
    λ h. kept.1 (h.0.0, sym named ∙ h.0.1),
  )

  -- the word `COMMENT` after an opening bracket begins a comment
  comment_turns : (v : Bool) → is_same name (codes "COMMENT") ≡ v
      → Turns (Opened ss) (word name) ps (if v then Some (CommentNamed ss) else None)
  comment_turns false e = tt
  comment_turns true e =
      let same : has_named ss name ≡ false = ap (has_named ss) (same_equal name (codes "COMMENT") e) in
      (λ h. ((h, same), tt), λ h. h.0.0)

  rules_turns : (v : Bool) → is_same name (codes "RULES") ≡ v
      → Turns (Opened ss) (word name) ps
      (if v then Some (AfterRule (record { sections = ss; rules = [] })) else if is_same name (codes "COMMENT") then Some
      (CommentNamed ss) else None)
  rules_turns false e = comment_turns (is_same name (codes "COMMENT")) refl
  rules_turns true e =
      begins_once is_rules (AfterRule (record { sections = ss; rules = [] })) (no_rule ss)
      (ap (has_named ss) (same_equal name (codes "RULES") e))

  variables_turns : (v : Bool) → is_same name (codes "VAR") ≡ v
      → Turns (Opened ss) (word name) ps
      (if v then Some (Listing ss []) else if is_same name (codes "RULES") then Some
      (AfterRule (record { sections = ss; rules = [] })) else if is_same name (codes "COMMENT") then Some
      (CommentNamed ss) else None)
  variables_turns false e = rules_turns (is_same name (codes "RULES")) refl
  variables_turns true e =
      begins_once is_variables (Listing ss []) (λ h. h, λ h. h)
      (ap (has_named ss) (same_equal name (codes "VAR") e) ∙ third_of_four (has is_goal ss) (has is_start ss)
      (has is_variables ss) (has is_rules ss))

  start_turns : (v : Bool) → is_same name (codes "STARTTERM") ≡ v
      → Turns (Opened ss) (word name) ps
      (if v then Some (StartNamed ss) else if is_same name (codes "VAR") then Some (Listing ss []) else if is_same name
      (codes "RULES") then Some (AfterRule (record { sections = ss; rules = [] })) else if is_same name
      (codes "COMMENT") then Some (CommentNamed ss) else None)
  start_turns false e = variables_turns (is_same name (codes "VAR")) refl
  start_turns true e =
      begins_once is_start (StartNamed ss) (λ h. h, λ h. h)
      (ap (has_named ss) (same_equal name (codes "STARTTERM") e) ∙ second_of_four (has is_goal ss) (has is_start ss)
      (has is_variables ss) (has is_rules ss))

  goal_turns : (v : Bool) → is_same name (codes "GOAL") ≡ v
      → Turns (Opened ss) (word name) ps
      (if v then Some (GoalNamed ss) else if is_same name (codes "STARTTERM") then Some
      (StartNamed ss) else if is_same name (codes "VAR") then Some (Listing ss []) else if is_same name
      (codes "RULES") then Some (AfterRule (record { sections = ss; rules = [] })) else if is_same name
      (codes "COMMENT") then Some (CommentNamed ss) else None)
  goal_turns false e = start_turns (is_same name (codes "STARTTERM")) refl
  goal_turns true e =
      begins_once is_goal (GoalNamed ss) (λ h. h, λ h. h)
      (ap (has_named ss) (same_equal name (codes "GOAL") e) ∙ first_of_four (has is_goal ss) (has is_start ss)
      (has is_variables ss) (has is_rules ss))

  -- The keyword begins a section that isn't there yet.
  pub named_turns : Turns (Opened ss) (word name) ps (section_named ss name)
  named_turns = goal_turns (is_same name (codes "GOAL")) refl
