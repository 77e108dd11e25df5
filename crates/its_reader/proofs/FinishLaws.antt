-- The first rule that leaves the start symbol, and the program that the code's draft represents at the end of a text.
use Rattle.std.specs.Prelude.{◌≡◌, ℕ, Bool, true, false, ◌||◌, ◌+◌, if◌then◌else◌, is_some, cond, slice_get, take, List}
use Rattle.std.specs.Prelude.{[], ◌∷◌, ◌++◌, map, length, Option, Some, None, Result, Ok, Err, refl}
use Rattle.std.specs.List.{find}
use Rattle.std.specs.Option.{option_or}
use Rattle.std.proofs.lemmas.List.Folds.{find-append}
use Rattle.std.proofs.Common.{sym, ap, subst, ◌∙◌, append-nil, one-add}
use Rattle.std.proofs.lemmas.List.{length-reverse}
use Rattle.model.specs.Programs as plain
use Rattle.model.specs.Programs.{Name, Symbol, Program}
use Rattle.text_core.specs.Reading.{Refused}
use Rattle.text_core.specs.Names.{is_same, is_among, position_of}
use Rattle.text_core.proofs.NameLaws.{same_equal}
use Rattle.its_model.specs.declared.program.Program as code
use Rattle.its_model.specs.Views.{name_of, rule_of, symbol_of, program_of}
use Rattle.its_text.proofs.expr_text.Stability.{extended}
use Rattle.expr_reader.specs.Variables.{names_in}
use Rattle.its_text.specs.Kinds.{StartUnknown, MissingSection}
use Rattle.its_text.specs.Lexing.{tokens_of}
use Rattle.its_text.specs.Written.{LeftTerm, WrittenRule, Section, Goal, Start, Variables, Rules, Comment}
use Rattle.its_text.specs.Written.{pieces_behind}
use Rattle.its_text.specs.Numbering.{names_of, symbols_of, with_left, with_sums, number_of, left_names, arrow_names}
use Rattle.its_text.specs.Numbering.{term_in, rule_numbered, rules_numbered, start_of, rules_of, or_left, first_leaving}
use Rattle.its_text.specs.Numbering.{rule_names, program_from}
use Rattle.its_text.specs.StateFaults.{Tokens, has, is_rules}
use Rattle.its_text.specs.Answers.{at_index, at_maybe, start_index, program_or, whole, verdict}
use Rattle.its_reader.specs.Faults.{fault_in, Says}
use Rattle.its_reader.specs.Standing.{Started, started, started_of, limited_rule, KnowsRules, KnowsLast, KnowsBetween}
use Rattle.its_reader.specs.Finishing.{tabled, is_named_by, leaves, limited_program, Makes}
use Rattle.its_reader.specs.TokenSteps.{Finishes}
use Rattle.its_reader.specs.declared.draft.Draft.{Draft}
use Rattle.its_reader.specs.declared.error.ReadError.{ReadError}
use Rattle.its_reader.proofs.EndLaws.{refusal_said}
use Rattle.its_reader.proofs.SymbolTables.{arities_of}
use Rattle.its_reader.proofs.Numbers.{GoesOn, map-push, cost_goes_on, rules_are_numbered, symbol_goes_on}
use Rattle.its_reader.proofs.Numbers.{symbol_among, among_stays_on}
use Rattle.its_text.proofs.ValidRules.{sums_extends, guard_extends}
use Rattle.its_reader.proofs.LimitedRules.{program_limited}

-- symbols are those of the table of their names and arities
pub tabled_symbols : (symbols : List Symbol) → tabled (names_of symbols) (arities_of symbols) ≡ symbols
tabled_symbols [] = refl
tabled_symbols (s ∷ symbols) = ap (λ ss. s ∷ ss) (tabled_symbols symbols)

-- the name at a name's number in a list is that name
found_named : (n : Name) (names : List Name) → is_among n names ≡ true → (k : Name)
    → is_named_by k (slice_get names (position_of n names)) ≡ is_same k n
found_named n [] h k = cc
found_named n (m ∷ names) h k = go (is_same n m) refl h (λ i. found_named n names i k)
  where
    go : (v : Bool) → is_same n m ≡ v → v || is_among n names ≡ true
        → (is_among n names ≡ true → is_named_by k (slice_get names (position_of n names)) ≡ is_same k n)
        → is_named_by k (slice_get (m ∷ names) (position_of n (m ∷ names))) ≡ is_same k n
    go true e h ih = rw e (ap (is_same k) (sym (same_equal n m e)))
    go false e h ih = rw (e, one-add) (ih h)

-- an optional value, or else this one
abbrev or_else_this : {X : Type 0} → X → Option X → X
or_else_this x None = x
or_else_this x (Some y) = y

take_whole : {X : Type 0} (xs ys : List X) → take (length xs) (xs ++ ys) ≡ xs
take_whole [] [] = refl
take_whole [] (y ∷ ys) = refl
take_whole (x ∷ xs) ys = ap (λ zs. x ∷ zs) (take_whole xs ys)

-- the left names of a rule are the first of its names
left_of_rule : (r : WrittenRule) → take (length r.left.arguments) (rule_names r) ≡ left_names r.left
left_of_rule r =
    let g = extended (left_names r.left) (arrow_names r.left r.cost) (rule_names r)
    (cost_goes_on (left_names r.left) r.cost)
    (extended (arrow_names r.left r.cost) (with_sums (arrow_names r.left r.cost) (term_in r.target).arguments)
    (rule_names r) (sums_extends (arrow_names r.left r.cost) (term_in r.target).arguments)
    (guard_extends (with_sums (arrow_names r.left r.cost) (term_in r.target).arguments) r.guard)) in
    ap (take (length r.left.arguments)) g.1
    ∙ (ap (λ n. take n (left_names r.left ++ g.0)) (sym (length-reverse r.left.arguments))
    ∙ take_whole (left_names r.left) g.0)

module _ (start : Name) (all : List Symbol) where
  -- the rule that is found is that of a left term, or neither is there
  abbrev FoundAs : Option LeftTerm → Option plain.Rule → Type 0
  FoundAs None o = o ≡ None
  FoundAs (Some t) o = (r : WrittenRule)
      × ((o ≡ Some (limited_rule (rule_numbered all r))) × ((t ≡ r.left) × (is_same start r.left.name ≡ true)))

  one_found : (o : Option LeftTerm) (p : Option plain.Rule) (r : WrittenRule) (v : Bool) → is_same start r.left.name ≡ v
      → FoundAs o p
      → FoundAs (or_left o start r.left) (option_or p (cond v (Some (limited_rule (rule_numbered all r))) None))
  one_found (Some t) p r v e f =
      (f.0, (ap (λ p. option_or p (cond v (Some (limited_rule (rule_numbered all r))) None)) f.1.0, f.1.1))
  one_found None p r true e f =
      subst (λ (v : Bool). FoundAs (if v then Some r.left else None)
      (option_or p (Some (limited_rule (rule_numbered all r))))) (sym e)
      (r, (ap (λ p. option_or p (Some (limited_rule (rule_numbered all r)))) f, (refl, e)))
  one_found None p r false e f = subst (λ (v : Bool). FoundAs (if v then Some r.left else None) (option_or p None))
      (sym e) (ap (λ p. option_or p None) f)

  found : (rules : List WrittenRule) → GoesOn (names_of (symbols_of rules)) (names_of all)
      → FoundAs (first_leaving start rules)
      (find (leaves (names_of all) start) (map limited_rule (rules_numbered all rules)))
  found [] g = refl
  found (r ∷ earlier) g =
      subst (FoundAs (first_leaving start (r ∷ earlier))) (sym same)
      (one_found (first_leaving start earlier)
      (find (leaves (names_of all) start) (map limited_rule (rules_numbered all earlier))) r
      (is_same start r.left.name) refl
      (found earlier (extended (names_of (symbols_of earlier)) (names_of (with_left (symbols_of earlier) r.left))
      (names_of all) left
      (extended (names_of (with_left (symbols_of earlier) r.left)) (names_of (symbols_of (r ∷ earlier))) (names_of all)
      right g))))
    where
      left : GoesOn (names_of (symbols_of earlier)) (names_of (with_left (symbols_of earlier) r.left))
      left = symbol_goes_on (symbols_of earlier) r.left.name (length r.left.arguments)

      right : GoesOn (names_of (with_left (symbols_of earlier) r.left)) (names_of (symbols_of (r ∷ earlier)))
      right = symbol_goes_on (with_left (symbols_of earlier) r.left) (term_in r.target).name
          (length (term_in r.target).arguments)

      among : is_among r.left.name (names_of all) ≡ true
      among = among_stays_on r.left.name (names_of (symbols_of (r ∷ earlier))) (names_of all)
          (among_stays_on r.left.name (names_of (with_left (symbols_of earlier) r.left))
          (names_of (symbols_of (r ∷ earlier)))
          (symbol_among (symbols_of earlier) r.left.name (length r.left.arguments)) right) g

      same : find (leaves (names_of all) start) (map limited_rule (rules_numbered all (r ∷ earlier)))
          ≡ option_or (find (leaves (names_of all) start) (map limited_rule (rules_numbered all earlier)))
          (cond (is_same start r.left.name) (Some (limited_rule (rule_numbered all r))) None)
      same =
          ap (find (leaves (names_of all) start))
          (map-push limited_rule (rules_numbered all earlier) (rule_numbered all r))
          ∙ (find-append (leaves (names_of all) start) (map limited_rule (rules_numbered all earlier))
          (limited_rule (rule_numbered all r) ∷ [])
          ∙ ap (λ v. option_or (find (leaves (names_of all) start) (map limited_rule (rules_numbered all earlier)))
          (cond v (Some (limited_rule (rule_numbered all r))) None))
          (found_named r.left.name (names_of all) among start))

module _ (start : Name) (at : ℕ) (rules : List WrittenRule) (d : Draft) (k : KnowsRules rules d) where
  -- the rules are those of the program
  rules_are : map rule_of d.rules.items ≡ map limited_rule (rules_numbered (symbols_of rules) rules)
  rules_are = k.rules_are ∙ sym (rules_are_numbered rules)

  found_here : FoundAs start (symbols_of rules) (first_leaving start rules)
      (find (leaves (names_in d.symbols.names) start) (map rule_of d.rules.items))
  found_here =
      subst (λ rs. FoundAs start (symbols_of rules) (first_leaving start rules)
      (find (leaves (names_in d.symbols.names) start) rs)) (sym rules_are)
      (subst (λ ns. FoundAs start (symbols_of rules) (first_leaving start rules)
      (find (leaves ns start) (map limited_rule (rules_numbered (symbols_of rules) rules)))) (sym k.symbols.names)
      (found start (symbols_of rules) rules ([], sym (append-nil (names_of (symbols_of rules))))))

  -- the program of the first rule that leaves the start symbol is the written one
  made : (first : plain.Rule) (q : Program) → q.symbols ≡ tabled (names_in d.symbols.names) d.symbols.arities.items
      → q.start ≡ first.source → q.start_names ≡ take first.left first.names
      → q.rules ≡ map rule_of d.rules.items → (o : Option LeftTerm) → FoundAs start (symbols_of rules) o (Some first)
      → limited_program (program_from start rules o) ≡ Some q
  made first q symbols number names same None f = cc
  made first q symbols number names same (Some t) (r, (e, (t_is, start_is))) = λ i. Some (record {
    symbols = (sym (symbols ∙ (ap (λ ns. tabled ns d.symbols.arities.items) k.symbols.names
        ∙ (ap (tabled (names_of (symbols_of rules))) k.symbols.arities ∙ tabled_symbols (symbols_of rules))))) i;
    start = (sym (number ∙ (ap (λ (r : plain.Rule). r.source) rule_is
        ∙ ap (number_of (symbols_of rules)) (sym (same_equal start r.left.name start_is))))) i;
    start_names = (sym (names
        ∙ (ap (λ (r : plain.Rule). take r.left r.names) rule_is ∙ (left_of_rule r ∙ ap left_names (sym t_is))))) i;
    rules = (sym (same ∙ rules_are)) i;
  })
    where
      rule_is : first ≡ limited_rule (rule_numbered (symbols_of rules) r)
      rule_is = ap (or_else_this first) e

  -- if a rule leaves the start symbol, the program built from the first such rule is the written one
  pub makes_found : (first : plain.Rule) (q : code.Program)
      → find (leaves (names_in d.symbols.names) start) (map rule_of d.rules.items) ≡ Some first
      → map symbol_of q.symbols.items ≡ tabled (names_in d.symbols.names) d.symbols.arities.items
      → q.start ≡ first.source → map name_of q.start_names.items ≡ take first.left first.names
      → map rule_of q.rules.items ≡ map rule_of d.rules.items
      → Says (program_or at (limited_program (program_from start rules (first_leaving start rules)))) (Ok q)
  makes_found first q e symbols number names same =
      subst (λ o. Says (program_or at o) (Ok q))
      (sym (made first (program_of q) symbols number names same (first_leaving start rules)
      (subst (FoundAs start (symbols_of rules) (first_leaving start rules)) e found_here))) refl

  -- if no rule leaves the start symbol, it is refused as unknown
  pub makes_none : (e : ReadError) → find (leaves (names_in d.symbols.names) start) (map rule_of d.rules.items) ≡ None
      → fault_in e ≡ Some (record { kind = StartUnknown; at = at })
      → Says (program_or at (limited_program (program_from start rules (first_leaving start rules)))) (Err e)
  makes_none e none h = go (first_leaving start rules)
      (subst (FoundAs start (symbols_of rules) (first_leaving start rules)) none found_here)
    where
      go : (o : Option LeftTerm) → FoundAs start (symbols_of rules) o None
          → Says (program_or at (limited_program (program_from start rules o))) (Err e)
      go None f = refusal_said (record { kind = StartUnknown; at = at }) e h
      go (Some t) (r, (e, more)) = cc

-- the start symbol and its position
started_is : (ts : Tokens) (ss : List Section) (x : Started) → started ts ss ≡ Some x
    → (start_of ss ≡ Some x.name) × (at_maybe ts (start_index ss) ≡ x.at)
started_is ts [] x e = cc
started_is ts (Start name ∷ ss) x e = (ap (λ (s : Started). Some s.name) same, ap (λ (s : Started). s.at) same)
  where
    same : record { name = name; at = at_index ts (length (pieces_behind ss) + 4) } ≡ x
    same = sym (ap (or_else_this x) (sym e))
started_is ts (Goal ∷ ss) x e = started_is ts ss x e
started_is ts (Variables names ∷ ss) x e = started_is ts ss x e
started_is ts (Rules rules ∷ ss) x e = started_is ts ss x e
started_is ts (Comment bytes ∷ ss) x e = started_is ts ss x e

not_started : (ts : Tokens) (ss : List Section) → started ts ss ≡ None → start_of ss ≡ None
not_started ts [] e = refl
not_started ts (Start name ∷ ss) e = cc
not_started ts (Goal ∷ ss) e = not_started ts ss e
not_started ts (Variables names ∷ ss) e = not_started ts ss e
not_started ts (Rules rules ∷ ss) e = not_started ts ss e
not_started ts (Comment bytes ∷ ss) e = not_started ts ss e

rules_there : (ss : List Section) → is_some (rules_of ss) ≡ has is_rules ss
rules_there [] = refl
rules_there (Start name ∷ ss) = rules_there ss
rules_there (Goal ∷ ss) = rules_there ss
rules_there (Variables names ∷ ss) = rules_there ss
rules_there (Rules rules ∷ ss) = refl
rules_there (Comment bytes ∷ ss) = rules_there ss

no_rules : (n : ℕ) (ts : Tokens) (ss : List Section) (start : Option Name) (rules : Option (List WrittenRule))
    → is_some rules ≡ false → whole n ts ss start rules ≡ Refused (record { kind = MissingSection; at = n })
no_rules n ts ss None rules e = refl
no_rules n ts ss (Some start) None e = refl
no_rules n ts ss (Some start) (Some rules) e = cc

module _ (d : Draft) (n : ℕ) where
  -- a text without a start symbol is refused at its end for a missing section
  pub finishes_unstarted : (e : ReadError) → started_of d.sections.start ≡ None
      → fault_in e ≡ Some (record { kind = MissingSection; at = n }) → Finishes d n (Err e)
  finishes_unstarted e none h = record {
    each = λ bytes ss l k v.
        subst (λ a. Says a (Err e))
        (sym (v ∙ ap (λ o. whole (length bytes) (tokens_of bytes) ss o (rules_of ss))
        (not_started (tokens_of bytes) ss (sym k.sections.start ∙ none))))
        (refusal_said (record { kind = MissingSection; at = length bytes }) e
        (h ∙ ap (λ i. Some (record { kind = MissingSection; at = i })) l));
  }

  -- a text without rules is refused at its end for a missing section
  pub finishes_ruleless : (e : ReadError) → d.sections.rules ≡ false
      → fault_in e ≡ Some (record { kind = MissingSection; at = n }) → Finishes d n (Err e)
  finishes_ruleless e none h = record {
    each = λ bytes ss l k v.
        subst (λ a. Says a (Err e))
        (sym (v ∙ no_rules (length bytes) (tokens_of bytes) ss (start_of ss) (rules_of ss)
        (rules_there ss ∙ (sym k.sections.rules ∙ none))))
        (refusal_said (record { kind = MissingSection; at = length bytes }) e
        (h ∙ ap (λ i. Some (record { kind = MissingSection; at = i })) l));
  }

  -- a text with a start symbol and rules gives the program that is built from them
  pub finishes_made : (start : Name) (at : ℕ) (result : Result code.Program ReadError)
      → started_of d.sections.start ≡ Some (record { name = start; at = at }) → d.sections.rules ≡ true
      → Makes start at d result → Finishes d n result
  finishes_made start at result started_here there m =
      record {
        each = λ bytes ss l k v. of_rules bytes ss k v (rules_of ss) refl
            (rules_there ss ∙ (sym k.sections.rules ∙ there)) k.last;
      }
    where
      of_rules : (bytes : List ℕ) (ss : List Section) → KnowsBetween (tokens_of bytes) ss d
          → verdict bytes ≡ whole (length bytes) (tokens_of bytes) ss (start_of ss) (rules_of ss)
          → (o : Option (List WrittenRule)) → rules_of ss ≡ o → is_some o ≡ true → KnowsLast o d
          → Says (verdict bytes) result
      of_rules bytes ss k v None e t last = cc
      of_rules bytes ss k v (Some rules) e t last = subst (λ a. Says a result)
          (sym (is_this ∙ ap (program_or at)
          (sym (limited_is (program_from start rules (first_leaving start rules)) is_this)))) (m.each rules last)
        where
          position : (start_of ss ≡ Some start) × (at_maybe (tokens_of bytes) (start_index ss) ≡ at)
          position = started_is (tokens_of bytes) ss (record { name = start; at = at })
              (sym k.sections.start ∙ started_here)

          is_this : verdict bytes ≡ program_or at (program_from start rules (first_leaving start rules))
          is_this =
              v
              ∙ (ap (λ o. whole (length bytes) (tokens_of bytes) ss o (rules_of ss)) position.0
              ∙ (ap (λ o. whole (length bytes) (tokens_of bytes) ss (Some start) o) e
              ∙ ap (λ i. program_or i (program_from start rules (first_leaving start rules))) position.1))

          limited_is : (o : Option Program) → verdict bytes ≡ program_or at o → limited_program o ≡ o
          limited_is None h = refl
          limited_is (Some p) h = program_limited bytes p h
