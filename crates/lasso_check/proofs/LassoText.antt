-- Which lasso files have no fault, the lasso that reading them gives, and so which lassos are answered.
use Rattle.std.proofs.Common.{◌≡◌, ℕ, ◌+◌, ◌-◌, ◌^◌, ◌<◌, ◌≤◌, min, Bool, true, false, cond, List, [], ◌∷◌, ◌++◌}
use Rattle.std.proofs.Common.{length, refl, ap, sym, subst, ◌∙◌, arith, append_assoc, append-nil, length-append}
use Rattle.std.specs.Prelude.{not, nat_le, ◌==◌, codes}
use Rattle.std.proofs.lemmas.Bool.Decides.{nat_tests}
use Rattle.its_model.specs.model.Programs.{Program, arity_of}
use Rattle.its_model.specs.model.Runs.{Step}
use Rattle.text_grammar.specs.text_core.Reading.{Parsed, answer}
use Rattle.text_grammar.specs.Texts.{reader}
use Rattle.text_grammar.specs.Parts.{Part, Puts, come, Stand}
use Rattle.text_grammar.specs.declared.numeral.NumberContext.TheVariants.{Words}
use Rattle.text_grammar.specs.ByteTexts.{Spelling, Numbered, Line, fresh, fold_of, numbers_of, tokens}
use Rattle.text_grammar.proofs.Numerals.{none_when, when_none, not_differs, differs_not, room, has_room, bytes_have_no_fault}
use Rattle.text_grammar.proofs.ByteDerivations.{word_parsed, word_has_no_fault, answered, taken}
use Rattle.run_replay.specs.declared.kind.RunKind.TheVariants.{BadReference, ArityDiffers, Limit}
use Rattle.run_replay.specs.Runs.{step_limit}
use Rattle.run_replay.specs.Texts.{is_no_rule, free_or, wanted}
use Rattle.run_replay.specs.Spelled.{IsStepOf, AreStepsOf}
use Rattle.run_replay.proofs.RuleNumbers.{rule_there, rule_some, rule_passed, rule_taken}
use Rattle.lasso_check.specs.Lassos.{Lasso}
use Rattle.lasso_check.specs.Texts.{State, with_step, with_line, steps_in, lasso_bytes, lassos_of}
use Rattle.lasso_check.specs.Spelled.{text_of, IsWithin, IsTextWithin}
use Rattle.lasso_check.proofs.LassoParts.{TurnSteps, WholeLasso, turn_of, whole_of, LassoValue, step_parts, rest_parts}
use Rattle.lasso_check.proofs.LassoParts.{stem_parts, lasso_parts, bounded, readable, numbers, lassos_lawful, lassos_made}
use Rattle.lasso_check.proofs.LassoParts.{lasso_derived, lasso_spells}

-- a line of values after the number of a rule adds a step
stepped : (l : Lasso) (b : Bool) (s : Step) → 1 ≤ s.rule → s.rule < 2 ^ 32
    → with_line s.free (record { lasso = l; rule = s.rule; in_turn = b })
    ≡ record { lasso = with_step b s l; rule = s.rule; in_turn = b }
stepped l b s low high =
    let other : (s.rule == 0) ≡ false = grind (arith, nat_tests) in
    let same : min s.rule (2 ^ 32 - 1) ≡ s.rule = omega (arith, high) in
    ap (λ (v : Bool). cond v (record {
      lasso = record { start = s.free; stem = l.stem; turn = l.turn };
      rule = s.rule;
      in_turn = b;
    }) (record {
      lasso = with_step b (record { rule = min s.rule (2 ^ 32 - 1); free = s.free }) l;
      rule = s.rule;
      in_turn = b;
    })) other
    ∙ ap (λ (n : ℕ). record { lasso = with_step b (record { rule = n; free = s.free }) l; rule = s.rule; in_turn = b }) same

-- one more step in either part increases the number of steps by 1
one_more : (b : Bool) (s : Step) (l : Lasso) → steps_in (with_step b s l) ≡ steps_in l + 1
one_more true s l = omega (arith, length-append l.turn (s ∷ []))
one_more false s l = omega (arith, length-append l.stem (s ∷ []))

module _ (p : Program) where
  -- the state between two lines, after the number of a rule
  abbrev at : State → Spelling State
  at s = record { own = s; numeral = fresh; within = Words; values = [] }

  abbrev from : Lasso → ℕ → Bool → Spelling State
  from l rule b = at (record { lasso = l; rule = rule; in_turn = b })

  -- the parts have no fault from a state on, and the state after them
  abbrev HaveNoFaultFrom : Spelling State → List (Part ℕ Numbered) → Type 0
  HaveNoFaultFrom s xs = Stand (fold_of (lasso_bytes p)) (numbers_of (lasso_bytes p)) s xs

  abbrev comes : Spelling State → List (Part ℕ Numbered) → Spelling State
  comes s xs = come (fold_of (lasso_bytes p)) (numbers_of (lasso_bytes p)) s xs

  -- a step of the program has no fault if there is room for it, and the parts after it have none
  step_stands : (s : Step) (xs : List (Part ℕ Numbered)) (l : Lasso) (rule : ℕ) (b : Bool) → IsStepOf p s
      → steps_in l + 1 ≤ step_limit → HaveNoFaultFrom (from (with_step b s l) s.rule b) xs
      → HaveNoFaultFrom (from l rule b) (step_parts s xs)
  step_stands s xs l rule b h few behind =
      let named = rule_some p s.rule h.rule h.numbered in
      let free = h.free ∙ sym (ap (free_or (arity_of p p.start)) h.numbered) in
      let first = when_none (nat_le step_limit (steps_in l)) Limit
      (has_room step_limit (steps_in l) (omega (arith, few))) in
      let number = when_none (is_no_rule p s.rule) BadReference
      (rule_taken p s.rule named.0 named.1 h.held) in
      let line = when_none (not (length s.free == wanted p s.rule)) ArityDiffers
      (differs_not (wanted p s.rule) (length s.free) free) in
      let others = subst (λ (t : State). HaveNoFaultFrom (at t) xs) (sym (stepped l b s named.0 h.held)) behind in
      let bytes = bytes_have_no_fault (lasso_bytes p) (record { lasso = l; rule = s.rule; in_turn = b }) s.free refl refl in
      (first, (refl, (refl, (refl, (refl, (number, ((h.small, bytes, line), others)))))))

  -- if a step and the parts after it have no fault, the step is one of the program and there is room for it
  stand_step : (s : Step) (xs : List (Part ℕ Numbered)) (l : Lasso) (rule : ℕ) (b : Bool)
      → HaveNoFaultFrom (from l rule b) (step_parts s xs)
      → IsStepOf p s × (steps_in l ≤ step_limit → steps_in l + 1 ≤ step_limit)
      × HaveNoFaultFrom (from (with_step b s l) s.rule b) xs
  stand_step s xs l rule b h =
      let no = none_when (is_no_rule p s.rule) BadReference h.1.1.1.1.1.0 in
      let named = rule_passed p s.rule no in
      let q = rule_there p s.rule no in
      let line = h.1.1.1.1.1.1 in
      let free =
      not_differs (wanted p s.rule) (length s.free)
      (none_when (not (length s.free == wanted p s.rule)) ArityDiffers line.0.2) in
      let one = room step_limit (steps_in l) (none_when (nat_le step_limit (steps_in l)) Limit h.0) in (
        record {
          rule = q.0;
          numbered = q.1;
          held = named.2;
          free = free ∙ ap (free_or (arity_of p p.start)) q.1;
          small = line.0.0;
        },
        (λ k. omega (arith, one)),
        subst (λ (t : State). HaveNoFaultFrom (at t) xs) (stepped l b s named.0 named.2) line.1,
      )

  -- reading a step adds it to the lasso
  step_comes : (s : Step) (xs : List (Part ℕ Numbered)) (l : Lasso) (rule : ℕ) (b : Bool) → IsStepOf p s
      → comes (from l rule b) (step_parts s xs) ≡ comes (from (with_step b s l) s.rule b) xs
  step_comes s xs l rule b h =
      let named = rule_some p s.rule h.rule h.numbered in
      ap (λ (t : State). comes (at t) xs) (stepped l b s named.0 h.held)

  -- the rest of a turn has no fault exactly if its steps are steps of the program and there is room for them
  rest_stands : (ss : List Step) (l : Lasso) (rule : ℕ) → AreStepsOf p ss → steps_in l + length ss ≤ step_limit
      → HaveNoFaultFrom (from l rule true) (rest_parts ss)
  rest_stands [] l rule h few = (refl, (refl, (refl, (refl, tt))))
  rest_stands (s ∷ ss) l rule h few =
      step_stands s (rest_parts ss) l rule true h.0 (omega (arith, few))
      (rest_stands ss (with_step true s l) s.rule h.1 (omega (arith, few, one_more true s l)))

  stand_rest : (ss : List Step) (l : Lasso) (rule : ℕ) → HaveNoFaultFrom (from l rule true) (rest_parts ss)
      → AreStepsOf p ss × (steps_in l ≤ step_limit → steps_in l + length ss ≤ step_limit)
  stand_rest [] l rule h = (tt, λ k. omega (arith, k))
  stand_rest (s ∷ ss) l rule h =
      let w = stand_step s (rest_parts ss) l rule true h in
      let rest = stand_rest ss (with_step true s l) s.rule w.2 in (
        (w.0, rest.0),
        λ k. let m = w.1 k in let n = rest.1 (omega (arith, m, one_more true s l)) in
            omega (arith, n, one_more true s l),
      )

  rest_comes : (ss : List Step) (l : Lasso) (rule : ℕ) → AreStepsOf p ss
      → (comes (from l rule true) (rest_parts ss)).own.lasso
      ≡ record { start = l.start; stem = l.stem; turn = l.turn ++ ss }
  rest_comes [] l rule h =
      ap (λ (ss : List Step). record { start = l.start; stem = l.stem; turn = ss }) (sym (append-nil l.turn))
  rest_comes (s ∷ ss) l rule h =
      ap (λ (t : Spelling State). t.own.lasso) (step_comes s (rest_parts ss) l rule true h.0)
      ∙ (rest_comes ss (with_step true s l) s.rule h.1
      ∙ ap (λ (ts : List Step). record { start = l.start; stem = l.stem; turn = ts }) (append_assoc l.turn (s ∷ []) ss))

  -- the stem, the line `loop` and the turn have no fault exactly if their steps are steps of the program and there is
  -- room for them
  stem_stands : (ss : List Step) (t : TurnSteps) (l : Lasso) (rule : ℕ) → AreStepsOf p ss → AreStepsOf p (turn_of t)
      → steps_in l + (length ss + length (turn_of t)) ≤ step_limit
      → HaveNoFaultFrom (from l rule false) (stem_parts ss t)
  stem_stands [] t l rule h k few =
      (refl, (refl, (refl, (refl, (refl, rest_stands (turn_of t) l rule k (omega (arith, few)))))))
  stem_stands (s ∷ ss) t l rule h k few =
      step_stands s (stem_parts ss t) l rule false h.0 (omega (arith, few))
      (stem_stands ss t (with_step false s l) s.rule h.1 k (omega (arith, few, one_more false s l)))

  stand_stem : (ss : List Step) (t : TurnSteps) (l : Lasso) (rule : ℕ) → HaveNoFaultFrom (from l rule false) (stem_parts ss t)
      → AreStepsOf p ss × AreStepsOf p (turn_of t)
      × (steps_in l ≤ step_limit → steps_in l + (length ss + length (turn_of t)) ≤ step_limit)
  stand_stem [] t l rule h =
      let rest = stand_rest (turn_of t) l rule h.1.1.1.1.1 in
      (tt, rest.0, λ k. let n = rest.1 k in omega (arith, n))
  stand_stem (s ∷ ss) t l rule h =
      let w = stand_step s (stem_parts ss t) l rule false h in
      let rest = stand_stem ss t (with_step false s l) s.rule w.2 in (
        (w.0, rest.0),
        rest.1,
        λ k. let m = w.1 k in let n = rest.2 (omega (arith, m, one_more false s l)) in
            omega (arith, n, one_more false s l),
      )

  stem_comes : (ss : List Step) (t : TurnSteps) (l : Lasso) (rule : ℕ) → AreStepsOf p ss → AreStepsOf p (turn_of t)
      → (comes (from l rule false) (stem_parts ss t)).own.lasso
      ≡ record { start = l.start; stem = l.stem ++ ss; turn = l.turn ++ turn_of t }
  stem_comes [] t l rule h k =
      rest_comes (turn_of t) l rule k
      ∙ ap (λ (ss : List Step). record { start = l.start; stem = ss; turn = l.turn ++ turn_of t }) (sym (append-nil l.stem))
  stem_comes (s ∷ ss) t l rule h k =
      ap (λ (u : Spelling State). u.own.lasso) (step_comes s (stem_parts ss t) l rule false h.0)
      ∙ (stem_comes ss t (with_step false s l) s.rule h.1 k
      ∙ ap (λ (ts : List Step). record { start = l.start; stem = ts; turn = l.turn ++ turn_of t })
      (append_assoc l.stem (s ∷ []) ss))

  -- the parts of a lasso after its first line and the word `start`
  abbrev behind_start : WholeLasso → List (Part ℕ Numbered)
  behind_start w = Puts (Line w.start) ∷ stem_parts w.parts.stem w.parts.turn

  abbrev empty : Lasso
  empty = record { start = []; stem = []; turn = [] }

  abbrev started : WholeLasso → Lasso
  started w = record { start = w.start; stem = []; turn = [] }

  -- a lasso has no fault exactly if it is within the limits
  lasso_stands : (w : WholeLasso) → IsWithin p (whole_of w) → HaveNoFaultFrom (from empty 0 false) (lasso_parts 0 w)
  lasso_stands w h =
      word_parsed (lasso_bytes p) (from empty 0 false) (codes "koat-lasso 1\nstart")
      (behind_start w) refl (
        (
          h.values,
          bytes_have_no_fault (lasso_bytes p) (record { lasso = empty; rule = 0; in_turn = false }) w.start refl refl,
          when_none (not (length w.start == wanted p 0)) ArityDiffers
              (differs_not (wanted p 0) (length w.start) h.start),
        ),
        stem_stands w.parts.stem w.parts.turn (started w) 0 h.stem h.turn
            (let l = h.count in omega (arith, l)),
      )

  stand_lasso : (w : WholeLasso) → HaveNoFaultFrom (from empty 0 false) (lasso_parts 0 w) → IsWithin p (whole_of w)
  stand_lasso w h =
      let line =
      word_has_no_fault (lasso_bytes p) (from empty 0 false) (codes "koat-lasso 1\nstart")
      (behind_start w) h in
      let v = stand_stem w.parts.stem w.parts.turn (started w) 0 line.1 in
      record {
        start =
            not_differs (wanted p 0) (length w.start)
            (none_when (not (length w.start == wanted p 0)) ArityDiffers line.0.2);
        values = line.0.0;
        stem = v.0;
        turn = v.1;
        nonempty = omega arith;
        count = (let l = v.2 (omega arith) in omega (arith, l));
      }

  -- reading the text of a lasso ends with this lasso
  lasso_comes : (w : WholeLasso) → IsWithin p (whole_of w)
      → (comes (from empty 0 false) (lasso_parts 0 w)).own.lasso ≡ whole_of w
  lasso_comes w h = stem_comes w.parts.stem w.parts.turn (started w) 0 h.stem h.turn

  -- a lasso within the limits has a turn with a first step
  whole : (l : Lasso) → 1 ≤ length l.turn → (w : WholeLasso) × (whole_of w ≡ l)
  whole l h = go l.turn h
    where
      go : (turn : List Step) → 1 ≤ length turn
          → (w : WholeLasso) × (whole_of w ≡ record { start = l.start; stem = l.stem; turn = turn })
      go [] k = absurd (omega (arith, k))
      go (s ∷ ss) k =
          (record { start = l.start; parts = record { stem = l.stem; turn = record { first = s; rest = ss } } }, refl)

  -- if a lasso is answered, the bytes are its text, and it is within the limits
  pub parsed_written : (bytes : List ℕ) (l : Lasso)
      → answer (reader (lassos_of p)) (length bytes) (tokens bytes) ≡ Parsed l → IsTextWithin p bytes l
  parsed_written bytes l e =
      let w = answered (lasso_bytes p) (bounded p) (numbers p) (readable p) LassoValue lasso_parts (lassos_made p)
      (lassos_lawful p) bytes l e in
      let h = stand_lasso w.0 w.2 in
      let same : whole_of w.0 ≡ l = sym (lasso_comes w.0 h) ∙ w.3 in
      record {
        text = ap text_of (sym same) ∙ (sym (lasso_spells p w.0) ∙ w.1);
        within = subst (IsWithin p) same h;
      }

  -- bytes that are the text of a lasso within the limits have no fault
  pub written_parsed : (bytes : List ℕ) (l : Lasso) → IsTextWithin p bytes l
      → answer (reader (lassos_of p)) (length bytes) (tokens bytes) ≡ Parsed l
  written_parsed bytes l h =
      let v = whole l h.within.nonempty in
      let w = v.0 in
      let within : IsWithin p (whole_of w) = subst (IsWithin p) (sym v.1) h.within in
      taken (lasso_bytes p) (bounded p) (numbers p) (readable p) LassoValue lasso_parts (lassos_lawful p) w
      (lasso_derived p w within.values within.stem within.turn) (lasso_stands w within) bytes
      (lasso_spells p w ∙ (ap text_of v.1 ∙ h.text))
      ∙ ap (λ (q : Lasso). Parsed q) (lasso_comes w within ∙ v.1)
