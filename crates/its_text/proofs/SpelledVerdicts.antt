-- A text is read as a program exactly if it spells it within the limits: along its states, what was read is within the
-- limits exactly if no fault is shown.
use Rattle.std.proofs.Common.{◌≡◌, ℕ, ◌≤◌, ◌↔◌, List, [], ◌∷◌, length, Option, Some, None, refl, ap, sym, subst, ◌∙◌}
use Rattle.std.proofs.Common.{arith}
use Rattle.expr_text.specs.model.Programs.{Name, Program}
use Rattle.expr_text.specs.text_core.Tokens.{Token, pieces}
use Rattle.expr_text.specs.text_core.Reading.{Answer, Parsed, Refused, answer, Answers}
use Rattle.expr_text.specs.text_core.Limits.{KeepsLimits, ShowsNoLimit}
use Rattle.expr_text.proofs.text_core.Limits.{answered_within, within_answered}
use Rattle.its_text.specs.Pieces.{Piece}
use Rattle.its_text.specs.Written.{WrittenRule, Section, Goal, Start, Variables, Rules, Comment, pieces_behind}
use Rattle.its_text.specs.Numbering.{start_of, rules_of, program_of_parts}
use Rattle.its_text.specs.GrammarStates.{GrammarState, Between, pieces_read}
use Rattle.its_text.specs.Steps.{step, finish}
use Rattle.its_text.specs.Lexing.{tokens_of}
use Rattle.its_text.specs.Kinds.{Kind}
use Rattle.its_text.specs.Grammar.{Writes, programs}
use Rattle.its_text.specs.StateFaults.{Tokens, last_byte, next_piece, is_start, is_rules}
use Rattle.its_text.specs.Spelling.{times, AreSmall, SpellsWithin}
use Rattle.its_text.specs.Answers.{verdict_of_answer, verdict}
use Rattle.its_text.specs.Verdicts.{IsFaultless, IsTextOf, IsVerdict, VerdictsAreSpelled}
use Rattle.its_text.proofs.StepLaws.{Leads, step_leads}
use Rattle.its_text.proofs.ReaderLaws.{programs_laws, answers_all_texts}
use Rattle.its_text.proofs.VerdictLaws.{verdict_right, whole_numbered}
use Rattle.its_text.proofs.KeptStates.{first, AreDone, IsKept, IsQuiet, IsNextSmall}
use Rattle.its_text.proofs.QuietStates.{shows_nothing}
use Rattle.its_text.proofs.SectionTurns.{Turns}
use Rattle.its_text.proofs.EveryStep.{ended}
use Rattle.its_text.proofs.StepTurns.{turns}
use Rattle.its_text.proofs.SmallPieces.{next_small, small_next}

-- The tokens that have been read are small, and what was read is within the other limits.
record IsStateWithin (f : GrammarState) (ps : List Piece) : Type 0 where
  small : AreSmall (pieces_read f)
  kept : IsKept f ps

-- a state shows no fault at the pieces after it
record IsSilent (f : GrammarState) (p : Piece) (ps : List Piece) : Type 0 where
  quiet : IsQuiet f (Some p) (first ps)
  small : IsNextSmall f (Some p) (first ps)

-- After a step, what was read is within the limits exactly if it was before it and no fault is shown.
step_within : (f g : GrammarState) (p : Piece) (ps : List Piece) → step f p ≡ Some g → IsStateWithin g ps
    ↔ (IsStateWithin f (p ∷ ps) × IsSilent f p ps)
step_within f g p ps same =
    let turn : Turns f p ps (Some g) = subst (Turns f p ps) same (turns f p ps) in
    let leads : pieces_read g ≡ p ∷ pieces_read f = subst (Leads (pieces_read f) p) same (step_leads f p) in (
      λ h.
          let small = subst AreSmall leads h.small in
          let k = turn.0 h.kept in
          (record { small = small.1; kept = k.0 }, record { quiet = k.1; small = next_small f p (first ps) small.0 }),
      λ h.
          record {
            small = subst AreSmall (sym leads) (small_next f g p (first ps) same h.1.small, h.0.small);
            kept = turn.1 (h.0.kept, h.1.quiet);
          },
    )

-- the next piece of tokens is the first of their pieces
next_first : (rest : Tokens) → next_piece rest ≡ first (pieces rest)
next_first [] = refl
next_first (t ∷ rest) = refl

silent_shown : (n : ℕ) (done : Tokens) (f : GrammarState) (t : Token Piece) (rest : Tokens) → IsSilent f t.piece (pieces rest)
    ↔ (programs.shown n done f (t ∷ rest) ≡ [])
silent_shown n done f t rest =
    let shows = shows_nothing (last_byte done) t.at f (Some t.piece) (next_piece rest) in (
      λ h.
          shows.1 (
            subst (λ b. IsQuiet f (Some t.piece) b) (sym (next_first rest)) h.quiet,
            subst (λ b. IsNextSmall f (Some t.piece) b) (sym (next_first rest)) h.small,
          ),
      λ h.
          let k = shows.0 h in
          record {
            quiet = subst (λ b. IsQuiet f (Some t.piece) b) (next_first rest) k.0;
            small = subst (λ b. IsNextSmall f (Some t.piece) b) (next_first rest) k.1;
          },
    )

-- sections within the limits
pub record AreSectionsWithin (ss : List Section) : Type 0 where
  pub small : AreSmall (pieces_behind ss)
  pub done : AreDone ss

nothing_done : AreDone []
nothing_done =
    record {
      goal = omega arith;
      start = omega arith;
      variables = omega arith;
      rules = omega arith;
      named = tt;
      within = tt;
    }

-- If no fault is shown, what was read is within the limits.
keeps_limits : KeepsLimits programs AreSectionsWithin IsStateWithin
keeps_limits = record {
  begins = λ ps. record { small = tt; kept = nothing_done };
  goes_on = λ n done f g t rest led within nothing same. (step_within f g t.piece (pieces rest) same).1
      (within, (silent_shown n done f t rest).1 nothing);
  ends =
      λ done f ss led within same.
      let k : IsStateWithin (Between ss) [] = subst (λ g. IsStateWithin g []) (ended f ss same) within in
      record { small = k.small; done = k.kept };
}

-- Sections that are an answer are within the limits.
pub answered_sections : (n : ℕ) (ts : Tokens) (ss : List Section) → answer programs n ts ≡ Parsed ss
    → AreSectionsWithin ss
answered_sections = answered_within programs programs_laws AreSectionsWithin IsStateWithin keeps_limits

-- A text within the limits continues, or ends, from this state.
abbrev LeadsWithin : GrammarState → List Piece → Type 0
LeadsWithin f [] = IsStateWithin f [] × ((ss : List Section) × (finish f ≡ Some ss))
LeadsWithin f (p ∷ ps) = IsStateWithin f (p ∷ ps) × IsSilent f p ps

leads_first : (f : GrammarState) (ps : List Piece) → LeadsWithin f ps → IsStateWithin f ps
leads_first f [] h = h.0
leads_first f (p ∷ ps) h = h.0

-- A state from which a text within the limits continues or ends shows no fault.
leads_silent : (n : ℕ) (done : Tokens) (f : GrammarState) (rest : Tokens) → LeadsWithin f (pieces rest)
    → programs.shown n done f rest ≡ []
leads_silent n done f [] h =
    subst (λ g. programs.shown n done g [] ≡ []) (sym (ended f h.1.0 h.1.1))
    ((shows_nothing (last_byte done) n (Between h.1.0) None None).1 (refl, (refl, tt)))
leads_silent n done f (t ∷ rest) h = (silent_shown n done f t rest).0 h.1

shows_no_limit : ShowsNoLimit programs AreSectionsWithin LeadsWithin
shows_no_limit = record {
  ends =
      λ done f ss led same within. (
        subst (λ g. IsStateWithin g []) (sym (ended f ss same)) (record { small = within.small; kept = within.done }),
        (ss, same),
      );
  goes_back = λ done f g p ps led same h. (step_within f g p ps same).0 (leads_first g ps h);
  nothing = λ n done f rest led h. leads_silent n done f rest h;
}

-- Sections within the limits are the answer to their text.
pub sections_answered : (n : ℕ) (ts : Tokens) (ss : List Section) → Writes ss (pieces ts) → AreSectionsWithin ss
    → answer programs n ts ≡ Parsed ss
sections_answered = within_answered programs programs_laws AreSectionsWithin LeadsWithin shows_no_limit

-- A text without faults has its sections as the answer.
faultless_answered : (bytes : List ℕ) (written : List Section) → IsFaultless bytes written
    → answer programs (length bytes) (tokens_of bytes) ≡ Parsed written
faultless_answered bytes written h =
    go (answer programs (length bytes) (tokens_of bytes)) (answers_all_texts.each (length bytes) (tokens_of bytes))
  where
    go : (a : Answer (List Section) Kind) → Answers programs (length bytes) (tokens_of bytes) a → a ≡ Parsed written
    go (Parsed u) k = ap Parsed (sym (k.only written h.text))
    go (Refused x) k = absurd (h.faultless x k.is)

-- If there is a start symbol, or if there are rules, there is their section.
start_there : (ss : List Section) (name : Name) → start_of ss ≡ Some name → 1 ≤ times is_start ss
start_there [] name same = cc
start_there (Start other ∷ ss) name same = omega arith
start_there (Goal ∷ ss) name same = start_there ss name same
start_there (Variables names ∷ ss) name same = start_there ss name same
start_there (Rules rules ∷ ss) name same = start_there ss name same
start_there (Comment bytes ∷ ss) name same = start_there ss name same

rules_there : (ss : List Section) (rules : List WrittenRule) → rules_of ss ≡ Some rules → 1 ≤ times is_rules ss
rules_there [] rules same = cc
rules_there (Rules others ∷ ss) rules same = omega arith
rules_there (Goal ∷ ss) rules same = rules_there ss rules same
rules_there (Start name ∷ ss) rules same = rules_there ss rules same
rules_there (Variables names ∷ ss) rules same = rules_there ss rules same
rules_there (Comment bytes ∷ ss) rules same = rules_there ss rules same

both_there : (ss : List Section) (p : Program) (start : Option Name) (rules : Option (List WrittenRule))
    → start_of ss ≡ start → rules_of ss ≡ rules → program_of_parts start rules ≡ Some p
    → (1 ≤ times is_start ss) × (1 ≤ times is_rules ss)
both_there ss p None None e f same = cc
both_there ss p None (Some rules) e f same = cc
both_there ss p (Some start) None e f same = cc
both_there ss p (Some start) (Some rules) e f same = (start_there ss start e, rules_there ss rules f)

-- a text that is read spells its program within the limits
text_spells : (bytes : List ℕ) (p : Program) → IsTextOf bytes p → SpellsWithin bytes p
text_spells bytes p t =
    let read = faultless_answered bytes t.written t.stands in
    let within = answered_sections (length bytes) (tokens_of bytes) t.written read in
    let there = both_there t.written p (start_of t.written) (rules_of t.written) refl refl t.numbered in
    let done = within.done in
    record {
      spells =
          record {
            written = t.written;
            text = t.stands.text;
            once =
                record {
                  goal = done.goal;
                  start = (let most = done.start in let least = there.0 in omega (arith, most, least));
                  variables = done.variables;
                  rules = (let most = done.rules in let least = there.1 in omega (arith, most, least));
                };
            rules = done.named;
            numbered = t.numbered;
          };
      within = record { small = within.small; rules = done.within };
    }

-- A text that is read as a program spells it within the limits.
pub verdict_spells : (bytes : List ℕ) (p : Program) → verdict bytes ≡ Parsed p → SpellsWithin bytes p
verdict_spells bytes p same = text_spells bytes p (subst (IsVerdict bytes) same (verdict_right bytes))

-- a text that spells a program within the limits is read as it
pub spelled_stands : (bytes : List ℕ) (p : Program) → SpellsWithin bytes p → verdict bytes ≡ Parsed p
spelled_stands bytes p s =
    let w = s.spells.written in
    let once = s.spells.once in
    let one_start = once.start in
    let one_rules = once.rules in
    let within : AreSectionsWithin w
    = record {
      small = s.within.small;
      done =
          record {
            goal = once.goal;
            start = omega (arith, one_start);
            variables = once.variables;
            rules = omega (arith, one_rules);
            named = s.spells.rules;
            within = s.within.rules;
          };
    } in
    let read = sections_answered (length bytes) (tokens_of bytes) w s.spells.text within in
    ap (verdict_of_answer (length bytes) (tokens_of bytes)) read
    ∙ whole_numbered (length bytes) (tokens_of bytes) w p (start_of w) (rules_of w) s.spells.numbered

-- a text is read as a program exactly if it spells that one within the limits
pub verdicts_are_spelled : VerdictsAreSpelled
verdicts_are_spelled = record { stands = λ bytes p. (verdict_spells bytes p, spelled_stands bytes p) }
