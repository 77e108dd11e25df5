-- The translation of each program that is read can be spelled, so its canonical text spells it.
use Rattle.std.proofs.Common.{◌≡◌, inl, inr, ℕ, zero, suc, true, false, List, [], ◌∷◌, length, map, Some, refl, sym, ◌∙◌, ap}
use Rattle.std.proofs.Common.{eq-eqb}
use Rattle.std.specs.Prelude.{slice_index_or, nat_eq}
use Rattle.std.specs.List.{AllByRecursion}
use Rattle.std.proofs.lemmas.List.{length-map}
use Rattle.std.proofs.Math.Seq.{take-append_seam}
use Rattle.its_text.specs.Numbering.{is_com}
use Rattle.its_writer.specs.Spellable.{IsSpellableRule, names_at, IsSpellable}
use Rattle.its_writer.proofs.SpellingLaws.{spelled_programs}
use Rattle.while_model.specs.model.Programs.{Name, Symbol, Program}
use Rattle.while_model.specs.Statements.{Statements, Nothing, Simple, While, If, IsNonempty, size}
use Rattle.while_model.specs.Moves.{Move, program_moves}
use Rattle.while_model.specs.Translation.{points_of, number_in, free_names, symbol_of, rule_of, program_of}
use Rattle.while_model.proofs.Members.{IsIn}
use Rattle.while_model.proofs.Sources.{listed-only}
use Rattle.while_tree.specs.its_model.Valid.{IsValidSymbol, IsValidRule, IsValid}
use Rattle.while_tree.specs.its_model.text_core.Names.{IsName}
use Rattle.while_tree.specs.Readable.{IsReadable}
use Rattle.while_front.proofs.FittingMoves.{fits_moves}
use Rattle.while_front.proofs.ValidPrograms.{readable_are_valid}
use Rattle.while_answer.specs.Executed.{translation_of}
use Rattle.while_spelling.specs.Natural.{AreNatural}
use Rattle.while_spelling.specs.Laws.{TranslationsAreSpelled}
use Rattle.while_spelling.proofs.NaturalMoves.{moves_natural}
use Rattle.while_spelling.proofs.NaturalReadings.{read_natural}
use Rattle.while_spelling.proofs.PointOrder.{points_numbered}
use Rattle.while_spelling.proofs.RuleTerms.{terms_spellable}

-- The symbols have names.
symbols_named : (symbols : List Symbol) → AllByRecursion IsValidSymbol symbols
    → AllByRecursion IsName (map (λ (s : Symbol). s.name) symbols)
symbols_named [] h = tt
symbols_named (s ∷ symbols) (valid, h) = (valid.name, symbols_named symbols h)

-- No symbol is named `Com_` and digits: each name begins with `p`.
no_com : (inputs : List Name) (points : List ℕ) (i : ℕ)
    → is_com (slice_index_or (map (λ (s : Symbol). s.name) (map (symbol_of inputs) points)) i []) ≡ false
no_com inputs [] zero = refl
no_com inputs [] (suc i) = refl
no_com inputs (k ∷ points) zero = refl
no_com inputs (k ∷ points) (suc i) = no_com inputs points i

-- There is a first move, which leaves point 0.
abbrev BeginsAtStart : List Move → Type 0
BeginsAtStart [] = ⊥
BeginsAtStart (m ∷ ms) = m.from ≡ 0

begins : (program : Statements) → IsNonempty program → BeginsAtStart (program_moves program)
begins Nothing some = absurd some
begins (Simple action rest) some = refl
begins (While test block rest) some = refl
begins (If test block other rest) some = refl

-- Then the first rule leaves the start symbol, and its left variables are the inputs.
first_names : (inputs : List Name) (points : List ℕ) (ms : List Move) → BeginsAtStart ms
    → names_at (number_in points 0) (map (rule_of inputs points) ms) ≡ Some inputs
first_names inputs points [] start = absurd start
first_names inputs points (m ∷ ms) start =
    rw test (ap (λ (names : List Name). Some names) (take-append_seam inputs (free_names inputs m.action)))
  where
    test : nat_eq (number_in points 0) (number_in points m.from) ≡ true
    test = eq-eqb (number_in points 0) (number_in points m.from) (ap (λ (k : ℕ). number_in points k) (sym start))

module _ (inputs : List Name) (program : Statements) (readable : IsReadable inputs program)
    (natural : AreNatural program) where
  -- The points of the program, and its translation.
  abbrev points : List ℕ
  points = points_of (program_moves program)

  abbrev translated : Program
  translated = program_of inputs program

  valid : IsValid translated
  valid = readable_are_valid.each inputs program readable

  rule_spellable : (m : Move) → IsIn m (program_moves program) → IsValidRule translated (rule_of inputs points m)
      → IsSpellableRule translated (rule_of inputs points m)
  rule_spellable m i rule =
      let move = listed-only m program 0 (size program) i in
      let fits = fits_moves (length inputs) m program 0 (size program) readable.fits move in
      let of_move = moves_natural m program 0 (size program) natural move in
      let terms = terms_spellable (length inputs) m.action m.guard fits.action of_move.action fits.guard of_move.guard in
      record {
        names = rule.names;
        distinct = rule.distinct;
        named = rule.named;
        source_arity = sym rule.left;
        target_arity = sym rule.places;
        target = no_com inputs points (number_in points m.to);
        terms = terms.0;
        known = terms.1;
      }

  rules_spellable : (ms : List Move) → ((m : Move) → IsIn m ms → IsIn m (program_moves program))
      → AllByRecursion (IsValidRule translated) (map (rule_of inputs points) ms)
      → AllByRecursion (IsSpellableRule translated) (map (rule_of inputs points) ms)
  rules_spellable [] among h = tt
  rules_spellable (m ∷ ms) among (rule, h) =
      (rule_spellable m (among m (inl refl)) rule, rules_spellable ms (λ n i. among n (inr i)) h)

  pub spellable : IsSpellable translated
  spellable =
      let numbered = points_numbered inputs [] (program_moves program) in
      record {
        names = symbols_named translated.symbols valid.symbols;
        distinct = valid.distinct;
        order = numbered.order;
        known = numbered.known ∙ sym (length-map points (symbol_of inputs));
        rules = rules_spellable (program_moves program) (λ m i. i) valid.rules;
        start = valid.start;
        start_names = first_names inputs points (program_moves program) (begins program readable.nonempty);
      }

pub translations_spelled : TranslationsAreSpelled
translations_spelled = record {
  spellable = spellable;
  natural = read_natural;
  spelled = λ text source is.
      spelled_programs.spells (translation_of source)
      (spellable source.names source.program is.within (read_natural text source is.spelled));
  below = λ h. h.rules.0.terms.0;
}
