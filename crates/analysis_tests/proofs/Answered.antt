-- Answers for as many places as the rows of each rule have are a right input of the search for components.
use Rattle.std.proofs.Common.{◌≡◌, ℕ, zero, suc, Bool, List, [], ◌∷◌, length, map, Vec, Some, sym, ◌∙◌, ap}
use Rattle.std.specs.Prelude.{slice_get, slice_index_or, true}
use Rattle.std.specs.declared.alloc.Global.{Global}
use Rattle.std.proofs.lemmas.List.{length-map}
use Rattle.model.specs.Programs.{Program, Rule, rule_at, arity_of}
use Rattle.its_model.specs.Valid.{IsValid}
use Rattle.guard_prep.specs.declared.rule_rows.RuleRows.{RuleRows}
use Rattle.guard_prep.specs.Prepared.{Prepared, prepared}
use Rattle.guard_prep.specs.Views.{prepared_of}
use Rattle.local_size.specs.declared.answer.LocalAnswer.{LocalAnswer}
use Rattle.its_model.specs.poly_terms.Views.{form_of}
use Rattle.cert_types.specs.Composing.{AreRowsOf}
use Rattle.rank_search.proofs.RankSets.{rule-of}
use Rattle.rvg_components.specs.Listing.{answer_lists, answers_for, is_flagged, AreLocalsFor}
use Rattle.time_bounds.proofs.RowLaws.{rows_length}
use Rattle.model.proofs.Cases.{none_some, some_same}

-- how many answers there are for each rule, and how many new values
abbrev pub how_many : List (Vec LocalAnswer Global) → List ℕ
how_many locals = map (λ l. length l.items) locals

abbrev pub how_many_new : List RuleRows → List ℕ
how_many_new prepared_rules = map (λ m. length m.new_values.items) prepared_rules

first_same : {A : Type 0} (a b : A) (xs ys : List A) → a ∷ xs ≡ b ∷ ys → a ≡ b
first_same a b xs ys e = cc

rest_same : {A : Type 0} (a b : A) (xs ys : List A) → a ∷ xs ≡ b ∷ ys → xs ≡ ys
rest_same a b xs ys e = cc

empty_not : {A : Type 0} (a : A) (xs : List A) → [] ≡ a ∷ xs → ⊥
empty_not a xs e = cc

-- a rule has as many answers as its rows have new values
places_at : (locals : List (Vec LocalAnswer Global)) (prepared_rules : List RuleRows) (rules : List Rule) (k : ℕ)
    (r : Rule)
    → how_many locals ≡ how_many_new prepared_rules → map prepared_of prepared_rules ≡ map prepared rules
    → slice_get rules k ≡ Some r
    → length (slice_index_or (answer_lists locals) k []) ≡ length (prepared r).new_values
places_at locals prepared_rules [] k r e f g = absurd (none_some r g)
places_at locals [] (x ∷ rules) k r e f g = absurd (empty_not (prepared x) (map prepared rules) f)
places_at [] (m ∷ prepared_rules) (x ∷ rules) k r e f g =
    absurd (empty_not (length m.new_values.items) (how_many_new prepared_rules) e)
places_at (l ∷ locals) (m ∷ prepared_rules) (x ∷ rules) zero r e f g =
    let long = first_same (length l.items) (length m.new_values.items) (how_many locals) (how_many_new prepared_rules)
    e in
    let same = first_same (prepared_of m) (prepared x) (map prepared_of prepared_rules) (map prepared rules) f in
    long ∙ (sym (length-map m.new_values.items form_of) ∙ ap (λ (y : Prepared). length y.new_values)
    (same ∙ ap prepared (some_same x r g)))
places_at (l ∷ locals) (m ∷ prepared_rules) (x ∷ rules) (suc k) r e f g =
    places_at locals prepared_rules rules k r
    (rest_same (length l.items) (length m.new_values.items) (how_many locals) (how_many_new prepared_rules) e)
    (rest_same (prepared_of m) (prepared x) (map prepared_of prepared_rules) (map prepared rules) f) g

-- there is an answer for each place of each rule
pub locals_for : (p : Program) (prepared_rules : List RuleRows) (locals : List (Vec LocalAnswer Global))
    (live : List Bool) → IsValid p → AreRowsOf prepared_rules p
    → how_many locals ≡ how_many_new prepared_rules → length live ≡ length p.rules
    → AreLocalsFor p (answer_lists locals) live
locals_for p prepared_rules locals live valid rows same flags = record {
  lists =
      length-map locals (λ l. l.items)
      ∙ (sym (length-map locals (λ l. length l.items))
      ∙ (ap (λ (ns : List ℕ). length ns) same
      ∙ (length-map prepared_rules (λ m. length m.new_values.items) ∙ rows_length p prepared_rules rows)));
  flags = flags;
  places = places;
}
  where
    places : (t : ℕ) (r : Rule) → rule_at p t ≡ Some r → is_flagged live t ≡ true
        → length (answers_for (answer_lists locals) t) ≡ arity_of p r.target
    places zero r numbered flag = absurd (none_some r numbered)
    places (suc k) r numbered flag = places_at locals prepared_rules p.rules k r same rows numbered
        ∙ (rule-of p [] 0 [] (suc k) r valid numbered).values
