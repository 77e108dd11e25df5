-- Points, rays, rules and places are determined by their texts.
use Rattle.std.proofs.Common.{ℕ, ℤ, List, ◌++◌, map, codes, decimal, refl, ap}
use Rattle.std.specs.List.{AllByRecursion}
use Rattle.std.specs.Fmt.{signed_decimal}
use Rattle.std.proofs.lemmas.Fmt.{decimal_nonempty}
use Rattle.its_model.proofs.text_core.PrefixLaws.{Stops}
use Rattle.report_text.specs.Pieces.{with_commas, rules_text, parts_text, point_text, place_text, result_variable_text}
use Rattle.report_text.specs.Printable.{IsShort, IsShortSigned, IsPrintablePoint, IsPrintableResultVariable}
use Rattle.report_text.proofs.DistinguishedTexts.{Determines, Any, determined_behind, determined_before, determined_both}
use Rattle.report_text.proofs.Digits.{is_number_byte, all_count, number_determined, signed_count, signed_some, signed_determined}
use Rattle.report_text.proofs.Commas.{is_list_byte, list_determined}

-- the numbers of rules are determined by their text
pub rules_determined : Determines (AllByRecursion IsShort) rules_text (Stops is_list_byte)
rules_determined = list_determined number_determined all_count decimal_nonempty

-- the numbers of a point or a ray are determined by their text
pub parts_determined : Determines (AllByRecursion IsShortSigned) parts_text Any
parts_determined =
    let inner : Determines (AllByRecursion IsShortSigned) (λ parts. with_commas (map signed_decimal parts)) (Stops is_list_byte) = list_determined signed_determined signed_count signed_some in
    determined_behind (determined_before inner (codes ")") Any (λ u s. refl)) (codes "(")

-- a point is determined by its text
pub point_determined : Determines IsPrintablePoint point_text (Stops is_number_byte)
point_determined =
    let both : Determines (λ (z : List ℤ × ℕ). AllByRecursion IsShortSigned z.0 × IsShort z.1) (λ (z : List ℤ × ℕ). parts_text z.0 ++ (codes " / " ++ decimal z.1)) (Stops is_number_byte) =
    determined_both parts_determined (determined_behind number_determined (codes " / ")) (λ n w fits after. tt) in
    record {
      each = λ x y u v p q s t e.
          let r = both.each (x.parts, x.den) (y.parts, y.den) u v (p.parts, p.den) (q.parts, q.den) s t e in
          (ap (λ (z : List ℤ × ℕ). record { parts = z.0; den = z.1 }) r.0, r.1);
    }

-- two numbers with a dot between them are determined by their text
pub pair_determined : Determines (λ (z : ℕ × ℕ). IsShort z.0 × IsShort z.1) (λ (z : ℕ × ℕ). place_text z.0 z.1) (Stops is_number_byte)
pair_determined = determined_both number_determined (determined_behind number_determined (codes ".")) (λ n w fits after. refl)

-- a rule and a place are determined by their text
pub result_variable_determined : Determines IsPrintableResultVariable result_variable_text (Stops is_number_byte)
result_variable_determined = record {
  each = λ x y u v p q s t e.
      let r = pair_determined.each (x.rule, x.place) (y.rule, y.place) u v (p.rule, p.place) (q.rule, q.place) s t e in
      (ap (λ (z : ℕ × ℕ). record { rule = z.0; place = z.1 }) r.0, r.1);
}
