-- Gaps that hold, over existing places, are within the limits of proof files.
use Rattle.std.proofs.Common.{◌≡◌, ℕ, ◌≤◌, true, List, [], ◌∷◌, length, arith, All}
use Rattle.std.proofs.lemmas.List.Elements.{All-nil, All-cons}
use Rattle.model.specs.Entries.{is_in}
use Rattle.model.specs.Programs.{Program}
use Rattle.cert_types.specs.cert_rules.GapChecks.{IsGapPoint, GapHolds, point_of}
use Rattle.cert_types.specs.cert_rules.Gaps.{ScaledPoint, SymbolPlace, Gap}
use Rattle.cert_types.specs.cert_program.RankedSets.{forms_at}
use Rattle.cert_types.specs.rule_forms.linear_forms.RuleQuestions.{RuleForms}
use Rattle.cert_types.proofs.cert_rules.GapPoints.{AreEach, of-each}
use Rattle.cert_text.specs.Spelled.{IsPlaceOf, IsPointWithin, IsGapWithin}
use Rattle.analysis_certs.proofs.RulePlaces.{all-in, some-in}

-- a point of a gap is within the limits
point-within : (r : RuleForms) (z : ScaledPoint) → IsGapPoint r z → IsPointWithin z
point-within r z h = record { parts = h.parts_limit; den = h.den_limit }

-- all points at their positions are within the limits
each-within : (ts : List ℕ) (zs : List ScaledPoint) → AreEach (λ t z. IsPointWithin z) ts zs → All IsPointWithin zs
each-within [] [] h = All-nil IsPointWithin
each-within [] (z ∷ zs) h = absurd h
each-within (t ∷ ts) [] h = All-nil IsPointWithin
each-within (t ∷ ts) (z ∷ zs) h = All-cons IsPointWithin z zs h.0 (each-within ts zs h.1)

-- a gap that holds is within the limits
pub gap-within : (p : Program) (g : Gap) → GapHolds p (forms_at p) g → All (IsPlaceOf p) g.shut → IsGapWithin p g
gap-within p g h shut = record {
  rule = h.shape.rules g.rule h.shape.inside;
  set = all-in _ g.set h.shape.rules;
  shut = shut;
  some_move = omega (arith, some, h.shape.one_move);
  moves = each-within g.set g.moves
      (of-each (λ t z. IsPointWithin z) g.set g.moves h.shape.ascending h.shape.one_move
      (λ t i. point-within (forms_at p t) (point_of g.set g.moves t) (h.shape.moves t i)));
  floor = point-within (forms_at p g.rule) g.floor h.shape.floor;
  some_kept = omega (arith, some, h.shape.one_kept);
  kept = each-within g.set g.kept
      (of-each (λ t z. IsPointWithin z) g.set g.kept h.shape.ascending h.shape.one_kept
      (λ t i. point-within (forms_at p t) (point_of g.set g.kept t) (h.shape.kept t i)));
}
  where
    some : 1 ≤ length g.set
    some = some-in g.rule g.set h.shape.inside
