-- The worked side bounds and sizes on small programs, mostly computed.
use Rattle.std.proofs.Common.{◌≡◌, [], ◌∷◌, None, Some, refl, arith}
use Rattle.std.specs.Prelude.{pos}
use Rattle.std.proofs.lemmas.Int.{ints}
use Rattle.run_counting.specs.model.Bounds.{Bound}
use Rattle.rule_forms.specs.linear_forms.Certificates.{combined_coef}
use Rattle.cert_rules.specs.Nodes.{Spread, Cycle, Cite, Start, NoProof, AndProof}
use Rattle.cert_rules.specs.WorkedSettings.{counting, doubling}
use Rattle.cert_rules.specs.Worked.{only, down, entered_member, looped_member, doubled}
use Rattle.cert_rules.specs.WorkedSizes.{squaring, nonlinear_member, one_size, size_and_time, SizeNodesAreJudged}
use Rattle.cert_rules.proofs.Refusals.{accepted, refused}
use Rattle.cert_rules.proofs.WorkedAccepted.{no_rows_combine}

-- the worked nodes on sizes are accepted and refused as stated
pub size_nodes : SizeNodesAreJudged
size_nodes = record {
  poly = accepted squaring [] (Spread (nonlinear_member 1) (only Start)) refl;
  nonlinear = refused squaring one_size (Cycle (nonlinear_member 2 ∷ []) (only (Cite 1))) refl;
  wrong_move = refused counting [] (down (1 ∷ []) (1 ∷ [])) refl;
  wrong_low_side_bound = λ multipliers h.
      let e : pos 2 ≡ combined_coef multipliers [] 0 = h.1.low.coefs 0 in
      omega (arith, ints, e, no_rows_combine multipliers 0);
  spread_size = refused counting [] (Spread entered_member NoProof) refl;
  size_of_low_side_bound = λ h. let size = h.low 0 refl refl in nothing_known size.0 size.1;
  loop_size = refused counting [] (Cycle (looped_member ∷ []) (only Start)) refl;
  with_time = accepted doubling size_and_time (Cycle doubled (AndProof (Cite 1) (only (Cite 2)))) refl;
  loop_time = refused doubling one_size (Cycle doubled (only (Cite 1))) refl;
}
  where
    nothing_known : (b : Bound) → None ≡ Some b → ⊥
    nothing_known b e = cc
