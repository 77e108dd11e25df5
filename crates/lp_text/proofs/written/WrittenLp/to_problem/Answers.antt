use Rattle.std.proofs.Common.{◌≡◌, ◌≤◌, ℕ, ap, arith, length, map, subst, sym, ◌∙◌, List}
use Rattle.std.specs.Prelude.{ℤ, pos, nat_abs, unsigned_abs, FitsSigned}
use Rattle.std.specs.Int.{w128, cast_signed, cast_unsigned}
use Rattle.std.specs.List.{All}
use Rattle.std.proofs.lemmas.Int.{to_z-of_z, fits_signed_from_abs}
use Rattle.std.proofs.lemmas.Simd.{map-map}
use Rattle.simplex_core.proofs.linear_forms.SolutionLaws.{length-map}
use Rattle.lp_builder.specs.Entries.{entries_of}
use Rattle.lp_text.specs.declared.written.WrittenRow.{WrittenRow}
use Rattle.lp_text.specs.Lps.{Row, size_limit}
use Rattle.lp_text.specs.Spelled.{AreNumbers}
use Rattle.lp_text.specs.Views.{row_of}
use Rattle.lp_text.proofs.LpEntries.{rows-within}
use Rattle.lp_text.proofs.written.WrittenLp.to_problem.Goals as goal

-- casting a number of columns doesn't change it
cast-columns : (z : ℤ) (n : ℕ) → z ≡ pos n → n ≤ size_limit → nat_abs (cast_signed w128 (cast_unsigned w128 z)) ≡ unsigned_abs z
cast-columns z n e l =
    subst (λ (y : ℤ). nat_abs (cast_signed w128 (cast_unsigned w128 y)) ≡ unsigned_abs y) (sym e)
    (ap nat_abs (to_z-of_z w128 (pos n) (fits_signed_from_abs w128 (pos n) (omega (arith, l)))))

pub entries_of-requires-clause-within : goal.entries_of-requires-clause-within
entries_of-requires-clause-within c =
    subst (λ (rs : List WrittenRow). All (λ r. (length r.numbers.items ≤ size_limit) × AreNumbers r.numbers.items) rs)
    (sym c.deref.ensures.value)
    (rows-within c.requires.columns c.args.self.now.rows.items c.requires.rows c.requires.few)

pub returns : goal.returns
returns c =
    let rows = c.args.self.now.rows.items in
    record {
      rows = (let e = length-map row_of rows in let f = c.len.ensures in let g = c.args.self.now.rows.ok.0 in omega (arith, e, f, g));
      columns = cast-columns c.args.self.now.columns c.requires.columns c.requires.counted c.requires.few;
      entries = c.in_ok-entries_of.ensures
          ∙ (ap (λ (rs : List WrittenRow). entries_of 0 (map (λ r. r.numbers.items) rs)) c.deref.ensures.value
          ∙ ap (λ (ls : List (List ℤ)). entries_of 0 ls) (sym (map-map (λ (r : Row). r.numbers) row_of rows)));
      right = c.in_ok-right_sides.ensures
          ∙ (ap (λ (rs : List WrittenRow). map (λ r. r.right) rs) c.deref-2.ensures.value
          ∙ sym (map-map (λ (r : Row). r.right) row_of rows));
      first = c.in_ok-costs_of.ensures ∙ ap (λ (ks : List ℕ). map pos ks) c.deref-3.ensures.value;
      second = c.in_ok-costs_of-2.ensures ∙ ap (λ (ks : List ℕ). map pos ks) c.deref-4.ensures.value;
    }
