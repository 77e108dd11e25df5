-- A section with certificates is shown: rows from which -1 follows have no point.
use Rattle.std.proofs.Common.{◌≡◌, ℕ, ◌+◌, List, length, ℤ, pos}
use Rattle.std.specs.Prelude.{◌≤ℤ◌}
use Rattle.refinement.specs.model.Programs.{Atom, Rule, Program, GuardHolds}
use Rattle.refinement.specs.Sections.{Section}
use Rattle.refinement.specs.Obligations.{NoneMeet, IsShown}
use Rattle.refinement.proofs.Keeping.{shown_sections_keep_bounds}
use Rattle.refinement.proofs.Shown.{weaker-section}
use Rattle.guard_prep.specs.linear_forms.Forms.{at}
use Rattle.guard_prep.specs.Laws.{point_of}
use Rattle.guard_prep.specs.Prepared.{rows_of}
use Rattle.guard_prep.proofs.poly_terms.linear_forms.CertificateLaws.{no_point}
use Rattle.guard_prep.proofs.PointLaws.{guards-give-points}
use Rattle.refinement_rows.specs.Certified.{with_guard, IsRefuted, IsCertified}
use Rattle.refinement_rows.specs.Laws.{CertifiedSectionsKeepBounds}

-- if rows are refuted, no values meet the atoms
pub refuted-unmet : (r : Rule) (atoms : List Atom) → IsRefuted r atoms → NoneMeet r atoms
refuted-unmet r atoms h = record {
  none = λ env len holds.
      no_point (rows_of (with_guard r atoms)) h.multipliers h.refutes.shows (at (point_of (with_guard r atoms) env)) (pos 1)
      (guards-give-points.point (with_guard r atoms) env h.refutes.preparable len holds);
}

pub certified-shown : (p : Program) (section : Section) → IsCertified p section → IsShown p section
certified-shown p section h = weaker-section IsRefuted NoneMeet refuted-unmet p section h

pub certified_sections_keep_bounds : CertifiedSectionsKeepBounds
certified_sections_keep_bounds = record {
  unmet = refuted-unmet;
  shown = certified-shown;
  runs = λ p section h. shown_sections_keep_bounds.runs p section (certified-shown p section h);
  facts = λ p section h. shown_sections_keep_bounds.facts p section (certified-shown p section h);
}
