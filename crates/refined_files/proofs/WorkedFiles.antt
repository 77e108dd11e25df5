-- Small files, judged.
use Rattle.std.proofs.Common.{◌≡◌, [], ◌∷◌, Some, refl}
use Rattle.std.proofs.lemmas.List.Elements.{All-nil}
use Rattle.model.specs.Programs.{Program}
use Rattle.cert_rules.specs.Setting.{Setting}
use Rattle.cert_rules.specs.GapChecks.{GapHolds}
use Rattle.cert_rules.specs.Acceptance.{AcceptsLemmas, facts_of_lemmas}
use Rattle.cert_program.specs.Setting.{setting_of}
use Rattle.cert_program.specs.RankedSets.{forms_at}
use Rattle.program_claims.specs.Claims.{ByOne, OnTime}
use Rattle.program_claims.specs.Verdicts.{BadLemma}
use Rattle.refined_files.specs.Files.{IsAcceptedFor}
use Rattle.refined_files.specs.Worked.{SmallFilesAreJudged, claiming, refused_claim}

no-lemmas : (s : Setting) → AcceptsLemmas s []
unfolding AcceptsLemmas
no-lemmas s = tt

nothing-said : (p : Program) → IsAcceptedFor p (claiming [])
nothing-said p = record {
  section = tt;
  plain = record { lemmas = no-lemmas (setting_of p); gaps = All-nil (GapHolds (setting_of p).program (forms_at p)) };
  signed = refl;
  claims = refl;
}

unproved-time : refused_claim (OnTime 1 (ByOne 1) ∷ []) ≡ Some (record { number = 1; reason = BadLemma })
unfolding facts_of_lemmas
unproved-time = refl

pub small-files : SmallFilesAreJudged
small-files = record {
  empty = nothing-said;
  nothing = λ p. refl;
  itself = λ p. refl;
  unproved = unproved-time;
  no_rule = refl;
}
