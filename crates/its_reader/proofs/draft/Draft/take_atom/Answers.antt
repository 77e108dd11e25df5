use Rattle.std.proofs.Common.{refl}
use Rattle.its_reader.proofs.GuardLaws.{taken_alike}
use Rattle.its_reader.proofs.draft.Draft.take_atom.Goals as goal

pub returns : goal.returns
returns c = record {
  takes = taken_alike c.inner.ensures c.inner_of.ensures c.in_ok-reached.ensures.takes;
  stays = c.in_ok-reached.ensures.stays;
  sections = refl;
  rules = refl;
  symbols = refl;
}
