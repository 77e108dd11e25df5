use Rattle.lassos.proofs.Laws as lemmas
use Rattle.lassos.proofs.lassos_are_endless.Goals as goal

pub returns : goal.returns
returns c = record {
  endless = lemmas.lassos_are_endless;
  no_time = lemmas.endless_rules_have_no_time;
  no_total = lemmas.costly_turns_have_no_total;
}
