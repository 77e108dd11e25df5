-- The token lists derived as an expression or as atoms are those that spell one of programs.
use Rattle.while_laws.specs.Laws.{SumsAreOfPrograms, AtomsAreOfPrograms}
use Rattle.while_laws.proofs.Deriving.{reads, sum_derives, atom_derives, atoms_derive}
use Rattle.while_laws.proofs.OneSum.{spelled_once}
use Rattle.while_laws.proofs.Spelling.{sum_spells, atom_spells, atoms_spell}

pub sums_alike : SumsAreOfPrograms
sums_alike = record {
  spelled = λ text ps h. sum_spells text ps h.0 h.1;
  derived = λ text s ps h. (reads ps, sum_derives text s ps h);
  one = spelled_once;
}

pub atoms_alike : AtomsAreOfPrograms
atoms_alike = record {
  spelled_atom = λ text ps h. atom_spells text ps h.0 h.1;
  derived_atom = λ text a ps h. (reads ps, atom_derives text a ps h);
  spelled = λ text ps h. atoms_spell text ps h.0 h.1;
  derived = λ text atoms ps h. (reads ps, atoms_derive text atoms ps h);
}
