-- Laws of every valid program.
use Rattle.poly_terms.specs.model.Programs.{Program}
use Rattle.poly_terms.specs.model.RunLaws.{AritiesAgree}
use Rattle.its_model.specs.Valid.{IsValid}

-- Each rule of a valid program has an update for each place of its target, and a left variable for each place of its
-- source.
abbrev pub AritiesOfValidAgree : Type 0
AritiesOfValidAgree = (p : Program) → IsValid p → AritiesAgree p
