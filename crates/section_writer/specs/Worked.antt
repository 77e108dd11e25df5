-- The texts of small sections, and which are within the limits, as they were worked out by hand.
use Rattle.std.specs.Prelude.{◌≡◌, ℕ, List, [], ◌∷◌, ◌++◌, codes, pos, negsuc}
use Rattle.its_model.specs.linear_forms.Forms.{Form}
use Rattle.refined_programs.specs.Annotated.{Copy, To, Never, If, Section}
use Rattle.section_text.specs.Worked.{three_rules, times}
use Rattle.section_writer.specs.Limits.{AreCasesWithin, IsCopyWithin, IsFormWithin, IsSectionWithin}
use Rattle.section_writer.specs.Texts.{cases_text, facts_text, form_text, text_of}

-- the form A - 2, and the form 0
abbrev pub less_two : Form
less_two = record { coefs = pos 1 ∷ []; constant = negsuc 1 }

abbrev pub zero_form : Form
zero_form = record { coefs = []; constant = pos 0 }

-- the parts of a line
pub record PartsAreWritten : Type 0 where
  pub form : form_text less_two ≡ codes "[1 -2]"
  pub constant : form_text zero_form ≡ codes "[0]"
  pub no_facts : facts_text [] ≡ codes "[]"
  pub facts : facts_text (less_two ∷ zero_form ∷ []) ≡ codes "[[1 -2]; [0]]"
  pub nowhere : cases_text [] (Never []) ≡ codes "never []"
  pub multipliers : cases_text [] (Never (3 ∷ 0 ∷ 12 ∷ [])) ≡ codes "never [3 0 12]"

-- a copy of a symbol without facts
abbrev pub copy : List ℕ → ℕ → Copy
copy name over = record { name = name; over = over; facts = [] }

-- a section with two copies, of which one is named by a word, and a branch with two ends
abbrev pub two_copies : Section
two_copies = record {
  copies = copy (codes "a") 0
      ∷ record { name = codes "to"; over = 1; facts = less_two ∷ zero_form ∷ [] } ∷ [];
  branches = record {
    source = 0;
    rule = 1;
    cases = If (record { coefs = pos 1 ∷ []; constant = pos 0 }) (To 1 ((1 ∷ 2 ∷ []) ∷ [] ∷ [])) (Never (3 ∷ []));
  } ∷ [];
}

-- a section in which a branch leads to a copy that isn't there
abbrev pub no_target : Section
no_target = record {
  copies = copy (codes "a") 0 ∷ [];
  branches = record { source = 0; rule = 1; cases = To 1 [] } ∷ [];
}

-- the texts of these sections: a copy that isn't there has no name
pub record SectionsAreWritten : Type 0 where
  pub two : text_of three_rules two_copies
      ≡ codes "copy a of a facts []\ncopy to of b facts [[1 -2]; [0]]\n"
      ++ codes "from a rule 1 if [1 0] then (to to by [[1 2]; []]) else (never [3])\n"
  pub absent : text_of three_rules no_target ≡ codes "copy a of a facts []\nfrom a rule 1 to  by []\n"

-- a section with this copy alone
abbrev pub just : Copy → Section
just c = record { copies = c ∷ []; branches = [] }

-- which sections are within the limits
pub record LimitsAreKept : Type 0 where
  pub two : IsSectionWithin three_rules two_copies
  -- no copy at all, two copies with one name, a name that is none and one of 257 bytes, a symbol that isn't there, a
  -- number over 2^56
  pub nothing : ¬ IsSectionWithin three_rules (record { copies = []; branches = [] })
  pub same_name : ¬ IsSectionWithin three_rules (record { copies = copy (codes "a") 0 ∷ copy (codes "a") 1 ∷ []; branches = [] })
  pub no_name : ¬ IsSectionWithin three_rules (just (copy (codes "1a") 0))
  pub long_name : ¬ IsSectionWithin three_rules (just (copy (times 257 97) 0))
  pub no_symbol : ¬ IsSectionWithin three_rules (just (copy (codes "a") 3))
  pub large : ¬ IsFormWithin (record { coefs = []; constant = negsuc 72057594037927936 })
  -- rule 0, a rule too many, a copy that isn't there, and cases at level 65
  pub rule_zero : ¬ IsSectionWithin three_rules (record {
    copies = copy (codes "a") 0 ∷ [];
    branches = record { source = 0; rule = 0; cases = Never [] } ∷ [];
  })
  pub rule_four : ¬ IsSectionWithin three_rules (record {
    copies = copy (codes "a") 0 ∷ [];
    branches = record { source = 0; rule = 4; cases = Never [] } ∷ [];
  })
  pub absent : ¬ IsSectionWithin three_rules no_target
  pub level_64 : AreCasesWithin 1 63 (Never [])
  pub level_65 : ¬ AreCasesWithin 1 64 (Never [])

pub record WorkedValues : Type 0 where
  pub parts : PartsAreWritten
  pub sections : SectionsAreWritten
  pub limits : LimitsAreKept
