use Rattle.std.proofs.Common.{length}
use Rattle.section_makers.proofs.sign_cases.+cases_by_remaining_signs.Given as goal

-- one form fewer remains
abbrev pub decreases-cases_by_remaining_signs : goal.decreases-cases_by_remaining_signs
decreases-cases_by_remaining_signs l = length l.forms.now
