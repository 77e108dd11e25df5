-- `lp`: the exact end of the simplex method on a linear program.
use Rattle.lp_text.specs.Lps.{Lp}
use Rattle.lp_text.specs.Problems.{program_in}
use Rattle.lp_answer.specs.Answers.{HasEnd, HasNoEnd, IsEndText, IsStopText}
use Rattle.call_plans.specs.declared.status.Status.TheVariants.{Done, Unknown}
use Rattle.call_plans.specs.Plans.{Cases, End, Case}

-- the table of `lp`: `Done` if the end of Bland's sequence of tableaux is reached, with the end; and `Unknown` if a
-- number is out of range before it, or there are too many bases, with the reason
abbrev pub lp_answers : Lp → Cases
lp_answers p =
    Case Done (HasEnd (program_in p)) (IsEndText (program_in p))
    (Case Unknown (HasNoEnd (program_in p)) (IsStopText (program_in p)) End)
