-- A property of all statuses of a plan is one of the status of its answer.
use Rattle.std.proofs.Common.{◌≡◌, ℕ, List, Option, sym, subst, inl, inr}
use Rattle.std.specs.Prelude.{⊤}
use Rattle.outside_io.specs.Counts.{one_more}
use Rattle.call_plans.specs.declared.status.Status.{Status}
use Rattle.call_plans.specs.declared.status.Status.TheVariants.{ReadFault}
use Rattle.call_plans.specs.Calls.{ShelfUse}
use Rattle.call_plans.specs.OnFiles.{Unread, OverLimit, Bad, WithoutText, WithMeaning}
use Rattle.call_plans.specs.Plans.{Cases, End, Case, Plan, Answers, Reads, HasRow, IsAnswerByPlan}

-- the status of each row has this property
abbrev pub OfRows : (Status → Type 0) → Cases → Type 0
OfRows Holds End = ⊤
OfRows Holds (Case t When Text more) = Holds t × OfRows Holds more

-- each status of the plan has this property
abbrev pub OfPlan : (Status → Type 0) → Plan → Type 0
OfPlan Holds (Answers cases) = OfRows Holds cases
OfPlan Holds (Reads {T} kind file next) = Holds ReadFault × (Holds kind.refused × ((t : T) → OfPlan Holds (next t)))

-- a property of each status of a table is one of the status with which it answers
of_rows : (Holds : Status → Type 0) (cases : Cases) (s : Status) (x : List ℕ) → OfRows Holds cases → HasRow cases s x
    → Holds s
of_rows Holds End s x all told = absurd told
of_rows Holds (Case t When Text more) s x all (inl told) = subst Holds (sym told.0) all.0
of_rows Holds (Case t When Text more) s x all (inr told) = of_rows Holds more s x all.1 told

-- a property of each status of a plan is one of the status with which it answers
pub of_plan : (Holds : Status → Type 0) (seen : ShelfUse) (count : Option ℕ) (plan : Plan) (s : Status) (x : List ℕ)
    → OfPlan Holds plan → IsAnswerByPlan seen count plan s x → Holds s
of_plan Holds seen count (Answers cases) s x all on = of_rows Holds cases s x all on.1
of_plan Holds seen count (Reads kind file next) s x all (WithoutText counted (Unread h)) = subst Holds (sym h.ends)
    all.0
of_plan Holds seen count (Reads kind file next) s x all (WithoutText counted (OverLimit h)) =
    subst Holds (sym h.ends) all.1.0
of_plan Holds seen count (Reads kind file next) s x all (WithoutText counted (Bad h)) = subst Holds (sym h.ends) all.1.0
of_plan Holds seen count (Reads kind file next) s x all (WithMeaning t gives on) =
    of_plan Holds seen (one_more count) (next t) s x (all.1.1 t) on
