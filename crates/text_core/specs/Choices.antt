-- Values that depend on a test.
use Rattle.std.specs.Prelude.{Bool, if◌then◌else◌, Option, Some, None}

-- the value if a test passes
abbrev pub when : {X : Type 0} → Bool → X → Option X
when test x = if test then Some x else None
