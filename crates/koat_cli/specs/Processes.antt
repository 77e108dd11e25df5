-- With which status the process ends.
use Rattle.std.specs.Prelude.{◌≡◌}
use Rattle.std.specs.Process.{exit_status}
use Rattle.std.specs.declared.process.ExitCode.{ExitCode}
use Rattle.call_plans.specs.declared.status.Status.{Status}
use Rattle.call_plans.specs.Calls.{SinkUse}
use Rattle.koat_cli.specs.Calls.{Call}
use Rattle.call_plans.specs.Numbers.{number_of}
use Rattle.koat_cli.specs.Ends.{Ends}
use Rattle.koat_cli.specs.Means.{Means}

-- the process ends with the number of the status with which the call ends, and the status has its meaning
pub record Exits (code : ExitCode) (call : Call) (put : SinkUse) : Type 0 where
  pub status : Status
  pub numbered : exit_status code ≡ number_of status
  pub ends : Ends status call put
  pub means : Means status call put
