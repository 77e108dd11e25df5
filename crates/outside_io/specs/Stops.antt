-- The faults that a sink in memory is set to have.
use Rattle.std.specs.Prelude.{ℕ, ◌==◌, List, Option}
use Rattle.std.specs.List.{find}
use Rattle.std.specs.Option.{option_map}
use Rattle.outside_io.specs.declared.stop.Stop.{Stop}

-- how many bytes the first stop of this call lets out, if a stop names the call
abbrev pub stop_bytes : List Stop → ℕ → Option ℕ
stop_bytes stops call = option_map (λ stop. stop.bytes) (find (λ stop. stop.call == call) stops)
