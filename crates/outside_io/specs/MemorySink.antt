-- The meaning of a sink in memory.
use Rattle.std.specs.Prelude.{ℕ, ◌-◌, List, Option, length, min, unwrap_or}
use Rattle.outside_io.specs.declared.memory_sink.MemorySink.{MemorySink}
use Rattle.outside_io.specs.declared.stop.Stop.{Stop}
use Rattle.outside_io.specs.Counts.{next_count}
use Rattle.outside_io.specs.Stops.{stop_bytes}

-- all that was written
abbrev pub written_bytes : MemorySink → List ℕ
written_bytes sink = sink.bytes.items

-- how many bytes it has room for in all
abbrev pub room_of : MemorySink → ℕ
room_of sink = sink.room

-- the stops, in order
abbrev pub stops_of : MemorySink → List Stop
stops_of sink = sink.stops.items

-- the number of puts so far
abbrev pub put_count : MemorySink → ℕ
put_count sink = sink.calls

-- the number of puts that failed
abbrev pub fault_count : MemorySink → ℕ
fault_count sink = sink.faults

-- how many more bytes it has room for
abbrev pub room_left : MemorySink → ℕ
room_left sink = room_of sink - length (written_bytes sink)

-- how many bytes the stop of the next put lets out, if there is one
abbrev pub next_stop_bytes : MemorySink → Option ℕ
next_stop_bytes sink = stop_bytes (stops_of sink) (next_count (put_count sink))

-- how many bytes of a piece of this length go out in the next put: all, unless a stop or the room lets out fewer
abbrev pub out_count : MemorySink → ℕ → ℕ
out_count sink len = min (min (unwrap_or (next_stop_bytes sink) len) len) (room_left sink)
