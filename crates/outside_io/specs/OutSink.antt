-- The meaning of a writer as a sink.
use Rattle.std.specs.Prelude.{ℕ}
use Rattle.outside_io.specs.declared.out_sink.OutSink.{OutSink}

-- the writer to which it writes
abbrev pub writer_of : {W : Type 0} → OutSink W → W
writer_of sink = sink.writer

-- how many puts failed
abbrev pub fault_count : {W : Type 0} → OutSink W → ℕ
fault_count sink = sink.faults

-- the number of puts so far
abbrev pub put_count : {W : Type 0} → OutSink W → ℕ
put_count sink = sink.calls
