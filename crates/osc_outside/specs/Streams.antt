-- What contracts see of a source and a sink over a stream of std. This project's own.
use Rattle.std.specs.Prelude.{ℕ}
use Rattle.osc_outside.specs.declared.std_source.StdSource.{StdSource}
use Rattle.osc_outside.specs.declared.std_sink.StdSink.{StdSink}

-- the stream that the source reads, and how many of its reads failed
abbrev pub source_stream : {R : Type 0} → StdSource R → R
source_stream source = source.stream

abbrev pub source_faults : {R : Type 0} → StdSource R → ℕ
source_faults source = source.faults

-- the stream that the sink writes, and how many of its writes failed
abbrev pub sink_stream : {W : Type 0} → StdSink W → W
sink_stream sink = sink.stream

abbrev pub sink_faults : {W : Type 0} → StdSink W → ℕ
sink_faults sink = sink.faults
