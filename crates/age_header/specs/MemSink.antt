-- The room of a sink over a vector.
use Rattle.std.specs.Prelude.{ℕ, ◌-◌, vec_capacity, vec_len}
use Rattle.age_header.specs.declared.device.MemSink.{MemSink}

-- the number of bytes that can be appended to the vector without an allocation
abbrev pub spare_of : MemSink → ℕ
spare_of sink = vec_capacity sink.out - vec_len sink.out
