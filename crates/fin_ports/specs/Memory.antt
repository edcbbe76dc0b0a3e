-- What is known of a source and a sink in memory.
use Rattle.std.specs.Prelude.{◌≡◌, ℕ, ◌+◌, ◌≤◌, List, [], length, drop}
use Rattle.fin_ports.specs.declared.memory.MemSource.{MemSource}
use Rattle.fin_ports.specs.declared.memory.MemSink.{MemSink}

-- the bytes that are left
abbrev pub left_of : MemSource → List ℕ
left_of source = drop source.at source.bytes.items

-- no call of the source fails, and none has failed
pub record IsReliable (source : MemSource) : Type 0 where
  pub never : source.fails.items ≡ []
  pub fresh : source.faults ≡ 0

-- no call of the sink fails by its number, none has failed, and there is room for n bytes
pub record HasRoom (sink : MemSink) (n : ℕ) : Type 0 where
  pub never : sink.fails.items ≡ []
  pub fresh : sink.faults ≡ 0
  pub room : length sink.taken.items + n ≤ sink.room
