use Rattle.raw_tile.proofs.Zeros.{memory_size_is, empty_memory_is, length-empty}
use Rattle.raw_tile.proofs.memory.TileMemory.zeroed.Goals as goal

pub invariant_of-result : goal.invariant_of-result
invariant_of-result c = length-empty _ (empty_memory_is 65536 c.in_ok-bytes.bytes.items memory_size_is c.in_ok-bytes.ensures)

pub returns : goal.returns
returns c = empty_memory_is 65536 c.in_ok-bytes.bytes.items memory_size_is c.in_ok-bytes.ensures
