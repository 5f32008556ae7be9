-- A memory in which nothing has been stored. Nothing here computes its 65,536 bytes.
use Rattle.std.proofs.Common.{◌≡◌, ℕ, List, length, refl, ap, ◌∙◌}
use Rattle.std.specs.Prelude.{replicate}
use Rattle.std.proofs.lemmas.List.{length-replicate}
use Rattle.raw_model.specs.Program.{memory_size}
use Rattle.raw_model.specs.Start.{empty_memory}
use Rattle.raw_tile.specs.Zeros.{IsZeros}

pub memory_size_is : 65536 ≡ memory_size
unfolding memory_size
memory_size_is = refl

-- as many zeros as a memory has bytes are an empty memory
pub empty_memory_is : (size : ℕ) (bytes : List ℕ) → size ≡ memory_size → IsZeros size bytes → bytes ≡ empty_memory
unfolding IsZeros
empty_memory_is size bytes same zeros = zeros ∙ ap (λ n. replicate n 0) same

-- so that they are as many
pub length-empty : (bytes : List ℕ) → bytes ≡ empty_memory → length bytes ≡ memory_size
length-empty bytes e = ap length e ∙ length-replicate memory_size 0
