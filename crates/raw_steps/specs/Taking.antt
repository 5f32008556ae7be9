-- Lists of processors, whose steps a machine takes.
use Rattle.std.specs.Prelude.{◌≡◌, ℕ, ◌<◌, Some, List, map, slice_get}
use Rattle.raw_grid.specs.declared.parts.ProcId.{ProcId}

-- the numbers of these processors
abbrev pub numbers : List ProcId → List ℕ
numbers ps = map (λ (p : ProcId). p.0) ps

-- each is one of so many processors
abbrev pub AreThere : ℕ → List ProcId → Type 0
AreThere many ps = (i : ℕ) (p : ProcId) → slice_get ps i ≡ Some p → p.0 < many
