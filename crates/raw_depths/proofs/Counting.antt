-- The steps of all tiles and switches, as a sum over the processors.
use Rattle.std.proofs.Common.{◌≡◌, ℕ, ◌+◌, ◌≤◌, List, length, take, Some, ap, ◌∙◌, arith, sum_by}
use Rattle.std.specs.Prelude.{slice_get}
use Rattle.std.proofs.lemmas.List.{take_all}
use Rattle.std.proofs.lemmas.Option.{slice_get_within, get_or_from_slice_get}
use Rattle.std.proofs.lemmas.List.Sums.{sum_by_more}
use Rattle.raw_model.specs.Local.{Local}
use Rattle.raw_model.specs.Start.{MachineState}
use Rattle.raw_depths.specs.Text.{instructions_of, program_steps}

-- what a processor has executed is the next term of the sum
pub count_next : (locals : List Local) (p n : ℕ) (l : Local) → slice_get locals p ≡ Some l → n ≡ instructions_of l
    → sum_by instructions_of (take (p + 1) locals) ≡ sum_by instructions_of (take p locals) + n
count_next locals p n l here is =
    omega (arith, sum_by_more instructions_of locals p l (slice_get_within locals p l here), ap instructions_of (get_or_from_slice_get locals p l l here), is)

-- all terms were summed up
pub all_counts : (s : MachineState) (p n : ℕ) → length s.locals ≤ p → n ≡ sum_by instructions_of (take p s.locals) → n ≡ program_steps s
unfolding program_steps
all_counts s p n all told = told ∙ ap (sum_by instructions_of) (take_all p s.locals all)
