-- Texts of lines, list by list.
use Rattle.std.proofs.Common.{◌≡◌, ℕ, suc, ◌+◌, ◌-◌, ◌<◌, ◌≤◌, cond, List, [], ◌++◌, replicate, Option, Some, None, refl, sym, ap, ◌∙◌, arith}
use Rattle.std.specs.List.{flat_map, range_with_len}
use Rattle.std.proofs.lemmas.Bool.{eq-eqb}
use Rattle.std.proofs.lemmas.List.{get_or-replicate, length-replicate}
use Rattle.std.proofs.lemmas.Option.{slice_get-get_or}
use Rattle.raw_serial.specs.declared.turn.Turn.{Turn}
use Rattle.raw_grid.specs.Topology.{proc_count}
use Rattle.raw_model.specs.Program.{ProgramSet}
use Rattle.raw_clock.specs.Clock.{clock, turn_in}
use Rattle.raw_explore.specs.Engine.{AreTurnsBefore}

-- the next one of numbers from one on
pub next_from : {A : Type 0} (text : ℕ → List A) (k end : ℕ) → k < end
    → flat_map text (range_with_len k (end - k)) ≡ text k ++ flat_map text (range_with_len (k + 1) (end - (k + 1)))
next_from text k end lt =
    let more : end - k ≡ suc (end - (k + 1)) = omega (arith, lt) in
    ap (λ n. flat_map text (range_with_len k n)) more

pub none_from : {A : Type 0} (text : ℕ → List A) (k end : ℕ) → end ≤ k → flat_map text (range_with_len k (end - k)) ≡ []
none_from text k end le =
    let none : end - k ≡ 0 = omega (arith, le) in
    ap (λ n. flat_map text (range_with_len k n)) none

-- before the first position that is told no turns are known
pub no_turns_before : (set : ProgramSet) (first : ℕ) → proc_count set.topo ≤ 256 → AreTurnsBefore set first first (replicate 256 None)
no_turns_before set first few p below =
    let none : List (Option Turn) = replicate 256 None in
    slice_get-get_or none p None (omega (arith, below, few, length-replicate {A = Option Turn} 256 None))
    ∙ ap Some
    (get_or-replicate 256 p None None (omega (arith, below, few))
    ∙ sym (ap (λ b. cond b None (Some (turn_in set (clock set (first - 1)) p))) (eq-eqb first first refl)))
