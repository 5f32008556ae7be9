-- The lost cycles of a processor are those in which it waits.
use Rattle.std.proofs.Common.{◌≡◌, ℕ, zero, suc, ◌+◌, ◌<◌, Bool, true, false, ◌&&◌, refl, arith}
use Rattle.std.specs.List.{count_by, range_with_len}
use Rattle.raw_grid.specs.Topology.{proc_count}
use Rattle.raw_model.specs.Program.{ProgramSet, IsSet}
use Rattle.raw_serial.specs.declared.turn.Turn.{Turn}
use Rattle.raw_serial.specs.declared.turn.Turn.TheVariants as turn
use Rattle.raw_clock.specs.Clock.{clock, turn_in, is_fired, is_stalled, is_stop}
use Rattle.raw_clock.proofs.Counting.{one_if, count_more}
use Rattle.raw_clock.proofs.Spending.{law_spent}
use Rattle.raw_steady.specs.Steady.{is_wait}
use Rattle.raw_steady.proofs.Shares.{one_kind}
use Rattle.raw_lost.specs.declared.root.RootKind.{RootKind}
use Rattle.raw_lost.specs.declared.root.RootKind.TheVariants.{Tile, Switch, Port, Stalled, Stopped, Ring}
use Rattle.raw_lost.specs.Lost.{are_alike, root_kind, LostAddUp}

-- a root is of one kind
one_root : (b : Bool) (k : RootKind)
    → one_if (b && are_alike Tile k) + one_if (b && are_alike Switch k) + one_if (b && are_alike Port k) + one_if (b && are_alike Stalled k)
    + one_if (b && are_alike Stopped k) + one_if (b && are_alike Ring k)
    ≡ one_if b
one_root false k = refl
one_root true Tile = refl
one_root true Switch = refl
one_root true Port = refl
one_root true Stalled = refl
one_root true Stopped = refl
one_root true Ring = refl

module _ (set : ProgramSet) (p : ℕ) where
  abbrev turn_at : ℕ → Turn
  turn_at = λ k. turn_in set (clock set k) p

  abbrev lost : RootKind → ℕ → Bool
  lost = λ kind k. is_wait (turn_at k) && are_alike kind (root_kind set (clock set k) p)

  abbrev many : (ℕ → Bool) → ℕ → ℕ
  many = λ f n. count_by f (range_with_len 0 n)

  -- so are all cycles, of four kinds,
  of_turns : (n : ℕ) → many (λ k. is_fired (turn_at k)) n + many (λ k. is_stalled (turn_at k)) n + many (λ k. is_stop (turn_at k)) n + many (λ k. is_wait (turn_at k)) n ≡ n
  of_turns zero = refl
  of_turns (suc n) =
      let now = one_kind (turn_at (0 + n)) in
      omega (
        arith,
        of_turns n,
        now,
        count_more (λ k. is_fired (turn_at k)) 0 n,
        count_more (λ k. is_stalled (turn_at k)) 0 n,
        count_more (λ k. is_stop (turn_at k)) 0 n,
        count_more (λ k. is_wait (turn_at k)) 0 n,
      )

  -- and those in which it waits, of six
  of_waits : (n : ℕ)
      → many (lost Tile) n + many (lost Switch) n + many (lost Port) n + many (lost Stalled) n + many (lost Stopped) n + many (lost Ring) n
      ≡ many (λ k. is_wait (turn_at k)) n
  of_waits zero = refl
  of_waits (suc n) =
      let now = one_root (is_wait (turn_at (0 + n))) (root_kind set (clock set (0 + n)) p) in
      omega (
        arith,
        of_waits n,
        now,
        count_more (lost Tile) 0 n,
        count_more (lost Switch) 0 n,
        count_more (lost Port) 0 n,
        count_more (lost Stalled) 0 n,
        count_more (lost Stopped) 0 n,
        count_more (lost Ring) 0 n,
        count_more (λ k. is_wait (turn_at k)) 0 n,
      )

  pub lost_add_up : (n : ℕ) → IsSet set → p < proc_count set.topo → LostAddUp set n p
  lost_add_up n valid below =
      let once = (law_spent set valid n p below).once in
      let turns = of_turns n in
      let waits = of_waits n in
      omega (arith, once, turns, waits)
