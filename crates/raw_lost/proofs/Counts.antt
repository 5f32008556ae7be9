-- The counts of lost cycles, with one cycle more.
use Rattle.std.proofs.Common.{◌≡◌, ℕ, suc, ◌+◌, ◌<◌, ◌≤◌, ◌^◌, true, false, ◌&&◌, List, length, replicate, Some, sym, ap, ◌∙◌, subst, ⊎_elim, arith}
use Rattle.std.specs.Prelude.{slice_get, slice_set, slice_index_or}
use Rattle.std.specs.List.{range_with_len}
use Rattle.std.proofs.lemmas.Bool.{cases_eq}
use Rattle.std.proofs.lemmas.List.{length-set, length-replicate, get_or-replicate}
use Rattle.std.proofs.lemmas.List.Sums.{count_by-le-length}
use Rattle.std.proofs.lemmas.List.FromFn.{length-range_with_len}
use Rattle.std.proofs.lemmas.Option.{slice_get_within, get_or_from_slice_get}
use Rattle.raw_grid.specs.Topology.{proc_count}
use Rattle.raw_model.specs.Program.{ProgramSet}
use Rattle.raw_clock.specs.Clock.{clock, turn_in}
use Rattle.raw_clock.proofs.Counting.{one_if, count_more}
use Rattle.raw_steady.specs.Steady.{is_wait}
use Rattle.raw_whole.proofs.Lists.{put_same, put_other}
use Rattle.raw_lost.specs.declared.root.RootKind.{RootKind}
use Rattle.raw_lost.specs.declared.root.RootKind.TheVariants.{Tile, Switch, Port, Stalled, Stopped, Ring}
use Rattle.raw_lost.specs.declared.lost.Lost.{Lost}
use Rattle.raw_lost.specs.Lost.{are_alike, root_kind, lost_to, lost_by}
use Rattle.raw_lost.specs.Known.{AreLost, noted, HasRoom}

-- two with the same counts
alike : (a b : Lost) → a.tiles ≡ b.tiles → a.switches ≡ b.switches → a.ports ≡ b.ports → a.stalled ≡ b.stalled → a.stopped ≡ b.stopped → a.ring ≡ b.ring → a ≡ b
alike a b tiles switches ports stalled stopped ring =
    ap (λ x. let l : Lost = record a { tiles = x } in l) tiles
    ∙ ap (λ x. let l : Lost = record a { tiles = b.tiles; switches = x } in l) switches
    ∙ ap (λ x. let l : Lost = record a { tiles = b.tiles; switches = b.switches; ports = x } in l) ports
    ∙ ap (λ x. let l : Lost = record b { stalled = x; stopped = a.stopped; ring = a.ring } in l) stalled
    ∙ ap (λ x. let l : Lost = record b { stopped = x; ring = a.ring } in l) stopped
    ∙ ap (λ x. let l : Lost = record b { ring = x } in l) ring

-- no cycles
pub none_lost : (set : ProgramSet) (n : ℕ) (l : Lost) (all : List Lost) → n ≡ proc_count set.topo → all ≡ replicate n l
    → l ≡ (let none : Lost = record { tiles = 0; switches = 0; ports = 0; stalled = 0; stopped = 0; ring = 0 } in none) → AreLost set 0 all
none_lost set n l all many are zeros =
    record {
      many = ap length are ∙ length-replicate {A = Lost} n l ∙ many;
      each = λ p x here.
          let there = slice_get_within all p x here in
          let long = ap length are ∙ length-replicate {A = Lost} n l in
          sym (get_or_from_slice_get all p x l here) ∙ ap (λ xs. slice_index_or xs p l) are ∙ get_or-replicate n p l l (omega (arith, there, long)) ∙ zeros;
    }

module _ (set : ProgramSet) (n p : ℕ) where
  -- one cycle more
  more : (kind : RootKind)
      → lost_to set (suc n) p kind ≡ lost_to set n p kind + one_if (is_wait (turn_in set (clock set n) p) && are_alike kind (root_kind set (clock set n) p))
  more kind =
      let same : 0 + n ≡ n = omega arith in
      count_more (λ k. is_wait (turn_in set (clock set k) p) && are_alike kind (root_kind set (clock set k) p)) 0 n
      ∙ ap (λ k. lost_to set n p kind + one_if (is_wait (turn_in set (clock set k) p) && are_alike kind (root_kind set (clock set k) p))) same

  -- in which p does not wait,
  pub not_lost : is_wait (turn_in set (clock set n) p) ≡ false → lost_by set n p ≡ lost_by set (suc n) p
  not_lost rests = alike (lost_by set n p) (lost_by set (suc n) p) (none Tile) (none Switch) (none Port) (none Stalled) (none Stopped) (none Ring)
    where
      none : (kind : RootKind) → lost_to set n p kind ≡ lost_to set (suc n) p kind
      none kind =
          let off : one_if (is_wait (turn_in set (clock set n) p) && are_alike kind (root_kind set (clock set n) p)) ≡ 0 =
          ap (λ b. one_if (b && are_alike kind (root_kind set (clock set n) p))) rests in
          omega (arith, more kind, off)

  -- or does, with a root of this kind
  abbrev MoreOf : RootKind → Type 0
  MoreOf kind = (other : RootKind) → lost_to set (suc n) p other ≡ lost_to set n p other + one_if (are_alike other kind)

  by_kind : (kind : RootKind) → MoreOf kind → noted kind (lost_by set n p) ≡ lost_by set (suc n) p
  by_kind Tile is =
      alike (noted Tile (lost_by set n p)) (lost_by set (suc n) p) (omega (arith, is Tile)) (omega (arith, is Switch)) (omega (arith, is Port))
      (omega (arith, is Stalled)) (omega (arith, is Stopped)) (omega (arith, is Ring))
  by_kind Switch is =
      alike (noted Switch (lost_by set n p)) (lost_by set (suc n) p) (omega (arith, is Tile)) (omega (arith, is Switch)) (omega (arith, is Port))
      (omega (arith, is Stalled)) (omega (arith, is Stopped)) (omega (arith, is Ring))
  by_kind Port is =
      alike (noted Port (lost_by set n p)) (lost_by set (suc n) p) (omega (arith, is Tile)) (omega (arith, is Switch)) (omega (arith, is Port))
      (omega (arith, is Stalled)) (omega (arith, is Stopped)) (omega (arith, is Ring))
  by_kind Stalled is =
      alike (noted Stalled (lost_by set n p)) (lost_by set (suc n) p) (omega (arith, is Tile)) (omega (arith, is Switch)) (omega (arith, is Port))
      (omega (arith, is Stalled)) (omega (arith, is Stopped)) (omega (arith, is Ring))
  by_kind Stopped is =
      alike (noted Stopped (lost_by set n p)) (lost_by set (suc n) p) (omega (arith, is Tile)) (omega (arith, is Switch)) (omega (arith, is Port))
      (omega (arith, is Stalled)) (omega (arith, is Stopped)) (omega (arith, is Ring))
  by_kind Ring is =
      alike (noted Ring (lost_by set n p)) (lost_by set (suc n) p) (omega (arith, is Tile)) (omega (arith, is Switch)) (omega (arith, is Port))
      (omega (arith, is Stalled)) (omega (arith, is Stopped)) (omega (arith, is Ring))

  pub one_lost : (kind : RootKind) → is_wait (turn_in set (clock set n) p) ≡ true → kind ≡ root_kind set (clock set n) p
      → noted kind (lost_by set n p) ≡ lost_by set (suc n) p
  one_lost kind waits is =
      by_kind kind (λ other. more other ∙ ap (λ b. lost_to set n p other + one_if (b && are_alike other (root_kind set (clock set n) p))) waits ∙ ap (λ x. lost_to set n p other + one_if (are_alike other x)) (sym is))

  few : (kind : RootKind) → lost_to set n p kind ≤ n
  few kind =
      omega (
        arith,
        count_by-le-length (λ k. is_wait (turn_in set (clock set k) p) && are_alike kind (root_kind set (clock set k) p)) (range_with_len 0 n),
        length-range_with_len 0 n,
      )

  pub has_room : n ≤ 2 ^ 40 → HasRoom (lost_by set n p)
  has_room most = (
    omega (arith, most, few Tile),
    omega (arith, most, few Switch),
    omega (arith, most, few Port),
    omega (arith, most, few Stalled),
    omega (arith, most, few Stopped),
    omega (arith, most, few Ring),
  )

-- the cycle was noted of the first processors
pub record AreNoted (set : ProgramSet) (n p : ℕ) (all : List Lost) : Type 0 where
  pub many : length all ≡ proc_count set.topo
  pub below : (q : ℕ) (l : Lost) → q < p → slice_get all q ≡ Some l → l ≡ lost_by set (suc n) q
  pub above : (q : ℕ) (l : Lost) → p ≤ q → slice_get all q ≡ Some l → l ≡ lost_by set n q

pub noted_one : (set : ProgramSet) (n p : ℕ) (all : List Lost) (new : Lost) → AreNoted set n p all → new ≡ lost_by set (suc n) p → AreNoted set n (p + 1) (slice_set all p new)
noted_one set n p all new are is =
    record {
      many = length-set all p new ∙ are.many;
      below = λ q l below at.
          ⊎_elim
          (λ (same : q ≡ p).
          let put : new ≡ l = put_same all p new l (subst (λ r. slice_get (slice_set all p new) r ≡ Some l) same at) in
          sym put ∙ is ∙ ap (λ r. lost_by set (suc n) r) (sym same))
          (λ (ne : q ≡ p → ⊥). are.below q l (omega (arith, below, ne)) (sym (put_other all p q new ne) ∙ at))
          (cases_eq q p);
      above = λ q l above at. are.above q l (omega (arith, above)) (sym (put_other all p q new (λ e. absurd (omega (arith, e, above)))) ∙ at);
    }
