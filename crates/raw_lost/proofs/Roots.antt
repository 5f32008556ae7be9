-- The root of a processor that waits is that of the one for which it waits.
use Rattle.std.proofs.Common.{◌≡◌, ℕ, zero, suc, ◌+◌, ◌<◌, ◌≤◌, Bool, true, false, cond, eqb, List, length, Option, Some, None, refl, sym, ap, ◌∙◌, subst, ⊎_elim, arith}
use Rattle.std.specs.Prelude.{slice_get, slice_set}
use Rattle.std.proofs.lemmas.Bool.{cases_eq}
use Rattle.std.proofs.lemmas.List.{length-set}
use Rattle.std.proofs.lemmas.Option.{same_Some, none-some}
use Rattle.raw_cycle.specs.Chains.{walk}
use Rattle.raw_cycle.proofs.Walks.{walk_none, walk_parts}
use Rattle.raw_grid.specs.declared.parts.WireId.{WireId}
use Rattle.raw_grid.specs.Topology.{proc_count}
use Rattle.raw_grid.specs.Wires.{wires_of, producer_of, consumer_of}
use Rattle.raw_grid.proofs.WireLaws.{consumer_few, producer_few}
use Rattle.raw_model.specs.Program.{ProgramSet, IsSet}
use Rattle.raw_serial.specs.declared.turn.Turn.{Turn}
use Rattle.raw_serial.specs.declared.turn.Turn.TheVariants as turn
use Rattle.raw_pace.specs.Path.{far_end}
use Rattle.raw_clock.specs.Clock.{clock, turn_in}
use Rattle.raw_clock.proofs.Tallying.{at_ends, waits_there}
use Rattle.raw_steady.specs.Steady.{root_at, root, wait_on, waits_in_cycle, ComesRound}
use Rattle.raw_steady.proofs.Rings.{comes_round}
use Rattle.raw_whole.proofs.Lists.{put_same, put_other}
use Rattle.raw_lost.specs.declared.root.RootKind.{RootKind}
use Rattle.raw_lost.specs.Lost.{root_kind}
use Rattle.raw_lost.specs.Known.{AreKinds}

module _ (set : ProgramSet) (valid : IsSet set) (k : ℕ) where
  abbrev far : ℕ → ℕ → ℕ
  far p w = far_end (producer_of set.topo) (consumer_of set.topo) p w

  abbrev on : ℕ → Option ℕ
  on = waits_in_cycle set (clock set k)

  abbrev enough : ℕ
  enough = suc (proc_count set.topo)

  -- the other end of a wire is there
  pub wire_there : (p : ℕ) (w : WireId) → p < proc_count set.topo → turn.Waits w ≡ turn_in set (clock set k) p → w.0 < length (wires_of set.topo)
  wire_there p w below is = waits_there set valid p (turn.Waits w) (at_ends set valid k p below (turn.Waits w) is)

  pub far_there : (p w : ℕ) → w < length (wires_of set.topo) → far p w < proc_count set.topo
  far_there p w there = either (eqb (consumer_of set.topo w) p)
    where
      either : (b : Bool) → cond b (producer_of set.topo w) (consumer_of set.topo w) < proc_count set.topo
      either true = producer_few set.topo w valid.topology there
      either false = consumer_few set.topo w valid.topology there

  -- a wait leads on,
  pub led_on : (n p : ℕ) (w : WireId) → turn.Waits w ≡ turn_in set (clock set k) p → root set (clock set k) (suc n) p ≡ root set (clock set k) n (far p w.0)
  led_on n p w is = ap (λ t. root_at t p (λ v. root set (clock set k) n (far p v))) (sym is)

  -- with one wait more the root is the same
  one_more : (n p r : ℕ) → root set (clock set k) n p ≡ Some r → root set (clock set k) (suc n) p ≡ Some r
  one_more zero p r e = absurd (none-some r e)
  one_more (suc n) p r e = by_turn (turn_in set (clock set k) p) e (λ q f. one_more n q r f)
    where
      by_turn : (t : Turn) → root_at t p (λ v. root set (clock set k) n (far p v)) ≡ Some r
          → ((q : ℕ) → root set (clock set k) n q ≡ Some r → root set (clock set k) (suc n) q ≡ Some r)
          → root_at t p (λ v. root set (clock set k) (suc n) (far p v)) ≡ Some r
      by_turn (turn.Waits w) e more = more (far p w.0) e
      by_turn turn.Fired e more = e
      by_turn turn.Stalled e more = e
      by_turn turn.Stopped e more = e

  -- where there is a root, the waits end
  ends : (n p r : ℕ) → root set (clock set k) n p ≡ Some r → (m : ℕ) → n ≤ m → walk on m (Some p) ≡ None
  ends zero p r e m le = absurd (none-some r e)
  ends (suc n) p r e zero le = absurd (omega (arith, le))
  ends (suc n) p r e (suc m) le = by_turn (turn_in set (clock set k) p) e (λ q f. ends n q r f m (omega (arith, le)))
    where
      by_turn : (t : Turn) → root_at t p (λ v. root set (clock set k) n (far p v)) ≡ Some r
          → ((q : ℕ) → root set (clock set k) n q ≡ Some r → walk on m (Some q) ≡ None) → walk on m (wait_on set p t) ≡ None
      by_turn (turn.Waits w) e more = more (far p w.0) e
      by_turn turn.Fired e more = walk_none on m
      by_turn turn.Stalled e more = walk_none on m
      by_turn turn.Stopped e more = walk_none on m

  -- where they come round, they do not
  abbrev GoesOn : ℕ → ℕ → ℕ → Type 0
  GoesOn p q n = (m : ℕ) × (n ≤ m) × (walk on m (Some p) ≡ Some q)

  goes_on : (p : ℕ) (round : ComesRound set (clock set k) p) (n : ℕ) → GoesOn p round.q n
  goes_on p round zero = (round.first, omega arith, round.there)
  goes_on p round (suc n) =
      let so_far = goes_on p round n in
      let le = so_far.1 in (
        so_far.0 + suc round.more,
        omega (arith, le),
        walk_parts on so_far.0 (suc round.more) (so_far.0 + suc round.more) (Some p) refl ∙ ap (walk on (suc round.more)) so_far.2 ∙ round.back,
      )

  no_root : (p : ℕ) → ComesRound set (clock set k) p → (n r : ℕ) → root set (clock set k) n p ≡ Some r → ⊥
  no_root p round n r e =
      let on_and_on = goes_on p round n in none-some round.q (sym (ends n p r e on_and_on.0 on_and_on.1) ∙ on_and_on.2)

  pub same_root : (p : ℕ) (w : WireId) → p < proc_count set.topo → turn.Waits w ≡ turn_in set (clock set k) p
      → root set (clock set k) enough p ≡ root set (clock set k) enough (far p w.0)
  same_root p w below is = by (root set (clock set k) enough p) refl
    where
      nowhere : (o : Option ℕ) → root set (clock set k) enough p ≡ None → root set (clock set k) enough (far p w.0) ≡ o → None ≡ o
      nowhere None none e = refl
      nowhere (Some r) none e = absurd (no_root p (comes_round set valid k p below none) (suc enough) r (led_on enough p w is ∙ e))

      by : (o : Option ℕ) → root set (clock set k) enough p ≡ o → root set (clock set k) enough p ≡ root set (clock set k) enough (far p w.0)
      by (Some r) e = e ∙ sym (one_more (proc_count set.topo) (far p w.0) r (sym (led_on (proc_count set.topo) p w is) ∙ e))
      by None e = e ∙ nowhere (root set (clock set k) enough (far p w.0)) e refl

  -- one kind more is known
  pub kinds_put : (kinds : List (Option RootKind)) (p : ℕ) (kind : RootKind) → AreKinds set k kinds → kind ≡ root_kind set (clock set k) p
      → AreKinds set k (slice_set kinds p (Some kind))
  kinds_put kinds p kind are is =
      record {
        many = length-set kinds p (Some kind) ∙ are.many;
        each = λ q other here.
            ⊎_elim
            (λ (same : q ≡ p).
            let put : Some kind ≡ Some other = put_same kinds p (Some kind) (Some other) (subst (λ r. slice_get (slice_set kinds p (Some kind)) r ≡ Some (Some other)) same here) in
            subst (λ r. other ≡ root_kind set (clock set k) r) (sym same) (sym (same_Some kind other put) ∙ is))
            (λ (ne : q ≡ p → ⊥). are.each q other (sym (put_other kinds p q (Some kind) ne) ∙ here))
            (cases_eq q p);
      }
