-- The stretches of a way back have its turns, and where none waited for room, neither did any turn of the way.
use Rattle.std.proofs.Common.{◌≡◌, ℕ, zero, suc, ◌+◌, ◌-◌, Bool, true, false, cond, eqb, List, [], ◌∷◌, ◌++◌, map, replicate, Option, Some, None, refl, sym, ap, ◌∙◌, subst, arith, append-nil, append_assoc}
use Rattle.std.specs.Prelude.{IfSome}
use Rattle.std.proofs.lemmas.Bool.{eqb-true}
use Rattle.std.proofs.lemmas.List.Sums.{sum_by-cons}
use Rattle.raw_pace.specs.Path.{TurnOf, far_end, far_or, IsForValues}
use Rattle.raw_grid.specs.Wires.{producer_of, consumer_of}
use Rattle.raw_model.specs.Program.{ProgramSet}
use Rattle.raw_model.specs.Waits.{inputs_at, outputs_at}
use Rattle.raw_clock.specs.Clock.{clocked, first_clock, clock}
use Rattle.raw_steady.specs.Steady.{way_back}
use Rattle.raw_path.specs.declared.stretch.Stretch.{Stretch}
use Rattle.raw_path.specs.declared.stretch.WaitedFor.TheVariants.{Value, Room}
use Rattle.raw_path.specs.Path.{wire_in, before, waited_for, stretch_of, by_wait, stretches, one_room, room_in}
use Rattle.raw_path.specs.Laws.{spread}
use Rattle.raw_path.proofs.Waited.{wire_is, before_is}

-- one more at the end of equal ones
replicate_more : (n p : ℕ) → replicate (suc n) p ≡ replicate n p ++ p ∷ []
replicate_more zero p = refl
replicate_more (suc n) p = ap (λ xs. p ∷ xs) (replicate_more n p)

module _ (set : ProgramSet) where
  abbrev far : ℕ → ℕ → ℕ
  far p w = far_end (producer_of set.topo) (consumer_of set.topo) p w

  -- the processors of a way back
  abbrev pub along : ℕ → ℕ → List ℕ
  along k p = p ∷ map (λ (t : TurnOf). t.p) (way_back set k p)

  along_more : (k p q : ℕ) → before set k p ≡ q → along (suc k) p ≡ p ∷ along k q
  along_more k p q is =
      let same = before_is set k p ∙ is in
      ap (λ r. p ∷ r ∷ map (λ (t : TurnOf). t.p) (way_back set k r)) same

  -- a stretch with d turns more, before the way from its first turn
  spread_by : (d k p : ℕ) → spread (stretches set (k + d) k p) ≡ replicate d p ++ along k p
  spread_by d zero p =
      let many : (0 + d) + 1 - 0 ≡ suc d = omega arith in
      append-nil (replicate ((0 + d) + 1 - 0) p) ∙ ap (λ n. replicate n p) many ∙ replicate_more d p
  spread_by d (suc k) p = by_wire (wire_in set k p) refl (spread_by (suc d) k p) (λ q. spread_by 0 k q)
    where
      by_wire : (o : Option ℕ) → wire_in set k p ≡ o → spread (stretches set (k + suc d) k p) ≡ replicate (suc d) p ++ along k p
          → ((q : ℕ) → spread (stretches set (k + 0) k q) ≡ along k q)
          → spread (by_wait o (stretches set (suc k + d) k p) (λ w. stretch_of set (suc k) (suc k + d) p (waited_for set.topo p w) ∷ stretches set k k (far p w)))
          ≡ replicate d p ++ along (suc k) p
      by_wire None is own other =
          let same : suc k + d ≡ k + suc d = omega arith in
          ap (λ to. spread (stretches set to k p)) same
          ∙ own
          ∙ ap (λ xs. xs ++ along k p) (replicate_more d p)
          ∙ append_assoc (replicate d p) (p ∷ []) (along k p)
          ∙ ap (λ xs. replicate d p ++ xs) (sym (along_more k p p (ap (λ o. far_or (producer_of set.topo) (consumer_of set.topo) p o) is)))
      by_wire (Some w) is own other =
          let many : (suc k + d) + 1 - suc k ≡ suc d = omega arith in
          let last : k + 0 ≡ k = omega arith in
          let rest : spread (stretches set k k (far p w)) ≡ along k (far p w) = ap (λ to. spread (stretches set to k (far p w))) (sym last) ∙ other (far p w) in
          ap (λ n. replicate n p ++ spread (stretches set k k (far p w))) many
          ∙ ap (λ xs. xs ++ spread (stretches set k k (far p w))) (replicate_more d p)
          ∙ append_assoc (replicate d p) (p ∷ []) (spread (stretches set k k (far p w)))
          ∙ ap (λ xs. replicate d p ++ p ∷ xs) rest
          ∙ ap (λ xs. replicate d p ++ xs) (sym (along_more k p (far p w) (ap (λ o. far_or (producer_of set.topo) (consumer_of set.topo) p o) is)))

  pub spread_is : (k p : ℕ) → spread (stretches set k k p) ≡ along k p
  spread_is k p = let last : k + 0 ≡ k = omega arith in ap (λ to. spread (stretches set to k p)) (sym last) ∙ spread_by 0 k p

  no_room : (p w : ℕ) → one_room (waited_for set.topo p w) ≡ 0 → consumer_of set.topo w ≡ p
  no_room p w none = by_test (eqb (consumer_of set.topo w) p) refl none
    where
      by_test : (b : Bool) → eqb (consumer_of set.topo w) p ≡ b → one_room (cond b (Value w) (Room w)) ≡ 0 → consumer_of set.topo w ≡ p
      by_test true is none = eqb-true (consumer_of set.topo w) p is
      by_test false is none = absurd (omega (arith, none))

  abbrev for_values : ℕ → ℕ → Type 0
  for_values k p = IsForValues (clocked set) (producer_of set.topo) (consumer_of set.topo) (inputs_at set.topo) (outputs_at set.topo) (first_clock set) k p

  -- no stretch begins behind a wait for room, so no turn waited for it
  pub without_room : (to k p : ℕ) → room_in (stretches set to k p) ≡ 0 → for_values k p
  without_room to zero p none = tt
  without_room to (suc k) p none = by_wire (wire_in set k p) refl none (λ q few. without_room to k q few) (λ q few. without_room k k q few)
    where
      then' : (o : Option ℕ) → wire_in set k p ≡ o → IfSome o (λ w. consumer_of set.topo w ≡ p) → for_values k (far_or (producer_of set.topo) (consumer_of set.topo) p o)
          → for_values (suc k) p
      then' o is own rest =
          let wait = wire_is set (clock set k) p ∙ is in (
            subst (λ o. IfSome o (λ w. consumer_of set.topo w ≡ p)) (sym wait) own,
            subst (λ o. for_values k (far_or (producer_of set.topo) (consumer_of set.topo) p o)) (sym wait) rest,
          )

      by_wire : (o : Option ℕ) → wire_in set k p ≡ o
          → room_in (by_wait o (stretches set to k p) (λ w. stretch_of set (suc k) to p (waited_for set.topo p w) ∷ stretches set k k (far p w))) ≡ 0
          → ((q : ℕ) → room_in (stretches set to k q) ≡ 0 → for_values k q) → ((q : ℕ) → room_in (stretches set k k q) ≡ 0 → for_values k q) → for_values (suc k) p
      by_wire None is none own other = then' None is tt (own p none)
      by_wire (Some w) is none own other =
          let all = sum_by-cons (λ (s : Stretch). one_room s.wait) (stretch_of set (suc k) to p (waited_for set.topo p w)) (stretches set k k (far p w)) in
          then' (Some w) is (no_room p w (omega (arith, none, all))) (other (far p w) (omega (arith, none, all)))
