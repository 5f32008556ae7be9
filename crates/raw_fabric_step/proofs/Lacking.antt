-- A processor that lacks values or room is not enabled.
use Rattle.std.proofs.Common.{◌≡◌, ℕ, ◌≤◌, ◌⊎◌, Bool, true, false, ltb, leb, length, sym, ◌∙◌, subst, ⊎_elim, arith}
use Rattle.std.proofs.lemmas.Bool.{ltb-true, leb-true, and_parts, false_from_ne_true}
use Rattle.std.proofs.lemmas.Option.{get_or_from_slice_get}
use Rattle.raw_network.specs.Network.{values_on, count_of, has_room}
use Rattle.raw_network.specs.Waits.{lacks_values, lacks_room}
use Rattle.raw_network.proofs.Wires.{all_at_count}
use Rattle.raw_network.proofs.Diamond.{ready}
use Rattle.raw_model.specs.Program.{ProgramSet}
use Rattle.raw_model.specs.Local.{Local}
use Rattle.raw_model.specs.Machine.{machine_of, takes, sends}
use Rattle.raw_model.specs.Start.{MachineState}
use Rattle.raw_model.specs.Rest.{enabled}
use Rattle.raw_fabric_rule.specs.ByEnds.{nobody, local, wire}

module _ (set : ProgramSet) (s : MachineState) (p : ℕ) (l : Local) (w : ℕ) (is : local s p ≡ l) where
  pub lacking_waits : (lacks_values (takes set p l) s.wires w ≡ true) ⊎ (lacks_room set.depth (sends set p l) s.wires w ≡ true) → enabled set s p ≡ false
  unfolding machine_of
  lacking_waits lacks =
      false_from_ne_true (enabled set s p) (λ on.
      let (k, r) = ready (machine_of set) s p on in
      let same : k ≡ l = sym (get_or_from_slice_get s.locals p k nobody r.here) ∙ is in
      ⊎_elim
      (λ (short : lacks_values (takes set p l) s.wires w ≡ true).
      let few = ltb-true (length (wire s w)) (count_of w (takes set p l)) short in
      let enough = subst (λ (m : Local). count_of w (takes set p m) ≤ length (wire s w)) same (r.has w) in omega (arith, few, enough))
      (λ (full : lacks_room set.depth (sends set p l) s.wires w ≡ true).
      let parts = and_parts (ltb 0 (count_of w (sends set p l))) (leb set.depth (length (wire s w))) full in
      let named = ltb-true 0 (count_of w (sends set p l)) parts.0 in
      let most = leb-true set.depth (length (wire s w)) parts.1 in
      let has = subst (λ (m : Local). has_room set.depth (sends set p m) s.wires ≡ true) same r.room in
      let room = ltb-true (length (wire s w)) set.depth (all_at_count (λ v. ltb (length (values_on s.wires v)) set.depth) (sends set p l) w has named) in
      omega (arith, room, most))
      lacks)
