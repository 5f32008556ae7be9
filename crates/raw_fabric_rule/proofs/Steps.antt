-- What a step of a machine changes, and one more step at the end of a list.
use Rattle.std.proofs.Common.{◌≡◌, ◌≢◌, ℕ, zero, suc, ◌+◌, ◌<◌, ◌≤◌, ltb, not, Bool, true, false, cond, List, [], ◌∷◌, ◌++◌, map, length, get_or, set, drop, Some, refl, sym, ap, ◌∙◌, subst, ⊎_elim, arith, length-set, get_or-set_same, get_or-set_other, append-nil}
use Rattle.std.specs.Prelude.{slice_get, slice_index}
use Rattle.std.specs.List.{All}
use Rattle.std.specs.Option.{option_to_list}
use Rattle.std.proofs.lemmas.Bool.{cases_eq, cases_lt, lt-ltb, and_from, eq-eqb, ne_eqb}
use Rattle.std.proofs.lemmas.List.{get_or-drop, map-append}
use Rattle.std.proofs.lemmas.List.Elements.{All-head, All-tail}
use Rattle.std.proofs.lemmas.Option.{slice_get-get_or}
use Rattle.raw_network.specs.Network.{Event, values_on, count_of, fronts, has_room, step_from, event_from, event_of}
use Rattle.raw_network.specs.Runs.{events_of, end_of}
use Rattle.raw_network.proofs.Wires.{front_taken, count_here, count_there, wire_front_same, wire_front_other, arrivals_within, wire_moved, length-moved}
use Rattle.raw_network.proofs.Diamond.{enabled as enabled_from}
use Rattle.raw_network.proofs.Steps.{end_of-push, lawful-push, events_of-append}
use Rattle.raw_model.specs.Program.{ProgramSet, IsSet}
use Rattle.raw_model.specs.Local.{Local}
use Rattle.raw_model.specs.Machine.{machine_of, takes, sends, row, is_stopped}
use Rattle.raw_model.specs.Start.{MachineState}
use Rattle.raw_model.specs.Rest.{enabled, step, end_from, IsLawfulFrom}
use Rattle.raw_fabric_rule.specs.ByEnds.{wires, nobody, local, wire, taken, put_on, next_local, touched_by, sent_to_wire}
use Rattle.raw_fabric_rule.specs.Rule.{touches_by_step}
use Rattle.raw_fabric_rule.proofs.Nets.{IsOutput, named_all, taken_other}

-- the operands of the next row of p
unfoldable pub operands : ProgramSet → MachineState → ℕ → List ℕ
operands set s p = fronts (takes set p (local s p)) s.wires

module _ (set : ProgramSet) (s : MachineState) (p : ℕ) (there : p < length s.locals) where
  pub here : slice_get s.locals p ≡ Some (local s p)
  here = slice_get-get_or s.locals p nobody there

  stepped : ◌≡◌ {A = MachineState} (step set s p) (step_from (machine_of set) s p (Some (local s p)))
  stepped = ap (λ o. step_from (machine_of set) s p o) here

  pub local_same : local (step set s p) p ≡ next_local set p (local s p) (operands set s p)
  unfolding machine_of next_local operands
  local_same = ap (λ (t : MachineState). local t p) stepped ∙ get_or-set_same s.locals p (next_local set p (local s p) (operands set s p)) nobody there

  pub local_other : (q : ℕ) → q ≢ p → local (step set s p) q ≡ local s q
  unfolding machine_of next_local operands
  local_other q ne = ap (λ (t : MachineState). local t q) stepped ∙ get_or-set_other s.locals p q (next_local set p (local s p) (operands set s p)) nobody ne

  pub locals_long : length (step set s p).locals ≡ length s.locals
  unfolding machine_of next_local operands
  locals_long = ap (λ (t : MachineState). length t.locals) stepped ∙ length-set s.locals p (next_local set p (local s p) (operands set s p))

  pub wire_step : (w : ℕ) → w < length s.wires
      → wire (step set s p) w ≡ drop (taken set p (local s p) w) (wire s w) ++ sent_to_wire set p (local s p) (operands set s p) w
  unfolding machine_of taken sent_to_wire operands
  wire_step w h =
      let ms = (row set p (local s p) (operands set s p)).sent in
      ap (λ (t : MachineState). wire t w) stepped ∙ wire_moved (takes set p (local s p)) ms s.wires w
      ∙ ap (λ xs. drop (count_of w (takes set p (local s p))) (values_on s.wires w) ++ xs) (arrivals_within (length s.wires) w ms h)

  pub wires_long : length (step set s p).wires ≡ length s.wires
  unfolding machine_of operands
  wires_long = ap (λ (t : MachineState). length t.wires) stepped ∙ length-moved (takes set p (local s p)) (row set p (local s p) (operands set s p)).sent s.wires

  -- what the step touches
  pub touched_now : option_to_list (event_of (machine_of set) s p).touched ≡ touched_by set p (local s p) (operands set s p)
  unfolding machine_of touched_by operands
  touched_now = ap (λ o. option_to_list (event_from (machine_of set) s.wires p o).touched) here

-- each wire sent to has room
room_all : (depth : ℕ) (P : ℕ → Type 0) (qs : List (List ℕ)) → (ws : List ℕ) → All P ws → ((w : ℕ) → P w → 0 < count_of w ws → length (values_on qs w) < depth) → has_room depth ws qs ≡ true
room_all depth P qs [] a h = refl
room_all depth P qs (w ∷ ws) a h =
    let c = count_here w ws in
    and_from (ltb (length (values_on qs w)) depth) (has_room depth ws qs) (lt-ltb (length (values_on qs w)) depth (h w (All-head P w ws a) (omega arith)))
    (room_all depth P qs ws (All-tail P w ws a) (λ v is pos. h v is (counted v pos)))
  where
    counted : (v : ℕ) → 0 < count_of v ws → 0 < count_of v (w ∷ ws)
    counted v pos = ⊎_elim (λ (e : w ≡ v). subst (λ u. 0 < count_of u (w ∷ ws)) e (let c = count_here w ws in omega arith)) (λ (ne : w ≡ v → ⊥). let c = count_there v w ws ne in omega arith) (cases_eq w v)

not_false : (b : Bool) → b ≡ false → not b ≡ true
not_false b e = ap not e

-- a processor that is there and goes on, with its values and its room, is enabled
pub enabled_is : (set : ProgramSet) → IsSet set → (s : MachineState) (p : ℕ) → p < length s.locals → is_stopped set p (local s p) ≡ false
    → ((w : ℕ) → w < wires set → taken set p (local s p) w ≤ length (wire s w))
    → ((w : ℕ) → w < wires set → 0 < put_on set p (local s p) w → length (wire s w) < set.depth)
    → enabled set s p ≡ true
unfolding machine_of taken put_on
enabled_is set is s p there going values room =
    enabled_from (machine_of set) s p (local s p) (record {
      here = here set s p there;
      going = not_false (is_stopped set p (local s p)) going;
      has = λ w. ⊎_elim (λ lt. values w lt) (λ past. let z : count_of w (takes set p (local s p)) ≡ 0 = taken_other set is p (local s p) w (λ own. let l = own.there in absurd (omega arith)) in omega arith) (cases_lt w (wires set));
      room = room_all set.depth (IsOutput set p) s.wires (sends set p (local s p)) (named_all set is p (local s p)) (λ w own pos. room w own.there pos);
    })

-- ---- the operands one by one: the one behind `done` from wire w has the place of w's count there
abbrev pub operands_on : MachineState → List ℕ → List ℕ → List ℕ
operands_on s done [] = []
operands_on s done (w ∷ ws) = get_or (wire s w) (count_of w done) 0 ∷ operands_on s (w ∷ done) ws

fronts_on : (s : MachineState) (done ws : List ℕ) (qs : List (List ℕ)) → ((v : ℕ) → values_on qs v ≡ drop (count_of v done) (wire s v)) → fronts ws qs ≡ operands_on s done ws
fronts_on s done [] qs are = refl
fronts_on s done (w ∷ ws) qs are =
    (λ i. first i ∷ fronts ws (front_taken qs w))
    ∙ ap (λ xs. get_or (wire s w) (count_of w done) 0 ∷ xs) (fronts_on s (w ∷ done) ws (front_taken qs w) more)
  where
    first : slice_index (values_on qs w) 0 ≡ get_or (wire s w) (count_of w done) 0
    first = ap (λ xs. get_or xs 0 0) (are w) ∙ get_or-drop (count_of w done) (wire s w) 0 0 ∙ ap (λ n. get_or (wire s w) n 0) (let z : count_of w done + 0 ≡ count_of w done = omega arith in z)

    more : (v : ℕ) → values_on (front_taken qs w) v ≡ drop (count_of v (w ∷ done)) (wire s v)
    more v = ⊎_elim
        (λ (e : w ≡ v). subst (λ u. values_on (front_taken qs w) u ≡ drop (count_of u (w ∷ done)) (wire s u)) e
        (wire_front_same qs w ∙ ap (drop 1) (are w) ∙ drop_twice (count_of w done) (wire s w) ∙ ap (λ n. drop n (wire s w)) (sym (count_here w done))))
        (λ (ne : w ≡ v → ⊥). wire_front_other qs w v (drop 1 (values_on qs w)) ne ∙ are v ∙ ap (λ n. drop n (wire s v)) (sym (count_there v w done ne)))
        (cases_eq w v)
      where
        drop_twice : (n : ℕ) (xs : List ℕ) → drop 1 (drop n xs) ≡ drop (suc n) xs
        drop_twice zero [] = refl
        drop_twice zero (x ∷ xs) = refl
        drop_twice (suc n) [] = refl
        drop_twice (suc n) (x ∷ xs) = drop_twice n xs

pub operands_are : (set : ProgramSet) (s : MachineState) (p : ℕ) → operands set s p ≡ operands_on s [] (takes set p (local s p))
unfolding operands
operands_are set s p = fronts_on s [] (takes set p (local s p)) s.wires (λ v. refl)

-- ---- one more step
pub end-snoc : (set : ProgramSet) (s : MachineState) (h : List ℕ) (p : ℕ) → end_from set s (h ++ p ∷ []) ≡ step set (end_from set s h) p
end-snoc set s h p = end_of-push (machine_of set) s h p

pub lawful-snoc : (set : ProgramSet) (s : MachineState) (h : List ℕ) (p : ℕ) → IsLawfulFrom set s h → enabled set (end_from set s h) p ≡ true → IsLawfulFrom set s (h ++ p ∷ [])
lawful-snoc set s h p l e = lawful-push (machine_of set) s h p l e

pub touches-snoc : (set : ProgramSet) (s : MachineState) (h : List ℕ) (p : ℕ) → p < length (end_from set s h).locals
    → touches_by_step set s (h ++ p ∷ []) p ≡ touches_by_step set s h p ++ touched_by set p (local (end_from set s h) p) (operands set (end_from set s h) p) ∷ []
touches-snoc set s h p there =
    let event = event_of (machine_of set) (end_of (machine_of set) s h) p in
    ap (map (λ (e : Event Local). option_to_list e.touched)) (events_of-append (machine_of set) s h (p ∷ []) p
    ∙ ap (λ b. events_of (machine_of set) s h p ++ cond b (event ∷ []) []) (eq-eqb p p refl))
    ∙ map-append (λ (e : Event Local). option_to_list e.touched) (events_of (machine_of set) s h p) (event ∷ [])
    ∙ ap (λ xs. touches_by_step set s h p ++ xs ∷ []) (touched_now set (end_from set s h) p there)

pub touches-other : (set : ProgramSet) (s : MachineState) (h : List ℕ) (p q : ℕ) → q ≢ p → touches_by_step set s (h ++ p ∷ []) q ≡ touches_by_step set s h q
touches-other set s h p q ne =
    ap (map (λ (e : Event Local). option_to_list e.touched)) (events_of-append (machine_of set) s h (p ∷ []) q
    ∙ ap (λ b. events_of (machine_of set) s h q ++ cond b (event_of (machine_of set) (end_of (machine_of set) s h) p ∷ []) []) (ne_eqb p q (λ e. ne (sym e)))
    ∙ append-nil (events_of (machine_of set) s h q))
