-- The theorem of planned sets: one serial order, haul by haul, and then all others end alike.
use Rattle.std.proofs.Common.{◌≡◌, ℕ, ◌*◌, ◌<◌, List, [], ◌∷◌, ◌++◌, length, map, refl, sym, ap, ◌∙◌, subst, arith, append_assoc, length-append}
use Rattle.std.specs.List.{All, AllByRecursion}
use Rattle.std.proofs.lemmas.List.{append-nil}
use Rattle.std.proofs.lemmas.List.Elements.{recursion_from_All}
use Rattle.std.proofs.lemmas.Option.{slice_get_within}
use Rattle.raw_switch_isa.specs.declared.limits.TheConstants.{MAX_SWITCH_CODE}
use Rattle.raw_network.specs.Network.{values_on}
use Rattle.raw_switch_isa.specs.Made as switch
use Rattle.raw_grid.specs.Topology.{tile_count}
use Rattle.raw_model.specs.Program.{ProgramSet, IsSet}
use Rattle.raw_model.specs.TileTable.{word_at}
use Rattle.raw_model.specs.Start.{MachineState, start, first_memory}
use Rattle.raw_model.specs.Rest.{IsRun, end, end_from}
use Rattle.raw_model.specs.Laws.{ComesToRest}
use Rattle.raw_codegen.specs.Parts.{Part, switch_part, to_tile, to_switches}
use Rattle.raw_codegen.specs.Steps.{Leads, HasCome}
use Rattle.raw_codegen.specs.Standing.{from_tile_wire, IsScript, PartsStand, PortsAreStopped, HasGone, HasHalted}
use Rattle.raw_codegen.specs.Rows.{send_ins}
use Rattle.raw_codegen.proofs.Moves.{stay, then, more}
use Rattle.raw_tile_isa.specs.Load.{load}
use Rattle.raw_route.specs.Tree.{tree_ins}
use Rattle.raw_route.specs.Planned.{Sending, IsSending, words_to, send_code, store_part, haul_parts, parts_from, plan_parts, planned}
use Rattle.raw_route.specs.Carrying.{IsAtTargets}
use Rattle.raw_route.specs.Delivered.{IsDelivered, Delivers}
use Rattle.raw_route.proofs.Given.{Laws}
use Rattle.raw_route.proofs.Hauling.{Idle, Holds, holds_same, sends_word, at_each, with_stored, store_phase}
use Rattle.raw_route.proofs.TreeRuns.{tree_runs}
use Rattle.raw_route.proofs.Members.{In}
use Rattle.raw_route.proofs.Trees.{target_inside}
use Rattle.raw_route.proofs.Words.{distinct_from, words_before, words_inside, words_more, words_short}

module _ (laws : Laws) (set : ProgramSet) (xs : List Sending) (oks : AllByRecursion (IsSending (tile_count set.topo)) xs) where
  abbrev cols : ℕ
  cols = set.topo.cols

  abbrev rows : ℕ
  rows = set.topo.rows

  abbrev all : List Part
  all = parts_from cols rows [] xs

  module _ (script : IsScript set all) where
    -- the words that are sent to a tile have fewer places than a switch has instructions
    few_words : (t : ℕ) → t < tile_count set.topo → length (words_to t xs) < MAX_SWITCH_CODE
    few_words t h =
        let a = words_short laws.tree.parts set.topo script.valid.topology [] xs oks t h in
        let b = laws.tree.few_switch set all script t h in
        let c = ap length (laws.tree.switch_is set all script t h) in
        let d = length-append (switch_part t all) (switch.halt ∷ []) in
        omega arith

    few_before : (earlier ys : List Sending) (x : Sending) → xs ≡ earlier ++ x ∷ ys → (t : ℕ) → t < tile_count set.topo → In t x.haul.to → length (words_to t earlier) < MAX_SWITCH_CODE
    few_before earlier ys x e t h m = let a = few_words t h in let b = words_before xs earlier ys x t e m in omega arith

    -- one haul
    haul_phase : (earlier ys : List Sending) (x : Sending) (front : List Part) (memories : ℕ → List ℕ) (s : MachineState) → xs ≡ earlier ++ x ∷ ys → IsSending (tile_count set.topo) x
        → all ≡ front ++ (haul_parts cols rows earlier x ++ parts_from cols rows (earlier ++ x ∷ []) ys)
        → PartsStand set front memories s → Holds (λ t. words_to t earlier) memories → Idle s
        → Leads set s (λ r. (m : ℕ → List ℕ) × PartsStand set (front ++ haul_parts cols rows earlier x) m r × Holds (λ t. words_to t (earlier ++ x ∷ [])) m × Idle r)
    haul_phase earlier ys x front memories s whole ok e old holds idle =
        let net = x.haul.net in
        let A : List Part = to_tile x.haul.from (send_code net x.word) in
        let B : List Part = to_switches (tile_count set.topo) (tree_ins cols x.haul) in
        let C : List Part = map (store_part earlier net) x.haul.to in
        let rest : List Part = parts_from cols rows (earlier ++ x ∷ []) ys in
        let w : ℕ = from_tile_wire net x.haul.from in
        let e1 : all ≡ front ++ (A ++ ((B ++ C) ++ rest)) = e ∙ ap (λ ps. front ++ ps) (append_assoc A (B ++ C) rest) in
        let e2 : all ≡ (front ++ A) ++ (B ++ (C ++ rest)) = e1 ∙ ap (λ ps. front ++ (A ++ ps)) (append_assoc B C rest) ∙ sym (append_assoc front A (B ++ (C ++ rest))) in
        let e3 : all ≡ ((front ++ A) ++ B) ++ (C ++ rest) = e2 ∙ sym (append_assoc (front ++ A) B (C ++ rest)) in
        let total : ((front ++ A) ++ B) ++ C ≡ front ++ (A ++ (B ++ C)) = append_assoc (front ++ A) B C ∙ append_assoc front A (B ++ C) in
        let room : length (values_on s.wires w) < set.depth = let some = script.valid.some_depth in rw (idle w) (omega arith) in
        let P1 : MachineState → Type 0 = λ r. HasGone set (front ++ A) memories s r × HasCome w x.word s.wires r.wires in
        let P2 : MachineState → MachineState → Type 0 = λ r q. HasGone set ((front ++ A) ++ B) memories r q × IsAtTargets x.haul x.word q.wires in
        let Q : MachineState → Type 0 = λ r. (m : ℕ → List ℕ) × PartsStand set (front ++ haul_parts cols rows earlier x) m r × Holds (λ t. words_to t (earlier ++ x ∷ [])) m × Idle r in
        then set s P1 Q
        (laws.send set all front ((B ++ C) ++ rest) x.haul.from memories s script ok.haul.origin old (load 5 x.word) (send_ins net 5) net x.word e1
        (sends_word laws set all script net x.word (memories x.haul.from) ok.word) room)
        (λ r h. then set r (P2 r) Q
        (tree_runs laws.tree set all script (front ++ A) (C ++ rest) memories x.haul x.word r ok.haul h.0.stands e2
        (record { here = h.1.here ∙ ap (λ vs. vs ++ x.word ∷ []) (idle w); elsewhere = λ u ne. h.1.elsewhere u ne ∙ idle u }))
        (λ q g.
        more set q (λ u. (m : ℕ → List ℕ) × PartsStand set (((front ++ A) ++ B) ++ C) m u × Holds (with_stored laws set all script x.haul.to x.word (λ t. words_to t earlier)) m × Idle u) Q
        (store_phase laws set all script earlier net x.word x.haul.to ((front ++ A) ++ B) rest (λ t. words_to t earlier) memories q e3 (distinct_from x.haul.to ok.haul.distinct)
        (target_inside set.topo script.valid.topology x.haul ok.haul) (λ t m. refl)
        (λ t m. few_before earlier ys x whole t (target_inside set.topo script.valid.topology x.haul ok.haul t m) m) ok.word g.0.stands holds (at_each laws set all script x.haul x.word q g.1))
        (λ u k. (
          k.0,
          subst (λ ps. PartsStand set ps k.0 u) total k.1,
          holds_same (with_stored laws set all script x.haul.to x.word (λ t. words_to t earlier)) (λ t. words_to t (earlier ++ x ∷ [])) k.0 k.2 (λ t. words_more t earlier x),
          k.3,
        ))))

    -- all hauls
    all_phase : (ys earlier : List Sending) (front : List Part) (memories : ℕ → List ℕ) (s : MachineState) → xs ≡ earlier ++ ys → AllByRecursion (IsSending (tile_count set.topo)) ys
        → all ≡ front ++ parts_from cols rows earlier ys → PartsStand set front memories s → Holds (λ t. words_to t earlier) memories → Idle s
        → Leads set s (λ r. (m : ℕ → List ℕ) × PartsStand set all m r × Holds (λ t. words_to t xs) m × Idle r)
    all_phase [] earlier front memories s whole ok e old holds idle =
        stay set s (λ r. (m : ℕ → List ℕ) × PartsStand set all m r × Holds (λ t. words_to t xs) m × Idle r) (
          memories,
          subst (λ ps. PartsStand set ps memories s) (sym (e ∙ append-nil front)) old,
          subst (λ zs. Holds (λ t. words_to t zs) memories) (sym (whole ∙ append-nil earlier)) holds,
          idle,
        )
    all_phase (x ∷ ys) earlier front memories s whole ok e old holds idle =
        let P : MachineState → Type 0 = λ r. (m : ℕ → List ℕ) × PartsStand set (front ++ haul_parts cols rows earlier x) m r × Holds (λ t. words_to t (earlier ++ x ∷ [])) m × Idle r in
        let Q : MachineState → Type 0 = λ r. (m : ℕ → List ℕ) × PartsStand set all m r × Holds (λ t. words_to t xs) m × Idle r in
        then set s P Q (haul_phase earlier ys x front memories s whole ok.0 e old holds idle)
        (λ r h. all_phase ys (earlier ++ x ∷ []) (front ++ haul_parts cols rows earlier x) h.0 r (whole ∙ sym (append_assoc earlier (x ∷ []) ys)) ok.1
        (e ∙ sym (append_assoc front (haul_parts cols rows earlier x) (parts_from cols rows (earlier ++ x ∷ []) ys))) h.1 h.2 h.3)

    module _ (no_ports : length set.topo.places ≡ 0) where
      stopped : (m : ℕ → List ℕ) (s : MachineState) → PartsStand set all m s → PortsAreStopped set s
      stopped m s old = record { at = λ p l h e. absurd (let a = slice_get_within s.locals p l e in let b = old.fits.processors in omega arith) }

      -- the whole serial order
      serial : Leads set (start set) (λ r. (m : ℕ → List ℕ) × Holds (λ t. words_to t xs) m × Idle r × ((before : MachineState) × HasHalted set m before r))
      serial =
          let P : MachineState → Type 0 = λ r. (m : ℕ → List ℕ) × PartsStand set all m r × Holds (λ t. words_to t xs) m × Idle r in
          let Q : MachineState → Type 0 = λ r. (m : ℕ → List ℕ) × Holds (λ t. words_to t xs) m × Idle r × ((before : MachineState) × HasHalted set m before r) in
          then set (start set) P Q
          (all_phase xs [] [] (λ t. first_memory []) (start set) refl oks refl (laws.start set all script) (λ t i word e. absurd (cc e)) (laws.start_idle set))
          (λ r h. more set r (λ q. HasHalted set h.0 r q) Q (laws.halts set all h.0 r script h.1 (stopped h.0 r h.1))
          (λ q g. (h.0, h.2, (λ w. g.wires.on w ∙ h.3 w), (r, g))))

      pub delivers : (steps : List ℕ) → IsRun set steps → IsDelivered set xs (end set steps)
      delivers steps run =
          let r : MachineState = end_from set (start set) serial.steps in
          let h = serial.holds in
          let halted = h.3.1 in
          let ours : ComesToRest set (start set) serial.steps = record { lawful = serial.lawful; quiet = halted.quiet } in
          let theirs : ComesToRest set (start set) steps = record { lawful = run.lawful; quiet = run.quiet } in
          let same : end set steps ≡ r = laws.same_rest set (start set) serial.steps steps script.valid ours theirs in
          subst (λ s. IsDelivered set xs s) (sym same)
          (record {
            done = halted.done;
            empty = h.2;
            words = λ t i word e.
                let d = halted.tiles t (words_inside set.topo script.valid.topology xs oks t i word e) in
                (d.0, d.1, ap (λ memory. word_at memory (4 * i)) d.2 ∙ h.1 t i word e);
          })

-- every order of steps of a planned set that comes to rest has delivered
pub delivered : Laws → (cols rows : ℕ) (xs : List Sending) → IsSet (planned cols rows xs) → All (IsSending (cols * rows)) xs → Delivers cols rows xs
unfolding planned plan_parts
delivered laws cols rows xs is ok steps run =
    delivers laws (planned cols rows xs) xs (recursion_from_All (IsSending (cols * rows)) xs ok) (record { valid = is; tiles = refl; limit = omega arith }) refl steps run
