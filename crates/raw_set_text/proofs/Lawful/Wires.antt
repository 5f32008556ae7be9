-- The ends that the programs of switches name have wires in the grid as it is at the end.
use Rattle.std.proofs.Common.{◌≡◌, ℕ, ◌+◌, ◌*◌, ◌<◌, Bool, true, false, ◌&&◌, cond, eqb, ltb, List, [], ◌∷◌, ◌++◌, length, map, Option, Some, None, refl, sym, ap, ◌∙◌, subst, arith, ⊎_elim, append_assoc}
use Rattle.std.specs.Prelude.{is_some}
use Rattle.std.specs.List.{All, filter_map, cons_option, list_all, position, position_or_len, enumerate_from}
use Rattle.std.proofs.lemmas.Bool.{cases_Bool, and_parts, and_from, eqb-true, ltb-true, lt-ltb}
use Rattle.std.proofs.lemmas.Option.{cond_some, slice_get_within, get_or_from_slice_get}
use Rattle.std.proofs.lemmas.List.{append-nil, map-append}
use Rattle.std.proofs.lemmas.List.Elements.{All-nil, All-cons, All-append, All-weaker, All-filter, filter_map-append}
use Rattle.std.proofs.lemmas.List.FromFn.{length-map-range_with_len, get_or-map-range_with_len}
use Rattle.std.proofs.lemmas.List.Sums.{AllPass-from_list_all, list_all-from_AllPass}
use Rattle.raw_switch_isa.specs.Instruction.{SwitchInstruction}
use Rattle.raw_switch_isa.specs.Ends.{ends, inputs_of, outputs_of, is_used_input, is_filled}
use Rattle.raw_switch_asm.specs.Statement.{are_wired}
use Rattle.raw_grid.specs.declared.parts.Net.TheVariants.{One, Two}
use Rattle.raw_grid.specs.declared.parts.PortPlace.{PortPlace}
use Rattle.raw_grid.specs.Topology.{Topology, with_port, tile_count, proc_count, switch_at}
use Rattle.raw_grid.specs.Wires.{all_tile_wires, links_of, port_wire, port_wires, wires_of, input_wire, output_wire}
use Rattle.raw_grid.proofs.Growth.{enumerate_from-push}
use Rattle.raw_model.specs.Program.{TileProgram, has_wires, HaveWires}
use Rattle.raw_set_text.specs.declared.declaration.Position.{Position}
use Rattle.raw_set_text.specs.Entry.{Entry}
use Rattle.raw_set_text.specs.Entry.Entry.{Port, Switch}
use Rattle.raw_set_text.specs.Entries.{is_tile, place_in, places_of, switch_in, topology_of, tile_of, tiles_of}
use Rattle.raw_set_text.specs.Sections.{wired_at}
use Rattle.raw_set_text.proofs.Wired.{wired_as}
use Rattle.raw_set_text.proofs.Lawful.Lists.{first_holds}
use Rattle.raw_set_text.proofs.Lawful.Ports.{grid_with, places_kept}
use Rattle.raw_set_text.proofs.Lawful.Entries.{Follows, whole, Good, start, more}

port_wires_push : (t : Topology) (place : PortPlace) → port_wires (with_port t place) ≡ port_wires t ++ port_wire t (proc_count t) place ∷ []
port_wires_push t place =
    ap (map (λ (port : ℕ × PortPlace). port_wire t port.0 port.1)) (enumerate_from-push (2 * tile_count t) t.places place)
    ∙ map-append (λ (port : ℕ × PortPlace). port_wire t port.0 port.1) (enumerate_from (2 * tile_count t) t.places) ((proc_count t, place) ∷ [])

-- the wire of a new port is the last one
wires_push : (t : Topology) (place : PortPlace) → wires_of (with_port t place) ≡ wires_of t ++ port_wire t (proc_count t) place ∷ []
unfolding wires_of
wires_push t place =
    let last = port_wire t (proc_count t) place ∷ [] in
    ap (λ ws. all_tile_wires t ++ (links_of t One ++ (links_of t Two ++ ws))) (port_wires_push t place)
    ∙ ap (λ ws. all_tile_wires t ++ (links_of t One ++ ws)) (sym (append_assoc (links_of t Two) (port_wires t) last))
    ∙ ap (λ ws. all_tile_wires t ++ ws) (sym (append_assoc (links_of t One) (links_of t Two ++ port_wires t) last))
    ∙ sym (append_assoc (all_tile_wires t) (links_of t One ++ (links_of t Two ++ port_wires t)) last)

place_kept : {X : Type 0} (p : X → Bool) (xs ys : List X) → position_or_len p xs < length xs → position_or_len p (xs ++ ys) < length (xs ++ ys)
place_kept p [] ys h = absurd (omega (arith, h))
place_kept p (x ∷ xs) ys h =
    ⊎_elim
    (λ (yes : p x ≡ true). rw yes (omega arith))
    (λ (no : p x ≡ false). let before : 1 + position_or_len p xs < length (x ∷ xs) = rw no at h in let rest = place_kept p xs ys (omega (arith, before)) in rw no (omega (arith, rest)))
    (cases_Bool (p x))

is_some_if : {Y : Type 0} (b : Bool) (y : Y) → is_some (cond b (Some y) None) ≡ b
is_some_if true y = refl
is_some_if false y = refl

-- an element that is found is found in a longer list too
found_kept : {X : Type 0} (xs ys zs : List X) → zs ≡ xs ++ ys → (p : X → Bool) → is_some (position p xs) ≡ true → is_some (position p zs) ≡ true
found_kept xs ys zs longer p e =
    let inside : position_or_len p xs < length xs = ltb-true _ _ (sym (is_some_if _ (position_or_len p xs)) ∙ e) in
    ap (λ l. is_some (position p l)) longer ∙ is_some_if _ (position_or_len p (xs ++ ys)) ∙ lt-ltb _ _ (place_kept p xs ys inside)

input_kept : (t : Topology) (place : PortPlace) (p end : ℕ) → is_some (input_wire t p end) ≡ true → is_some (input_wire (with_port t place) p end) ≡ true
unfolding input_wire
input_kept t place p end e = found_kept (wires_of t) (port_wire t (proc_count t) place ∷ []) (wires_of (with_port t place)) (wires_push t place) (λ w. eqb w.to p && eqb w.input end) e

output_kept : (t : Topology) (place : PortPlace) (p end : ℕ) → is_some (output_wire t p end) ≡ true → is_some (output_wire (with_port t place) p end) ≡ true
unfolding output_wire
output_kept t place p end e = found_kept (wires_of t) (port_wire t (proc_count t) place ∷ []) (wires_of (with_port t place)) (wires_push t place) (λ w. eqb w.from p && eqb w.output end) e

-- a test that follows from another at each element below ten
all_below : (f g : ℕ → Bool) (xs : List ℕ) → All (λ x. x < 10) xs → ((x : ℕ) → x < 10 → f x ≡ true → g x ≡ true) → list_all f xs ≡ true → list_all g xs ≡ true
all_below f g xs below h e = let each = AllPass-from_list_all f xs e in list_all-from_AllPass g xs (λ k d l. h _ (below k d l) (each k d l))

ends_below : All (λ end. end < 10) ends
unfolding ends
ends_below = λ k d l. ltb-true _ 10 (AllPass-from_list_all (λ x. ltb x 10) ends refl k d l)

inputs_below : (ins : SwitchInstruction) → All (λ end. end < 10) (inputs_of ins)
inputs_below ins = All-filter (is_used_input ins) (λ end. end < 10) ends ends_below

outputs_below : (ins : SwitchInstruction) → All (λ end. end < 10) (outputs_of ins)
outputs_below ins = All-filter (is_filled ins) (λ end. end < 10) ends ends_below

-- an instruction whose ends have wires keeps them when a port is added
wires_kept : (t : Topology) (place : PortPlace) (p : ℕ) (ins : SwitchInstruction) → has_wires t p ins ≡ true → has_wires (with_port t place) p ins ≡ true
wires_kept t place p ins e =
    let parts = and_parts _ _ e in
    and_from _ _
    (all_below (λ end. is_some (input_wire t p end)) (λ end. is_some (input_wire (with_port t place) p end)) (inputs_of ins) (inputs_below ins) (λ end l. input_kept t place p end) parts.0)
    (all_below (λ end. is_some (output_wire t p end)) (λ end. is_some (output_wire (with_port t place) p end)) (outputs_of ins) (outputs_below ins) (λ end l. output_kept t place p end) parts.1)

-- an instruction whose ends had wires at its switch
wired_there : (topo : Topology) (tile : Position) (ins : SwitchInstruction) → are_wired (wired_at topo tile) ins ≡ true → has_wires topo (switch_at topo tile.x tile.y) ins ≡ true
wired_there topo tile ins e = sym (wired_as topo tile ins) ∙ e

-- each end of a program of switch t has a wire
abbrev IsWired : ℕ → ℕ → List PortPlace → ℕ → List SwitchInstruction → Type 0
IsWired columns rows places t code = All (λ ins. has_wires (grid_with columns rows places) (columns * rows + t) ins ≡ true) code

abbrev AreWired : ℕ → ℕ → List PortPlace → ℕ → List Entry → Type 0
AreWired columns rows places t xs = All (IsWired columns rows places t) (filter_map (switch_in columns t) xs)

switches_kept : (columns t : ℕ) (front : List Entry) (entry : Entry) → switch_in columns t entry ≡ None → filter_map (switch_in columns t) (front ++ entry ∷ []) ≡ filter_map (switch_in columns t) front
switches_kept columns t front entry e = filter_map-append (switch_in columns t) front (entry ∷ []) ∙ rw e (append-nil (filter_map (switch_in columns t) front))

moved : (columns rows : ℕ) (ps qs : List PortPlace) (t : ℕ) (xs ys : List (List SwitchInstruction)) → qs ≡ ps → ys ≡ xs → All (IsWired columns rows ps t) xs → All (IsWired columns rows qs t) ys
moved columns rows ps qs t xs ys same_places same_codes h =
    subst (λ zs. All (IsWired columns rows qs t) zs) (sym same_codes) (subst (λ rs. All (IsWired columns rows rs t) xs) (sym same_places) h)

with_place : (columns rows : ℕ) (ps : List PortPlace) (place : PortPlace) (t : ℕ) (xs : List (List SwitchInstruction)) → All (IsWired columns rows ps t) xs → All (IsWired columns rows (ps ++ place ∷ []) t) xs
with_place columns rows ps place t xs h =
    All-weaker (IsWired columns rows ps t) (IsWired columns rows (ps ++ place ∷ []) t)
    (λ code. All-weaker (λ ins. has_wires (grid_with columns rows ps) (columns * rows + t) ins ≡ true) (λ ins. has_wires (grid_with columns rows (ps ++ place ∷ [])) (columns * rows + t) ins ≡ true)
    (wires_kept (grid_with columns rows ps) place (columns * rows + t)) code)
    xs h

all_one : {Y : Type 0} (P : Y → Type 0) (o : Option Y) → ((y : Y) → o ≡ Some y → P y) → (ys : List Y) → All P ys → All P (ys ++ cons_option o [])
all_one P None h ys all = All-append P ys [] all (All-nil P)
all_one P (Some y) h ys all = All-append P ys (y ∷ []) all (All-cons P y [] (h y refl) (All-nil P))

section_wired : (columns rows : ℕ) (ps : List PortPlace) (t : ℕ) (tile : Position) (code : List SwitchInstruction) → All (λ ins. are_wired (wired_at (grid_with columns rows ps) tile) ins ≡ true) code → is_tile columns t tile ≡ true
    → IsWired columns rows ps t code
section_wired columns rows ps t tile code h here =
    let number : tile.y * columns + tile.x ≡ t = eqb-true _ t here in
    let topo = grid_with columns rows ps in
    All-weaker (λ ins. are_wired (wired_at topo tile) ins ≡ true) (λ ins. has_wires topo (columns * rows + t) ins ≡ true)
    (λ ins e. subst (λ n. has_wires topo (columns * rows + n) ins ≡ true) number (wired_there topo tile ins e)) code h

wired_step : (columns rows limit : ℕ) (front : List Entry) (entry : Entry) → Follows (whole columns rows limit front) entry → (t : ℕ) → AreWired columns rows (places_of front) t front → AreWired columns rows (places_of (front ++ entry ∷ [])) t (front ++ entry ∷ [])
unfolding topology_of
wired_step columns rows limit front (Port place capacity) h t before =
    moved columns rows (places_of front ++ place ∷ []) _ t (filter_map (switch_in columns t) front) _ (filter_map-append place_in front (Port place capacity ∷ [])) (switches_kept columns t front (Port place capacity) refl)
    (with_place columns rows (places_of front) place t (filter_map (switch_in columns t) front) before)
wired_step columns rows limit front (Switch tile code) h t before =
    moved columns rows (places_of front) _ t _ _ (places_kept front (Switch tile code) refl) (filter_map-append (switch_in columns t) front (Switch tile code ∷ []))
    (all_one (IsWired columns rows (places_of front) t) (switch_in columns t (Switch tile code))
    (λ y e. let parts = cond_some (is_tile columns t tile) code y e in subst (IsWired columns rows (places_of front) t) parts.1 (section_wired columns rows (places_of front) t tile code h.formed.wired parts.0))
    (filter_map (switch_in columns t) front) before)
wired_step columns rows limit front entry h t before =
    moved columns rows (places_of front) _ t (filter_map (switch_in columns t) front) _ (places_kept front entry refl) (switches_kept columns t front entry refl) before

all_wired : (columns rows limit : ℕ) (rest : List Entry) → Good columns rows limit rest → (t : ℕ) → AreWired columns rows (places_of rest) t rest
all_wired columns rows limit _ start t = All-nil (IsWired columns rows [] t)
all_wired columns rows limit _ (more front entry good h) t = wired_step columns rows limit front entry h t (all_wired columns rows limit front good t)

-- the programs of all switches name ends with wires alone
pub lawful_wires : (columns rows limit : ℕ) (rest : List Entry) → Good columns rows limit rest → HaveWires (topology_of (whole columns rows limit rest)) (tiles_of (whole columns rows limit rest))
unfolding topology_of tiles_of tile_of
lawful_wires columns rows limit rest good t tile e =
    let all = whole columns rows limit rest in
    let within : t < columns * rows = omega (arith, slice_get_within (tiles_of all) t tile e, length-map-range_with_len (tile_of all) 0 (columns * rows)) in
    let is : tile_of all t ≡ tile = sym (get_or-map-range_with_len (tile_of all) 0 (columns * rows) t t tile within (omega arith)) ∙ get_or_from_slice_get (tiles_of all) t tile tile e in
    subst (λ (x : TileProgram). IsWired columns rows (places_of rest) t x.switch) is
    (first_holds (IsWired columns rows (places_of rest) t) [] (filter_map (switch_in columns t) rest) (All-nil (λ ins. has_wires (grid_with columns rows (places_of rest)) (columns * rows + t) ins ≡ true)) (all_wired columns rows limit rest good t))
