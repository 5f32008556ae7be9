-- A processor that has taken no steps: its local state is that of the start, it has sent nothing, and it has touched nothing.
use Rattle.std.proofs.Common.{◌≡◌, ℕ, zero, suc, ◌+◌, List, [], ◌∷◌, ◌++◌, length, map, drop, replicate, Option, Some, None, refl, sym, ap, ◌∙◌, subst, ⊎_elim, arith}
use Rattle.std.specs.Prelude.{slice_get, slice_index}
use Rattle.std.specs.List.{filter_map}
use Rattle.std.proofs.lemmas.Bool.{cases_eq}
use Rattle.std.proofs.lemmas.Option.{same_Some}
use Rattle.raw_network.specs.Network.{Network, State, Event, fronts, values_on, count_of, row_at, step, step_from, event_of, event_from}
use Rattle.raw_network.specs.Runs.{end_of, events_of, touches}
use Rattle.raw_network.specs.Wired.{IsWired}
use Rattle.raw_network.proofs.Wires.{count_here, count_there, arrivals, wire_moved, arrivals_none}
use Rattle.raw_network.proofs.Kth.{local_other, after_is}
use Rattle.raw_network.proofs.Erased.{events_at, events_there, length-events_of}
use Rattle.raw_grid.specs.declared.parts.PortKind.{PortKind}
use Rattle.raw_grid.specs.declared.parts.PortKind.TheVariants as kind
use Rattle.raw_grid.specs.declared.parts.PortPlace.{PortPlace}
use Rattle.raw_model.specs.Program.{ProgramSet, TileProgram}
use Rattle.raw_model.specs.Local.{Local, Tile, Switch, Source, Sink, steps_of}
use Rattle.raw_model.specs.TileTable.{next_instruction}
use Rattle.raw_model.specs.SwitchTable.{next_instruction as next_switch_instruction}
use Rattle.raw_model.specs.Machine.{machine_of, tile_code, switch_code, first_operand, second_operand, given_to}
use Rattle.raw_model.specs.Start.{start, first_tile, first_switch, first_port}
use Rattle.raw_model.proofs.Finite.{tile_counts, switch_counts}
use Rattle.raw_model.proofs.Words.{read_at}
use Rattle.raw_grid.specs.Wires.{wires_of}
use Rattle.std.proofs.lemmas.List.Elements.{All-replicate}
use Rattle.raw_trace.specs.Parts.{regs_of}
use Rattle.raw_trace.proofs.Lists.{nil_of, each_append, each_map}

drop_nothing : {A : Type 0} (n : ℕ) (xs : List A) → xs ≡ [] → drop n xs ≡ []
drop_nothing zero xs e = e
drop_nothing (suc n) [] e = refl
drop_nothing (suc n) (x ∷ xs) e = absurd (cc e)

module _ {L : Type 0} (net : Network L) where
  next_is : (s : State L) (p : ℕ) (l : L) → slice_get s.locals p ≡ Some l → slice_get (step net s p).locals p ≡ Some (row_at net p l s.wires).next
  next_is s p l here = sym (after_is net s p l here) ∙ ap (λ o. (event_from net s.wires p o).after) here

  next_at : (s : State L) (q p : ℕ) (l : L) → q ≡ p → slice_get s.locals p ≡ Some l → slice_get (step net s q).locals p ≡ Some (row_at net p l s.wires).next
  next_at s q p l e here = ap (λ r. slice_get (step net s r).locals p) e ∙ next_is s p l here

  -- where each row adds one to a count, that is how many steps there were
  pub counted : (count : L → ℕ) → ((p : ℕ) (l : L) (values : List ℕ) → count (net.row p l values).next ≡ count l + 1)
      → (s : State L) (h : List ℕ) (p : ℕ) (l last : L) → slice_get s.locals p ≡ Some l → slice_get (end_of net s h).locals p ≡ Some last
      → count last ≡ count l + count_of p h
  counted count raises s [] p l last here there =
      let same = ap count (same_Some l last (sym here ∙ there)) in omega (arith, same)
  counted count raises s (q ∷ h) p l last here there =
      ⊎_elim
      (λ (e : q ≡ p).
      let one = subst (λ r. count_of r (q ∷ h) ≡ suc (count_of r h)) e (count_here q h) in
      let next = (row_at net p l s.wires).next in
      let more = raises p l (fronts (net.takes p l) s.wires) in
      let rest = counted count raises (step net s q) h p next last (next_at s q p l e here) there in
      omega (arith, one, more, rest))
      (λ (ne : q ≡ p → ⊥).
      let same = count_there p q h ne in
      let rest = counted count raises (step net s q) h p l last (local_other net s q p (λ e. ne (sym e)) ∙ here) there in
      omega (arith, same, rest))
      (cases_eq q p)

  -- without steps nothing is touched
  pub touches_none : (s : State L) (h : List ℕ) (p : ℕ) → count_of p h ≡ 0 → touches net s h p ≡ []
  touches_none s h p none = ap (filter_map (λ (e : Event L). e.touched)) (nil_of (events_of net s h p) (length-events_of net s h p ∙ none))

  -- where no row touches, nothing is touched
  pub touches_never : (P : L → Type 0) → ((p : ℕ) (l : L) (values : List ℕ) → P l → P (net.row p l values).next × ((net.row p l values).touched ≡ None))
      → (s : State L) (h : List ℕ) (p : ℕ) (l : L) → slice_get s.locals p ≡ Some l → P l → touches net s h p ≡ []
  touches_never P keeps s [] p l here is = refl
  touches_never P keeps s (q ∷ h) p l here is =
      ⊎_elim
      (λ (e : q ≡ p).
      let kept = keeps p l (fronts (net.takes p l) s.wires) is in
      let none : (event_of net s q).touched ≡ None =
      ap (λ r. (event_of net s r).touched) e ∙ ap (λ o. (event_from net s.wires p o).touched) here ∙ kept.1 in
      ap (filter_map (λ (e : Event L). e.touched)) (events_at net s q p h e)
      ∙ no_first (event_of net s q) (events_of net (step net s q) h p) none
      ∙ touches_never P keeps (step net s q) h p (row_at net p l s.wires).next (next_at s q p l e here) kept.0)
      (λ (ne : q ≡ p → ⊥).
      ap (filter_map (λ (e : Event L). e.touched)) (events_there net s q p h ne)
      ∙ touches_never P keeps (step net s q) h p l (local_other net s q p (λ e. ne (sym e)) ∙ here) is)
      (cases_eq q p)
    where
      no_first : (e : Event L) (es : List (Event L)) → e.touched ≡ None
          → filter_map (λ (e : Event L). e.touched) (e ∷ es) ≡ filter_map (λ (e : Event L). e.touched) es
      no_first e es none = rw none

  -- without steps nothing is sent
  module _ (producer consumer : ℕ → ℕ) (wired : IsWired net producer consumer) where
    others : (s : State L) (q w : ℕ) → (producer w ≡ q → ⊥) → values_on s.wires w ≡ [] → (o : Option L) → values_on (step_from net s q o).wires w ≡ []
    others s q w ne empty None = empty
    others s q w ne empty (Some l) =
        let sent = (row_at net q l s.wires).sent in
        let ws = net.takes q l in
        wire_moved ws sent s.wires w
        ∙ ap (λ xs. xs ++ arrivals (length s.wires) w sent) (drop_nothing (count_of w ws) (values_on s.wires w) empty)
        ∙ arrivals_none producer q (length s.wires) w sent (wired.sent_own q l (fronts ws s.wires)) ne

    pub sent_none : (s : State L) (h : List ℕ) (p w : ℕ) → producer w ≡ p → count_of p h ≡ 0 → values_on s.wires w ≡ [] → values_on (end_of net s h).wires w ≡ []
    sent_none s [] p w own none empty = empty
    sent_none s (q ∷ h) p w own none empty =
        ⊎_elim
        (λ (e : q ≡ p).
        let one = subst (λ r. count_of r (q ∷ h) ≡ suc (count_of r h)) e (count_here q h) in absurd (omega (arith, one, none)))
        (λ (ne : q ≡ p → ⊥).
        sent_none (step net s q) h p w own (sym (count_there p q h ne) ∙ none)
        (others s q w (λ is. ne (sym is ∙ own)) empty (slice_get s.locals q)))
        (cases_eq q p)

-- each row counts one step
pub row_counts : (g : ProgramSet) (p : ℕ) (l : Local) (values : List ℕ) → steps_of ((machine_of g).row p l values).next ≡ steps_of l + 1
unfolding machine_of
row_counts g p (Tile l) values =
    tile_counts (next_instruction (tile_code g p) l) (length (tile_code g p)) l
    (first_operand (next_instruction (tile_code g p) l) l.regs values)
    (second_operand (next_instruction (tile_code g p) l) l.regs values)
row_counts g p (Switch l) values =
    switch_counts (next_switch_instruction (switch_code g p) l) (length (switch_code g p)) l
    (given_to g.topo p (next_switch_instruction (switch_code g p) l) values)
row_counts g p (Source l) values = refl
row_counts g p (Sink l) values = refl

-- it is no tile
abbrev pub IsOther : Local → Type 0
IsOther (Tile l) = ⊥
IsOther _ = Unit {0}

-- and such a one touches nothing
pub other_row : (g : ProgramSet) (p : ℕ) (l : Local) (values : List ℕ) → IsOther l
    → IsOther ((machine_of g).row p l values).next × (((machine_of g).row p l values).touched ≡ None)
unfolding machine_of
other_row g p (Tile l) values is = absurd is
other_row g p _ values is = (tt, refl)

zeros : (n r : ℕ) → slice_index (replicate n 0) r ≡ 0
zeros zero zero = refl
zeros zero (suc r) = refl
zeros (suc n) zero = refl
zeros (suc n) (suc r) = zeros n r

-- its registers are 0
abbrev pub IsClear : Local → Type 0
IsClear l = (r : ℕ) → slice_index (regs_of (Some l)) r ≡ 0

-- at the start all registers are 0
pub start_clear : (g : ProgramSet) (p : ℕ) (l : Local) → slice_get (start g).locals p ≡ Some l → IsClear l
unfolding start
start_clear g p l here =
    let tiles = map (λ (tile : TileProgram). Tile (first_tile tile)) g.tiles in
    let switches = map (λ (tile : TileProgram). Switch (first_switch tile.switch)) g.tiles in
    let ports = map (λ (place : PortPlace). first_port place.kind) g.topo.places in
    each_append IsClear tiles (switches ++ ports)
    (each_map IsClear (λ (tile : TileProgram). Tile (first_tile tile)) (λ tile r. zeros 32 r) g.tiles)
    (each_append IsClear switches ports
    (each_map IsClear (λ (tile : TileProgram). Switch (first_switch tile.switch)) (λ tile r. zeros 4 r) g.tiles)
    (each_map IsClear (λ (place : PortPlace). first_port place.kind) (λ place r. port_clear place.kind r) g.topo.places))
    p l here
  where
    port_clear : (k : PortKind) → IsClear (first_port k)
    port_clear kind.Source r = zeros 0 r
    port_clear kind.Sink r = zeros 0 r

-- and no wire holds a value
pub start_empty : (g : ProgramSet) (w : ℕ) → values_on (start g).wires w ≡ []
unfolding start
start_empty g w =
    let wires : List (List ℕ) = replicate (length (wires_of g.topo)) [] in
    read_at (λ (values : List ℕ). values ≡ []) wires w [] refl (All-replicate (λ (values : List ℕ). values ≡ []) (length (wires_of g.topo)) [] refl)
