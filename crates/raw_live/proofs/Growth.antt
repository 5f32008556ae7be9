-- What a sink has taken out grows by steps, and by more words for the sources.
use Rattle.std.proofs.Common.{◌≡◌, ℕ, ◌≤◌, ◌-◌, ◌*◌, List, [], ◌∷◌, ◌++◌, length, Option, Some, None, refl, sym, ap, subst, ◌∙◌, append_assoc, append-nil, ⊎_elim, arith}
use Rattle.std.specs.Prelude.{slice_get, slice_set, slice_index, slice_index_or}
use Rattle.std.proofs.lemmas.Bool.{cases_eq}
use Rattle.std.proofs.lemmas.Option.{slice_get_within, slice_get-get_or}
use Rattle.std.proofs.Math.Logic.{∥∥₁_map}
use Rattle.raw_network.specs.Network.{step_from, row_at}
use Rattle.raw_network.proofs.Wires.{slice_get-set_same, slice_get-set_other}
use Rattle.raw_network.proofs.Steps.{lawful-append, end_of-append}
use Rattle.raw_network.proofs.Kth.{lawful_front}
use Rattle.raw_grid.specs.Topology.{tile_count}
use Rattle.raw_network.specs.Laws.{IsPrefix}
use Rattle.raw_model.specs.Program.{ProgramSet, PortProgram, IsSet}
use Rattle.raw_model.specs.Local.{Local, Tile, Switch, Source, Sink}
use Rattle.raw_model.specs.Machine.{machine_of, row, capacity_of}
use Rattle.raw_model.specs.Start.{MachineState, start}
use Rattle.raw_model.specs.Cache.{StandsFor, touches_of, misses, stream_of}
use Rattle.raw_model.specs.MoreWords.{AreAlikeButMoreWords, HasMoreWords}
use Rattle.raw_model.specs.Rest.{step, IsLawful, IsLawfulFrom, end_from, end, IsRun, IsQuiet}
use Rattle.raw_model.specs.Laws.{ComesToRest}
use Rattle.raw_model.proofs.MoreWords.{runs_on, same_start}
use Rattle.raw_model.proofs.Finite.{some_rest}
use Rattle.raw_model.proofs.Orders.{same_rest}
use Rattle.raw_model.specs.Parts.{got_of}
use Rattle.raw_processor.specs.declared.processor.Processor.{Processor}
use Rattle.raw_processor.specs.declared.processor.Processor.TheVariants as a
use Rattle.raw_processor.specs.Processor.{IsKept}
use Rattle.raw_processor.specs.Touching.{owed_after}
use Rattle.raw_serial.specs.declared.parts.Parts.{Parts}
use Rattle.raw_serial.specs.Running.{IsRunBy, misses_in}
use Rattle.raw_serial.specs.Taken.{made_of, IsWhole}
use Rattle.raw_live.specs.Engine.{got_at}

pub begins_same : (xs : List ℕ) → IsPrefix xs xs
begins_same xs = ([], append-nil xs)

pub begins_over : (xs ys zs : List ℕ) → IsPrefix xs ys → IsPrefix ys zs → IsPrefix xs zs
begins_over xs ys zs a b = (a.0 ++ b.0, sym (append_assoc xs a.0 b.0) ∙ ap (λ l. l ++ b.0) a.1 ∙ b.1)

local_grows : (set : ProgramSet) (p : ℕ) (l : Local) (values : List ℕ) → IsPrefix (got_of (Some l)) (got_of (Some (row set p l values).next))
local_grows set p (Tile l) values = (got_of (Some (row set p (Tile l) values).next), refl)
local_grows set p (Switch l) values = (got_of (Some (row set p (Switch l) values).next), refl)
local_grows set p (Source l) values = (got_of (Some (row set p (Source l) values).next), refl)
local_grows set p (Sink l) values = (slice_index values 0 ∷ [], refl)

module _ (set : ProgramSet) where
  step_at : (s : MachineState) (p q : ℕ) (found : Option Local) → slice_get s.locals p ≡ found → IsPrefix (got_at s q) (got_at (step_from (machine_of set) s p found) q)
  unfolding machine_of
  step_at s p q None e = begins_same (got_at s q)
  step_at s p q (Some l) e =
      let next = (row_at (machine_of set) p l s.wires).next in
      ⊎_elim {C = IsPrefix (got_at s q) (got_of (slice_get (slice_set s.locals p next) q))}
      (λ same. subst (λ r. IsPrefix (got_at s r) (got_of (slice_get (slice_set s.locals p next) r))) (sym same)
      (rw (e, slice_get-set_same s.locals p next l e) (local_grows set p l _)))
      (λ other. subst (λ (o : Option Local). IsPrefix (got_at s q) (got_of o)) (sym (slice_get-set_other s.locals p q next other)) (begins_same (got_at s q)))
      (cases_eq q p)

  step_grows : (s : MachineState) (p q : ℕ) → IsPrefix (got_at s q) (got_at (step set s p) q)
  step_grows s p q = step_at s p q (slice_get s.locals p) refl

  -- along steps
  pub end_grows : (s : MachineState) (steps : List ℕ) (q : ℕ) → IsPrefix (got_at s q) (got_at (end_from set s steps) q)
  end_grows s [] q = begins_same (got_at s q)
  end_grows s (p ∷ steps) q = begins_over (got_at s q) (got_at (step set s p) q) (got_at (end_from set (step set s p) steps) q) (step_grows s p q) (end_grows (step set s p) steps q)

-- what a lawful list of steps gave begins what there is at each rest with more words
pub rest_grows : (few more : ProgramSet) → AreAlikeButMoreWords few more → IsSet more → (g h : List ℕ) → IsLawful few g → IsRun more h → (q : ℕ) → IsPrefix (got_at (end few g) q) (got_at (end more h) q)
rest_grows few more alike valid g h lawful run q =
    let on = runs_on few more (start few) g alike lawful in
    let same = same_start few more alike in
    let there = end_from more (start few) g in
    let last = some_rest more there in
    let whole : ComesToRest more (start few) (g ++ last.0) = record {
      lawful = lawful-append (machine_of more) (start few) g last.0 on.lawful last.1.lawful;
      quiet = subst (IsQuiet more) (sym (end_of-append (machine_of more) (start few) g last.0)) last.1.quiet;
    } in
    let other : ComesToRest more (start few) h = record { lawful = subst (λ s. IsLawfulFrom more s h) same run.lawful; quiet = subst (λ s. IsQuiet more (end_from more s h)) same run.quiet } in
    let ends : end more h ≡ end_from more there last.0 =
    ap (λ s. end_from more s h) same ∙ sym (same_rest more valid (start few) h (g ++ last.0) other whole) ∙ end_of-append (machine_of more) (start few) g last.0 in
    subst (λ s. IsPrefix (got_at s q) (got_at (end more h) q)) on.same_end
    (subst (λ s. IsPrefix (got_at there q) (got_at s q)) (sym ends) (end_grows more there last.0 q))

-- of two lists of one length, neither has an element where the other has none
missing : (fs ms : List PortProgram) (i : ℕ) (m : PortProgram) → length fs ≡ length ms → slice_get fs i ≡ None → slice_get ms i ≡ Some m → ⊥
missing fs ms i m many none some =
    let within = slice_get_within ms i m some in
    cc (sym none ∙ slice_get-get_or fs i m (omega (arith, within, many)))

capacity_same : (few more : Option PortProgram) (i : ℕ) (fs ms : List PortProgram) → length fs ≡ length ms → slice_get fs i ≡ few → slice_get ms i ≡ more
    → ((f m : PortProgram) → slice_get fs i ≡ Some f → slice_get ms i ≡ Some m → HasMoreWords f m) → capacity_of more ≡ capacity_of few
capacity_same (Some f) (Some m) i fs ms many ef em each = sym (each f m ef em).capacity
capacity_same None None i fs ms many ef em each = refl
capacity_same None (Some m) i fs ms many ef em each = absurd (missing fs ms i m many ef em)
capacity_same (Some f) None i fs ms many ef em each = absurd (missing ms fs i f (sym many) em ef)

-- a machine at rest goes on with more words
module _ (few : ProgramSet) (ports : List PortProgram) (alike : AreAlikeButMoreWords few (record few { ports = ports })) (parts : Parts) where
  abbrev other : ProgramSet
  other = record few { ports = ports }

  kept : (p : ℕ) (x : Processor) → IsKept few p x → IsKept other p x
  kept p (a.Sink port) k =
      let i = p - 2 * tile_count few.topo in
      subst (λ n. n ≤ port.room) (sym (capacity_same (slice_get few.ports i) (slice_get ports i) i few.ports ports alike.many refl refl (alike.each i))) k
  kept p _ k = k

  -- and misses as often
  misses_same : (steps : List ℕ) (t : ℕ) → IsLawfulFrom few (start few) steps → misses_in other steps t ≡ misses_in few steps t
  misses_same steps t lawful =
      ap misses (ap (λ s. touches_of other s steps t) (same_start few other alike) ∙ (runs_on few other (start few) steps alike lawful).same_touches t)

  run_by : (steps : List ℕ) → IsRunBy (made_of few parts) steps → IsRunBy (made_of other parts) steps
  run_by steps r =
      let on = runs_on few other (start few) steps alike r.lawful in
      let same = same_start few other alike in record {
        lawful = subst (λ s. IsLawfulFrom other s steps) (sym same) on.lawful;
        there = ap (λ s. end_from other s steps) same ∙ on.same_end ∙ r.there;
        stands = λ t within. subst (λ touched. StandsFor (slice_index_or (made_of few parts).caches t []) touched) (sym (ap (λ s. touches_of other s steps t) same ∙ on.same_touches t)) (r.stands t within);
        missed = λ t within. r.missed t within ∙ sym (misses_same steps t r.lawful);
        owed = λ t within. let owes = r.owed t within in record {
          none = owes.none;
          last = λ front last.
              let before = lawful_front (machine_of few) (start few) front (t ∷ last.rest) (subst (IsLawfulFrom few (start few)) last.parts r.lawful) in
              subst (λ (n : ℕ × ℕ). slice_index (made_of few parts).owed t ≤ owed_after (stream_of few t) n.0 n.1)
              (λ i. (sym (misses_same front t before) i, sym (misses_same steps t r.lawful) i)) (owes.last front last);
        };
      }

  whole_with : IsWhole few parts → IsWhole other parts
  whole_with w = record {
    ends = w.ends;
    each = w.each;
    kept = λ p x here. kept p x (w.kept p x here);
    reached = ∥∥₁_map w.reached (λ (r : (steps : List ℕ) × IsRunBy (made_of few parts) steps). (r.0, run_by r.0 r.1));
  }

pub whole_more : (few more : ProgramSet) (parts : Parts) → AreAlikeButMoreWords few more → IsWhole few parts → IsWhole more parts
whole_more few more parts alike w =
    subst (λ set. IsWhole set parts) alike.rest (whole_with few more.ports (record { rest = refl; many = alike.many; each = alike.each }) parts w)
