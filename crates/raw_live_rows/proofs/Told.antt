-- What was told of the rows is what the sinks are due of them.
use Rattle.std.proofs.Common.{◌≡◌, ℕ, ◌+◌, ◌-◌, ◌*◌, ◌^◌, ◌<◌, ◌≤◌, List, ◌++◌, length, map, take, drop, get_or, cond, Option, Some, None, inl, inr, refl, sym, ap, ◌∙◌, subst, arith}
use Rattle.std.specs.Prelude.{◌⊎◌, nat_lt, slice_get, slice_index}
use Rattle.std.specs.Option.{option_map}
use Rattle.std.proofs.lemmas.Bool.{le-ltb}
use Rattle.std.proofs.lemmas.Option.{slice_get_within, slice_get_cases}
use Rattle.raw_grid.specs.declared.parts.ProcKind.{ProcKind}
use Rattle.raw_grid.specs.declared.parts.ProcKind.TheVariants as proc
use Rattle.raw_grid.specs.declared.parts.PortKind.TheVariants as kind
use Rattle.raw_grid.specs.declared.parts.PortPlace.{PortPlace}
use Rattle.raw_grid.specs.declared.limits.TheConstants.{MAX_PROCS}
use Rattle.raw_grid.specs.Topology.{Topology, IsTopology, tile_count, proc_count, port_proc, kind_at}
use Rattle.raw_text.specs.Lines.{lines_of, tokens_of}
use Rattle.raw_model.specs.Program.{ProgramSet, IsSet}
use Rattle.raw_model.specs.Local.{Local, Tile, Switch, Source, Sink, PortLocal}
use Rattle.raw_model.specs.Start.{MachineState, Fits, IsFit, start}
use Rattle.raw_model.specs.Rest.{IsRun, IsLawfulFrom, end, end_from}
use Rattle.raw_model.specs.Parts.{got_of}
use Rattle.raw_set_text.specs.Meaning.{IsMeaning, IsOneSet}
use Rattle.raw_stream.specs.Streams.{Stream, first_words, due_to, rows_of}
use Rattle.raw_rows.specs.Kernels.{AreRows, fed_rows, HasDue, IsMetBut}
use Rattle.raw_cut.specs.Live.{IsMetFrom}
use Rattle.raw_queue.specs.declared.item.Item.{Item}
use Rattle.raw_live_text.specs.declared.intake.Intake.{Intake}
use Rattle.raw_live_text.specs.Feeding.{Fed, fed, AreForSources}
use Rattle.raw_live.specs.Gots.{gots}
use Rattle.raw_live.specs.Due.{due_text}
use Rattle.raw_live.specs.Engine.{got_at, with_items}
use Rattle.raw_live.specs.Judging.{IsIntakeOf}
use Rattle.raw_live.proofs.Valid.{items_valid}
use Rattle.raw_live_run.specs.declared.arguments.Command.TheVariants.{Feed}
use Rattle.raw_live_run.specs.Call.{Call, IsRestStatus}
use Rattle.raw_live_run.specs.Live.{Live, SaysWords, put_by, fed_set}
use Rattle.raw_live_run.specs.Promises.{Headline, RestStands}
use Rattle.raw_live_rows.specs.Told.{IsTold, AreRowsTold, EachRowIsTold}

-- ---- one input says one set

-- what `law_heads` says of lines behind `live`
pub record LawsOfPuts : Type 0 where
  pub alike : (a b : Intake) → a.places.items ≡ b.places.items → a.first_port ≡ b.first_port → a.room ≡ b.room → a.line ≡ b.line → (lines : List (List ℕ)) → fed a lines ≡ fed b lines
  pub sources : (intake : Intake) (lines : List (List ℕ)) → AreForSources intake (fed intake lines).items
  pub room : (intake : Intake) (lines : List (List ℕ)) → length (fed intake lines).items ≤ intake.room

module _ (laws : LawsOfPuts) (one : (lines : List (List (List ℕ))) → IsOneSet lines) where
  -- lines say one set, with one list of words
  module _ (lines : List (List ℕ)) (a b : SaysWords lines) where
    same_place : a.place ≡ b.place
    same_place = let same : a.place + 1 ≡ b.place + 1 = cc (a.mark, b.mark) in omega (arith, same)

    same_first : a.first ≡ b.first
    same_first = (one (map tokens_of (take b.place lines))).one_meaning a.first b.first (subst (λ n. IsMeaning (map tokens_of (take n lines)) a.first) same_place a.meaning) b.meaning

    same_put : put_by a ≡ put_by b
    same_put =
        let is : IsIntakeOf b.first a.intake = subst (λ set. IsIntakeOf set a.intake) same_first a.intake_is in
        laws.alike a.intake b.intake (is.places ∙ sym b.intake_is.places) (is.first_port ∙ sym b.intake_is.first_port) (omega (arith, is.room, b.intake_is.room)) (omega (arith, a.line, b.line, same_place)) (drop (a.place + 1) lines)
        ∙ ap (λ n. fed b.intake (drop (n + 1) lines)) same_place

    pub one_fed : fed_set a ≡ fed_set b
    one_fed = ap (λ set. with_items set (put_by a).items) same_first ∙ ap (λ (put : Fed). with_items b.first put.items) same_put

  -- it is a set
  pub fed_valid : (lines : List (List ℕ)) (a : SaysWords lines) → IsSet (fed_set a)
  fed_valid lines a =
      let valid : IsSet a.first = (one (map tokens_of (take a.place lines))).valid a.first a.meaning in
      items_valid a.intake a.first (put_by a).items a.intake_is.places a.intake_is.first_port valid (laws.sources a.intake (drop (a.place + 1) lines))
      (omega (arith, a.intake_is.room, laws.room a.intake (drop (a.place + 1) lines)))

-- ---- sinks

-- a local state that fits a sink is that of one
sink_of : (set : ProgramSet) (p : ℕ) (l : Local) → IsFit set p l → kind_at set.topo p ≡ Some proc.Sink → (port : PortLocal) × (l ≡ Sink port)
sink_of set p (Tile l) fit is = absurd (cc (fit.0, is))
sink_of set p (Switch l) fit is = absurd (cc (fit.0, is))
sink_of set p (Source l) fit is = absurd (cc (fit.0, is))
sink_of set p (Sink l) fit is = (l, refl)

-- a port is of its kind
port_is : (t : Topology) (q : ℕ) (place : PortPlace) → slice_get t.places q ≡ Some place → place.kind ≡ kind.Sink → kind_at t (2 * tile_count t + q) ≡ Some proc.Sink
port_is t q place at is =
    let p : ℕ = 2 * tile_count t + q in
    let back : p - 2 * tile_count t ≡ q = omega arith in
    let port : Option PortPlace → Option ProcKind = option_map (λ (k : PortPlace). port_proc k.kind) in
    ap (λ b. cond b (Some proc.Tile) (cond (nat_lt p (2 * tile_count t)) (Some proc.Switch) (port (slice_get t.places (p - 2 * tile_count t))))) (le-ltb p (tile_count t) (omega arith))
    ∙ ap (λ b. cond b (Some proc.Switch) (port (slice_get t.places (p - 2 * tile_count t)))) (le-ltb p (2 * tile_count t) (omega arith))
    ∙ ap (λ k. port (slice_get t.places k)) back
    ∙ ap port at
    ∙ ap (λ k. Some (port_proc k)) is

-- what `law_fits` says
pub record LawsOfFits : Type 0 where
  pub start_fits : (set : ProgramSet) → IsSet set → Fits set (start set)
  pub end_fits : (set : ProgramSet) (s : MachineState) (h : List ℕ) → IsSet set → Fits set s → IsLawfulFrom set s h → Fits set (end_from set s h)

-- ---- what was told

module _ (laws : LawsOfPuts) (one : (lines : List (List (List ℕ))) → IsOneSet lines) (fits : LawsOfFits) (few_procs : (t : Topology) → IsTopology t → proc_count t ≤ MAX_PROCS) where
  module _ (set : ProgramSet) (s : Stream) (lacks : List ℕ) (rows : List (List ℕ)) (met : IsMetBut set s lacks rows) (valid : IsSet (fed_rows set s rows))
      (text : List ℕ) (h : List ℕ) (run : IsRun (fed_rows set s rows) h)
      (says : (port : ℕ) → port < 2 ^ 32 → gots text port ≡ got_at (end (fed_rows set s rows) h) port) where
    abbrev whole : ProgramSet
    whole = fed_rows set s rows

    fit : Fits whole (end whole h)
    fit = fits.end_fits whole (start whole) h valid (fits.start_fits whole valid) run.lawful

    pub sink_told : (q : ℕ) (place : PortPlace) → slice_get set.topo.places q ≡ Some place → place.kind ≡ kind.Sink → IsTold set s lacks rows text q
    sink_told q place at is = by (slice_get_cases (end whole h).locals p).1 where
      p : ℕ
      p = 2 * tile_count set.topo + q

      back : p - 2 * tile_count set.topo ≡ q
      back = omega arith

      within : q < length set.topo.places
      within = slice_get_within set.topo.places q place at

      small : p < 2 ^ 32
      small = omega (arith, within, few_procs set.topo valid.topology)

      there_is : (l : Local) → slice_get (end whole h).locals p ≡ Some l → IsTold set s lacks rows text q
      there_is l there =
          let sink : (port : PortLocal) × (l ≡ Sink port) = sink_of whole p l (fit.locals p l there) (port_is set.topo q place at is) in
          let local_is : slice_get (end whole h).locals p ≡ Some (Sink sink.0) = there ∙ ap Some sink.1 in
          let due = met.right h run p sink.0 local_is in
          let told : gots text p ≡ sink.0.got = says p small ∙ ap got_of local_is in
          record {
            last = due.0;
            due = ap (λ k. due_to s k (rows_of s (first_words s) rows)) (sym back) ∙ due.1 ∙ ap (λ l. l ++ due.0) (sym told);
            few = subst (λ k. length due.0 ≤ slice_index lacks k) back due.2;
          }

      by : ((l : Local) × (p < length (end whole h).locals) × (slice_get (end whole h).locals p ≡ Some l) × (get_or (end whole h).locals p l ≡ l))
          ⊎ ((length (end whole h).locals ≤ p) × (slice_get (end whole h).locals p ≡ None)) → IsTold set s lacks rows text q
      by (inl there) = there_is there.0 there.2
      by (inr past) = absurd (omega (arith, past.0, fit.processors, within))

  pub rows_told : EachRowIsTold
  rows_told set s least most lacks is_met rows at_least at_most are call workers input before headline words status left held live =
      let rest : RestStands input before call = headline workers words status input before left held in
      let same : rest.set ≡ fed_rows set s rows = rest.live.set_is ∙ one_fed laws one (lines_of input) rest.live.says live.says ∙ sym live.set_is in
      let valid : IsSet (fed_rows set s rows) = subst IsSet (sym live.set_is) (fed_valid laws one (lines_of input) live.says) in
      let text : List ℕ = due_text rest.live.says.first (put_by rest.live.says).items in
      let h : List ℕ = rest.some_run.0 in
      let run : IsRun (fed_rows set s rows) h = subst (λ k. IsRun k h) same rest.some_run.1 in
      record {
        text = text;
        held_now = rest.held_now;
        told = sink_told set s lacks rows (is_met rows at_least at_most are) valid text h run
            (λ port small. rest.says h port rest.some_run.1 small ∙ ap (λ k. got_at (end k h) port) same);
      }
