-- What the line of a run of the generated set says.
use Rattle.std.proofs.Common.{◌≡◌, ℕ, zero, suc, ◌+◌, ◌-◌, ◌*◌, ◌<◌, ◌≤◌, Bool, true, false, List, [], ◌∷◌, ◌++◌, length, take, Option, Some, None, refl, sym, ap, ◌∙◌, subst, arith, sum_by, cond}
use Rattle.std.specs.Prelude.{slice_get, nat_lt, option_map, IsSomeAnd}
use Rattle.std.specs.List.{flat_map}
use Rattle.std.proofs.lemmas.List.{take_all, append-nil}
use Rattle.std.proofs.lemmas.Option.{same_Some, slice_get_within, get_or_from_slice_get}
use Rattle.std.proofs.lemmas.List.Sums.{sum_by_more}
use Rattle.std.proofs.lemmas.List.Concat.{flat_map-cons}
use Rattle.std.proofs.Math.Nat.{ℕ_set}
use Rattle.std.proofs.Math.Logic.{∥∥₁_elim}
use mathlib.Core.List.{is_set}
use Rattle.raw_grid.specs.declared.parts.ProcKind.{ProcKind}
use Rattle.raw_grid.specs.declared.parts.ProcKind.TheVariants as proc
use Rattle.raw_grid.specs.declared.parts.PortPlace.{PortPlace}
use Rattle.raw_grid.specs.Topology.{Topology, tile_count, proc_count, kind_at, port_proc}
use Rattle.raw_model.specs.Program.{ProgramSet}
use Rattle.raw_model.specs.Local.{Local, Tile, Switch, Source, Sink, PortLocal, steps_of}
use Rattle.raw_model.specs.Start.{MachineState, start, Fits, IsFit}
use Rattle.raw_model.specs.Rest.{end, IsQuiet, IsRun}
use Rattle.raw_model.specs.Outcomes.{outcome, ending_of}
use Rattle.raw_model.specs.Laws.{ComesToRest}
use Rattle.raw_model.specs.Parts.{got_by}
use Rattle.raw_serial.specs.Leading.{Leads, LeadsBy}
use Rattle.raw_generated.specs.Generated.{grid, generated}
use Rattle.raw_generated.specs.Summary.{words_out, all_steps, summary_line, summary_of, summary}
use Rattle.raw_shell.specs.declared.ending.CommandEnding.TheVariants.{Rested}
use Rattle.raw_shell.specs.Answers.{ending_status}
use Rattle.raw_owed.specs.Owed.{IsWorkOutput}
use Rattle.raw_run_commands.proofs.Outputs.{same_ending}

-- the local state whose count was told
found : (locals : List Local) (p n : ℕ) (here : Option Local) → slice_get locals p ≡ here → IsSomeAnd here (λ l. n ≡ steps_of l)
    → (l : Local) × (slice_get locals p ≡ Some l) × (n ≡ steps_of l)
found locals p n None e h = absurd h
found locals p n (Some l) e h = (l, e, h)

-- a count is the next term of the sum of counts
pub count_next : (locals : List Local) (p n : ℕ) → IsSomeAnd (slice_get locals p) (λ l. n ≡ steps_of l)
    → sum_by steps_of (take (p + 1) locals) ≡ sum_by steps_of (take p locals) + n
count_next locals p n told =
    let here = found locals p n (slice_get locals p) refl told in
    omega (arith, sum_by_more steps_of locals p here.0 (slice_get_within locals p here.0 here.1), ap steps_of (get_or_from_slice_get locals p here.0 here.0 here.1), here.2)

-- all counts were summed up
pub all_counts : (s : MachineState) (p n : ℕ) → length s.locals ≤ p → n ≡ sum_by steps_of (take p s.locals) → n ≡ all_steps s
unfolding all_steps
all_counts s p n all told = told ∙ ap (sum_by steps_of) (take_all p s.locals all)

-- what the generated grid's processors are, by two tests
abbrev kind_by : Bool → Bool → ℕ → Option ProcKind
kind_by first second k =
    cond first (Some proc.Tile) (cond second (Some proc.Switch) (option_map (λ (place : PortPlace). port_proc place.kind) (slice_get grid.places k)))

no_sink : (first second : Bool) (k : ℕ) → (first ≡ false → second ≡ false → k ≡ 0) → kind_by first second k ≡ Some proc.Sink → ⊥
no_sink true second k at e = absurd (cc e)
no_sink false true k at e = absurd (cc e)
no_sink false false k at e =
    let first : Some proc.Source ≡ Some proc.Sink = subst (λ j. kind_by false false j ≡ Some proc.Sink) (at refl refl) e in
    absurd (cc first)

not_sink : (p : ℕ) → p < 33 → kind_at grid p ≡ Some proc.Sink → ⊥
not_sink p inside e = no_sink (nat_lt p 16) (nat_lt p 32) (p - 32) (λ a b. grind (arith, a, b, inside)) e

no_words : (set : ProgramSet) → set.topo ≡ grid → (p : ℕ) (l : Local) → p < 33 → IsFit set p l → got_by l ≡ []
no_words set is p (Sink l) h fit = absurd (not_sink p h (subst (λ (t : Topology). kind_at t p ≡ Some proc.Sink) is fit.0))
no_words set is p _ h fit = refl

-- where only the last of some processors has words, all words are its own
last_words : (locals : List Local) (n : ℕ) (x : Local) → length locals ≡ suc n
    → ((i : ℕ) (l : Local) → i < n → slice_get locals i ≡ Some l → got_by l ≡ []) → slice_get locals n ≡ Some x → flat_map got_by locals ≡ got_by x
last_words [] n x len none there = absurd (cc there)
last_words (l ∷ []) zero x len none there = grind (arith, flat_map-cons got_by l [], append-nil (got_by l), same_Some l x there)
last_words (l ∷ m ∷ ls) zero x len none there = absurd (omega (arith, len))
last_words (l ∷ ls) (suc n) x len none there =
    flat_map-cons got_by l ls ∙ ap (λ front. front ++ flat_map got_by ls) (none 0 l (omega arith) refl)
    ∙ last_words ls n x (omega (arith, len)) (λ i k h e. none (suc i) k (omega (arith, h)) e) there

-- the words of the sink are those that came out
pub words_are : (set : ProgramSet) (s : MachineState) → Fits set s → set.topo ≡ grid → (l : PortLocal)
    → slice_get s.locals (2 * tile_count set.topo + 1) ≡ Some (Sink l) → l.got ≡ words_out s
unfolding words_out
words_are set s fits is l there =
    sym (last_words s.locals 33 (Sink l) (fits.processors ∙ ap proc_count is) (λ i k h e. no_words set is i k h (fits.locals i k e))
    (subst (λ (t : Topology). slice_get s.locals (2 * tile_count t + 1) ≡ Some (Sink l)) is there))

-- the generated set stands on its grid
pub topo_is : (set : ProgramSet) (n : ℕ) → set ≡ generated n → set.topo ≡ grid
unfolding generated
topo_is set n is = ap (λ (set : ProgramSet). set.topo) is

-- the line of a state, from its parts
pub line_is : (n : ℕ) (s : MachineState) → summary_line n (outcome (generated n) s) (words_out s) (all_steps s) ≡ summary_of n s
unfolding summary_of
line_is n s = refl

module _ (n : ℕ) (ends : (h g : List ℕ) → ComesToRest (generated n) (start (generated n)) h → ComesToRest (generated n) (start (generated n)) g
    → end (generated n) g ≡ end (generated n) h) where
  rests : (steps : List ℕ) → IsRun (generated n) steps → ComesToRest (generated n) (start (generated n)) steps
  rests steps run = record { lawful = run.lawful; quiet = run.quiet }

  alike : (steps others : List ℕ) → IsRun (generated n) steps → IsRun (generated n) others → summary n others ≡ summary n steps
  unfolding summary
  alike steps others run other = ap (summary_of n) (ends steps others (rests steps run) (rests others other))

  led_end : (state : MachineState) (steps others : List ℕ) → IsQuiet (generated n) state → LeadsBy (generated n) (start (generated n)) state others
      → IsRun (generated n) steps → state ≡ end (generated n) steps
  led_end state steps others quiet led run =
      sym led.there ∙ ends steps others (rests steps run) (record { lawful = led.lawful; quiet = subst (IsQuiet (generated n)) (sym led.there) quiet })

  -- the line of a quiet state that some list leads to is that of each list that comes to rest
  written : (state : MachineState) (steps : List ℕ) → IsQuiet (generated n) state → Leads (generated n) (start (generated n)) state
      → IsRun (generated n) steps → summary_of n state ≡ summary n steps
  unfolding summary
  written state steps quiet leads run =
      ∥∥₁_elim leads (is_set ℕ_set _ _) (λ led. ap (summary_of n) (led_end state steps led.0 quiet led.1 run))

  ended : (state : MachineState) (steps : List ℕ) → IsQuiet (generated n) state → Leads (generated n) (start (generated n)) state
      → IsRun (generated n) steps → Rested (ending_of (outcome (generated n) state)) ≡ Rested (ending_of (outcome (generated n) (end (generated n) steps)))
  ended state steps quiet leads run =
      same_ending (ending_of (outcome (generated n) state)) (ending_of (outcome (generated n) (end (generated n) steps)))
      (∥∥₁_elim leads (ℕ_set _ _) (λ led. ap (λ s. ending_status (Rested (ending_of (outcome (generated n) s)))) (led_end state steps led.0 quiet led.1 run)))

  -- a machine that came to rest gives the output of `work`
  pub work_output : (state : MachineState) (steps : List ℕ) → IsQuiet (generated n) state → Leads (generated n) (start (generated n)) state
      → IsRun (generated n) steps → IsWorkOutput n (summary_of n state) (Rested (ending_of (outcome (generated n) state)))
  work_output state steps quiet leads run = record {
    steps = steps;
    run = run;
    written = written state steps quiet leads run;
    ended = ended state steps quiet leads run;
    alike = λ others other. alike steps others run other;
  }
