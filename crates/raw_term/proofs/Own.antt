-- A run with terms goes the way of the set with its own words.
use Rattle.std.proofs.Common.{◌≡◌, ℕ, suc, ◌-◌, ◌*◌, ◌^◌, ◌<◌, ◌≤◌, List, [], ◌∷◌, ◌++◌, length, Some, None, refl, sym, ap, ap₂, ◌∙◌, subst, arith, length-append}
use Rattle.std.specs.Prelude.{slice_get}
use Rattle.std.specs.List.{All, flat_map, range_with_len}
use Rattle.std.proofs.lemmas.List.Concat.{length-flat_map}
use Rattle.std.proofs.Math.Seq.{take-append_seam, drop-append_seam}
use Rattle.std.proofs.lemmas.List.Elements.{All-append}
use Rattle.raw_grid.specs.Topology.{tile_count}
use Rattle.raw_model.specs.Program.{ProgramSet, PortProgram, IsSet, IsPortProgram}
use Rattle.raw_model.specs.Start.{MachineState, start}
use Rattle.raw_model.specs.Rest.{IsLawful, IsQuiet, IsRun, end_from, end}
use Rattle.raw_model.specs.Machine.{tile_code, port_program, capacity_of}
use Rattle.raw_model.specs.Bounds.{most_steps, all_words}
use Rattle.raw_model.specs.Waits.{waits_for}
use Rattle.raw_model.specs.Outcomes.{outcome}
use Rattle.raw_model.specs.Serial.{sweep_over, sweeps}
use Rattle.raw_model.specs.Fed.{fed, fed_ports}
use Rattle.raw_term.specs.TermMachine.{TermState, numbered}
use Rattle.raw_term.specs.Verdicts.{TermRun, swept, ran, first_run, RestsAs}
use Rattle.raw_term.proofs.Rows.{IsLawfulIns}
use Rattle.raw_term.proofs.Steps.{IsAt, IsSwept, sweep_stands, sweeps_stand, ran_free, swept_free, lawful_append, quiet_stands}
use Rattle.raw_term.proofs.Start.{fed_room, start_stands}
use Rattle.raw_term.proofs.Ending.{waits_same, outcome_stands}
use Rattle.raw_model.proofs.Fed.{AllWords, all_at, fed_set}
use Rattle.raw_term.proofs.Claims.{lawful_of, cells_of, Laws}

abbrev pub words_in : PortProgram → List ℕ
words_in port = port.words

-- the words of all sources, those of the first port first
abbrev pub own_words : List PortProgram → List ℕ
own_words ports = flat_map words_in ports

pub own_ports : (ports : List PortProgram) → fed_ports ports (own_words ports) ≡ ports
own_ports [] = refl
own_ports (port ∷ ports) =
    ap₂ (λ (ws : List ℕ) (more : List PortProgram). record port { words = ws } ∷ more)
    (take-append_seam port.words (own_words ports))
    (ap (fed_ports ports) (drop-append_seam port.words (own_words ports)) ∙ own_ports ports)

pub own_all : (ports : List PortProgram) → ((i : ℕ) (port : PortProgram) → slice_get ports i ≡ Some port → IsPortProgram port) → All (λ word. word < 2 ^ 32) (own_words ports)
own_all [] each = λ i d h. absurd (omega arith)
own_all (port ∷ ports) each =
    All-append (λ word. word < 2 ^ 32) port.words (own_words ports) (each 0 port refl).words (own_all ports (λ i p e. each (suc i) p e))

module _ (laws : Laws) (short : (set : ProgramSet) (h : List ℕ) → IsSet set → IsLawful set h → length h ≤ most_steps set)
    (set_ : ProgramSet) (valid : IsSet set_) where
  abbrev inputs : List ℕ
  inputs = own_words set_.ports

  abbrev nums : List PortProgram
  nums = fed_ports set_.ports (range_with_len 1 (all_words set_))

  abbrev words : List PortProgram
  words = fed_ports set_.ports inputs

  abbrev machine : ProgramSet
  machine = fed set_ inputs

  abbrev lawful : (p : ℕ) (i : ℕ) → IsLawfulIns (slice_get (tile_code set_ p) i)
  lawful = lawful_of set_ valid

  abbrev room : (p : ℕ) → capacity_of (port_program (record set_ { ports = nums }) p) ≡ capacity_of (port_program (record set_ { ports = words }) p)
  room = λ p. fed_room set_.ports (range_with_len 1 (all_words set_)) inputs (p - 2 * tile_count set_.topo)

  -- the set with its own words is the set
  whole : machine ≡ set_
  whole = ap (λ (ports : List PortProgram). record set_ { ports = ports }) (own_ports set_.ports)

  small : AllWords inputs
  small = all_at (λ word. word < 2 ^ 32) inputs (own_all set_.ports (all_at IsPortProgram set_.ports valid.port_programs))

  is_set : IsSet machine
  is_set = fed_set set_ inputs small valid

  -- the run after so many sweeps
  abbrev after : ℕ → TermRun
  after n = ran (numbered set_) n (first_run set_)

  first_at : (first_run set_).broken ≡ None → IsAt laws.words inputs set_ nums words lawful room (first_run set_) (start machine)
  first_at free = record {
    free = free;
    stands = start_stands laws.words inputs set_ lawful (cells_of inputs set_ valid) (length-flat_map words_in set_.ports) small;
  }

  so_many : (n : ℕ) → (after n).broken ≡ None
      → IsSwept laws.words inputs set_ nums words lawful room 0 (after n) (start machine) (sweeps machine n (start machine))
  so_many n free =
      sweeps_stand laws.words inputs set_ nums words lawful room n (first_run set_) (start machine)
      (first_at (ran_free laws.words inputs set_ nums words lawful room n (first_run set_) free)) free

  pub run_short : (n : ℕ) (ps : List ℕ) → (swept (numbered set_) (after n) ps).broken ≡ None → (swept (numbered set_) (after n) ps).steps ≤ most_steps set_
  run_short n ps free =
      let h : List ℕ = sweeps machine n (start machine) in
      let t : MachineState = end_from machine (start machine) h in
      let g : List ℕ = sweep_over machine t ps in
      let one : IsSwept laws.words inputs set_ nums words lawful room 0 (after n) (start machine) h =
      so_many n (swept_free laws.words inputs set_ nums words lawful room ps (after n) free) in
      let more : IsSwept laws.words inputs set_ nums words lawful room (after n).steps (swept (numbered set_) (after n) ps) t g =
      sweep_stands laws.words inputs set_ nums words lawful room ps (after n) t one.ends free in
      let all : IsLawful machine (h ++ g) = lawful_append laws.words inputs set_ nums words lawful room h g (start machine) one.allowed more.allowed in
      let few : length (h ++ g) ≤ most_steps machine = short machine (h ++ g) is_set all in
      omega (arith, one.many, more.many, few, ap most_steps whole, length-append h g)

  -- what is so of runs of the set with its own words
  abbrev IsSo : TermState → List ℕ → ProgramSet → Type 0
  IsSo s steps g = IsRun g steps → (waits_for (numbered set_) s.state ≡ waits_for g (end g steps)) × (outcome (numbered set_) s.state ≡ outcome g (end g steps))

  pub rest_alike : (n : ℕ) (steps : List ℕ) → IsRun set_ steps → (after n).broken ≡ None → IsQuiet (numbered set_) (after n).at.state → RestsAs set_ (after n).at (end set_ steps)
  rest_alike n steps run free rests =
      let s : TermState = (after n).at in
      let h : List ℕ = sweeps machine n (start machine) in
      let t : MachineState = end_from machine (start machine) h in
      let one : IsSwept laws.words inputs set_ nums words lawful room 0 (after n) (start machine) h = so_many n free in
      let quiet : IsQuiet machine t = quiet_stands laws.words inputs set_ nums words lawful room s t one.ends.stands rests in
      let so : IsSo s steps machine = λ own.
      let same : end_from machine (start machine) steps ≡ t =
      laws.same_rest machine (start machine) h steps is_set (record { lawful = one.allowed; quiet = quiet }) (record { lawful = own.lawful; quiet = own.quiet }) in (
        waits_same laws.words inputs set_ nums words lawful room s t one.ends.stands ∙ sym (ap (waits_for machine) same),
        outcome_stands laws.words inputs set_ nums words lawful room s t one.ends.stands ∙ sym (ap (outcome machine) same),
      ) in
      let is : IsSo s steps set_ = subst (λ (g : ProgramSet). IsSo s steps g) whole so in
      record { waits = (is run).0; rests = (is run).1 }
