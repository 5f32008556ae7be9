-- Where a command leads, and where it names more steps than there are.
use Rattle.std.proofs.Common.{◌≡◌, ℕ, ◌<◌, Bool, true, false, Option, Some, None, [], length, refl, sym, ap, ap₂, ◌∙◌, subst, cond, arith, take_all}
use Rattle.std.specs.Prelude.{nat_lt, if◌then◌else◌}
use Rattle.std.proofs.lemmas.Bool.{leb-true, leb-false, lt-ltb, le-ltb, lt-leb, ltb-true, eq-eqb, ne_eqb}
use Rattle.raw_network.specs.Network.{count_of}
use Rattle.raw_grid.specs.declared.parts.ProcId.{ProcId}
use Rattle.raw_grid.specs.Topology.{proc_count}
use Rattle.raw_model.specs.Program.{ProgramSet}
use Rattle.raw_model.specs.Serial.{serial}
use Rattle.raw_debug.specs.declared.command.Command.{Command}
use Rattle.raw_debug.specs.declared.command.Command.TheVariants.{At, Count, Until, Last, Rest}
use Rattle.raw_debug.specs.Commands.{led_to}
use Rattle.raw_debug.specs.Commands.Meaning.{Says}
use Rattle.raw_debug.specs.Walking.{up_to, state_after, count_at, moment_of}
use Rattle.raw_debug.specs.Stops.{stopped_after}
use Rattle.raw_debug.specs.Answers.{answer}
use Rattle.raw_debug.specs.Debugging.{IsPossible, IsLed}
use Rattle.raw_debug.specs.Live.{Session}
use Rattle.raw_debug.specs.Script.{Spot, leads_to, moved, moved_by, told, goes_past, script_text_of, line_text}

no_moment : (b : Bool) (x : ℕ) → cond b (Some x) None ≡ None → b ≡ false
no_moment true x e = absurd (cc e)
no_moment false x e = refl

some_moment : (b : Bool) (x n : ℕ) → cond b (Some x) None ≡ Some n → b ≡ true
some_moment true x n e = refl
some_moment false x n e = absurd (cc e)

-- a processor never takes so many steps
past_where_none : (set : ProgramSet) (p k : ℕ) → moment_of set p k ≡ None → nat_lt (count_of p (serial set)) k ≡ true
unfolding moment_of
past_where_none set p k e = lt-ltb (count_of p (serial set)) k (leb-false k (count_of p (serial set)) (no_moment _ _ e))

pub past_leads_nowhere : (set : ProgramSet) (p k : ℕ) → nat_lt (count_of p (serial set)) k ≡ true → moment_of set p k ≡ None
unfolding moment_of
past_leads_nowhere set p k past =
    ap (λ b. if b then Some (length (up_to p k (serial set))) else None) (lt-leb k (count_of p (serial set)) (ltb-true (count_of p (serial set)) k past))

-- it does
here_where_some : (set : ProgramSet) (p k n : ℕ) → moment_of set p k ≡ Some n → nat_lt (count_of p (serial set)) k ≡ false
unfolding moment_of
here_where_some set p k n e = le-ltb (count_of p (serial set)) k (leb-true k (count_of p (serial set)) (some_moment _ _ n e))

pub at_none : (set : ProgramSet) (spot : Spot) (command : Command) (p : ProcId) (steps : ℕ) → command ≡ At p steps → leads_to set spot command ≡ None
    → goes_past set command ≡ true
at_none set spot command p steps is none =
    subst (λ c. goes_past set c ≡ true) (sym is)
    (past_where_none set p.0 steps (subst (λ c. leads_to set spot c ≡ None) is none))

pub goes_somewhere : (set : ProgramSet) (spot : Spot) (command : Command) (n : ℕ) → leads_to set spot command ≡ Some n → goes_past set command ≡ false
goes_somewhere set spot (At p steps) n e = here_where_some set p.0 steps n e
goes_somewhere set spot _ n e = refl

-- What a command writes that led somewhere, told of the machine's own set and current processor.
pub said_text : (set own : ProgramSet) (spot : Spot) (command : Command) (n : ℕ) (p : ProcId) → own ≡ set → p ≡ led_to spot.current command
    → leads_to set spot command ≡ Some n → answer own n (state_after own n) p.0 command ≡ line_text set spot (Says command)
said_text set own spot command n p own_is p_is leads =
    ap (λ g. answer g n (state_after g n) p.0 command) own_is
    ∙ ap (λ (q : ProcId). answer set n (state_after set n) q.0 command) p_is
    ∙ sym (ap (told set (led_to spot.current command) command) leads)
    ∙ sym (ap (λ b. if b then [] else script_text_of set spot (Says command)) (goes_somewhere set spot command n leads))

-- where a script stands that a command led to this moment, of this set and with this current processor
pub stands_behind : (set own : ProgramSet) (spot : Spot) (command : Command) (to : Option ℕ) (n : ℕ) (p : ProcId) → own ≡ set → p ≡ led_to spot.current command
    → leads_to set spot command ≡ to → (moved spot p to).moment ≡ n
    → ◌≡◌ {A = Session} (record { set = own; spot = record { moment = n; current = p } }) (record { set = set; spot = moved_by set spot (Says command) })
stands_behind set own spot command to n p own_is p_is leads there =
    ap₂ (λ (g : ProgramSet) (s : Spot). record { set = g; spot = s }) own_is
    (ap (λ (m : ℕ). record { moment = m; current = p }) (sym there) ∙ by_end spot p to ∙ ap₂ (λ (q : ProcId) (o : Option ℕ). moved spot q o) p_is (sym leads))
  where
    by_end : (old : Spot) (q : ProcId) (o : Option ℕ) → ◌≡◌ {A = Spot} (record { moment = (moved old q o).moment; current = q }) (moved old q o)
    by_end old q None = refl
    by_end old q (Some m) = refl

-- the moment to which a command led; a moment of no other set
pub is_led : (set own : ProgramSet) (spot : Spot) (command : Command) (n : ℕ) → own ≡ set → leads_to set spot command ≡ Some n → IsLed own n command
is_led set own spot command n same leads = subst (λ g. IsLed g n command) (sym same) (by_command command leads)
  where
    by_command : (c : Command) → leads_to set spot c ≡ Some n → IsLed set n c
    by_command Rest e = let is : length (serial set) ≡ n = cc e in sym is
    by_command _ e = tt

-- the processor that a command makes the current one is there, and can be asked the same
pub led_there : (set : ProgramSet) (p : ProcId) (command : Command) → p.0 < proc_count set.topo → IsPossible set p.0 command → (led_to p command).0 < proc_count set.topo
led_there set p (At q steps) there possible = possible
led_there set p (Count q steps) there possible = possible
led_there set p (Until q aim) there possible = possible.0
led_there set p (Last q aim) there possible = possible.0
led_there set p _ there possible = there

pub still_possible : (set : ProgramSet) (p : ProcId) (command : Command) → IsPossible set p.0 command → IsPossible set (led_to p command).0 command
still_possible set p (At q steps) possible = possible
still_possible set p (Count q steps) possible = possible
still_possible set p (Until q aim) possible = possible
still_possible set p (Last q aim) possible = possible
still_possible set p _ possible = possible

-- how many steps a processor has taken at the end of the serial order
pub count_at_end : (set : ProgramSet) (p : ℕ) → count_at set p (length (serial set)) ≡ count_of p (serial set)
count_at_end set p = ap (count_of p) (take_all (length (serial set)) (serial set) (omega arith))

-- it has taken all of them, or some are left
module _ (set : ProgramSet) (moment p before all : ℕ) (now : before ≡ count_at set p moment) (end : all ≡ count_of p (serial set)) where
  pub stopped_already : before ≡ all → stopped_after set moment p ≡ None
  unfolding stopped_after
  stopped_already same =
      ap (λ b. if b then None else moment_of set p (count_of p (serial set))) (eq-eqb (count_at set p moment) (count_of p (serial set)) (sym now ∙ same ∙ end))

  pub stops_later : (before ≡ all → ⊥) → stopped_after set moment p ≡ moment_of set p all
  unfolding stopped_after
  stops_later other =
      ap (λ b. if b then None else moment_of set p (count_of p (serial set)))
      (ne_eqb (count_at set p moment) (count_of p (serial set)) (λ e. other (now ∙ e ∙ sym end)))
      ∙ ap (moment_of set p) (sym end)
