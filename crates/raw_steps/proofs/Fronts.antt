-- Entries that are taken from the fronts of logs.
use Rattle.std.proofs.Common.{◌≡◌, ℕ, zero, suc, ◌+◌, ◌-◌, ◌<◌, ◌≤◌, ◌%◌, Bool, true, false, cond, eqb, List, [], ◌∷◌, ◌++◌, length, take, drop, set, Option, Some, None, refl, sym, ap, ◌∙◌, subst, ◌⊎◌, ⊎_elim, inl, inr, arith, append-nil, append_assoc}
use Rattle.std.specs.Prelude.{◌≢◌, slice_get, slice_set, slice_index_or, option_map, Vec, vec_len}
use Rattle.std.specs.declared.alloc.Global.{Global}
use denote.Ref.{Bor}
use Rattle.std.proofs.Math.Logic.{∥∥₁_map, ∥∥₁_elim}
use Rattle.std.proofs.Math.Nat.{ℕ_set}
use mathlib.Core.List.{is_set}
use Rattle.std.proofs.lemmas.Bool.{cases_eq, cases_lt, eq-eqb, ne_eqb}
use Rattle.std.proofs.lemmas.List.{length-set, length-append, length-map, get_or-map, get_or-set_same, get_or-set_other, set-set, set-get_or, take_rest}
use Rattle.std.proofs.lemmas.List.Elements.{filter-append}
use Rattle.std.proofs.lemmas.List.Sums.{sum_by-set}
use Rattle.std.proofs.lemmas.Option.{slice_get_within, slice_get-get_or, slice_get-map, get_or_from_slice_get}
use Rattle.raw_network.specs.Network.{is_ready, step_from, row_at}
use Rattle.raw_network.specs.Laws.{of_worker}
use Rattle.raw_model.specs.Program.{ProgramSet}
use Rattle.raw_model.specs.Local.{Local}
use Rattle.raw_model.specs.Machine.{machine_of}
use Rattle.raw_model.specs.Start.{MachineState}
use Rattle.raw_model.specs.Rest.{enabled, step, IsLawfulFrom, end_from}
use Rattle.raw_model.specs.Serial.{IsJoined}
use Rattle.raw_model.specs.Laws.{IsLawfulJoining, BeginsWith, IsLeft}
use Rattle.raw_grid.specs.declared.parts.ProcId.{ProcId}
use Rattle.raw_serial.specs.Running.{Running}
use Rattle.raw_steps.specs.Taking.{numbers, AreThere}
use Rattle.raw_serial.specs.Leading.{HasTaken}
use Rattle.raw_steps.specs.Weaving.{HaveLawfulJoining}
use Rattle.raw_steps.specs.Left.{entries_of, count_in, AreTakenFrom, TakesFront, IsWovenOn, BeginsIdle}

-- what follows of some list of steps
out_eq : {A : Type 0} (m n : ℕ) → ∥ A ∥₁ → (A → m ≡ n) → m ≡ n
out_eq m n some f = ∥∥₁_elim some (ℕ_set m n) f

out_list : {A : Type 0} (xs ys : List ℕ) → ∥ A ∥₁ → (A → xs ≡ ys) → xs ≡ ys
out_list xs ys some f = ∥∥₁_elim some (is_set ℕ_set xs ys) f

out_lt : {A : Type 0} (a b : ℕ) → ∥ A ∥₁ → (A → a < b) → a < b
out_lt a b some f =
    ⊎_elim (λ (h : a < b). h)
    (λ (past : b ≤ a). let no : ⊥ = ∥∥₁_elim some (λ x y. absurd x) (λ r. let below = f r in let no : ⊥ = omega (arith, below, past) in no) in absurd no)
    (cases_lt a b)

module _ (own : ℕ → ℕ) (w : ℕ) where
  -- an entry of the worker's is among its entries, and one of another is not
  pub own_here : (q : ℕ) (h : List ℕ) → own q ≡ w → of_worker own w (q ∷ h) ≡ q ∷ of_worker own w h
  own_here q h e = ap (λ b. cond b (q ∷ of_worker own w h) (of_worker own w h)) (eq-eqb (own q) w e)

  pub own_there : (q : ℕ) (h : List ℕ) → own q ≢ w → of_worker own w (q ∷ h) ≡ of_worker own w h
  own_there q h ne = ap (λ b. cond b (q ∷ of_worker own w h) (of_worker own w h)) (ne_eqb (own q) w ne)

  -- the first entry of a worker's log is one of its own
  first_own : (h : List ℕ) (p : ℕ) (rest : List ℕ) → of_worker own w h ≡ p ∷ rest → own p ≡ w
  first_own [] p rest e = absurd (cc e)
  first_own (q ∷ h) p rest e =
      ⊎_elim
      (λ (mine : own q ≡ w). let same : q ≡ p = cc (sym (own_here q h mine) ∙ e) in subst (λ x. own x ≡ w) same mine)
      (λ (other : own q ≢ w). first_own h p rest (sym (own_there q h other) ∙ e))
      (cases_eq (own q) w)

-- nothing is taken
pub none_from : (logs : List (List ℕ)) → AreTakenFrom logs logs []
none_from logs = record { many = refl; each = λ w below. refl }

-- some steps are taken, and then more
pub then_from : (logs mid later : List (List ℕ)) (xs ys : List ℕ) → AreTakenFrom logs mid xs → AreTakenFrom mid later ys → AreTakenFrom logs later (xs ++ ys)
then_from logs mid later xs ys first second =
    record {
      many = second.many ∙ first.many;
      each = λ w below.
          let own = λ (p : ℕ). p % length logs in
          let mine = of_worker own w xs in
          let next =
          subst (λ n. of_worker (λ p. p % n) w ys ++ slice_index_or later w [] ≡ slice_index_or mid w []) first.many
          (second.each w (subst (λ n. w < n) (sym first.many) below)) in
          ap (λ zs. zs ++ slice_index_or later w []) (filter-append (λ p. eqb (own p) w) xs ys)
          ∙ append_assoc mine (of_worker own w ys) (slice_index_or later w [])
          ∙ ap (λ zs. mine ++ zs) next
          ∙ first.each w below;
    }

-- the first entry of one log is taken
one_from : (logs : List (List ℕ)) (w p : ℕ) (rest : List ℕ) → slice_index_or logs w [] ≡ p ∷ rest → w < length logs → p % length logs ≡ w
    → AreTakenFrom logs (slice_set logs w rest) (p ∷ [])
one_from logs w p rest begins below mine =
    record {
      many = length-set logs w rest;
      each = λ v there.
          let own = λ (q : ℕ). q % length logs in
          ⊎_elim
          (λ (is : v ≡ w).
          subst (λ u. of_worker own u (p ∷ []) ++ slice_index_or (slice_set logs w rest) u [] ≡ slice_index_or logs u []) (sym is)
          (ap (λ xs. xs ++ slice_index_or (slice_set logs w rest) w []) (own_here own w p [] mine)
          ∙ ap (λ xs. p ∷ xs) (get_or-set_same logs w rest [] below)
          ∙ sym begins))
          (λ (ne : v ≢ w).
          ap (λ xs. xs ++ slice_index_or (slice_set logs w rest) v []) (own_there own v p [] (λ e. ne (sym e ∙ mine)))
          ∙ get_or-set_other logs w v rest [] ne)
          (cases_eq v w);
    }

-- where nothing is left, the steps are joined from the logs
pub is_joined : (logs later : List (List ℕ)) (steps : List ℕ) → AreTakenFrom logs later steps → 0 < length logs
    → ((w : ℕ) → slice_index_or later w [] ≡ []) → IsJoined steps logs
is_joined logs later steps from some spent =
    record {
      some_log = some;
      each = λ w below.
          let mine = of_worker (λ p. p % length logs) w steps in
          sym (append-nil mine) ∙ ap (λ xs. mine ++ xs) (sym (spent w)) ∙ from.each w below;
    }

-- how many entries are left, where one log is cut
pub fewer : (logs : List (List ℕ)) (w : ℕ) (rest : List ℕ) → w < length logs
    → count_in (slice_set logs w rest) + length (slice_index_or logs w []) ≡ count_in logs + length rest
fewer logs w rest below = sum_by-set (λ (log : List ℕ). length log) logs w rest [] below

-- an enabled processor has a local state
there_at : (set : ProgramSet) (p : ℕ) (o : Option Local) (wires : List (List ℕ)) → is_ready (machine_of set) p o wires ≡ true
    → (l : Local) × (o ≡ Some l)
there_at set p None wires e = absurd (cc e)
there_at set p (Some l) wires e = (l, refl)

enabled_there : (set : ProgramSet) (s : MachineState) (p : ℕ) → enabled set s p ≡ true → p < length s.locals
enabled_there set s p on =
    let at = there_at set p (slice_get s.locals p) s.wires on in
    slice_get_within s.locals p at.0 at.1

many_after : (set : ProgramSet) (s : MachineState) (p : ℕ) (o : Option Local) → length (step_from (machine_of set) s p o).locals ≡ length s.locals
many_after set s p None = refl
many_after set s p (Some l) = length-set s.locals p (row_at (machine_of set) p l s.wires).next

place_in : (b : Bool) (q : ℕ) (xs : List ℕ) (i p : ℕ) → slice_get (cond b (q ∷ xs) xs) i ≡ Some p → (q ≡ p) ⊎ ((j : ℕ) × (slice_get xs j ≡ Some p))
place_in true q xs zero p e = inl (cc e)
place_in true q xs (suc i) p e = inr (i, e)
place_in false q xs i p e = inr (i, e)

-- each entry of a lawful list is one of the processors that have a local state
lawful_there : (set : ProgramSet) (own : ℕ → ℕ) (w n : ℕ) (s : MachineState) (h : List ℕ) → length s.locals ≡ n → IsLawfulFrom set s h
    → (i p : ℕ) → slice_get (of_worker own w h) i ≡ Some p → p < n
lawful_there set own w n s [] all lawful i p e = absurd (cc e)
lawful_there set own w n s (q ∷ h) all lawful i p e =
    ⊎_elim
    (λ (is : q ≡ p). subst (λ k. k < n) is (subst (λ k. q < k) all (enabled_there set s q lawful.0)))
    (λ (at : (j : ℕ) × (slice_get (of_worker own w h) j ≡ Some p)).
    lawful_there set own w n (step set s q) h (many_after set s q (slice_get s.locals q) ∙ all) lawful.1 at.0 p at.1)
    (place_in (eqb (own q) w) q (of_worker own w h) i p e)

module _ (set : ProgramSet) where
  -- each entry of a log is of a processor that is there
  pub entry_there : (s : MachineState) (logs : List (List ℕ)) → HaveLawfulJoining set s logs → (w : ℕ) → w < length logs → (n : ℕ) → length s.locals ≡ n
      → (i p : ℕ) → slice_get (slice_index_or logs w []) i ≡ Some p → p < n
  entry_there s logs joining w below n all i p e =
      out_lt p n joining
      (λ (r : (steps : List ℕ) × IsLawfulJoining set s logs steps).
      lawful_there set (λ q. q % length logs) w n s r.0 all r.1.lawful i p (ap (λ xs. slice_get xs i) (r.1.joined.each w below) ∙ e))

  -- an enabled entry that comes first in its log may be taken
  abbrev pub MayBeTaken : Type 0
  MayBeTaken =
      (s : MachineState) (logs : List (List ℕ)) (w p : ℕ) (rest steps : List ℕ) → IsLawfulJoining set s logs steps → BeginsWith logs w p rest
      → enabled set s p ≡ true → (others : List ℕ) × IsLeft set s logs w p rest steps others

  -- what is so after a front of one log is taken
  pub record IsCut (s : MachineState) (logs : List (List ℕ)) (w : ℕ) (front rest : List ℕ) : Type 0 where
    pub joining : HaveLawfulJoining set (end_from set s front) (slice_set logs w rest)
    pub from : AreTakenFrom logs (slice_set logs w rest) front

  module _ (may : MayBeTaken) (w : ℕ) where
    pub cut : (front rest : List ℕ) (s : MachineState) (logs : List (List ℕ)) → HaveLawfulJoining set s logs → w < length logs
        → slice_index_or logs w [] ≡ front ++ rest → IsLawfulFrom set s front → IsCut s logs w front rest
    cut [] rest s logs joining below parts lawful =
        let same : slice_set logs w rest ≡ logs = ap (λ xs. slice_set logs w xs) (sym parts) ∙ set-get_or logs w [] in
        record {
          joining = subst (HaveLawfulJoining set s) (sym same) joining;
          from = subst (λ later. AreTakenFrom logs later []) (sym same) (none_from logs);
        }
    cut (p ∷ front) rest s logs joining below parts lawful =
        let behind = front ++ rest in
        let mid = slice_set logs w behind in
        let begins : BeginsWith logs w p behind = record { log = slice_get-get_or logs w [] below ∙ ap Some parts } in
        let left =
        ∥∥₁_map joining
        (λ (r : (steps : List ℕ) × IsLawfulJoining set s logs steps).
        let out = may s logs w p behind r.0 r.1 begins lawful.0 in (out.0, out.1.joining)) in
        let mine =
        out_eq (p % length logs) w joining
        (λ (r : (steps : List ℕ) × IsLawfulJoining set s logs steps).
        first_own (λ q. q % length logs) w r.0 p behind (r.1.joined.each w below ∙ parts)) in
        let next =
        cut front rest (step set s p) mid left (subst (λ n. w < n) (sym (length-set logs w behind)) below)
        (get_or-set_same logs w behind [] below) lawful.1 in
        let same : slice_set mid w rest ≡ slice_set logs w rest = set-set logs w behind rest in
        record {
          joining = subst (HaveLawfulJoining set (end_from set s (p ∷ front))) same next.joining;
          from =
              subst (λ later. AreTakenFrom logs later (p ∷ front)) same
              (then_from logs mid (slice_set mid w rest) (p ∷ []) front (one_from logs w p behind parts below mine) next.from);
        }

  -- some log goes on, where anything is left
  abbrev pub SomeGoesOn : Type 0
  SomeGoesOn =
      (s : MachineState) (logs : List (List ℕ)) (p : ℕ) (steps : List ℕ) → IsLawfulJoining set s logs (p ∷ steps)
      → (enabled set s p ≡ true) × ((w : ℕ) × (rest : List ℕ) × BeginsWith logs w p rest)

  -- where no log goes on, nothing is left
  pub all_spent : SomeGoesOn → ((logs : List (List ℕ)) (w : ℕ) → IsJoined [] logs → slice_index_or logs w [] ≡ [])
      → (s : MachineState) (logs : List (List ℕ)) → HaveLawfulJoining set s logs
      → ((w : ℕ) → w < length logs → BeginsIdle set s (slice_index_or logs w [])) → (w : ℕ) → slice_index_or logs w [] ≡ []
  all_spent goes_on spent s logs joining idle w =
      out_list (slice_index_or logs w []) [] joining (λ (r : (steps : List ℕ) × IsLawfulJoining set s logs steps). none_left r.0 r.1)
    where
      none_left : (steps : List ℕ) → IsLawfulJoining set s logs steps → slice_index_or logs w [] ≡ []
      none_left [] r = spent logs w r.joined
      none_left (p ∷ steps) r =
          let next = goes_on s logs p steps r in
          let v = next.1.0 in
          let log = next.1.2.log in
          let first = ap (λ xs. slice_get xs 0) (get_or_from_slice_get logs v (p ∷ next.1.1) [] log) in
          let off = idle v (slice_get_within logs v (p ∷ next.1.1) log) p first in
          let no : true ≡ false = sym next.0 ∙ off in
          absurd (cc no)

-- what is left of a list of processors, as its numbers
pub left_is : (list : List ProcId) (n : ℕ) → numbers (take (length list - n) (drop n list)) ≡ drop n (numbers list)
left_is list n = ap numbers (take_rest list n) ∙ drop_numbers n list
  where
    drop_numbers : (n : ℕ) (ps : List ProcId) → numbers (drop n ps) ≡ drop n (numbers ps)
    drop_numbers zero ps = refl
    drop_numbers (suc n) [] = refl
    drop_numbers (suc n) (p ∷ ps) = drop_numbers n ps

pub first_left : (n : ℕ) (xs : List ℕ) → slice_get (drop n xs) 0 ≡ slice_get xs n
first_left zero [] = refl
first_left zero (x ∷ xs) = refl
first_left (suc n) [] = refl
first_left (suc n) (x ∷ xs) = first_left n xs

-- where nothing was taken, the state is as it was
same_state : (old new : Running) → HasTaken old new [] → (p : ℕ) → enabled old.set old.state p ≡ enabled new.set new.state p
same_state old new did p = ap (λ s. enabled old.set s p) did.led.there ∙ ap (λ g. enabled g new.state p) (sym did.set)

-- a front of one log is taken, and the rest is left of it
module _ (old new : Running) (logs : List (List ℕ)) (w : ℕ) (log rest before after : List ℕ) (below : w < length logs)
    (at : slice_index_or logs w [] ≡ log) (did : TakesFront old new log rest before after) where
  pub room_then : length after + count_in (slice_set logs w rest) ≡ length before + count_in logs
  room_then =
      omega
      (arith, ap length did.woven, length-append before did.front, ap length (at ∙ did.parts), length-append did.front rest, fewer logs w rest below)

  module _ (may : MayBeTaken old.set) (joining : HaveLawfulJoining old.set old.state logs) where
    is_cut : IsCut old.set old.state logs w did.front rest
    is_cut = cut old.set may w did.front rest old.state logs joining below (at ∙ did.parts) did.taken.led.lawful

    pub joining_then : HaveLawfulJoining new.set new.state (slice_set logs w rest)
    joining_then =
        subst (λ g. HaveLawfulJoining g new.state (slice_set logs w rest)) (sym did.taken.set)
        (subst (λ s. HaveLawfulJoining old.set s (slice_set logs w rest)) did.taken.led.there is_cut.joining)

    pub on_then : IsWovenOn old new logs (slice_set logs w rest) before after
    on_then = record { more = did.front; list = did.woven; from = is_cut.from; count = room_then; taken = did.taken }

  pub idle_then : BeginsIdle new.set new.state rest → length after ≤ length before → BeginsIdle old.set old.state (slice_index_or logs w [])
  idle_then idle short = none did.front did.parts did.woven did.taken
    where
      none : (front : List ℕ) → log ≡ front ++ rest → after ≡ before ++ front → HasTaken old new front
          → BeginsIdle old.set old.state (slice_index_or logs w [])
      none [] parts woven taken = λ p e. same_state old new taken p ∙ idle p (ap (λ xs. slice_get xs 0) (sym (at ∙ parts)) ∙ e)
      none (x ∷ front) parts woven taken = absurd (omega (arith, ap length woven, length-append before (x ∷ front), short))

-- more is woven, and more again
pub on_more : ((a b d : Running) (xs ys : List ℕ) → HasTaken a b xs → HasTaken b d ys → HasTaken a d (xs ++ ys))
    → (old mid new : Running) (logs between later : List (List ℕ)) (before some after : List ℕ) → IsWovenOn old mid logs between before some
    → IsWovenOn mid new between later some after → IsWovenOn old new logs later before after
on_more both old mid new logs between later before some after first second =
    record {
      more = first.more ++ second.more;
      list = second.list ∙ ap (λ xs. xs ++ second.more) first.list ∙ append_assoc before first.more second.more;
      from = then_from logs between later first.more second.more first.from second.from;
      count = omega (arith, first.count, second.count);
      taken = both old mid new first.more second.more first.taken second.taken;
    }

pub on_longer : (old new : Running) (logs later : List (List ℕ)) (before after : List ℕ) → IsWovenOn old new logs later before after
    → length before ≤ length after
on_longer old new logs later before after on = omega (arith, ap length on.list, length-append before on.more)

-- where nothing more was woven, a log that did not go on still does not
pub still_idle : (old new : Running) (logs later : List (List ℕ)) (before after : Vec ProcId Global)
    → IsWovenOn old new logs later (numbers before.items) (numbers after.items) → vec_len after ≤ vec_len before → (v : ℕ) → v < length logs
    → BeginsIdle old.set old.state (slice_index_or logs v []) → BeginsIdle new.set new.state (slice_index_or later v [])
still_idle old new logs later before after on short v below idle = none on.more on.list on.from on.taken
  where
    none : (more : List ℕ) → numbers after.items ≡ numbers before.items ++ more → AreTakenFrom logs later more → HasTaken old new more
        → BeginsIdle new.set new.state (slice_index_or later v [])
    none [] list from taken = λ p e. sym (same_state old new taken p) ∙ idle p (ap (λ xs. slice_get xs 0) (sym (from.each v below)) ∙ e)
    none (x ∷ more) list from taken =
        absurd
        (omega (arith, ap length list, length-append (numbers before.items) (x ∷ more), length-map before.items (λ (p : ProcId). p.0), length-map after.items (λ (p : ProcId). p.0), before.ok.0, after.ok.0, short))

-- there is at least one log
pub some_log : (set : ProgramSet) (s : MachineState) (logs : List (List ℕ)) → HaveLawfulJoining set s logs → 0 < length logs
some_log set s logs joining = out_lt 0 (length logs) joining (λ (r : (steps : List ℕ) × IsLawfulJoining set s logs steps). r.1.joined.some_log)

-- nothing is woven
pub none_on : (m : Running) (logs : List (List ℕ)) (list : List ℕ) → HasTaken m m [] → IsWovenOn m m logs logs list list
none_on m logs list none = record { more = []; list = sym (append-nil list); from = none_from logs; count = refl; taken = none }

-- what is left of logs, as references to lists of processors
abbrev pub no_list : Bor (List ProcId)
no_list = record { ref_ptr = (0, 0); now = [] }

module _ (left : List (Bor (List ProcId))) (w : ℕ) (there : w < length left) where
  pub log_below : w < length (entries_of left)
  log_below = omega (arith, there, length-map left (λ list. numbers list.now))

  pub log_at : slice_index_or (entries_of left) w [] ≡ numbers (slice_index_or left w no_list).now
  log_at = get_or-map (λ list. numbers list.now) left w no_list [] there

  -- each of a log's processors is there
  pub log_there : (set : ProgramSet) (s : MachineState) → HaveLawfulJoining set s (entries_of left) → (n : ℕ) → length s.locals ≡ n
      → AreThere n (slice_index_or left w no_list).now
  log_there set s joining n all = λ i p e.
      entry_there set s (entries_of left) joining w log_below n all i p.0
      (ap (λ xs. slice_get xs i) log_at ∙ slice_get-map (λ (p : ProcId). p.0) (slice_index_or left w no_list).now i ∙ ap (option_map (λ (p : ProcId). p.0)) e)

-- the woven list grew no shorter
pub vec_longer : (old new : Running) (logs later : List (List ℕ)) (before after : Vec ProcId Global)
    → IsWovenOn old new logs later (numbers before.items) (numbers after.items) → vec_len before ≤ vec_len after
vec_longer old new logs later before after on =
    omega (arith, on_longer old new logs later (numbers before.items) (numbers after.items) on, length-map before.items (λ (p : ProcId). p.0), length-map after.items (λ (p : ProcId). p.0), before.ok.0, after.ok.0)

-- what is left comes to less by as much as the woven list grew
pub vec_count : (old new : Running) (logs later : List (List ℕ)) (before after : Vec ProcId Global)
    → IsWovenOn old new logs later (numbers before.items) (numbers after.items) → vec_len after + count_in later ≡ vec_len before + count_in logs
vec_count old new logs later before after on =
    omega (arith, on.count, length-map before.items (λ (p : ProcId). p.0), length-map after.items (λ (p : ProcId). p.0), before.ok.0, after.ok.0)
