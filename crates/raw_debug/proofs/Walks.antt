-- A machine that is taken through the serial order.
use Rattle.std.proofs.Common.{◌≡◌, ℕ, ◌+◌, ◌-◌, ◌*◌, ◌<◌, ◌≤◌, true, false, Some, None, List, [], ◌∷◌, ◌++◌, length, take, drop, refl, sym, ap, ◌∙◌, subst, ⊎_elim, arith, append-nil, append_assoc, length-append, take_all}
use Rattle.std.specs.Prelude.{◌^◌, slice_get, IsSomeAnd, if◌then◌else◌}
use Rattle.std.proofs.Math.Nat.{mul-le-mul_left}
use Rattle.std.proofs.Math.Seq.{take-append_seam}
use Rattle.std.proofs.lemmas.Bool.{cases_eq, le-leb, lt-leb}
use Rattle.std.proofs.lemmas.List.{take-append-drop, take-take}
use Rattle.raw_network.specs.Network.{count_of}
use Rattle.raw_network.proofs.Wires.{count_here, count_there}
use Rattle.raw_grid.specs.Topology.{tile_count, proc_count}
use Rattle.raw_model.specs.Program.{ProgramSet, IsSet}
use Rattle.raw_model.specs.Local.{steps_of}
use Rattle.raw_model.specs.Start.{MachineState, Fits}
use Rattle.raw_model.specs.Rest.{enabled, step, end, IsLawful, IsQuiet, IsRun}
use Rattle.raw_model.specs.Bounds.{all_words, all_capacities, most_steps}
use Rattle.raw_model.specs.Serial.{serial}
use Rattle.raw_model.proofs.Counts.{count-append}
use Rattle.raw_serial.proofs.Leading.{quiet_is}
use Rattle.raw_debug.specs.declared.walk.Walk.{Walk}
use Rattle.raw_debug.specs.Walking.{up_to, state_after, count_at, moment_of, NoneElse, IsAt, AtDone, HasDone, IsUnderWay, IsFresh, HasStepped, HasPassed, HasGone, HasGoneOn, HasEnded, PassesStopped}
use Rattle.raw_debug.proofs.UpTo.{up_to_all, up_to_more, up_to_front}
use Rattle.raw_debug.proofs.Counting.{count_is}
use Rattle.raw_debug.proofs.Standing.{passes_stepped, passes_passed}
use Rattle.raw_debug.proofs.Sweeping.{swept, stepped, begins, at_rest, fresh_at}

-- the same place, said of another machine's set, state and turn
pub moved_at : (set other : ProgramSet) (s t : MachineState) (next later : ℕ) (done : List ℕ) → other ≡ set → t ≡ s → later ≡ next
    → IsAt set s next done → IsAt other t later done
moved_at set other s t next later done set_is state_is next_is at =
    subst (λ g. IsAt g t later done) (sym set_is)
    (subst (λ u. IsAt set u later done) (sym state_is) (subst (λ n. IsAt set s n done) (sym next_is) at))

-- a machine that starts has done nothing
pub fresh_done : (of : ProgramSet) (walk : Walk) → IsFresh of walk → HasDone walk []
fresh_done of walk fresh = record {
  at = record {
    place = moved_at of walk.machine.set walk.machine.state walk.machine.state walk.next walk.next [] fresh.set refl refl
        (fresh_at of walk.machine.state walk.next fresh.state fresh.next);
    passing = subst (λ g. PassesStopped g walk.machine.state walk.passing.ends) (sym fresh.set) fresh.passing;
    alone = λ on. absurd (cc (sym fresh.alone ∙ on));
  };
  many = fresh.moment;
}

module _ (old new : Walk) (same : new.machine.set ≡ old.machine.set) where
  stepped_there : (p : ℕ) → HasStepped old new p → (done : List ℕ) → IsAt old.machine.set old.machine.state old.next done
      → IsAt new.machine.set new.machine.state new.next (done ++ p ∷ [])
  stepped_there p by done at =
      moved_at old.machine.set new.machine.set (step old.machine.set old.machine.state p) new.machine.state (p + 1) new.next (done ++ p ∷ []) same by.stepped by.next
      (stepped old.machine.set old.machine.state old.next done at p by.from by.there by.before by.ready)

  pub stepped_on : (p : ℕ) → HasStepped old new p → new.alone ≡ false → (done : List ℕ) → AtDone old done → HasGone old new p done
  stepped_on p by off done at = record {
    at = record {
      place = stepped_there p by done at.place;
      passing = passes_stepped old new same at.passing p by;
      alone = λ on. absurd (cc (sym off ∙ on));
    };
    ready = by.ready;
    stepped = by.stepped;
  }

  passed_there : HasPassed old new → (done : List ℕ) → IsAt old.machine.set old.machine.state old.next done
      → IsAt new.machine.set new.machine.state new.next done
  passed_there by done at =
      moved_at old.machine.set new.machine.set old.machine.state new.machine.state 0 new.next done same by.stays by.next
      (swept old.machine.set old.machine.state old.next done at by.none)

  -- where the turn was that of processor 0, no processor is enabled
  pub none_left : HasPassed old new → old.next ≡ 0 → Fits old.machine.set old.machine.state → IsQuiet new.machine.set new.machine.state
  none_left by first fits =
      subst (λ g. IsQuiet g new.machine.state) (sym same)
      (subst (IsQuiet old.machine.set) (sym by.stays)
      (quiet_is old.machine.set old.machine.state (proc_count old.machine.set.topo) fits.processors (λ q below. by.none q (omega (arith, first)) below)))

  -- what it has done with the step
  pub gone_done : (p : ℕ) (done : List ℕ) → HasGone old new p done → new.moment ≡ old.moment + 1 → HasDone old done → HasDone new (done ++ p ∷ [])
  gone_done p done gone one has = record { at = gone.at; many = let parts = length-append done (p ∷ []) in omega (arith, one, has.many, parts) }

  pub rests_done : (done : List ℕ) → AtDone new done → new.moment ≡ old.moment → HasDone old done → HasDone new done
  rests_done done at same_moment has = record { at = at; many = same_moment ∙ has.many }

-- where there is no next step it stays under way
pub rests_on : (old new : Walk) → new.machine.set ≡ old.machine.set → IsUnderWay old
    → ((done : List ℕ) → AtDone old done → AtDone new done × IsQuiet new.machine.set new.machine.state) → new.moment ≡ old.moment → IsUnderWay new
rests_on old new same way rests stays = (way.0, rests_done old new same way.0 (rests way.0 way.1.at).0 stays way.1)

module _ (old mid new : Walk) (first : mid.machine.set ≡ old.machine.set) (second : new.machine.set ≡ mid.machine.set) (passed : HasPassed old mid) where
  -- a step in the sweep after this one
  pub stepped_later : (p : ℕ) → HasStepped mid new p → (new.alone ≡ true → NoneElse new.machine.set new.machine.state new.next) → (done : List ℕ)
      → AtDone old done → HasGone old new p done
  stepped_later p by alone done at = record {
    at = record {
      place = stepped_there mid new second p by done (passed_there old mid first passed done at.place);
      passing = passes_stepped mid new second (passes_passed old mid first at.passing passed) p by;
      alone = alone;
    };
    ready = subst (λ g. enabled g old.machine.state p ≡ true) first (subst (λ s. enabled mid.machine.set s p ≡ true) passed.stays by.ready);
    stepped = by.stepped ∙ ap (λ s. step mid.machine.set s p) passed.stays ∙ ap (λ g. step g old.machine.state p) first;
  }

  -- no step in it either
  pub rests_later : HasPassed mid new → new.alone ≡ false → Fits old.machine.set old.machine.state → (done : List ℕ) → AtDone old done
      → AtDone new done × IsQuiet new.machine.set new.machine.state
  rests_later by off fits done at =
      let fits_mid = subst (λ g. Fits g mid.machine.state) (sym first) (subst (Fits old.machine.set) (sym passed.stays) fits) in (
        record {
          place = passed_there mid new second by done (passed_there old mid first passed done at.place);
          passing = passes_passed mid new second (passes_passed old mid first at.passing passed) by;
          alone = λ on. absurd (cc (sym off ∙ on));
        },
        none_left mid new second by passed.next fits_mid,
      )

-- A machine that has taken these steps: the serial order begins with them, and its moment is their number.
module _ (walk : Walk) (valid : IsSet walk.machine.set) (done : List ℕ) (has : HasDone walk done) where
  pub rest_of : (rest : List ℕ) × (serial walk.machine.set ≡ done ++ rest)
  rest_of = begins walk.machine.set walk.machine.state walk.next done has.at.place valid

  pub front_is : take walk.moment (serial walk.machine.set) ≡ done
  front_is =
      let (rest, is) = rest_of in
      ap (λ n. take n (serial walk.machine.set)) has.many ∙ ap (take (length done)) is ∙ take-append_seam done rest

  pub state_is : walk.machine.state ≡ state_after walk.machine.set walk.moment
  unfolding state_after
  state_is = sym (ap (end walk.machine.set) front_is ∙ has.at.place.there)

  pub moment_within : walk.moment ≤ length (serial walk.machine.set)
  moment_within =
      let (rest, is) = rest_of in
      let whole = ap length is in
      let parts = length-append done rest in
      omega (arith, has.many, whole, parts)

  pub moment_at_rest : IsQuiet walk.machine.set walk.machine.state → walk.moment ≡ length (serial walk.machine.set)
  moment_at_rest quiet = has.many ∙ ap length (at_rest walk.machine.set walk.machine.state walk.next done has.at.place valid quiet)

  pub count_in : (p n : ℕ) → p < proc_count walk.machine.set.topo → IsSomeAnd (slice_get walk.machine.state.locals p) (λ l. n ≡ steps_of l)
      → n ≡ count_of p done
  count_in p n within is = count_is walk.machine.set valid done walk.machine.state p n has.at.place.there within is

  pub count_now : (p n : ℕ) → p < proc_count walk.machine.set.topo → IsSomeAnd (slice_get walk.machine.state.locals p) (λ l. n ≡ steps_of l)
      → n ≡ count_at walk.machine.set p walk.moment
  count_now p n within is = count_in p n within is ∙ ap (count_of p) (sym front_is)

-- one entry counts once at most
one_counts : (p q : ℕ) → count_of p (q ∷ []) ≤ 1
one_counts p q =
    ⊎_elim
    (λ (e : q ≡ p). subst (λ r. count_of p (r ∷ []) ≤ 1) (sym e) (let a = count_here p [] in omega (arith, a)))
    (λ (ne : q ≡ p → ⊥). let a = count_there p q [] ne in omega (arith, a))
    (cases_eq q p)

-- what a machine has done does not go beyond the k-th step of processor p
pub record IsToward (p k : ℕ) (done : List ℕ) : Type 0 where
  pub up : up_to p k done ≡ done
  pub few : count_of p done ≤ k

pub toward_start : (p k : ℕ) → IsToward p k []
toward_start p k = record { up = refl; few = omega arith }

pub toward_here : (p k : ℕ) (done : List ℕ) → count_of p done < k → IsToward p k done
toward_here p k done less = record { up = up_to_all p k done less; few = omega (arith, less) }

pub toward_more : (p k q : ℕ) (done : List ℕ) → count_of p done < k → IsToward p k (done ++ q ∷ [])
toward_more p k q done less = record {
  up = up_to_more p k q done less;
  few = let a = count-append p done (q ∷ []) in let b = one_counts p q in omega (arith, less, a, b);
}

-- further steps, of which there are few
toward_far : (p k : ℕ) (done more : List ℕ) → IsToward p k done → count_of p done + length more ≤ k → IsToward p k (done ++ more)
toward_far p k done [] is few = subst (IsToward p k) (sym (append-nil done)) is
toward_far p k done (q ∷ more) is few =
    let parts = count-append p done (q ∷ []) in
    let one = one_counts p q in
    subst (IsToward p k) (append_assoc done (q ∷ []) more)
    (toward_far p k (done ++ q ∷ []) more (toward_more p k q done (omega (arith, few))) (omega (arith, few, parts, one)))

-- what a machine has done later begins with what it had done
done_more : (walk new : Walk) → IsSet walk.machine.set → new.machine.set ≡ walk.machine.set → (done later : List ℕ) → HasDone walk done → HasDone new later
    → walk.moment ≤ new.moment → done ++ drop (length done) later ≡ later
done_more walk new valid same done later has more le =
    let all = serial walk.machine.set in
    let whole : later ≡ take new.moment all = sym (front_is new (subst IsSet (sym same) valid) later more) ∙ ap (λ g. take new.moment (serial g)) same in
    let first : take (length done) later ≡ done =
    ap (take (length done)) whole ∙ ap (λ n. take n (take new.moment all)) (sym has.many) ∙ take-take walk.moment new.moment all le
    ∙ front_is walk valid done has in
    ap (λ xs. xs ++ drop (length done) later) (sym first) ∙ take-append-drop (length done) later

module _ (walk : Walk) (valid : IsSet walk.machine.set) (done : List ℕ) (has : HasDone walk done) (p k : ℕ) where
  -- at the k-th step it is at the moment of that step
  pub arrived : IsToward p k done → k ≤ count_of p done → moment_of walk.machine.set p k ≡ Some walk.moment
  unfolding moment_of
  arrived toward many =
      let set = walk.machine.set in
      let (rest, is) = rest_of walk valid done has in
      let count : count_of p done ≡ k = omega (arith, toward.few, many) in
      let all = ap (count_of p) is ∙ count-append p done rest in
      let up = ap length (ap (up_to p k) is ∙ up_to_front p k done rest toward.up count) ∙ sym has.many in
      ap (λ b. if b then Some (length (up_to p k (serial set))) else None) (le-leb k (count_of p (serial set)) (omega (arith, many, all)))
      ∙ ap Some up

  -- at the end of the serial order before it, there is none
  pub never : walk.moment ≡ length (serial walk.machine.set) → count_of p done < k → moment_of walk.machine.set p k ≡ None
  unfolding moment_of
  never end less =
      let set = walk.machine.set in
      let all : serial set ≡ done = sym (take_all walk.moment (serial set) (omega (arith, end))) ∙ front_is walk valid done has in
      let whole = ap (count_of p) all in
      ap (λ b. if b then Some (length (up_to p k (serial set))) else None) (lt-leb k (count_of p (serial set)) (omega (arith, less, whole)))

-- on the way to the k-th step of processor p, or there
pub record GoesTo (of : ProgramSet) (p k : ℕ) (walk : Walk) : Type 0 where
  pub same : walk.machine.set ≡ of
  pub toward : (done : List ℕ) × HasDone walk done × IsToward p k done

pub goes_from_start : (of : ProgramSet) (p k : ℕ) (walk : Walk) → IsFresh of walk → GoesTo of p k walk
goes_from_start of p k walk fresh = record { same = fresh.set; toward = ([], fresh_done of walk fresh, toward_start p k) }

pub goes_from_here : (p k n : ℕ) (walk : Walk) → IsSet walk.machine.set → p < proc_count walk.machine.set.topo
    → IsSomeAnd (slice_get walk.machine.state.locals p) (λ l. n ≡ steps_of l) → n < k → IsUnderWay walk → GoesTo walk.machine.set p k walk
goes_from_here p k n walk valid within is less way =
    let count = count_in walk valid way.0 way.1 p n within is in
    record { same = refl; toward = (way.0, way.1, toward_here p k way.0 (omega (arith, less, count))) }

module _ (of : ProgramSet) (valid : IsSet of) (p k : ℕ) (within : p < proc_count of.topo) (walk : Walk) (goes : GoesTo of p k walk)
    (n : ℕ) (is : IsSomeAnd (slice_get walk.machine.state.locals p) (λ l. n ≡ steps_of l)) where
  own_valid : IsSet walk.machine.set
  own_valid = subst IsSet (sym goes.same) valid

  count_done : n ≡ count_of p goes.toward.0
  count_done =
      count_in walk own_valid goes.toward.0 goes.toward.1 p n (subst (λ (g : ProgramSet). p < proc_count g.topo) (sym goes.same) within) is

  -- there
  pub goes_there : k ≤ n → moment_of of p k ≡ Some walk.moment
  goes_there many =
      let count = count_done in
      subst (λ g. moment_of g p k ≡ Some walk.moment) goes.same
      (arrived walk own_valid goes.toward.0 goes.toward.1 p k goes.toward.2 (omega (arith, many, count)))

  module _ (new : Walk) (same : new.machine.set ≡ walk.machine.set) (less : n < k) where
    -- further on, by few steps
    pub goes_on : (moment : ℕ) → moment ≤ walk.moment + (k - n) → walk.moment < moment → HasGoneOn walk new moment → GoesTo of p k new
    goes_on moment few more gone =
        let count = count_done in
        let done = goes.toward.0 in
        let later = gone.under_way.0 in
        let rest = drop (length done) later in
        let parts = done_more walk new own_valid same done later goes.toward.1 gone.under_way.1 (omega (arith, gone.later)) in
        let long = ap length parts in
        let both = length-append done rest in
        let upto = gone.upto more in
        record {
          same = same ∙ goes.same;
          toward = (
            later,
            gone.under_way.1,
            subst (IsToward p k) parts (toward_far p k done rest goes.toward.2
                (omega (arith, count, less, few, upto, long, both, goes.toward.1.many, gone.under_way.1.many))),
          );
        }

    -- the end before it
    pub goes_nowhere : HasEnded walk new → moment_of of p k ≡ None
    goes_nowhere ended =
        let count = count_done in
        subst (λ g. moment_of g p k ≡ None) goes.same
        (never walk own_valid goes.toward.0 goes.toward.1 p k (omega (arith, ended.moment, ended.end)) (omega (arith, less, count)))

-- there is room for the count of one step more
pub counts_fit : (walk : Walk) → IsSet walk.machine.set → ((set : ProgramSet) → IsSet set → IsRun set (serial set))
    → ((set : ProgramSet) (h : List ℕ) → IsSet set → IsLawful set h → length h ≤ most_steps set) → (way : IsUnderWay walk) → walk.moment + 1 < 2 ^ 64
unfolding most_steps
counts_fit walk valid run most way =
    let set = walk.machine.set in
    let within = moment_within walk valid way.0 way.1 in
    let long = most set (serial set) valid (run set valid).lawful in
    let cols : set.topo.cols ≤ 8 = valid.topology.size.most_cols in
    let rows : set.topo.rows ≤ 8 = valid.topology.size.most_rows in
    let limit : set.limit ≤ 10000000 = valid.few_steps in
    let tiles : set.topo.cols * set.topo.rows ≤ set.topo.cols * 8 = mul-le-mul_left set.topo.cols rows in
    let steps : 2 * tile_count set.topo * set.limit ≤ 2 * tile_count set.topo * 10000000 = mul-le-mul_left (2 * tile_count set.topo) limit in
    let words : all_words set ≤ 262144 = valid.totals.words in
    let capacities : all_capacities set ≤ 4000000 = valid.totals.capacities in
    omega (arith, within, long, cols, tiles, steps, words, capacities)

-- a machine that has not yet come to a moment of the serial order does not rest
pub not_at_rest : (of : ProgramSet) (walk new : Walk) → walk.machine.set ≡ of → IsSet walk.machine.set → (way : IsUnderWay walk) → new.machine.set ≡ walk.machine.set
    → ((done : List ℕ) → AtDone walk done → AtDone new done × IsQuiet new.machine.set new.machine.state) → new.moment ≡ walk.moment
    → (moment : ℕ) → moment ≤ length (serial of) → walk.moment < moment → ⊥
not_at_rest of walk new is valid way same rests stays moment within less =
    let rest = rests way.0 way.1.at in
    let has = rests_done walk new same way.0 rest.0 stays way.1 in
    let end = moment_at_rest new (subst IsSet (sym same) valid) way.0 has rest.1 in
    let long = ap (λ g. length (serial g)) (same ∙ is) in
    omega (arith, less, stays, end, long, within)
