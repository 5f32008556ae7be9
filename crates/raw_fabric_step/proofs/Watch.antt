-- What looks at the other sides of a row's ends show.
use Rattle.std.proofs.Common.{◌≡◌, ◌≢◌, ℕ, ◌+◌, ◌-◌, ◌%◌, ◌<◌, ◌≤◌, inl, inr, Bool, true, false, ltb, leb, List, length, get_or, refl, sym, ap, ◌∙◌, subst, ⊎_elim, arith, le_trans, eq-zero-or-pos}
use mathlib.Core.Logic.{dite}
use native.Mathlib.Decide.{ℕ_discrete}
use Rattle.std.proofs.lemmas.Bool.{cases_lt, lt-ltb, le-leb, ltb-true, ltb-false, leb-true, leb-false, and_from}
use Rattle.raw_network.specs.Network.{count_of}
use Rattle.raw_model.specs.Program.{ProgramSet, IsSet}
use Rattle.raw_model.specs.Local.{Local}
use Rattle.raw_model.specs.Machine.{takes, sends}
use Rattle.raw_fabric_rule.specs.Views.{About, Hold, View}
use Rattle.raw_fabric_rule.specs.ByEnds.{procs, wires, producer, producer_end, consumer, consumer_end, wire_at, wire, needs, gives, taken, put_on}
use Rattle.raw_fabric_rule.specs.Word.{field}
use Rattle.raw_fabric_rule.specs.Plays.{Rises, LookTells, other_side, newest, see}
use Rattle.raw_fabric_rule.proofs.Lists.{cond_same}
use Rattle.raw_fabric_rule.proofs.Nets.{is_net, taken_is, put_is, needed, given, no_needs, no_gives}
use Rattle.raw_fabric_rule.proofs.Looks.{seen_at, get_or-seen, input_side, output_side}
use Rattle.raw_fabric_step.specs.Units.{Placed, mine, IsLooked, Steady}
use Rattle.raw_fabric_step.specs.declared.looks.Unmet.{Unmet}
use Rattle.raw_fabric_step.specs.Posts.{other_end}
use Rattle.raw_fabric_step.specs.Asks.{asked_at}
use Rattle.raw_fabric_step.specs.Causes.{is_unmet, HasLooked, IsShown, IsShort, IsFull, HasLacked, IsUnmetAt, SawEnds, IsCause}
use Rattle.raw_fabric_step.proofs.Lacking.{lacking_waits}
use Rattle.raw_fabric_step.proofs.Mine.{unit_has}
use Rattle.raw_fabric_step.proofs.Steady.{no_look, look_more, looked_twice, placed_on}

-- an end that a row names has a wire, and another processor at its other side
pub record IsWired (set : ProgramSet) (p end : ℕ) : Type 0 where
  pub there : wire_at set p end < wires set
  pub other_in : other_side set p end < procs set
  pub other_is : other_side set p end ≢ p
  pub end_in : other_end set p end < 20

module _ (set : ProgramSet) (is : IsSet set) (p : ℕ) where
  pub wired_input : (e : ℕ) (l : Local) → 0 < count_of e (needs set p l) → (e < 10) × IsWired set p e
  wired_input e l pos =
      let g = needed set is p e l pos in let w = wire_at set p e in let n = is_net set is in let m = n.made w g.0 in
      let small : e < 10 = subst (λ z. z < 10) g.2 m.4 in
      let side = input_side {A = ℕ} e (producer set w) (consumer set w) small in
      let end = input_side {A = ℕ} e (producer_end set w) (consumer_end set w) small in
      (small, record { there = g.0; other_in = subst (λ z. z < procs set) (sym side) m.0; other_is = λ z. n.apart w g.0 (sym side ∙ z ∙ sym g.1); end_in = subst (λ z. z < 20) (sym end) m.2 })

  pub wired_output : (e : ℕ) (l : Local) → 0 < count_of e (gives set p l) → (10 ≤ e) × IsWired set p e
  wired_output e l pos =
      let g = given set is p e l pos in let w = wire_at set p e in let n = is_net set is in let m = n.made w g.0 in
      let big : 10 ≤ e = subst (λ z. 10 ≤ z) g.2 m.3 in let small = m.4 in
      let side = output_side {A = ℕ} e (producer set w) (consumer set w) big in
      let end = output_side {A = ℕ} e (producer_end set w) (consumer_end set w) big in
      (big, record { there = g.0; other_in = subst (λ z. z < procs set) (sym side) m.1; other_is = λ z. n.apart w g.0 (g.1 ∙ sym z ∙ side); end_in = subst (λ z. z < 20) (sym end) (omega arith) })

  pub wired_end : (e : ℕ) (l : Local) → 0 < asked_at set p l e → IsWired set p e
  wired_end e l pos = ⊎_elim (λ (none : count_of e (needs set p l) ≡ 0). (wired_output e l (omega arith)).1) (λ some. (wired_input e l some).1) (eq-zero-or-pos (count_of e (needs set p l)))

-- a look at the other side of an end: u is the unit before it, and z after
module _ (about : About) (is : IsSet about.set) (p : ℕ) (v : View) (u z : Hold) (end x : ℕ) (small : end < 20) (long : length u.seen ≡ 20) (unit : z ≡ see (other_side about.set p end) x about p u) (tells : LookTells about v p (other_side about.set p end) x u z) where
  abbrev n : ProgramSet
  n = about.set

  seen_new : get_or z.seen end 0 ≡ newest about.set p x end (get_or u.counts end 0)
  seen_new = let q : ℕ = other_side n p end in
      ap (λ (h : Hold). get_or h.seen end 0) unit ∙ get_or-seen n p q x u.counts 0 u.seen end (omega arith)
      ∙ ap (λ (k : ℕ). seen_at n p q x u.counts k (get_or u.seen end 0)) (let g : 0 + end ≡ end = omega arith in g)
      ∙ cond_same q q (newest n p x end (get_or u.counts end 0)) (get_or u.seen end 0) refl

  module _ (low : end < 10) where
    end_low : other_end about.set p end ≡ producer_end about.set (wire_at about.set p end)
    end_low = input_side {A = ℕ} end (producer_end n (wire_at n p end)) (consumer_end n (wire_at n p end)) low

    side_low : other_side about.set p end ≡ producer about.set (wire_at about.set p end)
    side_low = input_side {A = ℕ} end (producer n (wire_at n p end)) (consumer n (wire_at n p end)) low

    seen_low : get_or z.seen end 0 ≡ get_or u.counts end 0 + (field (other_end about.set p end) x + 8 - get_or u.counts end 0 % 8) % 8
    seen_low = let c : ℕ = get_or u.counts end 0 in seen_new
        ∙ input_side {A = ℕ} end (c + (field (producer_end n (wire_at n p end)) x + 8 - c % 8) % 8) (c - (c % 8 + 8 - field (consumer_end n (wire_at n p end)) x) % 8) low
        ∙ ap (λ f. c + (field f x + 8 - c % 8) % 8) (sym end_low)

    test_low : (asked : ℕ) → is_unmet about.set.depth end (get_or u.counts end 0 % 8) (field (other_end about.set p end) x) asked ≡ ltb ((field (other_end about.set p end) x + 8 - get_or u.counts end 0 % 8) % 8) asked
    test_low asked =
        let c : ℕ = get_or u.counts end 0 % 8 in
        let t : ℕ = field (other_end n p end) x in input_side {A = Bool} end (ltb ((t + 8 - c) % 8) asked) (leb n.depth ((c + 8 - t) % 8)) low

    shown_low : is_unmet about.set.depth end (get_or u.counts end 0 % 8) (field (other_end about.set p end) x) (count_of end (needs about.set p u.local)) ≡ false → IsShown about p end u z
    shown_low met = let m : ℕ = count_of end (needs n p u.local) in let d : ℕ = (field (other_end n p end) x + 8 - get_or u.counts end 0 % 8) % 8 in
        let enough : m ≤ d = ltb-false d m (sym (test_low m) ∙ met) in record {
          values = λ pos. let s = seen_low in omega arith;
          room = λ pos. let none = no_gives n is p end u.local low in absurd (omega arith);
        }

    -- what an input shows of its wire
    module _ (pos : 0 < count_of end (needs about.set p u.local)) where
      named : (wire_at about.set p end < wires about.set) × (consumer about.set (wire_at about.set p end) ≡ p) × (consumer_end about.set (wire_at about.set p end) ≡ end)
      named = needed n is p end u.local pos

      rises_low : get_or u.seen end 0 ≤ get_or z.seen end 0
      rises_low = subst (λ e. get_or u.seen e 0 ≤ get_or z.seen e 0) named.2 (tells.rises.sent (wire_at n p end) named.0 named.1)

      shows_low : get_or z.seen end 0 % 8 ≡ field (other_end about.set p end) x
      shows_low = ap (λ e. get_or z.seen e 0 % 8) (sym named.2) ∙ tells.word.sent (wire_at n p end) named.0 named.1 (sym side_low) ∙ ap (λ f. field f x) (sym end_low)

      short_low : is_unmet about.set.depth end (get_or u.counts end 0 % 8) (field (other_end about.set p end) x) (count_of end (needs about.set p u.local)) ≡ true → IsShort about p end x v u z
      short_low unmet =
          let m : ℕ = count_of end (needs n p u.local) in
          let d : ℕ = (field (other_end n p end) x + 8 - get_or u.counts end 0 % 8) % 8 in
          let few : d < m = ltb-true d m (sym (test_low m) ∙ unmet) in let s = seen_low in record {
            asked = pos;
            short = few;
            seen = omega arith;
            really = λ j pl. let o = mine v j in
                let exact : get_or z.seen end 0 ≡ get_or o.counts (other_end n p end) 0 =
                ap (λ e. get_or z.seen e 0) (sym named.2) ∙ tells.both.sent (wire_at n p end) o named.0 named.1 (sym side_low) (unit_has about v (other_side n p end) j pl) ∙ ap (λ f. get_or o.counts f 0) (sym end_low) in
                omega arith;
          }

      lacked_low : is_unmet about.set.depth end (get_or u.counts end 0 % 8) (field (other_end about.set p end) x) (count_of end (needs about.set p u.local)) ≡ true → HasLacked about p end v u.local
      unfolding taken
      lacked_low unmet =
          let w : ℕ = wire_at n p end in
          let there = tells.stood in
          let few = (short_low unmet).seen in
          let asked : count_of end (needs n p u.local) ≡ count_of w (takes n p u.local) =
          ap (λ e. count_of e (needs n p u.local)) (sym named.2) ∙ taken_is n is p u.local w (record { there = named.0; own = named.1 }) in
          let held : get_or z.seen end 0 ≡ get_or u.counts end 0 + length (wire there.stood.state w) =
          subst (λ e. get_or z.seen e 0 ≡ get_or u.counts e 0 + length (wire there.stood.state w)) named.2 (there.sent w named.0 named.1 (sym side_low)) in
          let lacks = lt-ltb (length (wire there.stood.state w)) (count_of w (takes n p u.local)) (omega (arith, few, asked, held)) in record {
            stood = there.stood;
            local_is = there.local_is;
            not_enabled = lacking_waits n there.stood.state p u.local w there.local_is (inl lacks);
            lacks = inl lacks;
          }

  module _ (high : 10 ≤ end) where
    end_high : other_end about.set p end ≡ consumer_end about.set (wire_at about.set p end)
    end_high = output_side {A = ℕ} end (producer_end n (wire_at n p end)) (consumer_end n (wire_at n p end)) high

    side_high : other_side about.set p end ≡ consumer about.set (wire_at about.set p end)
    side_high = output_side {A = ℕ} end (producer n (wire_at n p end)) (consumer n (wire_at n p end)) high

    seen_high : get_or z.seen end 0 ≡ get_or u.counts end 0 - (get_or u.counts end 0 % 8 + 8 - field (other_end about.set p end) x) % 8
    seen_high = let c : ℕ = get_or u.counts end 0 in seen_new
        ∙ output_side {A = ℕ} end (c + (field (producer_end n (wire_at n p end)) x + 8 - c % 8) % 8) (c - (c % 8 + 8 - field (consumer_end n (wire_at n p end)) x) % 8) high
        ∙ ap (λ f. c - (c % 8 + 8 - field f x) % 8) (sym end_high)

    test_high : (asked : ℕ) → is_unmet about.set.depth end (get_or u.counts end 0 % 8) (field (other_end about.set p end) x) asked ≡ leb about.set.depth ((get_or u.counts end 0 % 8 + 8 - field (other_end about.set p end) x) % 8)
    test_high asked =
        let c : ℕ = get_or u.counts end 0 % 8 in
        let t : ℕ = field (other_end n p end) x in output_side {A = Bool} end (ltb ((t + 8 - c) % 8) asked) (leb n.depth ((c + 8 - t) % 8)) high

    shown_high : (asked : ℕ) → is_unmet about.set.depth end (get_or u.counts end 0 % 8) (field (other_end about.set p end) x) asked ≡ false → IsShown about p end u z
    shown_high asked met = let d : ℕ = (get_or u.counts end 0 % 8 + 8 - field (other_end n p end) x) % 8 in
        let roomy : d < n.depth = leb-false n.depth d (sym (test_high asked) ∙ met) in record {
          values = λ pos. let none = no_needs n is p end u.local high in absurd (omega arith);
          room = λ pos. let s = seen_high in omega arith;
        }

    module _ (pos : 0 < count_of end (gives about.set p u.local)) where
      given_at : (wire_at about.set p end < wires about.set) × (producer about.set (wire_at about.set p end) ≡ p) × (producer_end about.set (wire_at about.set p end) ≡ end)
      given_at = given n is p end u.local pos

      rises_high : get_or u.seen end 0 ≤ get_or z.seen end 0
      rises_high = subst (λ e. get_or u.seen e 0 ≤ get_or z.seen e 0) given_at.2 (tells.rises.taken (wire_at n p end) given_at.0 given_at.1)

      shows_high : get_or z.seen end 0 % 8 ≡ field (other_end about.set p end) x
      shows_high = ap (λ e. get_or z.seen e 0 % 8) (sym given_at.2) ∙ tells.word.taken (wire_at n p end) given_at.0 given_at.1 (sym side_high) ∙ ap (λ f. field f x) (sym end_high)

      full_high : (asked : ℕ) → is_unmet about.set.depth end (get_or u.counts end 0 % 8) (field (other_end about.set p end) x) asked ≡ true → IsFull about p end x v u z
      full_high asked unmet = let d : ℕ = (get_or u.counts end 0 % 8 + 8 - field (other_end n p end) x) % 8 in
          let most : n.depth ≤ d = leb-true n.depth d (sym (test_high asked) ∙ unmet) in let s = seen_high in let w = shows_high in
          let full : get_or z.seen end 0 + n.depth ≤ get_or u.counts end 0 = behind (get_or u.counts end 0) (get_or z.seen end 0) (field (other_end n p end) x) n.depth s w most in record {
            asked = pos;
            full = most;
            seen = full;
            really = λ j pl. let o = mine v j in
                let exact : get_or z.seen end 0 ≡ get_or o.counts (other_end n p end) 0 =
                ap (λ e. get_or z.seen e 0) (sym given_at.2) ∙ tells.both.taken (wire_at n p end) o given_at.0 given_at.1 (sym side_high) (unit_has about v (other_side n p end) j pl) ∙ ap (λ f. get_or o.counts f 0) (sym end_high) in
                omega arith;
          }
        where
          behind : (c s t depth : ℕ) → s ≡ c - (c % 8 + 8 - t) % 8 → s % 8 ≡ t → depth ≤ (c % 8 + 8 - t) % 8 → s + depth ≤ c
          behind c s t depth is word most = omega arith

      lacked_high : (asked : ℕ) → is_unmet about.set.depth end (get_or u.counts end 0 % 8) (field (other_end about.set p end) x) asked ≡ true → HasLacked about p end v u.local
      unfolding put_on
      lacked_high asked unmet =
          let w : ℕ = wire_at n p end in
          let there = tells.stood in
          let full = (full_high asked unmet).seen in
          let named : count_of end (gives n p u.local) ≡ count_of w (sends n p u.local) =
          ap (λ e. count_of e (gives n p u.local)) (sym given_at.2) ∙ put_is n is p u.local w (record { there = given_at.0; own = given_at.1 }) in
          let held : get_or u.counts end 0 ≡ get_or z.seen end 0 + length (wire there.stood.state w) =
          subst (λ e. get_or u.counts e 0 ≡ get_or z.seen e 0 + length (wire there.stood.state w)) given_at.2 (there.taken w given_at.0 given_at.1 (sym side_high)) in
          let lacks = and_from (ltb 0 (count_of w (sends n p u.local))) (leb n.depth (length (wire there.stood.state w)))
          (lt-ltb 0 (count_of w (sends n p u.local)) (omega (arith, pos, named)))
          (le-leb n.depth (length (wire there.stood.state w)) (omega (arith, full, held))) in record {
            stood = there.stood;
            local_is = there.local_is;
            not_enabled = lacking_waits n there.stood.state p u.local w there.local_is (inr lacks);
            lacks = inr lacks;
          }

-- both kinds of end together, with the numbers that the code compares
module _ (about : About) (is : IsSet about.set) (p : ℕ) (v w : View) (u z : Hold) (end x : ℕ) (small : end < 20) (long : length u.seen ≡ 20) (unit : z ≡ see (other_side about.set p end) x about p u) (tells : LookTells about v p (other_side about.set p end) x u z)
    (asked : ℕ) (asks : asked ≡ asked_at about.set p u.local end) (pos : 0 < asked) where
  pub look_kept : IsLooked about p u z
  look_kept = subst (IsLooked about p u) (sym unit) (look_more about p (other_side about.set p end) x u u (no_look about p u) (subst (Rises about p u) unit tells.rises))

  low_asks : end < 10 → asked ≡ count_of end (needs about.set p u.local)
  low_asks low = let none = no_gives about.set is p end u.local low in omega arith

  high_asks : 10 ≤ end → asked ≡ count_of end (gives about.set p u.local)
  high_asks high = let none = no_needs about.set is p end u.local high in omega arith

  pub look_shown : is_unmet about.set.depth end (get_or u.counts end 0 % 8) (field (other_end about.set p end) x) asked ≡ false → IsShown about p end u z
  look_shown met = ⊎_elim
      (λ low. shown_low about is p v u z end x small long unit tells low (subst (λ a. is_unmet about.set.depth end (get_or u.counts end 0 % 8) (field (other_end about.set p end) x) a ≡ false) (low_asks low) met))
      (λ high. shown_high about is p v u z end x small long unit tells high asked met)
      (cases_lt end 10)

  pub look_unmet : (wire : ℕ) → wire ≡ wire_at about.set p end
      → is_unmet about.set.depth end (get_or u.counts end 0 % 8) (field (other_end about.set p end) x) asked ≡ true
      → HasLooked (other_side about.set p end) x v w → IsUnmetAt about p end (record { wire = wire; seen = x }) v w u z
  look_unmet wire wire_is unmet noted =
      ⊎_elim
      (λ low.
      let some : 0 < count_of end (needs about.set p u.local) = subst (λ a. 0 < a) (low_asks low) pos in
      let test = subst (λ a. is_unmet about.set.depth end (get_or u.counts end 0 % 8) (field (other_end about.set p end) x) a ≡ true) (low_asks low) unmet in
      record {
        wire_is = wire_is;
        noted = noted;
        rises = rises_low about is p v u z end x small long unit tells low some;
        shows = shows_low about is p v u z end x small long unit tells low some;
        unmet = inl (short_low about is p v u z end x small long unit tells low some test);
        lacked = lacked_low about is p v u z end x small long unit tells low some test;
      })
      (λ high.
      let some : 0 < count_of end (gives about.set p u.local) = subst (λ a. 0 < a) (high_asks high) pos in
      record {
        wire_is = wire_is;
        noted = noted;
        rises = rises_high about is p v u z end x small long unit tells high some;
        shows = shows_high about is p v u z end x small long unit tells high some;
        unmet = inr (full_high about is p v u z end x small long unit tells high some asked unmet);
        lacked = lacked_high about is p v u z end x small long unit tells high some asked unmet;
      })
      (cases_lt end 10)

-- ---- from one end to the next
same_shown : (about : About) (p d : ℕ) (u z y : Hold) → IsLooked about p u z → IsShown about p d z y → IsShown about p d u y
same_shown about p d u z y l h = record {
  values = λ pos. subst (λ (q : Local × List ℕ). 0 < count_of d (needs about.set p q.0) → get_or q.1 d 0 + count_of d (needs about.set p q.0) ≤ get_or y.seen d 0) (λ i. (l.local_same i, l.counts_same i)) h.values pos;
  room = λ pos. subst (λ (q : Local × List ℕ). 0 < count_of d (gives about.set p q.0) → get_or q.1 d 0 < get_or y.seen d 0 + about.set.depth) (λ i. (l.local_same i, l.counts_same i)) h.room pos;
}

-- later looks keep what was shown
kept_shown : (about : About) (is : IsSet about.set) (p d : ℕ) (u z y : Hold) → IsLooked about p z y → IsShown about p d u z → IsShown about p d u y
kept_shown about is p d u z y l h = record {
  values = λ pos. let g = needed about.set is p d u.local pos in
      let up : get_or z.seen d 0 ≤ get_or y.seen d 0 = subst (λ e. get_or z.seen e 0 ≤ get_or y.seen e 0) g.2 (l.rises.sent (wire_at about.set p d) g.0 g.1) in
      let old = h.values pos in omega arith;
  room = λ pos. let g = given about.set is p d u.local pos in
      let up : get_or z.seen d 0 ≤ get_or y.seen d 0 = subst (λ e. get_or z.seen e 0 ≤ get_or y.seen e 0) g.2 (l.rises.taken (wire_at about.set p d) g.0 g.1) in
      let old = h.room pos in omega arith;
}

pub saw_more : (about : About) (is : IsSet about.set) (p j : ℕ) (u z y : Hold) → SawEnds about p j u z → IsLooked about p z y → IsShown about p j z y → SawEnds about p (j + 1) u y
saw_more about is p j u z y s l h = record {
  looked = looked_twice about p u z y s.looked l;
  shown = λ d lt. dite (ℕ_discrete d j)
      (λ same. subst (λ k. IsShown about p k u y) (sym same) (same_shown about p j u z y s.looked h))
      (λ other. kept_shown about is p d u z y l (s.shown d (omega arith)));
}

-- nothing is asked at the ends up to a later one
pub saw_on : (about : About) (p j k : ℕ) (u z : Hold) → SawEnds about p j u z
    → ((d : ℕ) → j ≤ d → d < k → asked_at about.set p u.local d ≡ 0) → SawEnds about p k u z
saw_on about p j k u z s none = record {
  looked = s.looked;
  shown = λ d lt. ⊎_elim
      (s.shown d)
      (λ late. let zero_at = none d late lt in record { values = λ pos. absurd (omega arith); room = λ pos. absurd (omega arith) })
      (cases_lt d j);
}

-- the exact counts of another processor of the pass are as before the call
module _ (about : About) (p : ℕ) (v v1 : View) (st : Steady about p v v1) (q : ℕ) (ne : q ≢ p) where
  counts_there : (j : ℕ) → Placed about v q j → (mine v1 j).counts ≡ (mine v j).counts
  counts_there j pl = (st.others q j ne pl).counts_same

pub cause_of : (about : About) (is : IsSet about.set) (p end : ℕ) (r : Unmet) (v v1 w : View) (u z y : Hold) → IsWired about.set p end
    → Steady about p v v1 → SawEnds about p end u z → IsLooked about p z y → IsUnmetAt about p end r v1 w z y → IsCause about p r v w u y
cause_of about is p end r v v1 w u z y wired st s kept h = record {
  end = end;
  wire_is = h.wire_is;
  looks = let a = h.noted.looks in let b = st.looks_rise in omega arith;
  look_at = h.noted.look_at;
  look_word = h.noted.look_word;
  rises = let up = h.rises in le_trans first up;
  shows = h.shows;
  unmet = ⊎_elim (λ a. inl (short a)) (λ a. inr (full a)) h.unmet;
  before = λ d lt. kept_shown about is p d u z y kept (s.shown d lt);
  last = v1;
  until = st;
  at_last = h.noted;
  lacked = subst (HasLacked about p end v1) s.looked.local_same h.lacked;
}
  where
    x : ℕ
    x = r.seen

    same : ◌≡◌ {A = Local × List ℕ} (z.local, z.counts) (u.local, u.counts)
    same = λ i. (s.looked.local_same i, s.looked.counts_same i)

    there : (j : ℕ) (pl : Placed about v (other_side about.set p end) j) → get_or (mine v1 j).counts (other_end about.set p end) 0 ≡ get_or (mine v j).counts (other_end about.set p end) 0
    there j pl = ap (λ (c : List ℕ). get_or c (other_end about.set p end) 0) (counts_there about p v v1 st (other_side about.set p end) wired.other_is j pl)

    short : IsShort about p end x v1 z y → IsShort about p end x v u y
    short a = record {
      asked = subst (λ (k : Local × List ℕ). 0 < count_of end (needs about.set p k.0)) same a.asked;
      short = subst (λ (k : Local × List ℕ). (field (other_end about.set p end) x + 8 - get_or k.1 end 0 % 8) % 8 < count_of end (needs about.set p k.0)) same a.short;
      seen = subst (λ (k : Local × List ℕ). get_or y.seen end 0 < get_or k.1 end 0 + count_of end (needs about.set p k.0)) same a.seen;
      really = λ j pl. subst (λ (k : Local × List ℕ). get_or (mine v j).counts (other_end about.set p end) 0 < get_or k.1 end 0 + count_of end (needs about.set p k.0)) same
          (subst (λ m. m < get_or z.counts end 0 + count_of end (needs about.set p z.local)) (there j pl) (a.really j (placed_on about v v1 (other_side about.set p end) j st.sits pl)));
    }

    full : IsFull about p end x v1 z y → IsFull about p end x v u y
    full a = record {
      asked = subst (λ (k : Local × List ℕ). 0 < count_of end (gives about.set p k.0)) same a.asked;
      full = subst (λ (k : Local × List ℕ). about.set.depth ≤ (get_or k.1 end 0 % 8 + 8 - field (other_end about.set p end) x) % 8) same a.full;
      seen = subst (λ (k : Local × List ℕ). get_or y.seen end 0 + about.set.depth ≤ get_or k.1 end 0) same a.seen;
      really = λ j pl. subst (λ (k : Local × List ℕ). get_or (mine v j).counts (other_end about.set p end) 0 + about.set.depth ≤ get_or k.1 end 0) same
          (subst (λ m. m + about.set.depth ≤ get_or z.counts end 0) (there j pl) (a.really j (placed_on about v v1 (other_side about.set p end) j st.sits pl)));
    }

    first : get_or u.seen end 0 ≤ get_or z.seen end 0
    first = ⊎_elim
        (λ a. let g = needed about.set is p end z.local a.asked in subst (λ e. get_or u.seen e 0 ≤ get_or z.seen e 0) g.2 (s.looked.rises.sent (wire_at about.set p end) g.0 g.1))
        (λ a. let g = given about.set is p end z.local a.asked in subst (λ e. get_or u.seen e 0 ≤ get_or z.seen e 0) g.2 (s.looked.rises.taken (wire_at about.set p end) g.0 g.1))
        h.unmet
