-- Pairs of operands and of values sent.
use Rattle.std.proofs.Common.{◌≡◌, ℕ, ◌+◌, ◌^◌, ◌<◌, ◌≤◌, cond, eqb, Bool, true, false, List, [], ◌∷◌, ◌++◌, map, length, get_or, Option, Some, None, is_some, refl, sym, ap, ◌∙◌, subst, ⊎_elim, arith}
use Rattle.std.specs.Prelude.{IfSome}
use Rattle.std.specs.Option.{option_to_list}
use Rattle.std.proofs.lemmas.Bool.{cases_eq, eq-eqb, ne_eqb}
use Rattle.raw_network.specs.Network.{count_of}
use Rattle.raw_network.proofs.Wires.{count_here, count_there}
use Rattle.raw_tile.specs.declared.fire.TileGiven.{TileGiven}
use Rattle.raw_tile.specs.declared.step.Via.{Via}
use Rattle.raw_tile.specs.declared.step.Via.TheVariants.{Tile}
use Rattle.raw_model.specs.Program.{ProgramSet, IsSet}
use Rattle.raw_model.specs.Local.{Local}
use Rattle.raw_model.specs.Machine.{is_stopped}
use Rattle.raw_fabric_rule.specs.Views.{About, Hold}
use Rattle.raw_fabric_rule.specs.ByEnds.{needs, gives, fills, sent}
use Rattle.raw_fabric_rule.proofs.Nets.{filled}
use Rattle.raw_fabric_rule.specs.Word.{pack}
use Rattle.raw_fabric_rule.proofs.Words.{pack_below_60}
use Rattle.raw_fabric_rule.proofs.Lists.{length-bumped, count_of-append}
use Rattle.raw_fabric_rule.specs.ByKind.{end_if}
use Rattle.raw_fabric_rule.specs.Plays.{held, held_value, values_of, bumped, counts_after}
use Rattle.raw_fabric_rule.specs.Conditions.{wanted, blank, ShowsRow}
use Rattle.raw_fabric_step.specs.Units.{IsReady, IsIdle}
use Rattle.raw_fabric_step.specs.Fired.{IsHeldFor}
use Rattle.raw_fabric_step.specs.Pairs.{via_end, fetched_where, staged_where, pair_ends, before_second, out_ends, TakesPair, SendsPair, HasOperands}
use Rattle.raw_fabric_step.specs.Causes.{ShowsEnds, ShowsOperand}
use Rattle.raw_fabric_step.proofs.Ready.{held_end, row_ready}

-- ---- what stays
pub held_fetch : (u : Hold) (end : Option ℕ) (before : ℕ) (value : Option ℕ) → IsHeldFor u (fetched_where u end before value)
held_fetch u None before value = record { local_same = refl; touches_same = refl; counts_same = refl; seen_same = refl }
held_fetch u (Some end) before None = record { local_same = refl; touches_same = refl; counts_same = refl; seen_same = refl }
held_fetch u (Some end) before (Some value) = record { local_same = refl; touches_same = refl; counts_same = refl; seen_same = refl }

pub held_stage : (u : Hold) (end : ℕ) (value : Option ℕ) → IsHeldFor u (staged_where u end value)
held_stage u end None = record { local_same = refl; touches_same = refl; counts_same = refl; seen_same = refl }
held_stage u end (Some value) = record { local_same = refl; touches_same = refl; counts_same = refl; seen_same = refl }

pub held_more : (u z y : Hold) → IsHeldFor u z → IsHeldFor z y → IsHeldFor u y
held_more u z y a b = record {
  local_same = b.local_same ∙ a.local_same;
  touches_same = b.touches_same ∙ a.touches_same;
  counts_same = b.counts_same ∙ a.counts_same;
  seen_same = b.seen_same ∙ a.seen_same;
}

-- stores leave what is fetched
pub stage_fetched : (u : Hold) (end : ℕ) (value : Option ℕ) → (staged_where u end value).fetched ≡ u.fetched
stage_fetched u end None = refl
stage_fetched u end (Some value) = refl

-- the inputs of these ways
via_low : (via : Via) → IfSome (via_end via) (λ e. e < 10)
via_low Tile = tt
via_low _ = omega arith

pub takes_vias : (set : ProgramSet) (p : ℕ) (l : Local) (first second : Via) (one two : Option ℕ) → one ≡ via_end first → two ≡ via_end second
    → needs set p l ≡ pair_ends (via_end first) (via_end second) → TakesPair set p l one two
takes_vias set p l first second one two one_is two_is needs_are = record {
  needs_are = needs_are ∙ (λ i. pair_ends (sym one_is i) (sym two_is i));
  first_in = subst (λ o. IfSome o (λ e. e < 10)) (sym one_is) (via_low first);
  second_in = subst (λ o. IfSome o (λ e. e < 10)) (sym two_is) (via_low second);
}

-- ---- the operands
second_count : (a b : ℕ) → count_of b (a ∷ []) ≡ cond (eqb a b) 1 0
second_count a b = ⊎_elim
    (λ (same : a ≡ b). subst (λ e. count_of e (a ∷ []) ≡ cond (eqb a e) 1 0) same (count_here a [] ∙ sym (ap (λ t. cond t 1 0) (eq-eqb a a refl))))
    (λ (ne : a ≡ b → ⊥). count_there b a [] ne ∙ sym (ap (λ t. cond t 1 0) (ne_eqb a b ne)))
    (cases_eq a b)

-- ---- the values sent
pub pair_staged_ends : (u : Hold) (s1 s2 : Option ℕ) → u.staged ≡ [] → map held_end (staged_where (staged_where u 14 s1) 19 s2).staged ≡ end_if 14 s1 ++ end_if 19 s2
pair_staged_ends u None None none = ap (map held_end) none
pair_staged_ends u None (Some y) none = ap (λ l. map held_end (l ++ held 19 (get_or u.counts 19 0) y ∷ [])) none
pair_staged_ends u (Some x) None none = ap (λ l. map held_end (l ++ held 14 (get_or u.counts 14 0) x ∷ [])) none
pair_staged_ends u (Some x) (Some y) none = ap (λ l. map held_end ((l ++ held 14 (get_or u.counts 14 0) x ∷ []) ++ held 19 (get_or u.counts 19 0) y ∷ [])) none

pub pair_staged_values : (u : Hold) (s1 s2 : Option ℕ) → u.staged ≡ [] → map held_value (staged_where (staged_where u 14 s1) 19 s2).staged ≡ option_to_list s1 ++ option_to_list s2
pair_staged_values u None None none = ap (map held_value) none
pair_staged_values u None (Some y) none = ap (λ l. map held_value (l ++ held 19 (get_or u.counts 19 0) y ∷ [])) none
pair_staged_values u (Some x) None none = ap (λ l. map held_value (l ++ held 14 (get_or u.counts 14 0) x ∷ [])) none
pair_staged_values u (Some x) (Some y) none = ap (λ l. map held_value ((l ++ held 14 (get_or u.counts 14 0) x ∷ []) ++ held 19 (get_or u.counts 19 0) y ∷ [])) none

-- a status word with twenty counts is below 2^60
pub packed_small : (word : ℕ) (counts : List ℕ) → length counts ≡ 20 → word ≡ pack counts → word < 2 ^ 60
packed_small word counts many is = subst (λ n. n < 2 ^ 60) (sym is) (pack_below_60 counts many)

pub bumped_many : (ends counts : List ℕ) → length counts ≡ 20 → length (bumped ends counts) ≡ 20
bumped_many ends counts many = length-bumped ends counts ∙ many

-- ---- the row that is ready for its commit
module _ (about : About) (p : ℕ) (u : Hold) (s1 s2 : Option ℕ) where
  -- each output that is sent to is named
  module _ (is : IsSet about.set) (sends : SendsPair about.set p u s1 s2) where
    named_at : (end : ℕ) → 0 < count_of end (end_if 14 s1 ++ end_if 19 s2) → 0 < count_of end (gives about.set p u.local)
    named_at end pos =
        let same = ap (count_of end) sends.fills_are in
        let fewer = filled about.set is p end u.local (values_of u) in
        omega arith

    pub named_first : IfSome s1 (λ _. 0 < count_of 14 (gives about.set p u.local))
    named_first = by_case s1 s2 named_at
      where
        by_case : (o q : Option ℕ) → ((end : ℕ) → 0 < count_of end (end_if 14 o ++ end_if 19 q) → 0 < count_of end (gives about.set p u.local))
            → IfSome o (λ _. 0 < count_of 14 (gives about.set p u.local))
        by_case None q at = tt
        by_case (Some x) None at = at 14 (omega arith)
        by_case (Some x) (Some y) at = at 14 (omega arith)

    pub named_second : IfSome s2 (λ _. 0 < count_of 19 (gives about.set p u.local))
    named_second = by_case s1 s2 named_at
      where
        by_case : (o q : Option ℕ) → ((end : ℕ) → 0 < count_of end (end_if 14 o ++ end_if 19 q) → 0 < count_of end (gives about.set p u.local))
            → IfSome q (λ _. 0 < count_of 19 (gives about.set p u.local))
        by_case o None at = tt
        by_case None (Some y) at = at 19 (omega arith)
        by_case (Some x) (Some y) at = at 19 (omega arith)

  abbrev y : Hold
  y = staged_where (staged_where u 14 s1) 19 s2

  pub same_fetched : y.fetched ≡ u.fetched
  same_fetched = stage_fetched (staged_where u 14 s1) 19 s2 ∙ stage_fetched u 14 s1

  pub held_pair : IsHeldFor u y
  held_pair = held_more u (staged_where u 14 s1) y (held_stage u 14 s1) (held_stage (staged_where u 14 s1) 19 s2)

  module _ (first second : Option ℕ) (takes : TakesPair about.set p u.local first second) (sends : SendsPair about.set p u s1 s2) where
    pub pair_shows : HasOperands about p first second u → ShowsRow about p y
    pair_shows has =
        row_ready about p u y has.shown.going has.shown.values has.shown.room held_pair.local_same held_pair.counts_same held_pair.seen_same
        (ap (map blank) same_fetched ∙ has.fetched ∙ ap (wanted u.counts []) (sym takes.needs_are))
        (pair_staged_ends u s1 s2 has.staged ∙ sym sends.fills_are ∙ ap (λ l. fills about.set p u.local (map held_value l)) (sym same_fetched))
        (pair_staged_values u s1 s2 has.staged ∙ sym sends.sent_are ∙ ap (λ l. sent about.set p u.local (map held_value l)) (sym same_fetched))

    -- and the status word after it
    pub pair_word : (word : ℕ) → word ≡ pack (bumped (out_ends (is_some s1) (is_some s2)) (bumped (pair_ends first second) u.counts)) → word ≡ pack (counts_after about.set p y)
    pair_word word is =
        is ∙ ap pack
        ((λ i. bumped (sym sends.fills_are i) (bumped (sym takes.needs_are i) u.counts))
        ∙ (λ i. bumped (fills about.set p (sym held_pair.local_same i) (map held_value (sym same_fetched i))) (bumped (needs about.set p (sym held_pair.local_same i)) (sym held_pair.counts_same i))))

-- ---- after the fetches
pub shows_held : (about : About) (p : ℕ) (u z : Hold) → ShowsEnds about p u → IsHeldFor u z → ShowsEnds about p z
shows_held about p u z shown held = record {
  going = ap (is_stopped about.set p) held.local_same ∙ shown.going;
  values = subst (λ (q : Local × List ℕ × List ℕ). (e : ℕ) → 0 < count_of e (needs about.set p q.0) → get_or q.1 e 0 + count_of e (needs about.set p q.0) ≤ get_or q.2 e 0)
      (λ i. (sym held.local_same i, sym held.counts_same i, sym held.seen_same i)) shown.values;
  room = subst (λ (q : Local × List ℕ × List ℕ). (e : ℕ) → 0 < count_of e (gives about.set p q.0) → get_or q.1 e 0 < get_or q.2 e 0 + about.set.depth)
      (λ i. (sym held.local_same i, sym held.counts_same i, sym held.seen_same i)) shown.room;
}

pub ready_held : (status : ℕ) (u z : Hold) → IsReady status u → IsHeldFor u z → IsReady status z
ready_held status u z ready held = record {
  counted = ap length held.counts_same ∙ ready.counted;
  watched = ap length held.seen_same ∙ ready.watched;
  status_is = ready.status_is ∙ ap pack (sym held.counts_same);
}

few_before : (b : Bool) → cond b 1 0 < 8
few_before true = omega arith
few_before false = omega arith

pub operand_held : (about : About) (p : ℕ) (u z : Hold) (e before : ℕ) → ShowsOperand about p u e before → IsHeldFor u z → ShowsOperand about p z e before
operand_held about p u z e before o held = record {
  input = o.input;
  needed = subst (λ l. 0 < count_of e (needs about.set p l)) (sym held.local_same) o.needed;
  few = o.few;
  shown = subst (λ (q : List ℕ × List ℕ). get_or q.0 e 0 + before < get_or q.1 e 0) (λ i. (sym held.counts_same i, sym held.seen_same i)) o.shown;
}

module _ (about : About) (p : ℕ) (first second : Option ℕ) (u : Hold) (shown : ShowsEnds about p u) (takes : TakesPair about.set p u.local first second) where
  -- an end of the pair is needed, and the counts seen show as many values as are taken there
  abbrev IsShownAt : List ℕ → ℕ → Type 0
  IsShownAt l e = (0 < count_of e l) → (0 < count_of e (needs about.set p u.local)) × (get_or u.counts e 0 + count_of e l ≤ get_or u.seen e 0)

  shown_at : (e : ℕ) → IsShownAt (pair_ends first second) e
  shown_at = subst (λ l. (e : ℕ) → IsShownAt l e) takes.needs_are (λ e pos. (pos, shown.values e pos))

  pub first_operand : IfSome first (λ e. ShowsOperand about p u e 0)
  first_operand = by_case first shown_at takes.first_in
    where
      by_case : (o : Option ℕ) → ((e : ℕ) → IsShownAt (pair_ends o second) e) → IfSome o (λ e. e < 10) → IfSome o (λ e. ShowsOperand about p u e 0)
      by_case None at low = tt
      by_case (Some e) at low =
          let c = count_here e (option_to_list second) in
          let s = at e (omega arith) in
          let enough = s.1 in
          record { input = low; needed = s.0; few = omega arith; shown = omega arith }

  -- what the first fetch leaves shows the second operand, behind the first where both come from one input
  pub second_operand : (z : Hold) → IsHeldFor u z → IfSome second (λ e. ShowsOperand about p z e (before_second first second))
  second_operand z held = by_case first second shown_at takes.second_in
    where
      by_case : (o q : Option ℕ) → ((e : ℕ) → IsShownAt (pair_ends o q) e) → IfSome q (λ e. e < 10) → IfSome q (λ e. ShowsOperand about p z e (before_second o q))
      by_case o None at low = tt
      by_case None (Some e) at low =
          let c = count_here e [] in
          let s = at e (omega arith) in
          let enough = s.1 in
          operand_held about p u z e 0 (record { input = low; needed = s.0; few = omega arith; shown = omega arith }) held
      by_case (Some d) (Some e) at low =
          let c = count_of-append e (d ∷ []) (e ∷ []) in
          let h = count_here e [] in
          let b = second_count d e in
          let s = at e (omega arith) in
          let enough = s.1 in
          operand_held about p u z e (cond (eqb d e) 1 0) (record { input = low; needed = s.0; few = few_before (eqb d e); shown = omega arith }) held

  -- what two fetches leave
  module _ (status : ℕ) (idle : IsIdle u) (ready : IsReady status u) (given : TileGiven) (some1 : is_some given.a ≡ is_some first) (some2 : is_some given.b ≡ is_some second) where
    abbrev one : Hold
    one = fetched_where u first 0 given.a

    abbrev two : Hold
    two = fetched_where one second (before_second first second) given.b
