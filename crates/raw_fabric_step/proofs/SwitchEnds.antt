-- What a switch takes and sends, end by end.
use Rattle.std.proofs.Common.{◌≡◌, ◌≢◌, ℕ, zero, suc, ◌+◌, ◌-◌, ◌<◌, ◌≤◌, Bool, true, false, cond, List, [], ◌∷◌, ◌++◌, map, length, get_or, set, drop, replicate, Option, Some, None, is_some, refl, sym, ap, ◌∙◌, subst, inl, inr, append-nil, append_assoc, le_refl, arith}
use mathlib.Core.Logic.{dite}
use native.Mathlib.Decide.{ℕ_discrete}
use mathlib.Core.Option.{some, some-injective, some-ne-none}
use lib.ListN.{get_elem?}
use Rattle.std.specs.Prelude.{slice_index_or, IfSome}
use Rattle.std.specs.List.{flat_map, filter, range_with_len}
use Rattle.std.specs.Option.{option_to_list}
use Rattle.std.proofs.lemmas.Bool.{cases_lt, lt-ltb, le-ltb}
use Rattle.std.proofs.lemmas.List.{map-append, get_or-set_same, get_or-set_other}
use Rattle.std.proofs.lemmas.List.FromFn.{fill_by_all}
use Rattle.raw_network.specs.Network.{count_of}
use Rattle.raw_network.proofs.Wires.{count_here, count_there}
use Rattle.raw_switch_isa.specs.Instruction.{SwitchInstruction}
use Rattle.raw_switch_isa.specs.Ends.{ends, has_end, is_used_input, is_filled, outputs_of}
use Rattle.raw_processor.proofs.EndLists.{none_yet, flat_more, flat_to, flat_done}
use Rattle.raw_model.specs.Program.{ProgramSet}
use Rattle.raw_model.specs.Local.{Local}
use Rattle.raw_fabric_rule.specs.Views.{About, Held, Hold}
use Rattle.raw_fabric_rule.specs.ByEnds.{needs, gives}
use Rattle.raw_fabric_rule.specs.ByKind.{switch_needs, switch_gives, end_if, handed_at, handed_to, outputs_filled, values_filled}
use Rattle.raw_fabric_rule.specs.Word.{pack}
use Rattle.raw_fabric_rule.specs.Plays.{held, held_value, bumped}
use Rattle.raw_fabric_rule.specs.Conditions.{wanted, blank}
use Rattle.raw_fabric_rule.proofs.ByKind.{asks_input, asks_output}
use Rattle.raw_fabric_rule.proofs.Lists.{count_of-append, bumped-append, length-bumped}
use Rattle.raw_fabric_rule.proofs.Nets.{count_more}
use Rattle.raw_fabric_step.specs.declared.switches.Inputs.{Inputs}
use Rattle.raw_fabric_step.specs.Units.{IsReady, fetched_unit}
use Rattle.raw_fabric_step.specs.Pairs.{staged_where}
use Rattle.raw_fabric_step.specs.Asks.{AreAsked}
use Rattle.raw_fabric_step.specs.Causes.{ShowsEnds}
use Rattle.raw_fabric_step.specs.Fired.{IsHeldFor}
use Rattle.raw_fabric_step.specs.Units.{IsIdle}
use Rattle.raw_fabric_step.specs.Switches.{held_where, staged_for, HasInputs}
use Rattle.raw_fabric_step.proofs.Ready.{held_end}
use Rattle.raw_fabric_step.proofs.Pairing.{held_more, shows_held, ready_held}

-- ---- one end more: f gives nothing from end i on, and g does what f did before it, and nothing behind it
module _ {X : Type 0} where
  nothing : (h : ℕ → List X) (k n : ℕ) → ((e : ℕ) → n ≤ e → h e ≡ []) → flat_map h (range_with_len n k) ≡ []
  nothing h zero n empty = refl
  nothing h (suc k) n empty = ap (λ xs. xs ++ flat_map h (range_with_len (n + 1) k)) (empty n (le_refl n)) ∙ nothing h k (n + 1) (λ e le. empty e (omega arith))

  grown : (f g : ℕ → List X) (i : ℕ) → ((e : ℕ) → e < i → g e ≡ f e) → ((e : ℕ) → i ≤ e → f e ≡ []) → ((e : ℕ) → i < e → g e ≡ [])
      → (k n : ℕ) → n ≤ i → i < n + k → flat_map g (range_with_len n k) ≡ flat_map f (range_with_len n k) ++ g i
  grown f g i before none after zero n low high = absurd (omega arith)
  grown f g i before none after (suc k) n low high =
      let rest = range_with_len (n + 1) k in
      dite (ℕ_discrete n i)
      (λ (same : n ≡ i).
      ap (λ xs. g n ++ xs) (nothing g k (n + 1) (λ e le. after e (omega arith)))
      ∙ append-nil (g n)
      ∙ ap g same
      ∙ sym (ap (λ xs. xs ++ g i) (nothing f (suc k) n (λ e le. none e (omega arith)))))
      (λ (other : n ≢ i).
      let below : n < i = omega arith in
      ap (λ xs. xs ++ flat_map g rest) (before n below)
      ∙ ap (λ xs. f n ++ xs) (grown f g i before none after k (n + 1) (omega arith) (omega arith))
      ∙ sym (append_assoc (f n) (flat_map f rest) (g i)))

  nothing_at_all : (h : ℕ → List X) → ((e : ℕ) → h e ≡ []) → flat_map h ends ≡ []
  unfolding ends
  nothing_at_all h empty = nothing h 10 0 (λ e le. empty e)

  grown_ends : (f g : ℕ → List X) (i : ℕ) → i < 10 → ((e : ℕ) → e < i → g e ≡ f e) → ((e : ℕ) → i ≤ e → f e ≡ []) → ((e : ℕ) → i < e → g e ≡ [])
      → flat_map g ends ≡ flat_map f ends ++ g i
  unfolding ends
  grown_ends f g i few before none after = grown f g i before none after 10 0 (omega arith) (omega arith)

-- ---- ends of values that are held
end_where : (u : Hold) (end : ℕ) (value : Option ℕ) → map held_end (held_where u end value) ≡ cond (is_some value) (end ∷ []) []
end_where u end None = refl
end_where u end (Some x) = refl

ends_wanted : (counts done es : List ℕ) → map held_end (wanted counts done es) ≡ es
ends_wanted counts done [] = refl
ends_wanted counts done (e ∷ es) = ap (λ l. e ∷ l) (ends_wanted counts (e ∷ done) es)

ends_blank : (fs : List Held) → map held_end (map blank fs) ≡ map held_end fs
ends_blank [] = refl
ends_blank (f ∷ fs) = ap (λ l. f.end ∷ l) (ends_blank fs)

counted_at : (fs : List Held) (i : ℕ) (f : Held) → get_elem? fs i ≡ some f → 0 < count_of f.end (map held_end fs)
counted_at [] i f at = absurd (some-ne-none f (sym at))
counted_at (x ∷ fs) zero f at =
    let same : x.end ≡ f.end = ap held_end (some-injective x f at) in
    let c : count_of x.end (x.end ∷ map held_end fs) ≡ suc (count_of x.end (map held_end fs)) = count_here x.end (map held_end fs) in
    subst (λ e. 0 < count_of e (x.end ∷ map held_end fs)) same (omega arith)
counted_at (x ∷ fs) (suc i) f at = let m = count_more f.end x.end (map held_end fs) in let r = counted_at fs i f at in omega arith

-- ---- the operands given by input
module _ (u : Hold) (given : List (Option ℕ)) (ins : SwitchInstruction)
    (some_given : (e : ℕ) → e < 10 → is_some (slice_index_or given e None) ≡ is_used_input ins e) where
  abbrev at : ℕ → Option ℕ
  at e = slice_index_or given e None

  abbrev one : ℕ → List Held
  one e = held_where u e (at e)

  wanted_over : (k n : ℕ) → n + k ≤ 10 → (done : List ℕ) → ((e : ℕ) → n ≤ e → count_of e done ≡ 0)
      → map blank (flat_map one (range_with_len n k)) ≡ wanted u.counts done (filter (is_used_input ins) (range_with_len n k))
  wanted_over zero n few done without = refl
  wanted_over (suc k) n few done without =
      by_case (at n) (is_used_input ins n) (some_given n (omega arith)) (wanted_over k (n + 1) (omega arith) done (λ d le. without d (omega arith)))
      (wanted_over k (n + 1) (omega arith) (n ∷ done) (λ d le. count_there d n done (λ same. absurd (omega arith)) ∙ without d (omega arith)))
    where
      rest : List ℕ
      rest = range_with_len (n + 1) k

      by_case : (o : Option ℕ) (b : Bool) → is_some o ≡ b → map blank (flat_map one rest) ≡ wanted u.counts done (filter (is_used_input ins) rest)
          → map blank (flat_map one rest) ≡ wanted u.counts (n ∷ done) (filter (is_used_input ins) rest)
          → map blank (held_where u n o ++ flat_map one rest) ≡ wanted u.counts done (cond b (n ∷ filter (is_used_input ins) rest) (filter (is_used_input ins) rest))
      by_case None true e skipped taken = absurd (cc e)
      by_case None false e skipped taken = skipped
      by_case (Some x) false e skipped taken = absurd (cc e)
      by_case (Some x) true e skipped taken =
          let none = without n (le_refl n) in
          let place : get_or u.counts n 0 ≡ get_or u.counts n 0 + count_of n done = omega arith in
          ap (λ m. held n m 0 ∷ map blank (flat_map one rest)) place
          ∙ ap (λ l. held n (get_or u.counts n 0 + count_of n done) 0 ∷ l) taken

  handed_over : (k n : ℕ) → n + k ≤ 10 → handed_at ins (range_with_len n k) (map held_value (flat_map one (range_with_len n k))) ≡ map at (range_with_len n k)
  handed_over zero n few = refl
  handed_over (suc k) n few = by_case (at n) (is_used_input ins n) (some_given n (omega arith)) (handed_over k (n + 1) (omega arith))
    where
      rest : List ℕ
      rest = range_with_len (n + 1) k

      by_case : (o : Option ℕ) (b : Bool) → is_some o ≡ b → handed_at ins rest (map held_value (flat_map one rest)) ≡ map at rest
          → cond b (Some (get_or (map held_value (held_where u n o ++ flat_map one rest)) 0 0) ∷ handed_at ins rest (drop 1 (map held_value (held_where u n o ++ flat_map one rest))))
          (None ∷ handed_at ins rest (map held_value (held_where u n o ++ flat_map one rest))) ≡ o ∷ map at rest
      by_case None true e more = absurd (cc e)
      by_case None false e more = ap (λ l. None ∷ l) more
      by_case (Some x) false e more = absurd (cc e)
      by_case (Some x) true e more = ap (λ l. Some x ∷ l) more

  wanted_ends : map blank (flat_map one ends) ≡ wanted u.counts [] (switch_needs (Some ins))
  unfolding ends
  wanted_ends = wanted_over 10 0 (omega arith) [] (λ e le. refl)

  handed_ends : length given ≡ 10 → given ≡ handed_to (Some ins) (map held_value (flat_map one ends))
  unfolding ends
  handed_ends ten = fill_by_all at given 10 None ten (λ e few. refl) ∙ sym (handed_over 10 0 (omega arith))

-- ---- while operands are taken
abbrev pub fetched_for : Hold → List (Option ℕ) → List Held
fetched_for u given = flat_map (λ e. held_where u e (slice_index_or given e None)) ends

-- u became z by the fetches of these values, and the word has their counts
pub record IsTaking (u z : Hold) (given : List (Option ℕ)) (raised : ℕ) : Type 0 where
  pub held_for : IsHeldFor u z
  pub fetched : z.fetched ≡ fetched_for u given
  pub staged : z.staged ≡ u.staged
  pub counted : length u.counts ≡ 20
  pub raised_is : raised ≡ pack (bumped (map held_end z.fetched) u.counts)

pub taking_none : (u : Hold) (status : ℕ) → IsIdle u → IsReady status u → IsTaking u u (replicate 10 None) status
taking_none u status idle ready = record {
  held_for = record { local_same = refl; touches_same = refl; counts_same = refl; seen_same = refl };
  fetched = idle.fetched ∙ sym (nothing_at_all (λ e. held_where u e (slice_index_or {A = Option ℕ} (replicate 10 None) e None)) (λ e. ap (held_where u e) (none_yet 10 e)));
  staged = refl;
  counted = ready.counted;
  raised_is = ready.status_is ∙ ap (λ fs. pack (bumped (map held_end fs) u.counts)) (sym idle.fetched);
}

-- a status word with twenty counts, after one more at an end
abbrev pub IsBumped : ℕ → List ℕ → ℕ → Type 0
IsBumped word es raised = (counts : List ℕ) → length counts ≡ 20 → word ≡ pack counts → raised ≡ pack (bumped es counts)

pub taking_more : (u z y : Hold) (given : List (Option ℕ)) (word raised i x : ℕ) → i < 10 → length given ≡ 10 → ((e : ℕ) → i ≤ e → slice_index_or given e None ≡ None)
    → IsTaking u z given word → y ≡ fetched_unit z i 0 x → IsBumped word (i ∷ []) raised → IsTaking u y (set given i (Some x)) raised
taking_more u z y given word raised i x few ten none t unit bump =
    let same : IsHeldFor z y = record { local_same = ap (λ (h : Hold). h.local) unit; touches_same = ap (λ (h : Hold). h.touches) unit; counts_same = ap (λ (h : Hold). h.counts) unit; seen_same = ap (λ (h : Hold). h.seen) unit } in
    let counts = t.held_for.counts_same in
    let place : get_or z.counts i 0 + 0 ≡ get_or u.counts i 0 = ap (λ n. n + 0) (ap (λ l. get_or l i 0) counts) ∙ (let z : get_or u.counts i 0 + 0 ≡ get_or u.counts i 0 = omega arith in z) in
    let more : y.fetched ≡ z.fetched ++ held i (get_or u.counts i 0) x ∷ [] = ap (λ (h : Hold). h.fetched) unit ∙ ap (λ n. z.fetched ++ held i n x ∷ []) place in
    let here : slice_index_or (set given i (Some x)) i None ≡ Some x = get_or-set_same given i (Some x) None (omega arith) in
    let other : (e : ℕ) → e ≢ i → slice_index_or (set given i (Some x)) e None ≡ slice_index_or given e None = λ e ne. get_or-set_other given i e (Some x) None ne in
    record {
      held_for = held_more u z y t.held_for same;
      fetched = more ∙ ap (λ fs. fs ++ held i (get_or u.counts i 0) x ∷ []) t.fetched
          ∙ sym (grown_ends (λ e. held_where u e (slice_index_or given e None)) (λ e. held_where u e (slice_index_or (set given i (Some x)) e None)) i few
          (λ e lt. ap (held_where u e) (other e (λ same. absurd (omega arith))))
          (λ e le. ap (held_where u e) (none e le))
          (λ e lt. ap (held_where u e) (other e (λ same. absurd (omega arith)) ∙ none e (omega arith)))
          ∙ ap (λ o. fetched_for u given ++ held_where u i o) here);
      staged = ap (λ (h : Hold). h.staged) unit ∙ t.staged;
      counted = t.counted;
      raised_is = bump (bumped (map held_end z.fetched) u.counts) (length-bumped (map held_end z.fetched) u.counts ∙ t.counted) t.raised_is
          ∙ ap pack (sym (bumped-append (map held_end z.fetched) (i ∷ []) u.counts))
          ∙ ap (λ es. pack (bumped es u.counts)) (sym (map-append held_end z.fetched (held i (get_or u.counts i 0) x ∷ [])) ∙ ap (map held_end) (sym more));
    }

-- one end more has a value, and those that the word does not have are passed over
pub some_more : (given : List (Option ℕ)) (word i j x : ℕ) → i < 10 → length given ≡ 10 → has_end word i ≡ true → ((e : ℕ) → i ≤ e → slice_index_or given e None ≡ None)
    → ((e : ℕ) → e < i → e < 10 → is_some (slice_index_or given e None) ≡ has_end word e) → ((e : ℕ) → i + 1 ≤ e → e < j → has_end word e ≡ false)
    → (e : ℕ) → e < j → e < 10 → is_some (slice_index_or (set given i (Some x)) e None) ≡ has_end word e
some_more given word i j x few ten on none before off e lt low =
    dite (ℕ_discrete e i)
    (λ (same : e ≡ i). subst (λ d. is_some (slice_index_or (set given i (Some x)) d None) ≡ has_end word d) (sym same) (ap is_some (get_or-set_same given i (Some x) None (omega arith)) ∙ sym on))
    (λ (other : e ≢ i).
    ap is_some (get_or-set_other given i e (Some x) None other)
    ∙ elim (cases_lt e i) [
      | inl below ↦ before e below low
      | inr past ↦ ap is_some (none e past) ∙ sym (off e (omega arith) lt)
    ])

pub inputs_taken : (about : About) (p status : ℕ) (ins : SwitchInstruction) (inputs : Inputs) (u z : Hold) → IsTaking u z inputs.given inputs.status → length inputs.given ≡ 10
    → ((e : ℕ) → e < 10 → is_some (slice_index_or inputs.given e None) ≡ is_used_input ins e) → IsIdle u → IsReady status u → ShowsEnds about p u → HasInputs about p status ins inputs z
inputs_taken about p status ins inputs u z t ten some_given idle ready shown =
    let counts = t.held_for.counts_same in
    let fetched : map blank z.fetched ≡ wanted z.counts [] (switch_needs (Some ins)) =
    ap (map blank) t.fetched ∙ wanted_ends u inputs.given ins some_given ∙ ap (λ c. wanted c [] (switch_needs (Some ins))) (sym counts) in
    let named : map held_end z.fetched ≡ switch_needs (Some ins) = sym (ends_blank z.fetched) ∙ ap (map held_end) fetched ∙ ends_wanted z.counts [] (switch_needs (Some ins)) in
    record {
      fetched = fetched;
      handed = handed_ends u inputs.given ins some_given ten ∙ ap (λ fs. handed_to (Some ins) (map held_value fs)) (sym t.fetched);
      each = record { each = some_given };
      raised = t.raised_is ∙ (λ i. pack (bumped (named i) (sym counts i)));
      staged = t.staged ∙ idle.staged;
      ready = ready_held status u z ready t.held_for;
      shown = shows_held about p u z shown t.held_for;
    }

-- ---- while values are sent
module _ (u : Hold) (sent : List (Option ℕ)) where
  abbrev route : ℕ → List Held
  route output = held_where u (10 + output) (slice_index_or sent output None)

  sent_ends : (xs : List ℕ) → map held_end (flat_map route xs) ≡ flat_map (λ end. end_if (10 + end) (slice_index_or sent end None)) xs
  sent_ends [] = refl
  sent_ends (x ∷ xs) =
      map-append held_end (route x) (flat_map route xs)
      ∙ ap (λ l. l ++ map held_end (flat_map route xs)) (end_where u (10 + x) (slice_index_or sent x None))
      ∙ ap (λ l. end_if (10 + x) (slice_index_or sent x None) ++ l) (sent_ends xs)

  value_where : (end : ℕ) (value : Option ℕ) → map held_value (held_where u end value) ≡ option_to_list value
  value_where end None = refl
  value_where end (Some x) = refl

  sent_values : (xs : List ℕ) → map held_value (flat_map route xs) ≡ flat_map (λ end. option_to_list (slice_index_or sent end None)) xs
  sent_values [] = refl
  sent_values (x ∷ xs) =
      map-append held_value (route x) (flat_map route xs)
      ∙ ap (λ l. l ++ map held_value (flat_map route xs)) (value_where (10 + x) (slice_index_or sent x None))
      ∙ ap (λ l. option_to_list (slice_index_or sent x None) ++ l) (sent_values xs)

  pub staged_ends : map held_end (staged_for u sent) ≡ outputs_filled sent
  staged_ends = sent_ends ends

  pub staged_values : map held_value (staged_for u sent) ≡ values_filled sent
  staged_values = sent_values ends

  -- u became z by the stores for the outputs before this one, and the word, which was `taken`, has their counts
  pub record IsSending (z : Hold) (taken raised end : ℕ) : Type 0 where
    pub unit : z ≡ record u { staged = z.staged }
    pub left : z.staged ++ flat_map route (drop end ends) ≡ staged_for u sent
    pub later : (e : ℕ) → 10 + end ≤ e → count_of e (map held_end z.staged) ≡ 0
    pub raised_is : IsBumped taken (map held_end z.staged) raised

  pub sending_none : (taken : ℕ) → u.staged ≡ [] → IsSending u taken taken 0
  sending_none taken empty = record {
    unit = refl;
    left = ap (λ fs. fs ++ flat_map route ends) empty;
    later = λ e le. ap (λ fs. count_of e (map held_end fs)) empty;
    raised_is = λ counts many is. is ∙ ap (λ fs. pack (bumped (map held_end fs) counts)) (sym empty);
  }

  pub sending_held : (z : Hold) (taken raised i : ℕ) → IsSending z taken raised i → IsHeldFor u z
  sending_held z taken raised i s = record {
    local_same = ap (λ (h : Hold). h.local) s.unit;
    touches_same = ap (λ (h : Hold). h.touches) s.unit;
    counts_same = ap (λ (h : Hold). h.counts) s.unit;
    seen_same = ap (λ (h : Hold). h.seen) s.unit;
  }

  pub sending_over : (z : Hold) (taken raised i j word : ℕ) → i ≤ j → ((e : ℕ) → i ≤ e → e < j → has_end word e ≡ false)
      → ((e : ℕ) → has_end word e ≡ false → slice_index_or sent e None ≡ None) → IsSending z taken raised i → IsSending z taken raised j
  sending_over z taken raised i j word on off only s = record {
    unit = s.unit;
    left = flat_to route z.staged (staged_for u sent) i j on (λ e after before. ap (held_where u (10 + e)) (only e (off e after before))) s.left;
    later = λ e le. s.later e (omega arith);
    raised_is = s.raised_is;
  }

  staged_more : (z y : Hold) (e : ℕ) (v : Option ℕ) → z.counts ≡ u.counts → y ≡ staged_where z e v → y.staged ≡ z.staged ++ held_where u e v
  staged_more z y e None same is = ap (λ (h : Hold). h.staged) is ∙ sym (append-nil z.staged)
  staged_more z y e (Some x) same is = ap (λ (h : Hold). h.staged) is ∙ ap (λ l. z.staged ++ held e (get_or l e 0) x ∷ []) same

  unit_more : (z y : Hold) (e : ℕ) (v : Option ℕ) → z ≡ record u { staged = z.staged } → y ≡ staged_where z e v → y ≡ record u { staged = y.staged }
  unit_more z y e None unit is = is ∙ unit ∙ ap (λ (h : Hold). record u { staged = h.staged }) (sym is)
  unit_more z y e (Some x) unit is =
      is ∙ ap (λ (h : Hold). record h { staged = z.staged ++ held e (get_or z.counts e 0) x ∷ [] }) unit ∙ ap (λ (h : Hold). record u { staged = h.staged }) (sym is)

  pub sending_more : (z y : Hold) (taken word raised i : ℕ) (v : Option ℕ) (es : List ℕ) → i < 10 → IsSending z taken word i → v ≡ slice_index_or sent i None
      → y ≡ staged_where z (10 + i) v → es ≡ cond (is_some v) ((10 + i) ∷ []) [] → IsBumped word es raised → IsSending y taken raised (i + 1)
  sending_more z y taken word raised i v es few s value is es_are bump =
      let counts : z.counts ≡ u.counts = ap (λ (h : Hold). h.counts) s.unit in
      let more = staged_more z y (10 + i) v counts is in
      let ends_more : map held_end y.staged ≡ map held_end z.staged ++ es =
      ap (map held_end) more ∙ map-append held_end z.staged (held_where u (10 + i) v) ∙ ap (λ l. map held_end z.staged ++ l) (end_where u (10 + i) v ∙ sym es_are) in
      record {
        unit = unit_more z y (10 + i) v s.unit is;
        left = ap (λ fs. fs ++ flat_map route (drop (i + 1) ends)) (more ∙ ap (λ o. z.staged ++ held_where u (10 + i) o) value)
            ∙ flat_more route z.staged (staged_for u sent) i few s.left;
        later = λ e le.
            let old = s.later e (omega arith) in
            let new : count_of e es ≡ 0 = ap (count_of e) es_are ∙ none_at e (10 + i) (is_some v) (omega arith) in
            let both = count_of-append e (map held_end z.staged) es in
            ap (count_of e) ends_more ∙ (let z : count_of e (map held_end z.staged ++ es) ≡ 0 = omega arith in z);
        raised_is = λ counts many is.
            bump (bumped (map held_end z.staged) counts) (length-bumped (map held_end z.staged) counts ∙ many) (s.raised_is counts many is)
            ∙ ap pack (sym (bumped-append (map held_end z.staged) es counts))
            ∙ ap (λ l. pack (bumped l counts)) (sym ends_more);
      }
    where
      none_at : (e d : ℕ) (b : Bool) → d < e → count_of e (cond b (d ∷ []) []) ≡ 0
      none_at e d true lt = count_there e d [] (λ same. absurd (omega arith))
      none_at e d false lt = refl

  pub sending_fresh : (z : Hold) (taken raised i : ℕ) → IsSending z taken raised i → (k : ℕ) (f : Held) → get_elem? z.staged k ≡ some f → f.end ≢ 10 + i
  sending_fresh z taken raised i s k f at same =
      let there = counted_at z.staged k f at in
      let none = ap (λ e. count_of e (map held_end z.staged)) same ∙ s.later (10 + i) (le_refl (10 + i)) in
      absurd (omega arith)

  pub sending_unit : (z : Hold) (taken raised i : ℕ) → 10 ≤ i → IsSending z taken raised i → z ≡ record u { staged = staged_for u sent }
  sending_unit z taken raised i past s = s.unit ∙ ap (λ fs. record u { staged = fs }) (flat_done route z.staged (staged_for u sent) i past s.left)

  pub sending_raised : (z : Hold) (taken raised i : ℕ) → 10 ≤ i → IsSending z taken raised i → IsBumped taken (outputs_filled sent) raised
  sending_raised z taken raised i past s counts many is =
      s.raised_is counts many is
      ∙ ap (λ l. pack (bumped l counts)) (ap (map held_end) (flat_done route z.staged (staged_for u sent) i past s.left) ∙ staged_ends)

-- ---- what is asked of the ends
module _ (ins : SwitchInstruction) where
  none_past : (k n e : ℕ) → n + k ≤ e → count_of e (filter (is_used_input ins) (range_with_len n k)) ≡ 0
  none_past zero n e past = refl
  none_past (suc k) n e past = by_case (is_used_input ins n) (none_past k (n + 1) e (omega arith))
    where
      rest : List ℕ
      rest = filter (is_used_input ins) (range_with_len (n + 1) k)

      by_case : (b : Bool) → count_of e rest ≡ 0 → count_of e (cond b (n ∷ rest) rest) ≡ 0
      by_case true more = count_there e n rest (λ same. absurd (omega arith)) ∙ more
      by_case false more = more

  no_input : (e : ℕ) → 10 ≤ e → count_of e (switch_needs (Some ins)) ≡ 0
  unfolding ends
  no_input e past = none_past 10 0 e past

  none_before : (e : ℕ) (xs : List ℕ) → e < 10 → count_of e (map (λ end. 10 + end) xs) ≡ 0
  none_before e [] few = refl
  none_before e (x ∷ xs) few = count_there e (10 + x) (map (λ end. 10 + end) xs) (λ same. absurd (omega arith)) ∙ none_before e xs few

  no_output : (e : ℕ) → e < 10 → count_of e (switch_gives (Some ins)) ≡ 0
  no_output e few = none_before e (outputs_of ins) few

  pub switch_asked : (set : ProgramSet) (p : ℕ) (l : Local) (inputs outputs : ℕ) → ((e : ℕ) → has_end inputs e ≡ is_used_input ins e) → ((e : ℕ) → has_end outputs e ≡ is_filled ins e)
      → needs set p l ≡ switch_needs (Some ins) → gives set p l ≡ switch_gives (Some ins)
      → AreAsked set p l (record { needs = record { inputs = inputs; outputs = outputs }; each = 1 })
  switch_asked set p l inputs outputs used filled needs_are gives_are = record {
    some = omega arith;
    at = λ e few.
        (λ i. count_of e (needs_are i) + count_of e (gives_are i))
        ∙ elim (cases_lt e 10) [
          | inl below ↦
              (λ i. asks_input ins e below i + no_output e below i)
              ∙ (let z : cond (is_used_input ins e) 1 0 + 0 ≡ cond (is_used_input ins e) 1 0 = omega arith in z)
              ∙ ap (λ b. cond b 1 0) (sym (used e))
              ∙ sym (ap (λ b. cond (cond b (has_end inputs e) (has_end outputs (e - 10))) (cond b 1 1) 0) (lt-ltb e 10 below))
          | inr past ↦
              let place : 10 + (e - 10) ≡ e = omega arith in
              (λ i. no_input e past i + count_of (sym place i) (switch_gives (Some ins)))
              ∙ ap (λ n. 0 + n) (asks_output ins (e - 10) (omega arith))
              ∙ (let z : 0 + cond (is_filled ins (e - 10)) 1 0 ≡ cond (is_filled ins (e - 10)) 1 0 = omega arith in z)
              ∙ ap (λ b. cond b 1 0) (sym (filled (e - 10)))
              ∙ sym (ap (λ b. cond (cond b (has_end inputs e) (has_end outputs (e - 10))) (cond b 1 1) 0) (le-ltb e 10 past))
        ];
  }

  pub input_needed : (e : ℕ) → e < 10 → is_used_input ins e ≡ true → 0 < count_of e (switch_needs (Some ins))
  input_needed e few on = let c = asks_input ins e few ∙ ap (λ b. cond b 1 0) on in omega arith

  pub output_named : (e : ℕ) → e < 10 → is_filled ins e ≡ true → 0 < count_of (10 + e) (switch_gives (Some ins))
  output_named e few on = let c = asks_output ins e few ∙ ap (λ b. cond b 1 0) on in omega arith

pub where_some : (value : Option ℕ) (P : Type 0) → P → IfSome value (λ _. P)
where_some None P h = tt
where_some (Some x) P h = h
