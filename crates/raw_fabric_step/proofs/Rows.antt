-- A row from its looks to its commit.
use Rattle.std.proofs.Common.{◌≡◌, ℕ, suc, ◌<◌, ◌≤◌, ◌^◌, false, Option, List, [], ◌∷◌, ◌++◌, map, length, get_or, refl, sym, ap, ◌∙◌, subst, le_trans, le_refl}
use Rattle.std.proofs.lemmas.List.{length-map}
use Rattle.std.specs.Prelude.{IfSome}
use Rattle.std.specs.Option.{option_to_list}
use Rattle.atomic_table.specs.declared.shared.Seat.{Seat}
use Rattle.raw_model.specs.Program.{IsSet}
use Rattle.raw_model.specs.Local.{Local}
use Rattle.raw_model.specs.Machine.{is_stopped}
use Rattle.raw_fabric_rule.specs.Views.{About, Hold, View}
use Rattle.raw_fabric_rule.specs.ByEnds.{consumer_end, producer_end, needs, fills, next_local, touched_by}
use Rattle.raw_fabric_rule.specs.Word.{pack}
use Rattle.raw_fabric_rule.specs.Plays.{Rises, bumped, counts_after, held_value, values_of}
use Rattle.raw_fabric_rule.specs.Conditions.{wanted, blank, ShowsRow}
use Rattle.raw_fabric_rule.specs.Seats.{IsSameSeat}
use Rattle.raw_fabric_rule.proofs.Lists.{length-bumped}
use Rattle.raw_fabric_step.specs.declared.post.Post.{Post}
use Rattle.raw_fabric_step.specs.Units.{mine, Steady, IsLooked, IsIdle}
use Rattle.raw_fabric_step.specs.Turns.{IsDue, RowCommitted, TurnKept, TurnStepped}
use Rattle.raw_fabric_step.specs.Causes.{SawEnds, ShowsEnds, MayTake}
use Rattle.raw_fabric_step.specs.Fired.{IsHeldFor, IsPrepared, HasFired}
use Rattle.raw_fabric_step.proofs.Turning.{same_seat}
use Rattle.raw_fabric_step.proofs.Ready.{all_values, all_room}
use Rattle.raw_fabric_step.proofs.Steady.{steady_none, steady_more, logged_more}

same_rises : (about : About) (p : ℕ) (u z : Hold) → z.seen ≡ u.seen → Rises about p u z
same_rises about p u z same = record {
  sent = λ w _ _. subst (λ l. get_or u.seen (consumer_end about.set w) 0 ≤ get_or l (consumer_end about.set w) 0) (sym same) (le_refl _);
  taken = λ w _ _. subst (λ l. get_or u.seen (producer_end about.set w) 0 ≤ get_or l (producer_end about.set w) 0) (sym same) (le_refl _);
}

rises_more : (about : About) (p : ℕ) (u z y : Hold) → Rises about p u z → Rises about p z y → Rises about p u y
rises_more about p u z y a b = record {
  sent = λ w h c. le_trans (a.sent w h c) (b.sent w h c);
  taken = λ w h c. le_trans (a.taken w h c) (b.taken w h c);
}

pub prepared_looked : (about : About) (p : ℕ) (u z : Hold) → IsLooked about p u z → IsPrepared about p u z
prepared_looked about p u z l = record { local_same = l.local_same; touches_same = l.touches_same; counts_same = l.counts_same; rises = l.rises }

pub prepared_held : (about : About) (p : ℕ) (u z : Hold) → IsHeldFor u z → IsPrepared about p u z
prepared_held about p u z h = record {
  local_same = h.local_same;
  touches_same = h.touches_same;
  counts_same = h.counts_same;
  rises = same_rises about p u z h.seen_same;
}

pub prepared_more : (about : About) (p : ℕ) (u z y : Hold) → IsPrepared about p u z → IsPrepared about p z y → IsPrepared about p u y
prepared_more about p u z y a b = record {
  local_same = b.local_same ∙ a.local_same;
  touches_same = b.touches_same ∙ a.touches_same;
  counts_same = b.counts_same ∙ a.counts_same;
  rises = rises_more about p u z y a.rises b.rises;
}

-- as many operands as are wanted
length-wanted : (counts done es : List ℕ) → length (wanted counts done es) ≡ length es
length-wanted counts done [] = refl
length-wanted counts done (e ∷ es) = ap suc (length-wanted counts (e ∷ done) es)

length_values : (u : Hold) (es : List ℕ) → map blank u.fetched ≡ wanted u.counts [] es → length (values_of u) ≡ length es
length_values u es fetched = length-map u.fetched held_value ∙ sym (length-map u.fetched blank) ∙ ap length fetched ∙ length-wanted u.counts [] es

-- what was prepared before a row belongs to its turn
pub fired_after : (about : About) (p i status : ℕ) (values : List ℕ) (v0 v w : View) → Steady about p v0 v → IsPrepared about p (mine v0 i) (mine v i)
    → HasFired about p i status values v w → HasFired about p i status values v0 w
fired_after about p i status values v0 v w steady before h = record {
  before = h.before;
  steady = steady_more about p v0 v h.before steady h.steady;
  prepared = prepared_more about p (mine v0 i) (mine v i) (mine h.before i) before h.prepared;
  shows = h.shows;
  operands = h.operands;
  stood = h.stood;
  is_step = h.is_step;
  after = h.after;
  words = h.words;
  many = h.many ∙ ap (λ l. length (needs about.set p l)) before.local_same;
  logged = logged_more about p v0 v w steady h.logged;
  placed = h.placed;
  local_is = h.local_is ∙ ap (λ l. next_local about.set p l values) before.local_same;
  touches_are = h.touches_are ∙ (λ j. before.touches_same j ++ touched_by about.set p (before.local_same j) values ∷ []);
  counts_are = h.counts_are ∙ (λ j. bumped (fills about.set p (before.local_same j) values) (bumped (needs about.set p (before.local_same j)) (before.counts_same j)));
  rises = rises_more about p (mine v0 i) (mine v i) (mine w i) before.rises h.rises;
  idle = h.idle;
  ready = h.ready;
}

-- the commit of a row
pub fired_now : {S : Type 0} (about : About) (post : Post) (word : ℕ) (old new : Seat S View) → RowCommitted about post word old new
    → word ≡ pack (counts_after about.set post.p (mine old.me.0 post.index))
    → length (mine old.me.0 post.index).counts ≡ 20 → length (mine old.me.0 post.index).seen ≡ 20 → ShowsRow about post.p (mine old.me.0 post.index)
    → HasFired about post.p post.index word (values_of (mine old.me.0 post.index)) old.me.0 new.me.0
fired_now about post word old new done word_is counted watched shows =
    let p = post.p in
    let v = old.me.0 in
    let w = new.me.0 in
    let u = mine v post.index in
    let values = values_of u in
    let unit = done.unit_is in
    record {
      before = v;
      steady = steady_none about p v;
      prepared = prepared_held about p u u (record { local_same = refl; touches_same = refl; counts_same = refl; seen_same = refl });
      shows = shows;
      operands = refl;
      stood = done.stood;
      is_step = done.step;
      after = done.view_is;
      words = done.words;
      many = length_values u (needs about.set p u.local) shows.fetched_all;
      logged = done.logged;
      placed = done.placed;
      local_is = ap (λ (h : Hold). h.local) unit;
      touches_are = ap (λ (h : Hold). h.touches) unit;
      counts_are = ap (λ (h : Hold). h.counts) unit;
      rises = same_rises about p u (mine w post.index) (ap (λ (h : Hold). h.seen) unit);
      idle = record { fetched = ap (λ (h : Hold). h.fetched) unit; staged = ap (λ (h : Hold). h.staged) unit };
      ready = record {
        counted = ap (λ (h : Hold). length h.counts) unit
            ∙ length-bumped (fills about.set p u.local values) (bumped (needs about.set p u.local) u.counts) ∙ length-bumped (needs about.set p u.local) u.counts ∙ counted;
        watched = ap (λ (h : Hold). length h.seen) unit ∙ watched;
        status_is = word_is ∙ ap (λ (h : Hold). pack h.counts) (sym unit);
      };
    }

-- all looks done, the ends show what the row asks for
pub shows_ends : (about : About) → IsSet about.set → (p : ℕ) (u z : Hold) → SawEnds about p 20 u z → is_stopped about.set p u.local ≡ false → ShowsEnds about p z
shows_ends about is p u z saw going = record {
  going = ap (is_stopped about.set p) saw.looked.local_same ∙ going;
  values = all_values about is p u z saw;
  room = all_room about is p u z saw;
}

pub idle_looked : (about : About) (p : ℕ) (u z : Hold) → IsIdle u → IsLooked about p u z → IsIdle z
idle_looked about p u z idle l = record { fetched = l.fetched_same ∙ idle.fetched; staged = l.staged_same ∙ idle.staged }

pub may_take : (about : About) → IsSet about.set → (p : ℕ) (u z : Hold) (l : Local) → IsDue about p u l → SawEnds about p 20 u z → MayTake about p z
may_take about is p u z l due saw = record {
  shown = shows_ends about is p u z saw (ap (is_stopped about.set p) due.local_is ∙ due.going);
  idle = idle_looked about p u z due.idle saw.looked;
}

-- a turn that looked and then did its row
pub stepped : {S : Type 0} (about : About) (post : Post) (status : ℕ) (values : List ℕ) (now : Local) (touched : Option ℕ) (a b c : Seat S View) → TurnKept about post a b
    → IsPrepared about post.p (mine a.me.0 post.index) (mine b.me.0 post.index) → IsSameSeat b c → HasFired about post.p post.index status values b.me.0 c.me.0
    → next_local about.set post.p (mine a.me.0 post.index).local values ≡ now
    → touched_by about.set post.p (mine a.me.0 post.index).local values ≡ option_to_list touched → IfSome touched (λ address. address < 2 ^ 16)
    → TurnStepped about post status now touched a c
stepped about post status values now touched a b c kept prepared same h next touches small =
    let whole = fired_after about post.p post.index status values a.me.0 b.me.0 c.me.0 kept.steady prepared h in
    record {
      same = same_seat kept.same same;
      stepped = record { values = values; has_fired = whole; now_is = whole.local_is ∙ next; touched_is = whole.touches_are ∙ ap (λ l. (mine a.me.0 post.index).touches ++ l ∷ []) touches };
      small = small;
    }
