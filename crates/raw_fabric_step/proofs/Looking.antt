-- A look at the other side of an end at which the row asks for something.
use Rattle.std.proofs.Common.{◌≡◌, ℕ, ◌%◌, ◌<◌, ◌≤◌, Bool, true, false, cond, ltb, get_or, length, sym, ap, ◌∙◌, subst, ⊎_elim, arith, eq-zero-or-pos}
use Rattle.std.proofs.lemmas.Bool.{cases_lt}
use Rattle.raw_network.specs.Network.{count_of}
use Rattle.raw_model.specs.Program.{IsSet}
use Rattle.raw_model.specs.Local.{Local}
use Rattle.raw_fabric_rule.specs.Views.{About, Hold, View}
use Rattle.raw_fabric_rule.specs.ByEnds.{procs, gives, wire_at}
use Rattle.raw_fabric_rule.proofs.Nets.{is_net, given, no_needs}
use Rattle.raw_fabric_rule.specs.Word.{field, pack}
use Rattle.raw_fabric_rule.specs.Plays.{other_side, see, LookTells}
use Rattle.raw_fabric_rule.proofs.Words.{field-pack}
use Rattle.raw_fabric_step.specs.declared.post.Side.{Side}
use Rattle.raw_fabric_step.specs.declared.post.Post.{Post}
use Rattle.raw_fabric_step.specs.declared.looks.Asks.{Asks}
use Rattle.raw_fabric_step.specs.Posts.{other_end, IsSide, IsPost}
use Rattle.raw_fabric_step.specs.Asks.{asked_at, is_asked, AreAsked}
use Rattle.raw_fabric_step.specs.Units.{mine, IsLooked, IsReady}
use Rattle.raw_fabric_step.specs.Causes.{is_unmet, HasLooked, IsShown, IsUnmetAt}
use Rattle.raw_fabric_step.proofs.Watch.{IsWired, wired_end, look_kept, look_shown, look_unmet}

module _ (about : About) (words : ℕ) (post : Post) (is : IsPost about words post) (v : View) (status : ℕ) (ready : IsReady status (mine v post.index))
    (end asked : ℕ) (small : end < 20) (some : 0 < asked) (asks : asked ≡ asked_at about.set post.p (mine v post.index).local end) (none : Side) where
  abbrev side : Side
  side = get_or post.sides.now end none

  pub wired : IsWired about.set post.p end
  wired = wired_end about.set is.valid post.p end (mine v post.index).local (subst (λ n. 0 < n) asks some)

  is_side : IsSide about.set post.p end side
  is_side = is.sides_are end none small wired.there

  pub other_there : side.other < procs about.set
  other_there = subst (λ q. q < procs about.set) (sym is_side.other) wired.other_in

  pub end_there : side.end < 20
  end_there = subst (λ e. e < 20) (sym is_side.end_is) wired.end_in

  module _ (w : View) (x ours theirs : ℕ) (ours_is : ours ≡ field end status) (theirs_is : theirs ≡ field side.end x)
      (unit : mine w post.index ≡ see side.other x about post.p (mine v post.index)) (tells : LookTells about v post.p side.other x (mine v post.index) (mine w post.index)) where
    abbrev u : Hold
    u = mine v post.index

    abbrev z : Hold
    z = mine w post.index

    unit' : mine w post.index ≡ see (other_side about.set post.p end) x about post.p (mine v post.index)
    unit' = unit ∙ ap (λ q. see q x about post.p u) is_side.other

    tells' : LookTells about v post.p (other_side about.set post.p end) x (mine v post.index) (mine w post.index)
    tells' = subst (λ q. LookTells about v post.p q x u z) is_side.other tells

    test : is_unmet post.depth end ours theirs asked
        ≡ is_unmet about.set.depth end (get_or (mine v post.index).counts end 0 % 8) (field (other_end about.set post.p end) x) asked
    test = λ i. is_unmet (is.depth_is i) end ((ours_is ∙ ap (field end) ready.status_is ∙ field-pack u.counts end) i) ((theirs_is ∙ ap (λ e. field e x) is_side.end_is) i) asked

    pub kept : IsLooked about post.p (mine v post.index) (mine w post.index)
    kept = look_kept about is.valid post.p v w u z end x small ready.watched unit' tells' asked asks some

    pub shown : is_unmet post.depth end ours theirs asked ≡ false → IsShown about post.p end (mine v post.index) (mine w post.index)
    shown met = look_shown about is.valid post.p v w u z end x small ready.watched unit' tells' asked asks some (sym test ∙ met)

    pub unmet : is_unmet post.depth end ours theirs asked ≡ true → HasLooked side.other x v w
        → IsUnmetAt about post.p end (record { wire = side.wire; seen = x }) v w (mine v post.index) (mine w post.index)
    unmet short noted =
        look_unmet about is.valid post.p v w u z end x small ready.watched unit' tells' asked asks some side.wire is_side.wire (sym test ∙ short)
        (subst (λ q. HasLooked q x v w) is_side.other noted)

-- an end that is asked, by the sets of ends
pub some_asked : (about : About) (p : ℕ) (l : Local) (asks : Asks) (end asked : ℕ) → AreAsked about.set p l asks → end < 20 → is_asked asks.needs end ≡ true
    → asked ≡ cond (ltb end 10) asks.each 1 → (0 < asked) × (asked ≡ asked_at about.set p l end)
some_asked about p l asks end asked are small on is = (
  subst (λ n. 0 < n) (sym is) (by_side (ltb end 10)),
  is ∙ sym (are.at end small ∙ ap (λ b. cond b (cond (ltb end 10) asks.each 1) 0) on),
)
  where
    by_side : (b : Bool) → 0 < cond b asks.each 1
    by_side true = are.some
    by_side false = omega arith

pub none_asked : (about : About) (p : ℕ) (l : Local) (asks : Asks) (end : ℕ) → AreAsked about.set p l asks → end < 20 → is_asked asks.needs end ≡ false
    → asked_at about.set p l end ≡ 0
none_asked about p l asks end are small off = are.at end small ∙ ap (λ b. cond b (cond (ltb end 10) asks.each 1) 0) off

-- looks leave the own status word and what is asked as they were
pub ready_looked : (about : About) (p status : ℕ) (u z : Hold) → IsReady status u → IsLooked about p u z → IsReady status z
ready_looked about p status u z ready l = record {
  counted = ap length l.counts_same ∙ ready.counted;
  watched = l.long ∙ ready.watched;
  status_is = ready.status_is ∙ ap pack (sym l.counts_same);
}

-- nothing is asked between an end and the next that is asked
pub none_between : (about : About) (p : ℕ) (l : Local) (asks : Asks) (from next : ℕ) → AreAsked about.set p l asks
    → ((end : ℕ) → from ≤ end → end < next → end < 20 → is_asked asks.needs end ≡ false)
    → (d : ℕ) → from ≤ d → d < 20 → d < next → asked_at about.set p l d ≡ 0
none_between about p l asks from next are least d late small before = none_asked about p l asks d are small (least d late before small)

-- no processor has an end past the last
none_past : (about : About) → IsSet about.set → (p : ℕ) (l : Local) (d : ℕ) → 20 ≤ d → asked_at about.set p l d ≡ 0
none_past about is p l d far =
    let needs_none = no_needs about.set is p d l (omega arith) in
    ⊎_elim
    (λ (gives_none : count_of d (gives about.set p l) ≡ 0). omega arith)
    (λ pos.
    let g = given about.set is p d l pos in
    let few = ((is_net about.set is).made (wire_at about.set p d) g.0).2 in
    let same = g.2 in
    absurd (omega arith))
    (eq-zero-or-pos (count_of d (gives about.set p l)))

pub none_until : (about : About) → IsSet about.set → (p : ℕ) (l : Local) (asks : Asks) (from next : ℕ) → AreAsked about.set p l asks
    → ((end : ℕ) → from ≤ end → end < next → end < 20 → is_asked asks.needs end ≡ false)
    → (d : ℕ) → from ≤ d → d < next → asked_at about.set p l d ≡ 0
none_until about is p l asks from next are least d late before =
    ⊎_elim (λ small. none_between about p l asks from next are least d late small before) (none_past about is p l d) (cases_lt d 20)
