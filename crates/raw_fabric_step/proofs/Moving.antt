-- What a fetch, a store of a value and a commit leave of the unit of p.
use Rattle.std.proofs.Common.{◌≡◌, ◌≢◌, ℕ, ◌+◌, ◌-◌, ◌*◌, ◌/◌, ◌%◌, ◌^◌, ◌<◌, [], ◌∷◌, ◌++◌, get_or, refl, sym, ap, ◌∙◌, subst, arith, mod-lt}
use mathlib.Core.Option.{some}
use lib.ListN.{get_elem?}
use Rattle.raw_network.specs.Network.{count_of}
use Rattle.raw_model.specs.Program.{IsSet}
use Rattle.raw_fabric_rule.specs.Views.{About, Held, Hold, View}
use Rattle.raw_fabric_rule.specs.ByEnds.{procs, wires, producer, producer_end, consumer, consumer_end, wire_at, needs, gives}
use Rattle.raw_fabric_rule.specs.Word.{pack}
use Rattle.raw_fabric_rule.specs.Plays.{HasHold, held, place_from, fetch, fetch_at, stage, stage_at, counts_after, values_of, fired_unit, fire}
use Rattle.raw_fabric_rule.specs.Conditions.{IsSeenSent, MayFetch, MayStage, ShowsRow, MayFire}
use Rattle.raw_fabric_rule.proofs.Lists.{cond_same}
use Rattle.raw_fabric_rule.proofs.Nets.{needed, given}
use Rattle.raw_fabric_rule.proofs.Words.{word_wire, word_place}
use Rattle.raw_fabric_rule.specs.Word.{field}
use Rattle.raw_fabric_rule.proofs.Words.{field-pack}
use Rattle.raw_fabric_step.specs.declared.post.Side.{Side}
use Rattle.raw_fabric_step.specs.declared.post.Post.{Post}
use Rattle.raw_fabric_step.specs.Posts.{IsSide, IsPost}
use Rattle.raw_fabric_step.specs.Units.{Placed, mine, IsReady, fetched_unit, staged_unit}
use Rattle.raw_fabric_step.proofs.Mine.{unit_has, unit_only, at_mine}

-- the place of the next operand, from the count modulo 8
pub next_place : (c t : ℕ) → t < 8 → place_from c ((c % 8 + t) % 8) ≡ c + t
next_place c t h = omega arith

module _ (about : About) (is : IsSet about.set) (p i end : ℕ) (v : View) (pl : Placed about v p i) where
  module _ (pos : 0 < count_of end (needs about.set p (mine v i).local)) (before k : ℕ) (few : before < 8) (k_is : k ≡ (get_or (mine v i).counts end 0 % 8 + before) % 8) where
    wired_in : (wire_at about.set p end < wires about.set) × (consumer about.set (wire_at about.set p end) ≡ p) × (consumer_end about.set (wire_at about.set p end) ≡ end)
    wired_in = needed about.set is p end (mine v i).local pos

    place_is : place_from (get_or (mine v i).counts (consumer_end about.set (wire_at about.set p end)) 0) k ≡ get_or (mine v i).counts end 0 + before
    place_is = (λ j. place_from (get_or (mine v i).counts (wired_in.2 j) 0) (k_is j)) ∙ next_place (get_or (mine v i).counts end 0) before few

    pub may_fetch : get_or (mine v i).counts end 0 + before < get_or (mine v i).seen end 0 → IsSeenSent about v (wire_at about.set p end) k
    may_fetch shown o has =
        let same : o ≡ mine v i = unit_only about v p i pl o (subst (λ q. HasHold v q o) wired_in.1 has) in
        let e : ℕ = consumer_end about.set (wire_at about.set p end) in
        subst (λ (q : Hold). place_from (get_or q.counts e 0) k < get_or q.seen e 0) (sym same)
        (subst (λ m. m < get_or (mine v i).seen e 0) (sym place_is) (subst (λ m. get_or (mine v i).counts end 0 + before < get_or (mine v i).seen m 0) (sym wired_in.2) shown))

    pub unit_after_fetch : k < 8 → (at x : ℕ) → at ≡ 16 * (procs about.set + wire_at about.set p end) + k
        → fetch_at at x about p (mine v i) ≡ record (mine v i) { fetched = (mine v i).fetched ++ held end (get_or (mine v i).counts end 0 + before) x ∷ [] }
    unit_after_fetch small at x at_is =
        let n = about.set in let w = wire_at n p end in let u = mine v i in let ce = consumer_end n w in
        let wire_is : at / 16 - procs n ≡ w = ap (λ q. q / 16 - procs n) at_is ∙ word_wire (procs n) w k small in
        let k_is' : at % 16 ≡ k = ap (λ q. q % 16) at_is ∙ word_place (procs n) w k small in
        let after : Hold = record u { fetched = u.fetched ++ held ce (place_from (get_or u.counts ce 0) k) x ∷ [] } in
        (λ j. fetch (wire_is j) (k_is' j) x about p u) ∙ cond_same (consumer n w) p after u wired_in.1
        ∙ (λ j. record u { fetched = u.fetched ++ held (wired_in.2 j) (place_is j) x ∷ [] })

  module _ (pos : 0 < count_of end (gives about.set p (mine v i).local)) where
    wired_out : (wire_at about.set p end < wires about.set) × (producer about.set (wire_at about.set p end) ≡ p) × (producer_end about.set (wire_at about.set p end) ≡ end)
    wired_out = given about.set is p end (mine v i).local pos

    pub may_stage : (k x : ℕ) → k ≡ get_or (mine v i).counts end 0 % 8 → x < 2 ^ 32 → ((a : ℕ) (f : Held) → get_elem? (mine v i).staged a ≡ some f → f.end ≢ end) → MayStage about v (wire_at about.set p end) k x
    may_stage k x k_is small fresh = record {
      small = small;
      wired = wired_out.0;
      place = omega arith;
      holder = mine v i;
      has = subst (λ q. HasHold v q (mine v i)) (sym wired_out.1) (unit_has about v p i pl);
      next = k_is ∙ (λ j. get_or (mine v i).counts (sym wired_out.2 j) 0 % 8);
      fresh = λ o has a f at bad. let same : o ≡ mine v i = unit_only about v p i pl o (subst (λ q. HasHold v q o) wired_out.1 has) in
          fresh a f (ap (λ (q : Hold). get_elem? q.staged a) (sym same) ∙ at) (bad ∙ wired_out.2);
    }

    pub unit_after_stage : (k at x : ℕ) → k < 8 → at ≡ 16 * (procs about.set + wire_at about.set p end) + k
        → stage_at at x about p (mine v i) ≡ record (mine v i) { staged = (mine v i).staged ++ held end (get_or (mine v i).counts end 0) x ∷ [] }
    unit_after_stage k at x small at_is =
        let n = about.set in let w = wire_at n p end in let u = mine v i in let pe = producer_end n w in
        let wire_is : at / 16 - procs n ≡ w = ap (λ q. q / 16 - procs n) at_is ∙ word_wire (procs n) w k small in
        let after : Hold = record u { staged = u.staged ++ held pe (get_or u.counts pe 0) x ∷ [] } in
        (λ j. stage (wire_is j) x about p u) ∙ cond_same (producer n w) p after u wired_out.1
        ∙ (λ j. record u { staged = u.staged ++ held (wired_out.2 j) (get_or u.counts (wired_out.2 j) 0) x ∷ [] })

  pub may_fire : (word : ℕ) → ShowsRow about p (mine v i) → word ≡ pack (counts_after about.set p (mine v i)) → MayFire about v p word
  may_fire word shows word_is = let s = pl.sits in record {
    part = s.part;
    alone = s.alone;
    index = i;
    holder = mine v i;
    unit_at = at_mine about pl.worker pl.many v s i pl.within;
    number = pl.number ∙ (λ j. sym s.worker_is j + i * (sym s.about_is j).workers);
    shows = shows;
    word_is = word_is;
  }

pub fire_own : (about : About) (p : ℕ) (u : Hold) → fire p about p u ≡ fired_unit about.set p u (values_of u)
fire_own about p u = cond_same p p (fired_unit about.set p u (values_of u)) u refl

-- ---- the word that a fetch or a store names, from the post and the own status word
pub record Names (about : About) (words p end at wire k : ℕ) : Type 0 where
  pub within : at < words
  pub word : at ≡ 16 * (procs about.set + wire) + k
  pub there : wire < wires about.set
  pub place : k < 8
  pub same_wire : wire ≡ wire_at about.set p end

module _ (about : About) (words : ℕ) (post : Post) (is : IsPost about words post) (v : View) (pl : Placed about v post.p post.index) (status end f : ℕ) (ready : IsReady status (mine v post.index)) (f_is : f ≡ field end status) where
  ours : f ≡ get_or (mine v post.index).counts end 0 % 8
  ours = f_is ∙ ap (field end) ready.status_is ∙ field-pack (mine v post.index).counts end

  names : (side : Side) → IsSide about.set post.p end side → wire_at about.set post.p end < wires about.set → (k : ℕ) → k < 8
      → Names about words post.p end (16 * (post.processors + side.wire) + k) side.wire k
  names side at there k small =
      let few = is.words_are in
      let count = is.processors_are in
      let same = at.wire in
      record {
        within = omega arith;
        word = (λ i. 16 * (is.processors_are i + side.wire) + k);
        there = subst (λ w. w < wires about.set) (sym same) there;
        place = small;
        same_wire = same;
      }

  -- an operand of an input
  module _ (none : Side) (low : end < 10) (pos : 0 < count_of end (needs about.set post.p (mine v post.index).local)) (before : ℕ) (few : before < 8)
      (shown : get_or (mine v post.index).counts end 0 + before < get_or (mine v post.index).seen end 0) where
    there_in : (wire_at about.set post.p end < wires about.set) × (consumer about.set (wire_at about.set post.p end) ≡ post.p) × (consumer_end about.set (wire_at about.set post.p end) ≡ end)
    there_in = needed about.set is.valid post.p end (mine v post.index).local pos

    abbrev side_in : Side
    side_in = get_or post.sides.now end none

    abbrev k_in : ℕ
    k_in = (f + before) % 8

    pub names_in : Names about words post.p end (16 * (post.processors + side_in.wire) + k_in) side_in.wire k_in
    names_in = names side_in (is.sides_are end none (omega arith) there_in.0) there_in.0 k_in (mod-lt (f + before) (omega arith))

    k_in_is : k_in ≡ (get_or (mine v post.index).counts end 0 % 8 + before) % 8
    k_in_is = λ i. (ours i + before) % 8

    pub fetch_may : MayFetch about v side_in.wire k_in
    fetch_may = record {
      wired = names_in.there;
      place = names_in.place;
      seen = subst (λ w. IsSeenSent about v w k_in) (sym names_in.same_wire) (may_fetch about is.valid post.p post.index end v pl pos before k_in few k_in_is shown);
    }

    pub fetch_own : consumer about.set side_in.wire ≡ post.p
    fetch_own = ap (consumer about.set) names_in.same_wire ∙ there_in.1

    pub fetch_after : (x : ℕ) → fetch_at (16 * (post.processors + side_in.wire) + k_in) x about post.p (mine v post.index) ≡ fetched_unit (mine v post.index) end before x
    fetch_after x =
        unit_after_fetch about is.valid post.p post.index end v pl pos before k_in few k_in_is names_in.place (16 * (post.processors + side_in.wire) + k_in) x
        (names_in.word ∙ ap (λ w. 16 * (procs about.set + w) + k_in) names_in.same_wire)

  -- a value for an output
  module _ (none : Side) (high : end < 20) (pos : 0 < count_of end (gives about.set post.p (mine v post.index).local)) where
    there_out : (wire_at about.set post.p end < wires about.set) × (producer about.set (wire_at about.set post.p end) ≡ post.p) × (producer_end about.set (wire_at about.set post.p end) ≡ end)
    there_out = given about.set is.valid post.p end (mine v post.index).local pos

    abbrev side_out : Side
    side_out = get_or post.sides.now end none

    pub names_out : Names about words post.p end (16 * (post.processors + side_out.wire) + f) side_out.wire f
    names_out = names side_out (is.sides_are end none high there_out.0) there_out.0 f (let small = ours in omega arith)

    pub stage_may : (x : ℕ) → x < 2 ^ 32 → ((a : ℕ) (f : Held) → get_elem? (mine v post.index).staged a ≡ some f → f.end ≢ end) → MayStage about v side_out.wire f x
    stage_may x small fresh =
        subst (λ w. MayStage about v w f x) (sym names_out.same_wire) (may_stage about is.valid post.p post.index end v pl pos f x ours small fresh)

    pub stage_own : producer about.set side_out.wire ≡ post.p
    stage_own = ap (producer about.set) names_out.same_wire ∙ there_out.1

    pub stage_after : (x : ℕ) → stage_at (16 * (post.processors + side_out.wire) + f) x about post.p (mine v post.index) ≡ staged_unit (mine v post.index) end x
    stage_after x =
        unit_after_stage about is.valid post.p post.index end v pl pos f (16 * (post.processors + side_out.wire) + f) x names_out.place
        (names_out.word ∙ ap (λ w. 16 * (procs about.set + w) + f) names_out.same_wire)
