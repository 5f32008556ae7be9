-- Hops are kept while others are added.
use Rattle.std.proofs.Common.{◌≡◌, ℕ, zero, suc, List, [], ◌∷◌, ◌++◌, length, Option, Some, None, ap, ◌∙◌, arith}
use Rattle.std.specs.Prelude.{slice_get}
use Rattle.std.proofs.Math.Seq.{get_or-append_seam}
use Rattle.std.proofs.lemmas.List.{length-append, get_or_append_left}
use Rattle.std.proofs.lemmas.Option.{slice_get-get_or, slice_get_within, get_or_from_slice_get}
use Rattle.raw_model.specs.Program.{ProgramSet}
use Rattle.raw_whole.proofs.Lists.{push_all}
use Rattle.raw_path.specs.declared.hops.End.{End}
use Rattle.raw_path.specs.declared.hops.Hop.{Hop}
use Rattle.raw_path.specs.declared.seen.Seen.{Seen}
use Rattle.raw_path.specs.Known.{Begins, IsEnd, AreHops, AreKept, IsReached, IsKnown, AreKnown}

module _ (set : ProgramSet) (old new : List Hop) (kept : AreKept old new) where
  begins_kept : (o : Option ℕ) (k p : ℕ) → Begins set old o k p → Begins set new o k p
  begins_kept None k p is = is
  begins_kept (Some i) k p is = (is.0, kept i is.0 is.1, is.2)

  pub end_kept : (e : End) → IsEnd set old e → IsEnd set new e
  end_kept e is = record { there = is.there; last = is.last; begins = begins_kept e.hop e.to e.p is.begins }

  pub reached_kept : (k p : ℕ) (e : End) → IsReached set old k p e → IsReached set new k p e
  reached_kept k p e is = record { stalls = is.stalls; own = is.own; now = is.now; end = end_kept e is.end }

  pub known_kept : (n p : ℕ) (s : Seen) → IsKnown set old n p s → IsKnown set new n p s
  known_kept zero p s is = is
  known_kept (suc k) p s is = (is.0, is.1, λ on. reached_kept k p s.end (is.2 on))

  pub all_known_kept : (n : ℕ) (seen : List Seen) → AreKnown set old n seen → AreKnown set new n seen
  all_known_kept n seen are = record { many = are.many; each = λ p s here. known_kept n p s (are.each p s here) }

pub kept_on : (a b c : List Hop) → AreKept a b → AreKept b c → AreKept a c
kept_on a b c first second i h here = second i h (first i h here)

-- one hop more
pub kept_push : (hops : List Hop) (h : Hop) → AreKept hops (hops ++ h ∷ [])
kept_push hops h i x here =
    let there = slice_get_within hops i x here in
    let more = length-append hops (h ∷ []) in
    slice_get-get_or (hops ++ h ∷ []) i x (omega (arith, there, more))
    ∙ ap Some (get_or_append_left hops (h ∷ []) x i there ∙ get_or_from_slice_get hops i x x here)

pub last_push : (hops : List Hop) (h : Hop) → slice_get (hops ++ h ∷ []) (length hops) ≡ Some h
last_push hops h =
    let more = length-append hops (h ∷ []) in
    slice_get-get_or (hops ++ h ∷ []) (length hops) h (omega (arith, more)) ∙ ap Some (get_or-append_seam hops h [] h)

pub hops_push : (set : ProgramSet) (hops : List Hop) (h : Hop) → AreHops set hops → IsEnd set hops h.before → AreHops set (hops ++ h ∷ [])
hops_push set hops h are is =
    push_all (λ (x : Hop). IsEnd set (hops ++ h ∷ []) x.before) hops h
    (λ i x here. end_kept set hops (hops ++ h ∷ []) (kept_push hops h) x.before (are i x here))
    (end_kept set hops (hops ++ h ∷ []) (kept_push hops h) h.before is)
