-- Where no signature of the replies for a name comes into force or expires between two moments, its node is alike at both below zones that are alike.
use Rattle.std.proofs.Common.{◌≡◌, ℕ, ◌==◌, Bool, true, false, cond, List, [], ◌∷◌, length, Option, Some, None, refl, sym, ap, ◌∙◌, subst}
use Rattle.std.specs.Prelude.{find, IfSome}
use Rattle.std.specs.List.{AllByRecursion}
use Rattle.dsec_spec.specs.Names.{Place}
use Rattle.dsec_spec.specs.Numbers.{CNAME, DS, DNSKEY}
use Rattle.dsec_spec.specs.Records.{Record, Key, Rrsig, rrsig_of}
use Rattle.dsec_spec.specs.Period.{in_period}
use Rattle.dsec_spec.specs.Groups.{Group}
use Rattle.dsec_spec.specs.Trying.{Tried, good, nothing, all_bad, too_many_bad}
use Rattle.dsec_nodes.specs.World.{World, Replies, moment, on_circle}
use Rattle.dsec_nodes.specs.Nodes.{Node}
use Rattle.dsec_nodes.specs.Signing.{under_keys, is_set_at, is_expanded}
use Rattle.dsec_nodes.specs.Admission.{Admitted, tried_by, ds_search}
use Rattle.dsec_nodes.specs.Replies.{Reply, failed, unreadable, sections, read_reply}
use Rattle.dsec_nodes.specs.MissingDs.{within_by, missing_ds}
use Rattle.dsec_nodes.specs.ByDs.{Pending, Below, made, asks, if_one, by_alias, by_ds_set, by_ds_reply, ways, by_tried, by_key_set, by_key_reply}
use Rattle.dsec_nodes.specs.Walk.{finished, child, Reached, held_keys, next}
use Rattle.dsec_nodes.specs.Likeness.{untimed}
use Rattle.dsec_nodes.specs.Moments.{at_moment, IsSteady, AreSteady, IsSteadyReply, IsSteadyAt, HasDsSet, IsSteadyBelow}
use Rattle.dsec_nodes.proofs.MomentSigns.{admitted_same}
use Rattle.dsec_nodes.proofs.MomentNodes.{bare_below, Steady, found_steady, ds_reply_still}

-- each reply is steady from a moment to itself
steady_one : (t : ℕ) (r : Record) → IsSteady t t r
steady_one t r = by (rrsig_of r.rdata)
  where
    by : (o : Option Rrsig) → IfSome o (λ sig. in_period sig.inception sig.expiration t ≡ in_period sig.inception sig.expiration t)
    by None = tt
    by (Some sig) = refl

steady_all : (t : ℕ) (rs : List Record) → AllByRecursion (IsSteady t t) rs
steady_all t [] = tt
steady_all t (r ∷ rs) = (steady_one t r, steady_all t rs)

steady_groups : (t : ℕ) (groups : List Group) → AllByRecursion (AreSteady t t) groups
steady_groups t [] = tt
steady_groups t (group ∷ groups) = (steady_all t group.signatures, steady_groups t groups)

steady_reply : (t : ℕ) (r : Reply) → IsSteadyReply t t r
steady_reply t failed = tt
steady_reply t unreadable = tt
steady_reply t (sections answers authorities) = (steady_groups t answers, steady_groups t authorities)

pub steady_below : (w : World) (replies : Replies) (name : Place) → IsSteadyBelow w w.now replies name
steady_below w replies name = record {
  at_ds = steady_reply (moment w) (read_reply (replies name DS));
  at_keys = λ _. steady_reply (moment w) (read_reply (replies name DNSKEY));
}

-- the question for a key set is asked
abbrev AsksOn : Below → Type 0
AsksOn (made n) = ⊥
AsksOn (asks pending) = Unit {0}

-- it is asked only where the reply has a DS set
module _ (w : World) (zone : Node) (keys : List (List ℕ)) (name : Place) where
  one_makes : (group : Group) (missing : Node) (shown : Record × Key → Node) (t : Tried (Record × Key))
      → AsksOn (if_one w name t (λ p. cond (is_expanded group p.0) (made missing) (made (shown p)))) → ⊥
  one_makes group missing shown (good p) h = by (is_expanded group p.0) h
    where
      by : (b : Bool) → AsksOn (cond b (made missing) (made (shown p))) → ⊥
      by true g = g
      by false g = g
  one_makes group missing shown nothing h = h
  one_makes group missing shown all_bad h = h
  one_makes group missing shown too_many_bad h = h

  alias_makes : (authorities : List Group) (o : Option Group) → AsksOn (by_alias w zone keys name authorities o) → ⊥
  alias_makes authorities None h = h
  alias_makes authorities (Some group) h = by (length group.records == 1) h
    where
      missing : Node
      missing = missing_ds w zone keys name authorities

      by : (b : Bool) → AsksOn (cond b (if_one w name (under_keys w zone.signer keys group)
          (λ p. cond (is_expanded group p.0) (made missing) (made (within_by w zone keys name group p)))) (made missing)) → ⊥
      by true g = one_makes group missing (within_by w zone keys name group) (under_keys w zone.signer keys group) g
      by false g = g

  asked_by_ds : (r : Reply) → AsksOn (by_ds_reply w zone keys name r) → HasDsSet name r
  asked_by_ds failed h = absurd h
  asked_by_ds unreadable h = absurd h
  asked_by_ds (sections answers authorities) h = by (find (is_set_at name DS) answers) refl
    where
      by : (o : Option Group) → find (is_set_at name DS) answers ≡ o → HasDsSet name (sections answers authorities)
      by None e = absurd (alias_makes authorities (find (is_set_at name CNAME) answers) (subst (λ (o : Option Group). AsksOn (by_ds_set w zone keys name answers authorities o)) e h))
      by (Some group) e = (group, e)

abbrev bare_pending : Pending → Pending
bare_pending pending = record { name = pending.name; link = pending.link; valid_for = 0 }

-- the node by a key set that a DS set is to admit
module _ (w : World) (now : ℕ) (zone : Node) where
  tried_still : (pending : Pending) (group : Group) (t : Tried (Record × Admitted (List ℕ)))
      → untimed (by_tried w zone pending group t) ≡ untimed (by_tried (at_moment w now) (untimed zone) (bare_pending pending) group t)
  tried_still pending group (good p) = refl
  tried_still pending group nothing = refl
  tried_still pending group all_bad = refl
  tried_still pending group too_many_bad = refl

  key_set_still : (pending : Pending) (o : Option Group) → IfSome o (Steady w now)
      → untimed (by_key_set w zone pending o) ≡ untimed (by_key_set (at_moment w now) (untimed zone) (bare_pending pending) o)
  key_set_still pending None s = refl
  key_set_still pending (Some group) s =
      tried_still pending group (tried_by w group (ds_search w.bounds.max_keys_for_ds group) (ways w pending))
      ∙ ap (λ (t : Tried (Record × Admitted (List ℕ))). untimed (by_tried (at_moment w now) (untimed zone) (bare_pending pending) group t))
      (admitted_same w now group s (ds_search w.bounds.max_keys_for_ds group) (ways w pending))

  key_reply_still : (pending : Pending) (r : Reply) → IsSteadyReply (moment w) (on_circle now) r
      → untimed (by_key_reply w zone pending r) ≡ untimed (by_key_reply (at_moment w now) (untimed zone) (bare_pending pending) r)
  key_reply_still pending failed s = refl
  key_reply_still pending unreadable s = refl
  key_reply_still pending (sections answers authorities) s =
      key_set_still pending (find (is_set_at pending.name DNSKEY) answers) (found_steady (moment w) (on_circle now) (is_set_at pending.name DNSKEY) answers s.0)

  finished_still : (replies : Replies) (name : Place) (b : Below) → (AsksOn b → IsSteadyAt w now replies name DNSKEY)
      → untimed (finished w replies zone name b) ≡ untimed (finished (at_moment w now) replies (untimed zone) name (bare_below b))
  finished_still replies name (made n) s = refl
  finished_still replies name (asks pending) s = key_reply_still pending (read_reply (replies name DNSKEY)) (s tt)

-- the node of a name below a zone, and below the same without its times
child_still : (w : World) (now : ℕ) (replies : Replies) (zone : Node) (keys : List (List ℕ)) (name : Place) → IsSteadyBelow w now replies name
    → untimed (child w replies zone keys name) ≡ untimed (child (at_moment w now) replies (untimed zone) keys name)
child_still w now replies zone keys name steady =
    let r : Reply = read_reply (replies name DS) in
    let u : World = at_moment w now in
    finished_still w now zone replies name (by_ds_reply w zone keys name r) (λ h. steady.at_keys (asked_by_ds w zone keys name r h))
    ∙ (ap (λ (b : Below). untimed (finished u replies (untimed zone) name b)) (ds_reply_still w now zone keys name r steady.at_ds)
    ∙ sym (finished_still u now (untimed zone) replies name (by_ds_reply u (untimed zone) keys name r) (λ _. steady_reply (moment u) (read_reply (replies name DNSKEY)))))

-- so the next node is alike at both moments, where the zones are
pub next_still : (w : World) (now : ℕ) (replies : Replies) (a b : Reached) (name : Place) → IsSteadyBelow w now replies name
    → untimed a.zone ≡ untimed b.zone → untimed (next w replies a name) ≡ untimed (next (at_moment w now) replies b name)
next_still w now replies a b name steady e =
    child_still w now replies a.zone (held_keys a.zone.standing) name steady
    ∙ (ap (λ (z : Node). untimed (child (at_moment w now) replies z (held_keys z.standing) name)) e
    ∙ sym (child_still (at_moment w now) now replies b.zone (held_keys b.zone.standing) name (steady_below (at_moment w now) replies name)))
