-- What is found of a group by the keys of a zone, and what is kept of it.
use Rattle.std.proofs.Common.{◌≡◌, ℕ, ◌+◌, List, [], Option, Some, refl, sym, ap, ◌∙◌, subst}
use Rattle.std.specs.Prelude.{slice_get, Result, Ok, Err, IfOk}
use Rattle.std.proofs.lemmas.Option.{same_Some}
use Rattle.dsec_spec.specs.Records.{Record, Key}
use Rattle.dsec_spec.specs.Groups.{Group}
use Rattle.dsec_spec.specs.Names.{Place}
use Rattle.dsec_spec.specs.Trying.{Tried, good, nothing, all_bad, too_many_bad, checked}
use Rattle.dsec_group.specs.Checks.{IsCheck, cause_of}
use Rattle.dsec_group.specs.declared.check.KeyCheck.{KeyCheck}
use Rattle.dsec_nodes.specs.Causes.{Cause}
use Rattle.dsec_nodes.specs.World.{World, Bounds}
use Rattle.dsec_nodes.specs.Nodes.{Node, Standing, apex, within, insecure, bogus}
use Rattle.dsec_nodes.specs.Signing.{keys_of, under_keys}
use Rattle.dsec_nodes.specs.Walk.{held_keys}
use Rattle.dsec_nodes.specs.Judging.{Finding, is_bogus, Judged, found_by, found_at}
use Rattle.dsec_node.specs.Views.{world_of}
use Rattle.dsec_spec.specs.Accepts.{Accepts}
use Rattle.dsec_found.specs.declared.found.Found.{Found}
use Rattle.dsec_found.specs.declared.found.Found.TheVariants.{Shown, Insecure, Bogus, AtBogus}
use Rattle.dsec_found.specs.Founds.{LeadsToKeys, IsPairAt, ComesTo, StandsBy, by_pair, finding_by}

-- a check that says indexes found a pair there
pub good_pair : (group : Group) (keys : List Key) (check : KeyCheck) (i j : ℕ) (t : Tried (Record × Key)) → IsCheck group keys check t → check.signature ≡ Some i → check.key ≡ Some j
    → (p : Record × Key) × (t ≡ good p) × IsPairAt group keys i j p
good_pair group keys check i j (good p) is e f =
    let at = is.indexes in
    let same_i : at.0 ≡ i = same_Some _ _ (sym at.2 ∙ e) in
    let same_j : at.1 ≡ j = same_Some _ _ (sym at.3 ∙ f) in
    (p, refl, record { signature_there = ap (slice_get group.signatures) (sym same_i) ∙ at.4; key_there = ap (slice_get keys) (sym same_j) ∙ at.5 })
good_pair group keys check i j nothing is e f = absurd (let n = sym is.indexes.0 ∙ e in cc)
good_pair group keys check i j all_bad is e f = absurd (let n = sym is.indexes.0 ∙ e in cc)
good_pair group keys check i j too_many_bad is e f = absurd (let n = sym is.indexes.0 ∙ e in cc)

-- trying within the same room at the same moment comes to the same
pub same_tried : (accepts : Accepts) (group : Group) (zone : Place) (keys : List Key) (bad other : ℕ) (t moment : ℕ) → bad ≡ other → t ≡ moment
    → checked accepts group zone keys (bad + 1) t ≡ checked accepts group zone keys (other + 1) moment
same_tried accepts group zone keys bad other t moment e f = ap (λ (n : ℕ). checked accepts group zone keys (n + 1) t) e ∙ ap (checked accepts group zone keys (other + 1)) f

-- a pair that stands at indexes is found there
pub pair_found : (group : Group) (n : Node) (held keys : List (List ℕ)) (i j : ℕ) (p : Record × Key) → held ≡ keys → IsPairAt group (keys_of keys) i j p
    → by_pair group n held (slice_get group.signatures i) (slice_get (keys_of held) j) ≡ found_by group n keys (good p)
pair_found group n held keys i j p same pair =
    ap (λ (ks : List (List ℕ)). by_pair group n ks (slice_get group.signatures i) (slice_get (keys_of ks) j)) same
    ∙ (ap (λ (o : Option Record). by_pair group n keys o (slice_get (keys_of keys) j)) pair.signature_there
    ∙ ap (λ (o : Option Key). by_pair group n keys (Some p.0) o) pair.key_there)

-- a cause that is kept is that of trying
refused : (group : Group) (n : Node) (keys : List (List ℕ)) (cause : Cause) (t : Tried (Record × Key)) → cause_of t ≡ Some cause → is_bogus cause n.links ≡ found_by group n keys t
refused group n keys cause (good p) e = absurd cc
refused group n keys cause nothing e = ap (λ (c : Cause). is_bogus c n.links) (sym (same_Some _ cause e))
refused group n keys cause all_bad e = ap (λ (c : Cause). is_bogus c n.links) (sym (same_Some _ cause e))
refused group n keys cause too_many_bad e = ap (λ (c : Cause). is_bogus c n.links) (sym (same_Some _ cause e))

-- what is found by the keys of a zone
pub zone_found : (w : World) (group : Group) (n : Node) (keys : List (List ℕ)) (found : Found) → n.standing ≡ apex keys → ComesTo group (keys_of keys) found (under_keys w n.signer keys group)
    → finding_by group n found ≡ found_at w group n n.standing
zone_found w group n keys found e comes = by found comes ∙ sym (ap (found_at w group n) e)
  where
    by : (f : Found) → ComesTo group (keys_of keys) f (under_keys w n.signer keys group) → finding_by group n f ≡ found_by group n keys (under_keys w n.signer keys group)
    by (Shown i j) c = pair_found group n (held_keys n.standing) keys i j c.0 (ap held_keys e) c.2 ∙ ap (found_by group n keys) (sym c.1)
    by Insecure c = absurd c
    by (Bogus cause) c = refused group n keys cause (under_keys w n.signer keys group) c
    by (AtBogus cause) c = absurd c

-- and the zone's node has it
pub zone_stands : (w : World) (group : Group) (n : Node) (keys : List (List ℕ)) (found : Found) → n.standing ≡ apex keys → ComesTo group (keys_of keys) found (under_keys w n.signer keys group)
    → StandsBy group n found
zone_stands w group n keys (Shown i j) e c = (c.0, subst (λ (ks : List (List ℕ)). IsPairAt group (keys_of ks) i j c.0) (sym (ap held_keys e)) c.2)
zone_stands w group n keys Insecure e c = absurd c
zone_stands w group n keys (Bogus cause) e c = ap LeadsToKeys e
zone_stands w group n keys (AtBogus cause) e c = absurd c

-- what follows from an answer follows from what it is told of
pub if_ok : {A E : Type 0} {P Q : A → Type 0} (r : Result A E) → ((a : A) → P a → Q a) → IfOk r P → IfOk r Q
if_ok (Ok a) f h = f a h
if_ok (Err e) f h = h

-- what is found by a node doesn't depend on the anchors
pub found_from_any : (accepts : Accepts) (anchors : List Record) (bounds : Bounds) (now : ℕ) (group : Group) (n : Node) (s : Standing)
    → found_at (world_of accepts [] bounds now) group n s ≡ found_at (world_of accepts anchors bounds now) group n s
found_from_any accepts anchors bounds now group n (apex keys) = refl
found_from_any accepts anchors bounds now group n (within last) = refl
found_from_any accepts anchors bounds now group n (insecure cause signed) = refl
found_from_any accepts anchors bounds now group n (bogus cause) = refl

-- judged groups that differ in what is found alone
pub judged_by : (group : Group) (n : Node) (f other : Finding) → f ≡ other
    → ◌≡◌ {A = Judged} (record { group = group; signer = n.signer; finding = f }) (record { group = group; signer = n.signer; finding = other })
judged_by group n f other e = ap (λ (x : Finding). record { group = group; signer = n.signer; finding = x }) e
