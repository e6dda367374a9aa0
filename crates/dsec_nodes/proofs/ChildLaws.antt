-- The node of a name below a held zone is kept.
use Rattle.std.proofs.Common.{◌≡◌, ℕ, ◌==◌, true, false, List, [], ◌∷◌, length, map, Option, Some, None, refl, ap, ◌∙◌, subst, inl}
use Rattle.std.specs.Prelude.{Contains, find}
use Rattle.std.proofs.lemmas.Bool.{and_from, eqb-true}
use Rattle.dsec_spec.specs.Names.{Place, IsStrictlyBelow}
use Rattle.dsec_spec.specs.Numbers.{CNAME, DS, DNSKEY}
use Rattle.dsec_spec.specs.Records.{Record, Key}
use Rattle.dsec_spec.specs.Groups.{Group, set_in}
use Rattle.dsec_spec.specs.Trying.{Tried, good, nothing, all_bad, too_many_bad}
use Rattle.dsec_spec.proofs.Members.{from_find, in_filter, not_in_none}
use Rattle.dsec_nodes.specs.World.{World, Replies}
use Rattle.dsec_nodes.specs.Causes.{Cause, NoSignature, BadSignature, TooManyBadSignatures, RequestFailed, RequestUnreadable, NoDnskey, NoSupportedDs, TooManyBadSignaturesForDnskey, BadSignatureForDnskey}
use Rattle.dsec_nodes.specs.Nodes.{Node, ds_not_supported}
use Rattle.dsec_nodes.specs.SignedCauses.{IsUnsupported}
use Rattle.dsec_nodes.specs.Signing.{under_keys, is_expanded, is_set_at}
use Rattle.dsec_nodes.specs.Admission.{Admitted, tried_by, cause_among, ds_search}
use Rattle.dsec_nodes.specs.Replies.{Reply, failed, unreadable, sections, read_reply}
use Rattle.dsec_nodes.specs.MissingDs.{within_by}
use Rattle.dsec_nodes.specs.ByDs.{is_supported, is_usable, usable, Pending, Below, made, asks, if_one, by_alias, by_signed_ds, by_ds_set, by_ds_reply, ways, none_by, by_tried, by_key_set, by_key_reply}
use Rattle.dsec_nodes.specs.Walk.{finished, child}
use Rattle.dsec_nodes.proofs.Signs.{from_under, from_tried_by}
use Rattle.dsec_nodes.proofs.Lasting.{set_at}
use Rattle.dsec_nodes.proofs.KeptLaws.{KeptBelow, bogus_below, is_pending, within_kept, insecure_kept, apex_kept}
use Rattle.dsec_nodes.proofs.LookedLaws.{either}
use Rattle.dsec_nodes.proofs.MissingLaws.{missing_below}
use Rattle.dsec_nodes.specs.Held.{BelowKept, GoodPair, HeldZone, IsPending, KeptAt, SetAt}

-- what comes of a reply to the question for a DS set is kept and follows from the zone, or is a DS set that the zone has signed
abbrev pub BelowFollows : World → Node → List (List ℕ) → Place → Below → Type 0
BelowFollows w zone keys name (made n) = KeptBelow w zone name n
BelowFollows w zone keys name (asks pending) = IsPending w zone keys pending × (pending.name ≡ name)

one_kept : (w : World) (zone : Node) (keys : List (List ℕ)) (name : Place) (group : Group) (by : Record × Key → Below) (t : Tried (Record × Key)) → under_keys w zone.signer keys group ≡ t
    → ((p : Record × Key) → GoodPair w zone.signer keys group p → BelowFollows w zone keys name (by p))
    → BelowFollows w zone keys name (if_one w name t by)
one_kept w zone keys name group by (good p) e each = each p (from_under w zone.signer keys group p e)
one_kept w zone keys name group by nothing e each = bogus_below w zone name NoSignature
one_kept w zone keys name group by all_bad e each = bogus_below w zone name BadSignature
one_kept w zone keys name group by too_many_bad e each = bogus_below w zone name TooManyBadSignatures

none_usable : (datas : List (List ℕ)) → (length (usable datas) == 0) ≡ true → (x : List ℕ) → Contains datas x → IsUnsupported x
none_usable datas e x there ds says supported =
    let passes : is_usable x ≡ true = ap is_supported says ∙ and_from _ _ supported.known_algorithm supported.known_digest in
    by (usable datas) (eqb-true (length (usable datas)) 0 e) (in_filter is_usable datas x there passes)
  where
    by : (xs : List (List ℕ)) → length xs ≡ 0 → Contains xs x → ⊥
    by [] f h = not_in_none x h
    by (y ∷ ys) f h = absurd cc

only_one : (rs : List Record) → (length rs == 1) ≡ true → (r : Record) × (rs ≡ r ∷ [])
only_one rs e = by rs (eqb-true (length rs) 1 e)
  where
    by : (xs : List Record) → length xs ≡ 1 → (r : Record) × (xs ≡ r ∷ [])
    by [] f = absurd cc
    by (r ∷ []) f = (r, refl)
    by (r ∷ s ∷ xs) f = absurd cc

-- a CNAME record alone in its set shows that its name is within the zone
pub alias_within : (w : World) (zone : Node) (keys : List (List ℕ)) (name : Place) (group : Group) (p : Record × Key) → HeldZone w zone keys
    → IsStrictlyBelow name zone.signer → is_set_at name CNAME group ≡ true → (length group.records == 1) ≡ true
    → GoodPair w zone.signer keys group p → is_expanded group p.0 ≡ false → KeptAt w name (within_by w zone keys name group p)
alias_within w zone keys name group p h below is single g whole =
    let at = set_at name CNAME group is in
    let one = only_one group.records single in
    within_kept w zone keys name group p h g below at.of_class whole
    (inl (record { of_type = at.of_type; at = at.at; rdata = one.0.rdata; alone = ap (map (λ (r : Record). r.rdata)) one.1 }))

alias_kept : (w : World) (zone : Node) (keys : List (List ℕ)) (name : Place) (answers authorities : List Group) (o : Option Group)
    → find (is_set_at name CNAME) answers ≡ o → HeldZone w zone keys → IsStrictlyBelow name zone.signer
    → BelowFollows w zone keys name (by_alias w zone keys name authorities o)
alias_kept w zone keys name answers authorities None e h below = missing_below w zone keys name authorities h below
alias_kept w zone keys name answers authorities (Some group) e h below =
    let at = (from_find (is_set_at name CNAME) answers group e).0 in
    either (BelowFollows w zone keys name) (length group.records == 1) _ _
    (λ single. one_kept w zone keys name group _ (under_keys w zone.signer keys group) refl (λ p g.
    either (BelowFollows w zone keys name) (is_expanded group p.0) _ _ (λ _. missing_below w zone keys name authorities h below) (λ whole.
    (alias_within w zone keys name group p h below at single g whole, λ _. refl, refl))))
    (λ _. missing_below w zone keys name authorities h below)

signed_ds_kept : (w : World) (zone : Node) (keys : List (List ℕ)) (name : Place) (group : Group) (p : Record × Key) → HeldZone w zone keys
    → IsStrictlyBelow name zone.signer → SetAt name DS group
    → GoodPair w zone.signer keys group p → is_expanded group p.0 ≡ false
    → BelowFollows w zone keys name (by_signed_ds w zone keys name group p)
signed_ds_kept w zone keys name group p h below at g whole =
    either (BelowFollows w zone keys name) (length (usable (set_in group).datas) == 0) _ _
    (λ none. (
      insecure_kept w zone keys name (Some NoSupportedDs) ds_not_supported group p h g (λ _. at.at) at.of_class below whole (record {
        of_type = at.of_type;
        at = at.at;
        none = none_usable (set_in group).datas none;
      }) refl,
      λ _. refl,
      refl,
    ))
    (λ _. (is_pending w zone keys name group p g at below whole, refl))

ds_set_kept : (w : World) (zone : Node) (keys : List (List ℕ)) (name : Place) (answers authorities : List Group) (o : Option Group)
    → find (is_set_at name DS) answers ≡ o → HeldZone w zone keys → IsStrictlyBelow name zone.signer
    → BelowFollows w zone keys name (by_ds_set w zone keys name answers authorities o)
ds_set_kept w zone keys name answers authorities None e h below = alias_kept w zone keys name answers authorities (find (is_set_at name CNAME) answers) refl h below
ds_set_kept w zone keys name answers authorities (Some group) e h below =
    let at = set_at name DS group (from_find (is_set_at name DS) answers group e).0 in
    one_kept w zone keys name group _ (under_keys w zone.signer keys group) refl (λ p g.
    either (BelowFollows w zone keys name) (is_expanded group p.0) _ _
    (λ _. alias_kept w zone keys name answers authorities (find (is_set_at name CNAME) answers) refl h below)
    (λ whole. signed_ds_kept w zone keys name group p h below at g whole))

-- what the reply to the question for a DS set comes to follows from the zone
pub ds_reply_below : (w : World) (zone : Node) (keys : List (List ℕ)) (name : Place) (reply : Reply) → HeldZone w zone keys
    → IsStrictlyBelow name zone.signer → BelowFollows w zone keys name (by_ds_reply w zone keys name reply)
ds_reply_below w zone keys name failed h below = bogus_below w zone name RequestFailed
ds_reply_below w zone keys name unreadable h below = bogus_below w zone name RequestUnreadable
ds_reply_below w zone keys name (sections answers authorities) h below = ds_set_kept w zone keys name answers authorities (find (is_set_at name DS) answers) refl h below

key_set_below : (w : World) (zone : Node) (keys : List (List ℕ)) (pending : Pending) (answers : List Group) (o : Option Group)
    → find (is_set_at pending.name DNSKEY) answers ≡ o → HeldZone w zone keys → IsPending w zone keys pending
    → KeptBelow w zone pending.name (by_key_set w zone pending o)
key_set_below w zone keys pending answers None e h d = bogus_below w zone pending.name NoDnskey
key_set_below w zone keys pending answers (Some group) e h d = by (tried_by w group (ds_search w.bounds.max_keys_for_ds group) (ways w pending)) refl
  where
    why : Cause
    why = none_by w pending (cause_among BadSignatureForDnskey group (ds_search w.bounds.max_keys_for_ds group) (ways w pending))

    by : (t : Tried (Record × Admitted (List ℕ))) → tried_by w group (ds_search w.bounds.max_keys_for_ds group) (ways w pending) ≡ t
        → KeptBelow w zone pending.name (by_tried w zone pending group t)
    by (good p) f = (
      apex_kept w zone keys pending group p h d (from_tried_by w w.bounds.max_keys_for_ds group (ways w pending) p f)
          (set_at pending.name DNSKEY group (from_find (is_set_at pending.name DNSKEY) answers group e).0),
      λ _. refl,
      refl,
    )
    by nothing f = bogus_below w zone pending.name why
    by all_bad f = bogus_below w zone pending.name why
    by too_many_bad f = bogus_below w zone pending.name TooManyBadSignaturesForDnskey

-- what the reply to the question for a DNSKEY set comes to, after a signed DS set, follows from the zone
pub key_reply_below : (w : World) (zone : Node) (keys : List (List ℕ)) (pending : Pending) (reply : Reply) → HeldZone w zone keys
    → IsPending w zone keys pending → KeptBelow w zone pending.name (by_key_reply w zone pending reply)
key_reply_below w zone keys pending failed h d = bogus_below w zone pending.name RequestFailed
key_reply_below w zone keys pending unreadable h d = bogus_below w zone pending.name RequestUnreadable
key_reply_below w zone keys pending (sections answers authorities) h d =
    key_set_below w zone keys pending answers (find (is_set_at pending.name DNSKEY) answers) refl h d

-- the node of a name strictly below a held zone is kept, and follows from it
pub child_below : (w : World) (replies : Replies) (zone : Node) (keys : List (List ℕ)) (name : Place) → HeldZone w zone keys
    → IsStrictlyBelow name zone.signer → KeptBelow w zone name (child w replies zone keys name)
child_below w replies zone keys name h below =
    by (by_ds_reply w zone keys name (read_reply (replies name DS))) (ds_reply_below w zone keys name (read_reply (replies name DS)) h below)
  where
    by : (b : Below) → BelowFollows w zone keys name b → KeptBelow w zone name (finished w replies zone name b)
    by (made n) p = p
    by (asks pending) p =
        subst (λ (x : Place). KeptBelow w zone x (finished w replies zone name (asks pending))) p.1
        (key_reply_below w zone keys pending (read_reply (replies name DNSKEY)) h p.0)

-- what the reply to the question for a DS set comes to is a kept node, or a DS set that the zone has signed (RFC 4035 5.2)
pub ds_reply_kept : (w : World) (zone : Node) (keys : List (List ℕ)) (name : Place) (reply : Reply) → HeldZone w zone keys
    → IsStrictlyBelow name zone.signer → BelowKept w zone keys name (by_ds_reply w zone keys name reply)
ds_reply_kept w zone keys name reply h below = by (by_ds_reply w zone keys name reply) (ds_reply_below w zone keys name reply h below)
  where
    by : (b : Below) → BelowFollows w zone keys name b → BelowKept w zone keys name b
    by (made n) p = p.0
    by (asks pending) p = p

-- what the reply to the question for a DNSKEY set comes to, after a signed DS set, is kept (RFC 4035 5.2)
pub key_reply_kept : (w : World) (zone : Node) (keys : List (List ℕ)) (pending : Pending) (reply : Reply) → HeldZone w zone keys
    → IsPending w zone keys pending → KeptAt w pending.name (by_key_reply w zone pending reply)
key_reply_kept w zone keys pending reply h d = (key_reply_below w zone keys pending reply h d).0

-- the node of a name strictly below a held zone is kept
pub child_kept : (w : World) (replies : Replies) (zone : Node) (keys : List (List ℕ)) (name : Place) → HeldZone w zone keys
    → IsStrictlyBelow name zone.signer → KeptAt w name (child w replies zone keys name)
child_kept w replies zone keys name h below = (child_below w replies zone keys name h below).0
