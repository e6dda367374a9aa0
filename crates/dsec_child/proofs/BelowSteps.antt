-- What a name below a zone comes to, by what the code finds of sets.
use Rattle.std.proofs.Common.{◌≡◌, ℕ, ◌+◌, ◌≤◌, ◌==◌, ◌||◌, Bool, true, false, cond, get_or, suc, List, [], ◌∷◌, length, map, Option, Some, None, refl, sym, ap, ◌∙◌, subst, arith}
use Rattle.std.specs.Prelude.{All, filter, find, slice_get, unwrap_or}
use Rattle.std.specs.List.{list_any, AllByRecursion}
use Rattle.std.proofs.lemmas.Bool.{true≢false, cond-true, cond-false, eq-eqb}
use Rattle.std.proofs.lemmas.Bool.Decides.{nat_tests}
use Rattle.std.proofs.lemmas.List.Elements.{recursion_from_All}
use Rattle.std.proofs.lemmas.Option.{same_Some}
use Rattle.dsec_spec.specs.Chain as chain
use Rattle.dsec_spec.specs.Groups.{Group, set_in}
use Rattle.dsec_spec.specs.Names.{Place, IsStrictlyBelow}
use Rattle.dsec_spec.specs.Numbers.{CNAME, DS}
use Rattle.dsec_spec.specs.Records.{Record, Key, ds_of}
use Rattle.dsec_spec.specs.Trying.{Tried, good, nothing, all_bad, too_many_bad}
use Rattle.dsec_group.specs.Checks.{cause_of}
use Rattle.dsec_nodes.specs.ByDs.{Below, Pending, made, asks, by_alias, by_ds_set, by_ds_reply, by_signed_ds, if_one, is_supported, is_usable, pending_by, usable, without_ds}
use Rattle.dsec_nodes.specs.Causes.{Cause, NoProofForMissingDs, NoSupportedDs}
use Rattle.dsec_nodes.specs.Held.{BelowKept, IsPending}
use Rattle.dsec_nodes.specs.MissingDs.{decided, passed, bogus_at, by_looked, insecure_by, looked_for, missing_ds, within_by}
use Rattle.dsec_nodes.specs.Nodes.{Node, Kept, apex, ds_not_supported}
use Rattle.dsec_nodes.specs.Replies.{Reply, sections}
use Rattle.dsec_nodes.specs.Signing.{is_expanded, is_set_at, kept_for, link_under, under_keys}
use Rattle.dsec_nodes.specs.World.{World}
use Rattle.dsec_nodes.proofs.ChildLaws.{alias_within, ds_reply_kept}
use Rattle.dsec_nodes.proofs.KeptLaws.{held}
use Rattle.dsec_nodes.proofs.Lasting.{set_at}
use Rattle.dsec_nodes.proofs.MissingLaws.{missing_kept}
use Rattle.dsec_nodes.proofs.Signs.{from_under}
use Rattle.dsec_denial.specs.Findings.{StandsAt}
use Rattle.dsec_denial.specs.declared.finding.SignedAt.{SignedAt}
use Rattle.dsec_denial.proofs.SearchSteps.{read_there}
use Rattle.dsec_child.specs.Belows.{IsZoneAbove, is_usable_ds}
use Rattle.dsec_child.specs.SignedSets.{IsPairAt}
use Rattle.dsec_child.specs.declared.signed_set.SignedBy.{SignedBy}

-- the pair at these indexes, by the signature and the key that stand there
pub pair_is : (keys : List Key) (group : Group) (by : SignedBy) (p : Record × Key) (one : Record) (key : Key) → IsPairAt group keys by p
    → slice_get group.signatures by.signature ≡ Some one → slice_get keys by.key ≡ Some key → p ≡ (one, key)
pair_is keys group by p one key pair there is =
    ap (λ (r : Record). (r, p.1)) (same_Some p.0 one (sym pair.signature_there ∙ there)) ∙ ap (λ (k : Key). (one, k)) (same_Some p.1 key (sym pair.key_there ∙ is))

-- a finding's indexes, by the group that was read there
pub stands_read : (groups : List Group) (said : List Key) (at : SignedAt) (group read : Group) (p : Record × Key) → StandsAt groups said at group p → read ≡ get_or groups at.group read → StandsAt groups said at read p
stands_read groups said at group read p s is = subst (λ (g : Group). StandsAt groups said at g p) (sym (read_there groups at.group read group s.group_there is)) s

-- where no pair is good the node is bogus
refused : (w : World) (name : Place) (cause : Cause) (t u : Tried (Record × Key)) (by : Record × Key → Below) → u ≡ t → cause_of t ≡ Some cause
    → made (bogus_at w name cause) ≡ if_one w name u by
refused w name cause t u by same e = go t e ∙ ap (λ (x : Tried (Record × Key)). if_one w name x by) (sym same)
  where
    go : (t : Tried (Record × Key)) → cause_of t ≡ Some cause → made (bogus_at w name cause) ≡ if_one w name t by
    go (good p) f = absurd cc
    go nothing f = ap (λ (c : Cause). made (bogus_at w name c)) (sym (same_Some _ cause f))
    go all_bad f = ap (λ (c : Cause). made (bogus_at w name c)) (sym (same_Some _ cause f))
    go too_many_bad f = ap (λ (c : Cause). made (bogus_at w name c)) (sym (same_Some _ cause f))

-- a CNAME set
module _ (w : World) (zone : Node) (keys : List (List ℕ)) (name : Place) (authorities : List Group) (group : Group) where
  abbrev no_alias : Below
  no_alias = made (missing_ds w zone keys name authorities)

  abbrev by_one : Record × Key → Below
  by_one p = cond (is_expanded group p.0) no_alias (made (within_by w zone keys name group p))

  alone : (length group.records == 1) ≡ true → if_one w name (under_keys w zone.signer keys group) by_one ≡ by_alias w zone keys name authorities (Some group)
  alone e = sym (cond-true (length group.records == 1) (if_one w name (under_keys w zone.signer keys group) by_one) no_alias e)

  pub alias_of_others : (length group.records == 1) ≡ false → no_alias ≡ by_alias w zone keys name authorities (Some group)
  alias_of_others e = sym (cond-false (length group.records == 1) (if_one w name (under_keys w zone.signer keys group) by_one) no_alias e)

  module _ (one : (length group.records == 1) ≡ true) (t : Tried (Record × Key)) (under : under_keys w zone.signer keys group ≡ t) where
    by_good : (p : Record × Key) → t ≡ good p → by_one p ≡ by_alias w zone keys name authorities (Some group)
    by_good p g = ap (λ (x : Tried (Record × Key)). if_one w name x by_one) (sym (under ∙ g)) ∙ alone one

    pub alias_signed : (p : Record × Key) → t ≡ good p → is_expanded group p.0 ≡ false → made (within_by w zone keys name group p) ≡ by_alias w zone keys name authorities (Some group)
    alias_signed p g x = sym (cond-false (is_expanded group p.0) no_alias (made (within_by w zone keys name group p)) x) ∙ by_good p g

    pub alias_stays : IsZoneAbove w zone keys name → is_set_at name CNAME group ≡ true → (p : Record × Key) → t ≡ good p → is_expanded group p.0 ≡ false
        → Kept w.accepts (within_by w zone keys name group p)
    alias_stays above at p g x = (alias_within w zone keys name group p above.is_held above.below at one (from_under w zone.signer keys group p (under ∙ g)) x).0

    pub alias_expanded : (p : Record × Key) → t ≡ good p → is_expanded group p.0 ≡ true → no_alias ≡ by_alias w zone keys name authorities (Some group)
    alias_expanded p g x = sym (cond-true (is_expanded group p.0) no_alias (made (within_by w zone keys name group p)) x) ∙ by_good p g

    pub alias_refused : (cause : Cause) → cause_of t ≡ Some cause → made (bogus_at w name cause) ≡ by_alias w zone keys name authorities (Some group)
    alias_refused cause e = refused w name cause t (under_keys w zone.signer keys group) by_one under e ∙ alone one

-- a DS set
module _ (w : World) (zone : Node) (keys : List (List ℕ)) (name : Place) (answers authorities : List Group) (group : Group) (t : Tried (Record × Key)) (under : under_keys w zone.signer keys group ≡ t) where
  abbrev absent : Below
  absent = without_ds w zone keys name answers authorities

  abbrev by_pair : Record × Key → Below
  by_pair p = cond (is_expanded group p.0) absent (by_signed_ds w zone keys name group p)

  by_good_pair : (p : Record × Key) → t ≡ good p → by_pair p ≡ by_ds_set w zone keys name answers authorities (Some group)
  by_good_pair p g = ap (λ (x : Tried (Record × Key)). if_one w name x by_pair) (sym (under ∙ g))

  pub ds_signed : (p : Record × Key) → t ≡ good p → is_expanded group p.0 ≡ false → by_signed_ds w zone keys name group p ≡ by_ds_set w zone keys name answers authorities (Some group)
  ds_signed p g x = sym (cond-false (is_expanded group p.0) absent (by_signed_ds w zone keys name group p) x) ∙ by_good_pair p g

  pub ds_expanded : (p : Record × Key) → t ≡ good p → is_expanded group p.0 ≡ true → absent ≡ by_ds_set w zone keys name answers authorities (Some group)
  ds_expanded p g x = sym (cond-true (is_expanded group p.0) absent (by_signed_ds w zone keys name group p) x) ∙ by_good_pair p g

  pub ds_refused : (cause : Cause) → cause_of t ≡ Some cause → made (bogus_at w name cause) ≡ by_ds_set w zone keys name answers authorities (Some group)
  ds_refused cause e = refused w name cause t (under_keys w zone.signer keys group) by_pair under e

never : (n : ℕ) → (suc n == 0) ≡ false
never n = grind (arith, nat_tests)

-- whether some pass a test, by how many do
module _ {A : Type 0} (p : A → Bool) where
  pub none_pass : (xs : List A) → list_any p xs ≡ false → (length (filter p xs) == 0) ≡ true
  none_pass [] e = refl
  none_pass (x ∷ xs) e = by (p x) refl (none_pass xs)
    where
      by : (b : Bool) → p x ≡ b → (list_any p xs ≡ false → (length (filter p xs) == 0) ≡ true) → (length (filter p (x ∷ xs)) == 0) ≡ true
      by true f rest = absurd (true≢false (ap (λ (c : Bool). c || list_any p xs) (sym f) ∙ e))
      by false f rest = ap (λ (c : Bool). length (cond c (x ∷ filter p xs) (filter p xs)) == 0) f ∙ rest (ap (λ (c : Bool). c || list_any p xs) (sym f) ∙ e)

  pub some_pass : (xs : List A) → list_any p xs ≡ true → (length (filter p xs) == 0) ≡ false
  some_pass [] e = absurd (true≢false (sym e))
  some_pass (x ∷ xs) e = by (p x) refl (some_pass xs)
    where
      by : (b : Bool) → p x ≡ b → (list_any p xs ≡ true → (length (filter p xs) == 0) ≡ false) → (length (filter p (x ∷ xs)) == 0) ≡ false
      by true f rest = ap (λ (c : Bool). length (cond c (x ∷ filter p xs) (filter p xs)) == 0) f ∙ never (length (filter p xs))
      by false f rest = ap (λ (c : Bool). length (cond c (x ∷ filter p xs) (filter p xs)) == 0) f ∙ rest (ap (λ (c : Bool). c || list_any p xs) (sym f) ∙ e)

-- DS records that can be used, by their data
pub usable_same : (rs : List Record) → AllByRecursion (λ (r : Record). r.rtype ≡ DS) rs → list_any is_usable_ds rs ≡ list_any is_usable (map (λ (r : Record). r.rdata) rs)
usable_same [] typed = refl
usable_same (r ∷ rs) typed =
    let one : is_usable_ds r ≡ is_usable r.rdata = ap is_supported (cond-true (r.rtype == DS) (ds_of r.rdata) None (eq-eqb r.rtype DS typed.0)) in
    let rest = usable_same rs typed.1 in
    λ i. one i || rest i

-- the same of a DS set's records
pub usable_in : (name : Place) (group : Group) (rs : List Record) → is_set_at name DS group ≡ true → rs ≡ group.records → All (λ (r : Record). r.rtype ≡ group.rtype) rs
    → list_any is_usable_ds rs ≡ list_any is_usable (set_in group).datas
usable_in name group rs at same typed =
    let each = recursion_from_All (λ (r : Record). r.rtype ≡ group.rtype) rs typed in
    usable_same rs (subst (λ (n : ℕ). AllByRecursion (λ (r : Record). r.rtype ≡ n) rs) (set_at name DS group at).of_type each)
    ∙ ap (λ (all : List Record). list_any is_usable (map (λ (r : Record). r.rdata) all)) same

-- a DS set that the zone has signed
module _ (w : World) (zone : Node) (keys : List (List ℕ)) (name : Place) (group : Group) (p : Record × Key) where
  abbrev unsupported : Node
  unsupported = insecure_by w zone keys name (Some NoSupportedDs) ds_not_supported group p

  abbrev waits : Below
  waits = asks (pending_by w zone keys name group p)

  pub by_usable : list_any is_usable (set_in group).datas ≡ true → waits ≡ by_signed_ds w zone keys name group p
  by_usable e = sym (cond-false (length (usable (set_in group).datas) == 0) (made unsupported) waits (some_pass is_usable (set_in group).datas e))

  pub by_unusable : list_any is_usable (set_in group).datas ≡ false → made unsupported ≡ by_signed_ds w zone keys name group p
  by_unusable e = sym (cond-true (length (usable (set_in group).datas) == 0) (made unsupported) waits (none_pass is_usable (set_in group).datas e))

  -- the node by a set without a usable record is kept
  pub unsupported_kept : IsZoneAbove w zone keys name → is_set_at name DS group ≡ true → under_keys w zone.signer keys group ≡ good p → is_expanded group p.0 ≡ false
      → list_any is_usable (set_in group).datas ≡ false → Kept w.accepts unsupported
  unsupported_kept above at under whole none =
      let found : find (is_set_at name DS) (group ∷ []) ≡ Some group = ap (λ (b : Bool). cond b (Some group) None) at in
      let is : by_ds_reply w zone keys name (sections (group ∷ []) []) ≡ made unsupported = ap (by_ds_set w zone keys name (group ∷ []) []) found
      ∙ (sym (ds_signed w zone keys name (group ∷ []) [] group (good p) under p refl whole) ∙ sym (by_unusable none)) in
      (subst (BelowKept w zone keys name) is (ds_reply_kept w zone keys name (sections (group ∷ []) []) above.is_held above.below)).0

-- a reply without a DS set that counts
module _ (w : World) (zone : Node) (keys : List (List ℕ)) (name : Place) (groups : List Group) where
  pub missing_decided : (n : Node) → looked_for w zone keys name groups ≡ decided n → n ≡ missing_ds w zone keys name groups
  missing_decided n e = ap (by_looked w name) (sym e)

  pub missing_passed : (cause : Option Cause) → looked_for w zone keys name groups ≡ passed cause → bogus_at w name (unwrap_or cause NoProofForMissingDs) ≡ missing_ds w zone keys name groups
  missing_passed None e = ap (by_looked w name) (sym e)
  missing_passed (Some cause) e = ap (by_looked w name) (sym e)

  pub decided_kept : IsZoneAbove w zone keys name → (n : Node) → looked_for w zone keys name groups ≡ decided n → Kept w.accepts n
  decided_kept above n e = subst (Kept w.accepts) (sym (missing_decided n e)) (missing_kept w zone keys name groups above.is_held above.below).0

-- a signed DS set, by its parts
pub pending_is : (w : World) (zone : Node) (keys : List (List ℕ)) (name : Place) (group : Group) (p : Record × Key) (its : Place) (link : chain.Link) (valid_for : ℕ)
    → its ≡ name → link ≡ link_under chain.ds keys group p → valid_for ≡ kept_for w zone group p.0
    → record { name = its; link = link; valid_for = valid_for } ≡ pending_by w zone keys name group p
pending_is w zone keys name group p its link valid_for a b c = λ i. record { name = a i; link = b i; valid_for = c i }

-- a set that isn't of another number of records than one has one
pub one_of : (group : Group) (records : List Record) → records ≡ group.records → length records ≡ 1 → (length group.records == 1) ≡ true
one_of group records same one = eq-eqb (length group.records) 1 (ap length (sym same) ∙ one)

-- a zone has one set of keys
pub same_keys : (keys others : List (List ℕ)) → apex keys ≡ apex others → keys ≡ others
same_keys keys others e = cc

-- a DS set that is to be followed is one that the zone has signed
pub follows_pending : (w : World) (zone : Node) (keys : List (List ℕ)) (name : Place) (reply : Reply) → Kept w.accepts zone → zone.standing ≡ apex keys → zone.made ≤ w.now → w.now ≤ zone.made + zone.valid_for
    → IsStrictlyBelow name zone.signer → (b : Below) → b ≡ by_ds_reply w zone keys name reply → (pending : Pending) → b ≡ asks pending → IsPending w zone keys pending
follows_pending w zone keys name reply kept is from to under b e pending f =
    (subst (BelowKept w zone keys name) (sym e ∙ f) (ds_reply_kept w zone keys name reply (held w zone keys kept is from to) under)).0
