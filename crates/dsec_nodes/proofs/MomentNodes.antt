-- Where no signature of a reply comes into force or expires between two moments, what it comes to at one is, but for times, what it comes to at the other
-- below the same zone without its times.
use Rattle.std.proofs.Common.{◌≡◌, ℕ, ◌==◌, ◌&&◌, Bool, true, false, cond, List, [], ◌∷◌, length, Option, Some, None, refl, sym, ap, ◌∙◌, subst}
use Rattle.std.specs.Prelude.{find, nat_lt, IfSome}
use Rattle.std.specs.List.{AllByRecursion}
use Rattle.std.specs.Str.{bytes_eq}
use Rattle.std.proofs.Math.Bool.{not}
use Rattle.dsec_spec.specs.DenyingRecords.{hash_by}
use Rattle.dsec_spec.specs.HashedNames.{has_opt_out}
use Rattle.dsec_spec.specs.Names.{Place, place, same_place, is_below, is_strictly_below}
use Rattle.dsec_spec.specs.Numbers.{IN, NS, CNAME, SOA, DS, NSEC, DNAME}
use Rattle.dsec_spec.specs.Records.{Record, Key}
use Rattle.dsec_spec.specs.TypeBitmaps.{has_type}
use Rattle.dsec_spec.specs.RecordViews.{Nsec, nsec_of, Nsec3}
use Rattle.dsec_spec.specs.Groups.{Group, set_in}
use Rattle.dsec_spec.specs.Trying.{Tried, good, nothing, all_bad, too_many_bad}
use Rattle.dsec_spec.proofs.Members.{from_find}
use Rattle.dsec_nodes.specs.World.{World, moment, on_circle}
use Rattle.dsec_nodes.specs.Nodes.{Node}
use Rattle.dsec_nodes.specs.Signing.{is_set_at, is_expanded}
use Rattle.dsec_nodes.specs.Replies.{Reply, failed, unreadable, sections}
use Rattle.dsec_nodes.specs.Looking.{Looked, decided, passed, if_signed, then_looked, looked_among, by_looked}
use Rattle.dsec_nodes.specs.MissingByNsec.{is_in_range, delegates, by_matching, by_covering, by_range, by_prefix, by_nsec, by_records, by_group, nsec_search}
use Rattle.dsec_nodes.specs.MissingByHash.{is_between, by_own_hash, redirects, by_hash_gap, by_hashes, by_owner_hash, by_iterations, has_too_many, has_many, owner_hash_in, by_hashing, is_label_before, by_nsec3, nsec3_in, by_hashed_group, nsec3_search}
use Rattle.dsec_nodes.specs.MissingDs.{looked_for, missing_ds}
use Rattle.dsec_nodes.specs.ByDs.{usable, Below, made, asks, if_one, by_alias, without_ds, by_signed_ds, by_ds_set, by_ds_reply}
use Rattle.dsec_nodes.specs.Likeness.{untimed}
use Rattle.dsec_nodes.proofs.Each.{all_in}
use Rattle.dsec_nodes.specs.Moments.{at_moment, AreSteady, IsSteadyReply}
use Rattle.dsec_nodes.proofs.MomentSigns.{under_same}

-- what groups show, and what a reply comes to, without times
abbrev bare_looked : Looked → Looked
bare_looked (decided n) = decided (untimed n)
bare_looked (passed cause) = passed cause

abbrev pub bare_below : Below → Below
bare_below (made n) = made (untimed n)
bare_below (asks pending) = asks (record { name = pending.name; link = pending.link; valid_for = 0 })

-- a choice between what is the same
choice : {A B : Type 0} (f : A → B) (b : Bool) {x y p q : A} → f x ≡ f p → f y ≡ f q → f (cond b x y) ≡ f (cond b p q)
choice f true e g = e
choice f false e g = g

-- a group that is found among steady ones
pub found_steady : (t u : ℕ) (test : Group → Bool) (groups : List Group) → AllByRecursion (AreSteady t u) groups → IfSome (find test groups) (AreSteady t u)
found_steady t u test groups h = by (find test groups) refl
  where
    by : (o : Option Group) → find test groups ≡ o → IfSome o (AreSteady t u)
    by None e = tt
    by (Some group) e = all_in (AreSteady t u) groups group h (from_find test groups group e).1

module _ (w : World) (now : ℕ) where
  abbrev pub Steady : Group → Type 0
  Steady group = AreSteady (moment w) (on_circle now) group

  signed_still : (name : Place) (s t : Tried (Record × Key)) (f g : Record × Key → Looked) → s ≡ t
      → ((p : Record × Key) → bare_looked (f p) ≡ bare_looked (g p)) → bare_looked (if_signed w name s f) ≡ bare_looked (if_signed (at_moment w now) name t g)
  signed_still name s t f g e same = subst (λ (x : Tried (Record × Key)). bare_looked (if_signed w name s f) ≡ bare_looked (if_signed (at_moment w now) name x g)) e (by s)
    where
      by : (x : Tried (Record × Key)) → bare_looked (if_signed w name x f) ≡ bare_looked (if_signed (at_moment w now) name x g)
      by (good p) = same p
      by nothing = refl
      by all_bad = refl
      by too_many_bad = refl

  one_still : (name : Place) (s t : Tried (Record × Key)) (f g : Record × Key → Below) → s ≡ t
      → ((p : Record × Key) → bare_below (f p) ≡ bare_below (g p)) → bare_below (if_one w name s f) ≡ bare_below (if_one (at_moment w now) name t g)
  one_still name s t f g e same = subst (λ (x : Tried (Record × Key)). bare_below (if_one w name s f) ≡ bare_below (if_one (at_moment w now) name x g)) e (by s)
    where
      by : (x : Tried (Record × Key)) → bare_below (if_one w name x f) ≡ bare_below (if_one (at_moment w now) name x g)
      by (good p) = same p
      by nothing = refl
      by all_bad = refl
      by too_many_bad = refl

then_bare : (x y : Looked) → bare_looked (then_looked x y) ≡ then_looked (bare_looked x) (bare_looked y)
then_bare (decided n) later = refl
then_bare (passed cause) (decided n) = refl
then_bare (passed cause) (passed None) = refl
then_bare (passed cause) (passed (Some later)) = refl

then_still : (x y p q : Looked) → bare_looked x ≡ bare_looked p → bare_looked y ≡ bare_looked q
    → bare_looked (then_looked x y) ≡ bare_looked (then_looked p q)
then_still x y p q e f =
    then_bare x y ∙ (ap (λ (l : Looked). then_looked l (bare_looked y)) e ∙ (ap (then_looked (bare_looked p)) f ∙ sym (then_bare p q)))

among_still : (P : Group → Type 0) (f g : Group → Looked) → ((group : Group) → P group → bare_looked (f group) ≡ bare_looked (g group))
    → (groups : List Group) → AllByRecursion P groups → bare_looked (looked_among f groups) ≡ bare_looked (looked_among g groups)
unfolding looked_among
among_still P f g e [] h = refl
among_still P f g e (group ∷ groups) h =
    then_still (f group) (looked_among f groups) (g group) (looked_among g groups) (e group h.0) (among_still P f g e groups h.1)

-- what NSEC records show at both moments
module _ (w : World) (now : ℕ) (zone : Node) (keys : List (List ℕ)) (name : Place) where
  matching_still : (group : Group) (nsec : Nsec) (p : Record × Key)
      → bare_looked (by_matching w zone keys name group nsec p) ≡ bare_looked (by_matching (at_moment w now) (untimed zone) keys name group nsec p)
  matching_still group nsec p =
      choice bare_looked (is_expanded group p.0) refl
      (choice bare_looked (has_type nsec.types DS) refl (choice bare_looked (has_type nsec.types SOA) refl (choice bare_looked (has_type nsec.types NS) refl refl)))

  covering_still : (group : Group) (p : Record × Key)
      → bare_looked (by_covering w zone keys name group p) ≡ bare_looked (by_covering (at_moment w now) (untimed zone) keys name group p)
  covering_still group p = choice bare_looked (is_expanded group p.0) refl refl

  range_still : (group : Group) → Steady w now group → (nsec : Nsec)
      → bare_looked (by_range w zone keys name group nsec) ≡ bare_looked (by_range (at_moment w now) (untimed zone) keys name group nsec)
  range_still group s nsec =
      choice bare_looked (is_in_range (place group.owner) (place nsec.next_name) name && is_below (place nsec.next_name) name)
      (signed_still w now name _ _ _ _ (under_same w now group s zone.signer keys) (covering_still group)) refl

  prefix_still : (group : Group) → Steady w now group → (nsec : Nsec) (p : Record × Key)
      → bare_looked (by_prefix w zone keys name group nsec p) ≡ bare_looked (by_prefix (at_moment w now) (untimed zone) keys name group nsec p)
  prefix_still group s nsec p =
      choice bare_looked (is_expanded group p.0) refl
      (choice bare_looked (has_type nsec.types DNAME) refl (choice bare_looked (delegates nsec) refl (range_still group s nsec)))

  nsec_still : (group : Group) → Steady w now group → (o : Option Nsec)
      → bare_looked (by_nsec w zone keys name group o) ≡ bare_looked (by_nsec (at_moment w now) (untimed zone) keys name group o)
  nsec_still group s None = refl
  nsec_still group s (Some nsec) =
      choice bare_looked (same_place (place group.owner) name)
      (signed_still w now name _ _ _ _ (under_same w now group s zone.signer keys) (matching_still group nsec))
      (choice bare_looked (is_strictly_below name (place group.owner))
      (signed_still w now name _ _ _ _ (under_same w now group s zone.signer keys) (prefix_still group s nsec)) (range_still group s nsec))

  records_still : (group : Group) → Steady w now group → (rs : List Record)
      → bare_looked (by_records w zone keys name group rs) ≡ bare_looked (by_records (at_moment w now) (untimed zone) keys name group rs)
  records_still group s [] = refl
  records_still group s (r ∷ []) = nsec_still group s (nsec_of r.rdata)
  records_still group s (r ∷ other ∷ rs) = refl

  group_still : (group : Group) → Steady w now group
      → bare_looked (by_group w zone keys name group) ≡ bare_looked (by_group (at_moment w now) (untimed zone) keys name group)
  group_still group s = choice bare_looked ((group.rtype == NSEC) && (group.class == IN)) (records_still group s group.records) refl

-- what NSEC3 records show at both moments
module _ (w : World) (now : ℕ) (zone : Node) (keys : List (List ℕ)) (name : Place) where
  own_hash_still : (group : Group) (nsec3 : Nsec3) (p : Record × Key)
      → bare_looked (by_own_hash w zone keys name group nsec3 p) ≡ bare_looked (by_own_hash (at_moment w now) (untimed zone) keys name group nsec3 p)
  own_hash_still group nsec3 p =
      choice bare_looked (is_expanded group p.0) refl
      (choice bare_looked (has_type nsec3.types DS) refl (choice bare_looked (has_type nsec3.types SOA) refl (choice bare_looked (has_type nsec3.types NS) refl refl)))

  gap_still : (group : Group) (nsec3 : Nsec3) (redirected : Bool) (p : Record × Key)
      → bare_looked (by_hash_gap w zone keys name group nsec3 redirected p) ≡ bare_looked (by_hash_gap (at_moment w now) (untimed zone) keys name group nsec3 redirected p)
  gap_still group nsec3 redirected p =
      choice bare_looked (is_expanded group p.0) refl (choice bare_looked (not (has_opt_out nsec3.hashing)) refl (choice bare_looked redirected refl refl))

  hashes_still : (group : Group) → Steady w now group → (nsec3 : Nsec3) (owner_hash hash : List ℕ)
      → bare_looked (by_hashes w zone keys name group nsec3 owner_hash hash) ≡ bare_looked (by_hashes (at_moment w now) (untimed zone) keys name group nsec3 owner_hash hash)
  hashes_still group s nsec3 owner_hash hash =
      choice bare_looked (bytes_eq hash owner_hash) (signed_still w now name _ _ _ _ (under_same w now group s zone.signer keys) (own_hash_still group nsec3))
      (choice bare_looked (is_between owner_hash nsec3.next_owner hash)
      (signed_still w now name _ _ _ _ (under_same w now group s zone.signer keys) (gap_still group nsec3 (redirects zone.signer owner_hash nsec3))) refl)

  owner_hash_still : (group : Group) → Steady w now group → (nsec3 : Nsec3) (o : Option (List ℕ))
      → bare_looked (by_owner_hash w zone keys name group nsec3 o) ≡ bare_looked (by_owner_hash (at_moment w now) (untimed zone) keys name group nsec3 o)
  owner_hash_still group s nsec3 None = refl
  owner_hash_still group s nsec3 (Some owner_hash) = hashes_still group s nsec3 owner_hash (hash_by nsec3.hashing name)

  iterations_still : (group : Group) (too_many : Bool) (p : Record × Key)
      → bare_looked (by_iterations w zone keys name group too_many p) ≡ bare_looked (by_iterations (at_moment w now) (untimed zone) keys name group too_many p)
  iterations_still group too_many p = choice bare_looked (is_expanded group p.0) refl (choice bare_looked too_many refl refl)

  hashing_still : (group : Group) → Steady w now group → (nsec3 : Nsec3)
      → bare_looked (by_hashing w zone keys name group nsec3) ≡ bare_looked (by_hashing (at_moment w now) (untimed zone) keys name group nsec3)
  hashing_still group s nsec3 =
      choice bare_looked (not (nsec3.hashing.hash_algorithm == 1)) refl
      (choice bare_looked (has_many w.bounds nsec3)
      (signed_still w now name _ _ _ _ (under_same w now group s zone.signer keys) (iterations_still group (has_too_many w.bounds nsec3)))
      (owner_hash_still group s nsec3 (owner_hash_in group.owner)))

  nsec3_still : (group : Group) → Steady w now group → (o : Option Nsec3)
      → bare_looked (by_nsec3 w zone keys name group o) ≡ bare_looked (by_nsec3 (at_moment w now) (untimed zone) keys name group o)
  nsec3_still group s None = refl
  nsec3_still group s (Some nsec3) =
      choice bare_looked (nat_lt 1 nsec3.hashing.flags) refl (choice bare_looked (is_label_before zone.signer group.owner) (hashing_still group s nsec3) refl)

-- what a reply comes to at both moments
module _ (w : World) (now : ℕ) (zone : Node) (keys : List (List ℕ)) (name : Place) where
  looked_bare : (u : World) (x : Looked) → untimed (by_looked u name x) ≡ untimed (by_looked u name (bare_looked x))
  looked_bare u (decided n) = refl
  looked_bare u (passed None) = refl
  looked_bare u (passed (Some cause)) = refl

  looked_still : (x : Looked) → untimed (by_looked w name x) ≡ untimed (by_looked (at_moment w now) name x)
  looked_still (decided n) = refl
  looked_still (passed None) = refl
  looked_still (passed (Some cause)) = refl

  missing_still : (authorities : List Group) → AllByRecursion (Steady w now) authorities
      → untimed (missing_ds w zone keys name authorities) ≡ untimed (missing_ds (at_moment w now) (untimed zone) keys name authorities)
  missing_still authorities h =
      let same : bare_looked (looked_for w zone keys name authorities) ≡ bare_looked (looked_for (at_moment w now) (untimed zone) keys name authorities) =
      then_still (nsec_search w zone keys name authorities) (nsec3_search w zone keys name authorities)
      (nsec_search (at_moment w now) (untimed zone) keys name authorities) (nsec3_search (at_moment w now) (untimed zone) keys name authorities)
      (among_still (Steady w now) (by_group w zone keys name) (by_group (at_moment w now) (untimed zone) keys name) (group_still w now zone keys name) authorities h)
      (among_still (Steady w now) (by_hashed_group w zone keys name) (by_hashed_group (at_moment w now) (untimed zone) keys name)
      (λ group s. nsec3_still w now zone keys name group s (nsec3_in group)) authorities h) in
      looked_bare w (looked_for w zone keys name authorities)
      ∙ (ap (λ (x : Looked). untimed (by_looked w name x)) same
      ∙ (looked_still (bare_looked (looked_for (at_moment w now) (untimed zone) keys name authorities))
      ∙ sym (looked_bare (at_moment w now) (looked_for (at_moment w now) (untimed zone) keys name authorities))))

  alias_still : (authorities : List Group) → AllByRecursion (Steady w now) authorities → (o : Option Group) → IfSome o (Steady w now)
      → bare_below (by_alias w zone keys name authorities o) ≡ bare_below (by_alias (at_moment w now) (untimed zone) keys name authorities o)
  alias_still authorities h None s = ap made (missing_still authorities h)
  alias_still authorities h (Some group) s =
      choice bare_below (length group.records == 1)
      (one_still w now name _ _ _ _ (under_same w now group s zone.signer keys) (λ p. choice bare_below (is_expanded group p.0) (ap made (missing_still authorities h)) refl))
      (ap made (missing_still authorities h))

  without_still : (answers authorities : List Group) → AllByRecursion (Steady w now) answers → AllByRecursion (Steady w now) authorities
      → bare_below (without_ds w zone keys name answers authorities) ≡ bare_below (without_ds (at_moment w now) (untimed zone) keys name answers authorities)
  without_still answers authorities a h =
      alias_still authorities h (find (is_set_at name CNAME) answers) (found_steady (moment w) (on_circle now) (is_set_at name CNAME) answers a)

  signed_ds_still : (group : Group) (p : Record × Key)
      → bare_below (by_signed_ds w zone keys name group p) ≡ bare_below (by_signed_ds (at_moment w now) (untimed zone) keys name group p)
  signed_ds_still group p = choice bare_below (length (usable (set_in group).datas) == 0) refl refl

  ds_set_still : (answers authorities : List Group) → AllByRecursion (Steady w now) answers → AllByRecursion (Steady w now) authorities
      → (o : Option Group) → IfSome o (Steady w now)
      → bare_below (by_ds_set w zone keys name answers authorities o) ≡ bare_below (by_ds_set (at_moment w now) (untimed zone) keys name answers authorities o)
  ds_set_still answers authorities a h None s = without_still answers authorities a h
  ds_set_still answers authorities a h (Some group) s =
      one_still w now name _ _ _ _ (under_same w now group s zone.signer keys)
      (λ p. choice bare_below (is_expanded group p.0) (without_still answers authorities a h) (signed_ds_still group p))

  pub ds_reply_still : (r : Reply) → IsSteadyReply (moment w) (on_circle now) r
      → bare_below (by_ds_reply w zone keys name r) ≡ bare_below (by_ds_reply (at_moment w now) (untimed zone) keys name r)
  ds_reply_still failed s = refl
  ds_reply_still unreadable s = refl
  ds_reply_still (sections answers authorities) s =
      ds_set_still answers authorities s.0 s.1 (find (is_set_at name DS) answers) (found_steady (moment w) (on_circle now) (is_set_at name DS) answers s.0)
