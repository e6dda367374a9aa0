-- What NSEC3 records show of a name without a DS set is kept (RFC 5155 8.9, RFC 9276 3.2).
use Rattle.std.proofs.Common.{◌≡◌, ℕ, ◌≤◌, ◌&&◌, ◌||◌, ◌==◌, Bool, true, false, List, [], ◌∷◌, map, Option, Some, None, refl, sym, ap, ◌∙◌, inr, arith}
use Rattle.std.specs.Prelude.{nat_lt}
use Rattle.std.specs.Str.{bytes_eq}
use Rattle.std.proofs.Math.Bool.{not}
use Rattle.std.proofs.lemmas.Bool.{true≢false, false≢true, and_parts, eqb-true, ltb-true, ltb-false}
use Rattle.std.proofs.lemmas.Slice.Eq.{bytes_eq-Decides}
use Rattle.dsec_spec.specs.Names.{Labels, Place, place, IsStrictlyBelow}
use Rattle.dsec_spec.specs.Numbers.{IN, NS, SOA, DS, NSEC3}
use Rattle.dsec_spec.specs.Records.{Record, Key}
use Rattle.dsec_spec.specs.RecordViews.{Nsec3, nsec3_of}
use Rattle.dsec_spec.specs.TypeBitmaps.{has_type}
use Rattle.dsec_spec.specs.Base32hex.{octets_in_base32hex}
use Rattle.dsec_spec.specs.DenyingRecords.{hash_by}
use Rattle.dsec_spec.specs.HashedNames.{has_opt_out}
use Rattle.dsec_spec.specs.Groups.{Group, set_in}
use Rattle.dsec_spec.proofs.CanonicalNames.{same_place_decides}
use Rattle.dsec_nodes.specs.World.{World}
use Rattle.dsec_nodes.specs.Causes.{Nsec3IterationsTooHigh, Nsec3ProvesDs, Nsec3ForDsFromApex, Nsec3ProvesNameMissingForDs}
use Rattle.dsec_nodes.specs.Nodes.{Node, nsec3_without_ds, nsec3_opts_out, nsec3_iterates}
use Rattle.dsec_nodes.specs.SignedCauses.{IsNsec3, IsHashed}
use Rattle.dsec_nodes.specs.Signing.{under_keys, is_expanded}
use Rattle.dsec_nodes.specs.MissingByHash.{is_between, by_own_hash, redirects, by_hash_gap, by_hashes, by_owner_hash, by_iterations, has_too_many, has_many, owner_hash_in, by_hashing, is_label_before, by_nsec3, only_nsec3, by_hashed_group}
use Rattle.dsec_nodes.specs.Held.{GoodPair, HeldZone}
use Rattle.dsec_nsec3.proofs.HashTests.{between_decides}
use Rattle.dsec_nodes.proofs.KeptLaws.{bogus_below, within_kept, insecure_kept}
use Rattle.dsec_nodes.proofs.LookedLaws.{LookedKept, either, signed_kept}

not_false : (b : Bool) → not b ≡ false → b ≡ true
not_false true e = refl
not_false false e = absurd (true≢false e)

-- one NSEC3 record of the zone, below a held zone (RFC 5155 3)
pub record Nsec3Group (w : World) (zone : Node) (keys : List (List ℕ)) (name : Place) (group : Group) (nsec3 : Nsec3) (label : List ℕ) : Type 0 where
  pub zone_held : HeldZone w zone keys
  pub below : IsStrictlyBelow name zone.signer
  pub of_class : group.class ≡ IN
  pub of_type : group.rtype ≡ NSEC3
  pub one : Record
  pub alone : group.records ≡ one ∷ []
  pub reads : nsec3_of one.rdata ≡ Some nsec3
  pub above : Labels
  pub owner : group.owner ≡ label ∷ above
  pub of_zone : place above ≡ zone.signer
  pub algorithm : nsec3.hashing.hash_algorithm ≡ 1
  pub flags : nsec3.hashing.flags ≤ 1

module _ (w : World) (zone : Node) (keys : List (List ℕ)) (name : Place) (group : Group) (nsec3 : Nsec3) (label : List ℕ) (n : Nsec3Group w zone keys name group nsec3 label) where
  abbrev one_nsec3 : IsNsec3 zone.signer (set_in group)
  one_nsec3 = record {
    of_type = n.of_type;
    rdata = n.one.rdata;
    alone = ap (map (λ (r : Record). r.rdata)) n.alone;
    nsec3 = nsec3;
    reads = n.reads;
    label = label;
    rest = n.above;
    owner = n.owner;
    of_zone = n.of_zone;
    algorithm = n.algorithm;
    flags = n.flags;
  }

  no_ds_set : {A : Type 0} → group.rtype ≡ DS → A
  no_ds_set e = let both = sym n.of_type ∙ e in absurd (omega (arith, both))

  module _ (owner_hash : List ℕ) (writes : octets_in_base32hex label ≡ Some owner_hash) where
    abbrev hashed : IsHashed zone.signer (set_in group)
    hashed = record { is_nsec3 = one_nsec3; owner_hash = owner_hash; hash_is = writes }

    own_hash_kept : hash_by nsec3.hashing name ≡ owner_hash → (p : Record × Key) → GoodPair w zone.signer keys group p
        → LookedKept w zone name (by_own_hash w zone keys name group nsec3 p)
    own_hash_kept matches p g =
        either (LookedKept w zone name) (is_expanded group p.0) _ _ (λ _. tt) (λ whole.
        either (LookedKept w zone name) (has_type nsec3.types DS) _ _ (λ _. bogus_below w zone name Nsec3ProvesDs) (λ no_ds.
        either (LookedKept w zone name) (has_type nsec3.types SOA) _ _ (λ _. bogus_below w zone name Nsec3ForDsFromApex) (λ no_apex.
        either (LookedKept w zone name) (has_type nsec3.types NS) _ _
        (λ cut. (
          insecure_kept w zone keys name None nsec3_without_ds group p n.zone_held g no_ds_set n.of_class n.below whole
              (record { hashed = hashed; matches = matches; delegates = cut; no_ds = no_ds; no_apex = no_apex }) refl,
          λ _. refl,
          refl,
        ))
        (λ no_cut. (
          within_kept w zone keys name group p n.zone_held g n.below n.of_class whole
              (inr (inr (record { hashed = hashed; matches = matches; no_delegation = no_cut; no_ds = no_ds; no_apex = no_apex }))),
          λ _. refl,
          refl,
        )))))

    hash_gap_kept : is_between owner_hash nsec3.next_owner (hash_by nsec3.hashing name) ≡ true → (redirected : Bool) (p : Record × Key)
        → GoodPair w zone.signer keys group p → LookedKept w zone name (by_hash_gap w zone keys name group nsec3 redirected p)
    hash_gap_kept found redirected p g =
        either (LookedKept w zone name) (is_expanded group p.0) _ _ (λ _. tt) (λ whole.
        either (LookedKept w zone name) (not (has_opt_out nsec3.hashing)) _ _ (λ _. bogus_below w zone name Nsec3ProvesNameMissingForDs) (λ opts_out.
        either (LookedKept w zone name) redirected _ _ (λ _. tt) (λ _. (
          insecure_kept w zone keys name None nsec3_opts_out group p n.zone_held g no_ds_set n.of_class n.below whole (record {
            hashed = hashed;
            covers = (between_decides owner_hash nsec3.next_owner (hash_by nsec3.hashing name)).0 found;
            with_opt_out = not_false (has_opt_out nsec3.hashing) opts_out;
          }) refl,
          λ _. refl,
          refl,
        ))))

    hashes_kept : LookedKept w zone name (by_hashes w zone keys name group nsec3 owner_hash (hash_by nsec3.hashing name))
    hashes_kept =
        either (LookedKept w zone name) (bytes_eq (hash_by nsec3.hashing name) owner_hash) _ _
        (λ same. signed_kept w zone keys name group (by_own_hash w zone keys name group nsec3) (under_keys w zone.signer keys group) refl
        (own_hash_kept ((bytes_eq-Decides (hash_by nsec3.hashing name) owner_hash).0 same)))
        (λ _. either (LookedKept w zone name) (is_between owner_hash nsec3.next_owner (hash_by nsec3.hashing name)) _ _
        (λ found. signed_kept w zone keys name group (by_hash_gap w zone keys name group nsec3 (redirects zone.signer owner_hash nsec3)) (under_keys w zone.signer keys group) refl
        (hash_gap_kept found (redirects zone.signer owner_hash nsec3)))
        (λ _. tt))

  owner_hash_kept : (o : Option (List ℕ)) → owner_hash_in group.owner ≡ o → LookedKept w zone name (by_owner_hash w zone keys name group nsec3 o)
  owner_hash_kept None e = tt
  owner_hash_kept (Some owner_hash) e = hashes_kept owner_hash (sym (ap owner_hash_in n.owner) ∙ e)

  iterations_kept : (too_many : Bool) → has_too_many w.bounds nsec3 ≡ too_many → has_many w.bounds nsec3 ≡ true → (p : Record × Key)
      → GoodPair w zone.signer keys group p → LookedKept w zone name (by_iterations w zone keys name group too_many p)
  iterations_kept too_many e more p g =
      either (LookedKept w zone name) (is_expanded group p.0) _ _ (λ _. tt) (λ whole.
      either (LookedKept w zone name) too_many _ _
      (λ _. bogus_below w zone name Nsec3IterationsTooHigh) (λ few. (
        insecure_kept w zone keys name (Some Nsec3IterationsTooHigh) nsec3_iterates group p n.zone_held g no_ds_set n.of_class n.below whole (record {
          is_nsec3 = one_nsec3;
          many = ltb-true w.bounds.iterations_insecure nsec3.hashing.iterations (sym (ap (λ (b : Bool). b || nat_lt w.bounds.iterations_insecure nsec3.hashing.iterations) (e ∙ few)) ∙ more);
          not_too_many = ltb-false w.bounds.iterations_bogus nsec3.hashing.iterations (e ∙ few);
        }) refl,
        λ _. refl,
        refl,
      )))

  hashing_kept : LookedKept w zone name (by_hashing w zone keys name group nsec3)
  hashing_kept =
      either (LookedKept w zone name) (not (nsec3.hashing.hash_algorithm == 1)) _ _ (λ _. tt) (λ _.
      either (LookedKept w zone name) (has_many w.bounds nsec3) _ _
      (λ more. signed_kept w zone keys name group (by_iterations w zone keys name group (has_too_many w.bounds nsec3)) (under_keys w zone.signer keys group) refl
      (iterations_kept (has_too_many w.bounds nsec3) refl more))
      (λ _. owner_hash_kept (owner_hash_in group.owner) refl))

-- an owner that is a label before a place
from_label_before : (zone : Place) (owner : Labels) → is_label_before zone owner ≡ true → (label : List ℕ) × (above : Labels) × (owner ≡ label ∷ above) × (place above ≡ zone)
from_label_before zone [] e = absurd (false≢true e)
from_label_before zone (label ∷ above) e = (label, above, refl, (same_place_decides (place above) zone).0 e)

-- what a group of NSEC3 records shows is kept, if it is a node
pub hashed_group_kept : (w : World) (zone : Node) (keys : List (List ℕ)) (name : Place) (group : Group) → HeldZone w zone keys
    → IsStrictlyBelow name zone.signer → LookedKept w zone name (by_hashed_group w zone keys name group)
hashed_group_kept w zone keys name group h below =
    either Shown ((group.rtype == NSEC3) && (group.class == IN)) _ _ (λ e. by_list e group.records refl) (λ _. tt)
  where
    Shown : Option Nsec3 → Type 0
    Shown o = LookedKept w zone name (by_nsec3 w zone keys name group o)

    by_owner : ((group.rtype == NSEC3) && (group.class == IN)) ≡ true → (r : Record) → group.records ≡ r ∷ [] → (nsec3 : Nsec3)
        → nsec3_of r.rdata ≡ Some nsec3 → Shown (Some nsec3)
    by_owner e r f nsec3 g =
        either (LookedKept w zone name) (nat_lt 1 nsec3.hashing.flags) _ _ (λ _. tt) (λ few.
        either (LookedKept w zone name) (is_label_before zone.signer group.owner) _ _ (λ own. by_algorithm few own (nsec3.hashing.hash_algorithm == 1) refl) (λ _. tt))
      where
        by_algorithm : nat_lt 1 nsec3.hashing.flags ≡ false → is_label_before zone.signer group.owner ≡ true → (b : Bool) → (nsec3.hashing.hash_algorithm == 1) ≡ b
            → LookedKept w zone name (by_hashing w zone keys name group nsec3)
        by_algorithm few own true known =
            let owner = from_label_before zone.signer group.owner own in
            hashing_kept w zone keys name group nsec3 owner.0 (record {
              zone_held = h;
              below = below;
              of_class = eqb-true group.class IN (and_parts _ _ e).1;
              of_type = eqb-true group.rtype NSEC3 (and_parts _ _ e).0;
              one = r;
              alone = f;
              reads = g;
              above = owner.1;
              owner = owner.2;
              of_zone = owner.3;
              algorithm = eqb-true nsec3.hashing.hash_algorithm 1 known;
              flags = ltb-false 1 nsec3.hashing.flags few;
            })
        by_algorithm few own false known =
            either (LookedKept w zone name) (not (nsec3.hashing.hash_algorithm == 1)) _ _ (λ _. tt)
            (λ is. absurd (true≢false (sym (not_false (nsec3.hashing.hash_algorithm == 1) is) ∙ known)))

    by_read : ((group.rtype == NSEC3) && (group.class == IN)) ≡ true → (r : Record) → group.records ≡ r ∷ [] → (o : Option Nsec3)
        → nsec3_of r.rdata ≡ o → Shown o
    by_read e r f None g = tt
    by_read e r f (Some nsec3) g = by_owner e r f nsec3 g

    by_list : ((group.rtype == NSEC3) && (group.class == IN)) ≡ true → (rs : List Record) → group.records ≡ rs → Shown (only_nsec3 rs)
    by_list e [] f = tt
    by_list e (r ∷ []) f = by_read e r f (nsec3_of r.rdata) refl
    by_list e (r ∷ s ∷ rs) f = tt
