-- What a group rests on that keys have signed: a good pair of a signature and a key (RFC 4035 5.3.1).
use Rattle.std.proofs.Common.{◌≡◌, ℕ, zero, suc, Bool, true, false, cond, List, [], ◌∷◌, length, take, Option, Some, None, refl, sym, ap, ◌∙◌, subst, inl, inr}
use Rattle.std.specs.Prelude.{Contains, filter, filter_map, flat_map, find, unwrap_or, slice_get, nat_lt}
use Rattle.std.specs.List.{cons_option, list_any, position_or_len}
use Rattle.std.specs.Option.{is_some, option_map}
use Rattle.std.specs.Str.{bytes_eq}
use Rattle.std.proofs.Math.Bool.{not}
use Rattle.std.specs.Prelude.{◌+◌, map}
use Rattle.std.proofs.Common.{arith}
use Rattle.std.proofs.lemmas.Option.{same_Some}
use Rattle.std.proofs.lemmas.Bool.{false≢true, true≢false, and_parts, and_from, eq-eqb, eqb-true, cond-true, cond-false, cases_Bool}
use Rattle.std.proofs.lemmas.Slice.Eq.{bytes_eq-Decides}
use Rattle.dsec_spec.specs.Names.{Labels, Place, place}
use Rattle.dsec_spec.specs.Records.{Record, RecordSet, Key, key_of, Ds, ds_of, Rrsig, rrsig_of}
use Rattle.dsec_spec.specs.Accepts.{Accepts}
use Rattle.dsec_spec.specs.Signed.{signs}
use Rattle.dsec_spec.specs.Groups.{Group, set_in}
use Rattle.dsec_spec.specs.DelegationSigner.{Matches, names, speaks_of}
use Rattle.dsec_spec.specs.KeySearch.{KeySearch, found_at, not_found, too_many, of_key, first_key}
use Rattle.dsec_spec.specs.Trying.{good, all_bad, too_many_bad, tried, first_or, none_good, pairs, of_signature, pair_signs, pair_matches}
use Rattle.dsec_spec.proofs.ReadingLemmas.{from_bind}
use Rattle.dsec_spec.proofs.DelegationLaws.{speaks_decides}
use Rattle.dsec_spec.proofs.Members.{first_in, later_in, in_more, in_either, in_map, from_map, at_index, not_in_none, from_no_find, from_find, from_take, from_filter, from_pairs}
use Rattle.dsec_spec.proofs.SignedTests.{signs_decides}
use Rattle.dsec_nodes.specs.World.{World, moment}
use Rattle.dsec_nodes.specs.Signing.{says_key, keys_of, data_of, under_keys}
use Rattle.dsec_nodes.specs.Admission.{Admitted, admitted_at, matching, matching_by, search_for, ds_search, tried_by}
use Rattle.dsec_nodes.specs.Held.{Counts, GoodByDs, GoodPair, IsAdmittedByDs, SaysKey}

-- what comes out as good was tried, and is good
pub from_tried : {P : Type 0} (is_good : P → Bool) (room : ℕ) (candidates : List P) (p : P) → tried is_good room candidates ≡ good p
    → (is_good p ≡ true) × Contains candidates p
from_tried {P} is_good room candidates p e =
    let found = by (find is_good (take room candidates)) e in
    let both = from_find is_good (take room candidates) p found in
    (both.0, from_take room candidates p both.1)
  where
    none_is_good : (n : ℕ) → none_good room n ≡ good p → ⊥
    none_is_good zero f = absurd cc
    none_is_good (suc n) f = elim (cases_Bool (nat_lt_room n)) [
      | inl t ↦ let g : all_bad ≡ good p = sym (cond-true (nat_lt_room n) all_bad too_many_bad t) ∙ f in absurd cc
      | inr t ↦ let g : too_many_bad ≡ good p = sym (cond-false (nat_lt_room n) all_bad too_many_bad t) ∙ f in absurd cc
    ]
      where
        nat_lt_room : ℕ → Bool
        nat_lt_room m = Rattle.std.specs.Prelude.nat_lt (suc m) room

    by : (o : Option P) → first_or (none_good room (length candidates)) o ≡ good p → o ≡ Some p
    by None f = absurd (none_is_good (length candidates) f)
    by (Some q) f = let same : q ≡ p = cc in ap (λ (x : P). Some x) same

-- a pair that passes the test counts (RFC 4035 5.3.1)
pub from_signs : (accepts : Accepts) (set : RecordSet) (zone : Place) (t : ℕ) (p : Record × Key) → pair_signs accepts set zone t p ≡ true
    → Counts accepts set zone t p
from_signs accepts set zone t p e = by (rrsig_of p.0.rdata) refl e
  where
    by : (o : Option Rrsig) → rrsig_of p.0.rdata ≡ o → of_signature (λ sig. signs accepts set zone t sig p.1) o ≡ true
        → Counts accepts set zone t p
    by None s f = absurd (false≢true f)
    by (Some sig) s f = record { signature = sig; reads_signature = s; signed = (signs_decides accepts set zone t sig p.1).0 f }

abbrev made : ℕ → ℕ → ℕ → List ℕ → Key
made flags protocol algorithm public_key = record { flags = flags; protocol = protocol; algorithm = algorithm; public_key = public_key }

-- data that say a key read as it
from_says : (key : Key) (o : Option Key) → says_key key o ≡ true → o ≡ Some key
from_says key None e = absurd (false≢true e)
from_says key (Some other) e =
    let both = and_parts _ _ e in
    let front = and_parts _ _ both.0 in
    let first = and_parts _ _ front.0 in
    let flags : other.flags ≡ key.flags = eqb-true other.flags key.flags first.0 in
    let protocol : other.protocol ≡ key.protocol = eqb-true other.protocol key.protocol first.1 in
    let algorithm : other.algorithm ≡ key.algorithm = eqb-true other.algorithm key.algorithm front.1 in
    let octets : other.public_key ≡ key.public_key = (bytes_eq-Decides other.public_key key.public_key).0 both.1 in
    ap (λ (k : Key). Some k) (same_fields other key flags protocol algorithm octets)
  where
    same_fields : (k l : Key) → k.flags ≡ l.flags → k.protocol ≡ l.protocol → k.algorithm ≡ l.algorithm → k.public_key ≡ l.public_key
        → k ≡ l
    same_fields k l a b c d =
        ap (λ (f : ℕ). made f k.protocol k.algorithm k.public_key) a ∙ (ap (λ (p : ℕ). made l.flags p k.algorithm k.public_key) b
        ∙ (ap (λ (n : ℕ). made l.flags l.protocol n k.public_key) c ∙ ap (made l.flags l.protocol l.algorithm) d))

says_itself : (key : Key) → says_key key (Some key) ≡ true
says_itself key = and_from _ _ (and_from _ _ (and_from _ _ (eq-eqb key.flags key.flags refl) (eq-eqb key.protocol key.protocol refl)) (eq-eqb key.algorithm key.algorithm refl)) ((bytes_eq-Decides key.public_key key.public_key).1 refl)

from_filter_map : {A B : Type 0} (f : A → Option B) (xs : List A) (y : B) → Contains (filter_map f xs) y
    → (x : A) × Contains xs x × (f x ≡ Some y)
from_filter_map f [] y h = absurd (not_in_none y h)
from_filter_map {A} {B} f (x ∷ xs) y h = by (from_filter_map f xs y) (f x) refl h
  where
    by : (Contains (filter_map f xs) y → (z : A) × Contains xs z × (f z ≡ Some y)) → (o : Option B) → f x ≡ o
        → Contains (cons_option o (filter_map f xs)) y → (z : A) × Contains (x ∷ xs) z × (f z ≡ Some y)
    by others None e g = let rest = others g in (rest.0, later_in x rest.0 xs rest.1, rest.2)
    by others (Some z) e g = elim (in_more z y (filter_map f xs) g) [
      | inl same ↦ (x, first_in x xs, e ∙ ap (λ (v : B). Some v) same)
      | inr later ↦ let rest = others later in (rest.0, later_in x rest.0 xs rest.1, rest.2)
    ]

-- a key that data say is said by the first of them that do
pub from_keys : (datas : List (List ℕ)) (key : Key) → Contains (keys_of datas) key → SaysKey datas key
from_keys datas key h =
    let one = from_filter_map key_of datas key h in
    by (find (λ (rdata : List ℕ). says_key key (key_of rdata)) datas) refl one.0 one.1 (ap (says_key key) one.2 ∙ says_itself key)
  where
    by : (o : Option (List ℕ)) → find (λ (rdata : List ℕ). says_key key (key_of rdata)) datas ≡ o → (d : List ℕ) → Contains datas d
        → says_key key (key_of d) ≡ true → SaysKey datas key
    by None e d there says = absurd (true≢false (sym says ∙ from_no_find (λ (rdata : List ℕ). says_key key (key_of rdata)) datas e d there))
    by (Some first) e d there says =
        let found = from_find (λ (rdata : List ℕ). says_key key (key_of rdata)) datas first e in
        let is : data_of datas key ≡ first = ap (λ (o : Option (List ℕ)). unwrap_or o []) e in
        record { there = subst (Contains datas) (sym is) found.1; reads = ap key_of is ∙ from_says key (key_of first) found.0 }

-- what trying a zone's keys over a group finds is good
pub from_under : (w : World) (zone : Place) (keys : List (List ℕ)) (group : Group) (p : Record × Key)
    → under_keys w zone keys group ≡ good p → GoodPair w zone keys group p
from_under w zone keys group p e =
    let found = from_tried (pair_signs w.accepts (set_in group) zone (moment w)) w.bounds.room (filter (pair_matches zone) (pairs group.signatures (keys_of keys))) p e in
    let there = from_pairs group.signatures (keys_of keys) p (from_filter (pair_matches zone) (pairs group.signatures (keys_of keys)) p found.1).1 in
    record { counts = from_signs w.accepts (set_in group) zone (moment w) p found.0; says = from_keys keys p.1 there.1; beside = there.0 }

-- what stands at the position of a test passes it
pub after_those_failing : {A : Type 0} (test : A → Bool) (xs : List A) (x : A) → slice_get xs (position_or_len test xs) ≡ Some x
    → test x ≡ true
after_those_failing test [] x e = absurd cc
after_those_failing test (y ∷ ys) x e = by (after_those_failing test ys x) (test y) refl e
  where
    by : (slice_get ys (position_or_len test ys) ≡ Some x → test x ≡ true) → (b : Bool) → test y ≡ b
        → slice_get (y ∷ ys) (cond (not b) (1 + position_or_len test ys) 0) ≡ Some x → test x ≡ true
    by others true t f = let same : y ≡ x = same_Some y x f in subst (λ z. test z ≡ true) same t
    by others false t f = let one : 1 + position_or_len test ys ≡ suc (position_or_len test ys) = omega arith in others (ap (slice_get (y ∷ ys)) (sym one) ∙ f)

-- what stands in a mapped list
pub mapped_at : {A B : Type 0} (f : A → B) (xs : List A) (k : ℕ) (x : A) → slice_get xs k ≡ Some x → slice_get (map f xs) k ≡ Some (f x)
mapped_at f [] k x e = absurd (false≢true (ap is_some e))
mapped_at f (y ∷ ys) zero x e = ap (option_map f) e
mapped_at f (y ∷ ys) (suc k) x e = mapped_at f ys k x e

-- what stands in lists put together stands in one of them
pub from_flat_map : {A B : Type 0} (f : A → List B) (xs : List A) (y : B) → Contains (flat_map f xs) y
    → (x : A) × Contains xs x × Contains (f x) y
from_flat_map f [] y h = absurd (not_in_none y h)
from_flat_map {A} {B} f (x ∷ xs) y h = elim (in_either y (f x) (flat_map f xs) h) [
  | inl here ↦ (x, first_in x xs, here)
  | inr later ↦ let rest = from_flat_map f xs y later in (rest.0, later_in x rest.0 xs rest.1, rest.2)
]

-- the key at the index that a DS record's search gives is one that it speaks of
pub from_search : (ds : Ds) (owner : Labels) (most k : ℕ) (datas : List (List ℕ)) (rdata : List ℕ) (key : Key)
    → first_key ds owner most datas ≡ found_at k → slice_get datas k ≡ Some rdata → key_of rdata ≡ Some key → Matches ds owner key
from_search ds owner most k datas rdata key e there reads =
    by (list_any is_it (take most (filter (λ (x : List ℕ). of_key (names ds) (key_of x)) datas))) (nat_lt most (length (filter (λ (x : List ℕ). of_key (names ds) (key_of x)) datas))) e
  where
    is_it : List ℕ → Bool
    is_it x = of_key (speaks_of ds owner) (key_of x)

    by : (b c : Bool) → cond b (found_at (position_or_len is_it datas)) (cond c too_many not_found) ≡ found_at k → Matches ds owner key
    by true c f =
        let same : position_or_len is_it datas ≡ k = cc in
        let passes : is_it rdata ≡ true = after_those_failing is_it datas rdata (ap (slice_get datas) same ∙ there) in
        (speaks_decides ds owner key).0 (sym (ap (of_key (speaks_of ds owner)) reads) ∙ passes)
    by false true f = absurd cc
    by false false f = absurd cc

-- where a search finds a key, the data say a DS record, and the key is the first that this speaks of
pub from_ds_search : (most : ℕ) (group : Group) (way : List ℕ) (k : ℕ) → ds_search most group way ≡ found_at k
    → (ds : Ds) × (ds_of way ≡ Some ds) × (first_key ds group.owner most (set_in group).datas ≡ found_at k)
from_ds_search most group way k e = by (ds_of way) refl e
  where
    by : (o : Option Ds) → ds_of way ≡ o → search_for most group o ≡ found_at k
        → (ds : Ds) × (ds_of way ≡ Some ds) × (first_key ds group.owner most (set_in group).datas ≡ found_at k)
    by None f g = absurd cc
    by (Some ds) f g = (ds, f, g)

-- a key at the index that a search finds is one that the DS data admit
pub from_admitted : (most : ℕ) (group : Group) (way : List ℕ) (one : Admitted (List ℕ))
    → admitted_at group way (ds_search most group way) ≡ Some one → (way ≡ one.way) × IsAdmittedByDs group one
from_admitted most group way one e = by (ds_search most group way) refl e
  where
    by : (a : KeySearch) → ds_search most group way ≡ a → admitted_at group way a ≡ Some one → (way ≡ one.way) × IsAdmittedByDs group one
    by (found_at k) f g =
        let r = from_bind (slice_get group.records k) _ one g in
        let key = from_bind (key_of r.0.rdata) _ one r.2 in
        let same : record { way = way; rdata = r.0.rdata; key = key.0 } ≡ one = same_Some _ _ key.2 in
        let ds = from_ds_search most group way k f in (
          ap (λ (x : Admitted (List ℕ)). x.way) same,
          subst (IsAdmittedByDs group) same (record {
            its_own = in_map (λ (x : Record). x.rdata) group.records r.0 (at_index group.records k r.0 r.1);
            reads = key.1;
            ds = ds.0;
            says = ds.1;
            matches = from_search ds.0 group.owner most k (set_in group).datas r.0.rdata key.0 ds.2 (mapped_at (λ (x : Record). x.rdata) group.records k r.0 r.1) key.1;
          }),
        )
    by not_found f g = absurd cc
    by too_many f g = absurd cc

-- a signature that matches an admitted key stands with this key
pub from_matching : {A : Type 0} (group : Group) (o : Option (Admitted A)) (p : Record × Admitted A) → Contains (matching group o) p
    → o ≡ Some p.1
from_matching group None p h = absurd (not_in_none p h)
from_matching {A} group (Some one) p h =
    let m = from_map (λ (s : Record). (s, one)) (filter (λ (s : Record). pair_matches (place group.owner) (s, one.key)) group.signatures) p h in
    ap (λ (q : Record × Admitted A). Some q.1) m.2

-- what trying the keys that DS data admit finds is good by one of them (RFC 4035 5.2)
pub from_tried_by : (w : World) (most : ℕ) (group : Group) (ways : List (List ℕ)) (p : Record × Admitted (List ℕ))
    → tried_by w group (ds_search most group) ways ≡ good p → GoodByDs w group ways p
from_tried_by w most group ways p e =
    let found = from_tried (λ (q : Record × Admitted (List ℕ)). pair_signs w.accepts (set_in group) (place group.owner) (moment w) (q.0, q.1.key)) w.bounds.room (flat_map (matching_by group (ds_search most group)) ways) p e in
    let one = from_flat_map (matching_by group (ds_search most group)) ways p found.1 in
    let both = from_admitted most group one.0 p.1 (from_matching group (admitted_at group one.0 (ds_search most group one.0)) p one.2) in
    record {
      counts = from_signs w.accepts (set_in group) (place group.owner) (moment w) (p.0, p.1.key) found.0;
      listed = subst (λ (x : List ℕ). Contains ways x) both.0 one.1;
      is_admitted = both.1;
    }
