-- A node counts for a taker exactly where it passes the taker's tests.
use Rattle.std.proofs.Common.{◌≡◌, ℕ, ◌+◌, ◌-◌, ◌≤◌, Bool, true, false, List, Option, Some, None, refl, sym, ap, ◌∙◌, subst, arith}
use Rattle.std.specs.Prelude.{Contains}
use Rattle.std.specs.List.{list_any}
use Rattle.std.proofs.Math.Bool.{not}
use Rattle.std.specs.Bool.{Decides}
use Rattle.std.proofs.lemmas.Bool.{false≢true, and_parts, and_from, eqb-true, eq-eqb, leb-true, le-leb, not-true}
use Rattle.std.proofs.lemmas.Slice.Eq.{bytes_eq-Decides}
use Rattle.dsec_spec.specs.Names.{Labels, Place, place}
use Rattle.dsec_spec.specs.Records.{Record}
use Rattle.dsec_spec.proofs.CanonicalNames.{same_place_decides}
use Rattle.dsec_spec.proofs.Members.{none_passes, some_passes}
use Rattle.dsec_nodes.specs.World.{World, Bounds}
use Rattle.dsec_nodes.specs.Nodes.{Node, IsBogus}
use Rattle.dsec_nodes.specs.Taking.{same_record, rests_at, same_bounds, counts, RestsAt, Taken}
use Rattle.dsec_nodes.specs.Moments.{at_moment, MayCount}

abbrev record_of : Labels → ℕ → ℕ → ℕ → List ℕ → Record
record_of owner class rtype ttl rdata = record { owner = owner; class = class; rtype = rtype; ttl = ttl; rdata = rdata }

-- records that pass the test are the same
record_same : (a b : Record) → same_record a b ≡ true → a ≡ b
record_same a b e =
    let s4 = and_parts _ _ e in
    let s3 = and_parts _ _ s4.0 in
    let s2 = and_parts _ _ s3.0 in
    let s1 = and_parts _ _ s2.0 in
    ap (λ (x : Labels). record_of x a.class a.rtype a.ttl a.rdata) ((same_place_decides a.owner b.owner).0 s1.0)
    ∙ (ap (λ (x : ℕ). record_of b.owner x a.rtype a.ttl a.rdata) (eqb-true a.class b.class s1.1)
    ∙ (ap (λ (x : ℕ). record_of b.owner b.class x a.ttl a.rdata) (eqb-true a.rtype b.rtype s2.1)
    ∙ (ap (λ (x : ℕ). record_of b.owner b.class b.rtype x a.rdata) (eqb-true a.ttl b.ttl s3.1)
    ∙ ap (λ (x : List ℕ). record_of b.owner b.class b.rtype b.ttl x) ((bytes_eq-Decides a.rdata b.rdata).0 s4.1))))

record_itself : (a : Record) → same_record a a ≡ true
record_itself a = and_from _ _ (and_from _ _ (and_from _ _ (and_from _ _ ((same_place_decides a.owner a.owner).1 refl)
    (eq-eqb a.class a.class refl)) (eq-eqb a.rtype a.rtype refl)) (eq-eqb a.ttl a.ttl refl)) ((bytes_eq-Decides a.rdata a.rdata).1 refl)

-- whether records are the same is told by the test
pub same_record_decides : (a b : Record) → Decides (same_record a b) (a ≡ b)
same_record_decides a b = (record_same a b, λ e. subst (λ (x : Record). same_record a x ≡ true) e (record_itself a))

-- an anchor that is found among these is one of them
listed_by : (anchors : List Record) (anchor : Record) → list_any (same_record anchor) anchors ≡ true → Contains anchors anchor
listed_by anchors anchor e =
    let one = some_passes (same_record anchor) anchors e in
    subst (Contains anchors) (sym (record_same anchor one.0 one.2)) one.1

-- and one of them is found
listed_told : (anchors : List Record) (anchor : Record) → Contains anchors anchor → list_any (same_record anchor) anchors ≡ true
listed_told anchors anchor there = by (list_any (same_record anchor) anchors) refl
  where
    by : (b : Bool) → list_any (same_record anchor) anchors ≡ b → list_any (same_record anchor) anchors ≡ true
    by true e = e
    by false e = absurd (false≢true (sym (none_passes (same_record anchor) anchors e anchor there) ∙ record_itself anchor))

-- whether an anchor is one of these is told by the test
pub listed_decides : (anchors : List Record) (anchor : Record) → Decides (list_any (same_record anchor) anchors) (Contains anchors anchor)
listed_decides anchors anchor = (listed_by anchors anchor, listed_told anchors anchor)

-- a node's anchor that passes the test is one of these, at the place
pub rests_by : (anchors : List Record) (top : Place) (n : Node) → rests_at anchors top n.anchor ≡ true → RestsAt anchors top n
rests_by anchors top n e = by n.anchor refl e
  where
    by : (o : Option Record) → n.anchor ≡ o → rests_at anchors top o ≡ true → RestsAt anchors top n
    by None its f = absurd (false≢true f)
    by (Some anchor) its f =
        let both = and_parts _ _ f in
        record { anchor = anchor; its = its; at = (same_place_decides (place anchor.owner) top).0 both.0; is_listed = listed_by anchors anchor both.1 }

-- whether a node's anchor is one of these, at the place, is told by the test
pub rests_decides : (anchors : List Record) (top : Place) (n : Node) → Decides (rests_at anchors top n.anchor) (RestsAt anchors top n)
rests_decides anchors top n = (
  rests_by anchors top n,
  λ r. ap (rests_at anchors top) r.its ∙ and_from _ _ ((same_place_decides (place r.anchor.owner) top).1 r.at) (listed_told anchors r.anchor r.is_listed),
)

abbrev bounds_of : ℕ → ℕ → ℕ → ℕ → ℕ → ℕ → ℕ → ℕ → Bounds
bounds_of room validity bogus ds_records keys insecure bogus_at hashes = record {
  room = room;
  max_validity = validity;
  max_bogus_validity = bogus;
  max_ds_records = ds_records;
  max_keys_for_ds = keys;
  iterations_insecure = insecure;
  iterations_bogus = bogus_at;
  most_hashes = hashes;
}

-- bounds that pass the test are the same
pub bounds_same : (a b : Bounds) → same_bounds a b ≡ true → a ≡ b
bounds_same a b e =
    let s8 = and_parts _ _ e in
    let s7 = and_parts _ _ s8.0 in
    let s6 = and_parts _ _ s7.0 in
    let s5 = and_parts _ _ s6.0 in
    let s4 = and_parts _ _ s5.0 in
    let s3 = and_parts _ _ s4.0 in
    let s2 = and_parts _ _ s3.0 in
    ap (λ (x : ℕ). bounds_of x a.max_validity a.max_bogus_validity a.max_ds_records a.max_keys_for_ds a.iterations_insecure a.iterations_bogus a.most_hashes) (eqb-true a.room b.room s2.0)
    ∙ (ap (λ (x : ℕ). bounds_of b.room x a.max_bogus_validity a.max_ds_records a.max_keys_for_ds a.iterations_insecure a.iterations_bogus a.most_hashes) (eqb-true a.max_validity b.max_validity s2.1)
    ∙ (ap (λ (x : ℕ). bounds_of b.room b.max_validity x a.max_ds_records a.max_keys_for_ds a.iterations_insecure a.iterations_bogus a.most_hashes) (eqb-true a.max_bogus_validity b.max_bogus_validity s3.1)
    ∙ (ap (λ (x : ℕ). bounds_of b.room b.max_validity b.max_bogus_validity x a.max_keys_for_ds a.iterations_insecure a.iterations_bogus a.most_hashes) (eqb-true a.max_ds_records b.max_ds_records s4.1)
    ∙ (ap (λ (x : ℕ). bounds_of b.room b.max_validity b.max_bogus_validity b.max_ds_records x a.iterations_insecure a.iterations_bogus a.most_hashes) (eqb-true a.max_keys_for_ds b.max_keys_for_ds s5.1)
    ∙ (ap (λ (x : ℕ). bounds_of b.room b.max_validity b.max_bogus_validity b.max_ds_records b.max_keys_for_ds x a.iterations_bogus a.most_hashes) (eqb-true a.iterations_insecure b.iterations_insecure s6.1)
    ∙ (ap (λ (x : ℕ). bounds_of b.room b.max_validity b.max_bogus_validity b.max_ds_records b.max_keys_for_ds b.iterations_insecure x a.most_hashes) (eqb-true a.iterations_bogus b.iterations_bogus s7.1)
    ∙ ap (λ (x : ℕ). bounds_of b.room b.max_validity b.max_bogus_validity b.max_ds_records b.max_keys_for_ds b.iterations_insecure b.iterations_bogus x) (eqb-true a.most_hashes b.most_hashes s8.1)))))))

same_itself : (a : Bounds) → same_bounds a a ≡ true
same_itself a = and_from _ _ (and_from _ _ (and_from _ _ (and_from _ _ (and_from _ _ (and_from _ _ (and_from _ _
    (eq-eqb a.room a.room refl) (eq-eqb a.max_validity a.max_validity refl)) (eq-eqb a.max_bogus_validity a.max_bogus_validity refl))
    (eq-eqb a.max_ds_records a.max_ds_records refl)) (eq-eqb a.max_keys_for_ds a.max_keys_for_ds refl))
    (eq-eqb a.iterations_insecure a.iterations_insecure refl)) (eq-eqb a.iterations_bogus a.iterations_bogus refl))
    (eq-eqb a.most_hashes a.most_hashes refl)

-- whether bounds are the same is told by the test
pub same_bounds_decides : (a b : Bounds) → Decides (same_bounds a b) (a ≡ b)
same_bounds_decides a b = (bounds_same a b, λ e. subst (λ (x : Bounds). same_bounds a x ≡ true) e (same_itself a))

-- a node that passes the tests counts
pub taken : (w : World) (top name : Place) (n : Node) → counts w top name n ≡ true → Taken w top name n
taken w top name n e =
    let all = and_parts _ _ e in
    let four = and_parts _ _ all.0 in
    let three = and_parts _ _ four.0 in
    let two = and_parts _ _ three.0 in
    let time = and_parts _ _ all.1 in
    record {
      not_bogus = not-true (IsBogus n.standing) two.0;
      named = (same_place_decides n.name name).0 two.1;
      rests = rests_by w.anchors top n three.1;
      within = bounds_same n.bounds w.bounds four.1;
      from = leb-true n.made w.now time.0;
      to = leb-true w.now (n.made + n.valid_for) time.1;
    }

-- and one that counts passes them
pub taken_told : (w : World) (top name : Place) (n : Node) → Taken w top name n → counts w top name n ≡ true
taken_told w top name n t = and_from _ _ (and_from _ _ (and_from _ _ (and_from _ _ (ap not t.not_bogus) ((same_place_decides n.name name).1 t.named))
    ((rests_decides w.anchors top n).1 t.rests)) ((same_bounds_decides n.bounds w.bounds).1 t.within)) (and_from _ _ (le-leb n.made w.now t.from) (le-leb w.now (n.made + n.valid_for) t.to))

-- whether a node counts is told by the tests
pub counts_decides : (w : World) (top name : Place) (n : Node) → Decides (counts w top name n) (Taken w top name n)
counts_decides w top name n = (taken w top name n, taken_told w top name n)

-- a node that counts for a name counts for its own, which is the same
pub taken_itself : (w : World) (top name : Place) (n : Node) → Taken w top name n → Taken w top n.name n
taken_itself w top name n t = record { not_bogus = t.not_bogus; named = refl; rests = t.rests; within = t.within; from = t.from; to = t.to }

-- a node that counts may count
pub taken_now : (w : World) (top : Place) (n : Node) → Taken w top n.name n → MayCount w top n
taken_now w top n t = (w.now, omega arith, t)

-- and one that may count at another moment may count, unless it has run out
pub may_count_still : (w : World) (other : ℕ) (top : Place) (n : Node) → w.now ≤ n.made + n.valid_for → MayCount (at_moment w other) top n → MayCount w top n
may_count_still w other top n lasts may =
    let t : Taken (at_moment w may.0) top n.name n = may.2 in (
      w.now + (may.0 - w.now),
      omega arith,
      record {
        not_bogus = t.not_bogus;
        named = refl;
        rests = t.rests;
        within = t.within;
        from = omega (arith, t.from);
        to = omega (arith, t.to, lasts);
      },
    )
