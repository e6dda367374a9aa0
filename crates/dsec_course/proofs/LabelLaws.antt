-- Names that are read from a message have at most 127 labels, and so has the zone that is to have signed a group.
use Rattle.std.proofs.Common.{◌≡◌, ℕ, zero, suc, ◌+◌, ◌*◌, ◌≤◌, Bool, true, false, cond, List, [], ◌∷◌, length, map, drop, Option, Some, None, Ok, refl, subst, arith}
use Rattle.std.specs.Prelude.{filter, filter_map, nat_lt, slice_get}
use Rattle.std.specs.List.{AllByRecursion, cons_option, flat_map, list_any}
use Rattle.std.specs.Option.{option_map, is_some}
use Rattle.std.proofs.Math.Bool.{not}
use Rattle.std.proofs.lemmas.Option.{same_Some}
use Rattle.std.proofs.lemmas.List.{length-map, length-reverse}
use Rattle.dsec_spec.specs.Names.{Labels, Place, place, lower, IsName}
use Rattle.dsec_spec.specs.RecordData.{name_in}
use Rattle.dsec_spec.specs.Reading.{many_of, u16_at, u32_at}
use Rattle.dsec_spec.specs.Records.{Record, Rrsig, rrsig_of}
use Rattle.dsec_spec.specs.Messages.{Question, header_of, record_at, data_at, questions_of, answers_of, authorities_of}
use Rattle.dsec_spec.specs.WireNames.{name_at}
use Rattle.dsec_spec.specs.Groups.{Group, firsts, group_of, groups_of, of_one_group, are_duplicates, plain_records, owner_among, is_signature}
use Rattle.dsec_spec.specs.Redirection as redirection
use Rattle.dsec_spec.specs.Redirection.{moved, has_too_many, is_bare, stays, staying_from, followed}
use Rattle.dsec_spec.proofs.ReadingLemmas.{from_bind, unrefused}
use Rattle.dsec_spec.proofs.WireNameLemmas.{from_name_in, labels_within}
use Rattle.dsec_spec.proofs.NamesInMessages.{from_name_at}
use Rattle.dsec_nodes.specs.World.{World}
use Rattle.dsec_nodes.specs.Alone.{sections_of}
use Rattle.dsec_course.specs.Course.{Course}
use Rattle.dsec_course.specs.Justified.{most_for}
use Rattle.dsec_course.specs.Advancing.{begun_with, begun_by, begun}
use Rattle.dsec_nodes.proofs.Each.{all_both, all_map}
use Rattle.dsec_course.proofs.AskingLaws.{HasLabels, labels_of_target, most_for_each}

-- a name has at most 127 labels (RFC 1035 2.3.4)
pub few_labels : (name : Labels) → IsName name → length (place name) ≤ 127
few_labels name is =
    let half = labels_within name is.labels in
    let back : length (place name) ≡ length (lower name) = length-reverse (lower name) in
    let low : length (lower name) ≡ length name = length-map name (map Rattle.std.specs.Char.to_ascii_lowercase) in
    omega (arith, half, is.at_most, back, low)

-- the signer of a signature is a name
signer_named : (x : List ℕ) (sig : Rrsig) → rrsig_of x ≡ Some sig → IsName sig.signer
unfolding rrsig_of
signer_named x sig e =
    let covered = from_bind (u16_at x 0) _ sig e in
    let algorithm = from_bind (slice_get x 2) _ sig covered.2 in
    let labels = from_bind (slice_get x 3) _ sig algorithm.2 in
    let original_ttl = from_bind (u32_at x 4) _ sig labels.2 in
    let expiration = from_bind (u32_at x 8) _ sig original_ttl.2 in
    let inception = from_bind (u32_at x 12) _ sig expiration.2 in
    let tag = from_bind (u16_at x 16) _ sig inception.2 in
    let signer = from_bind (name_in (drop 18 x)) _ sig tag.2 in
    subst (λ (s : Rrsig). IsName s.signer) (same_Some _ sig signer.2) (from_name_in (drop 18 x) signer.0.0 signer.0.1 signer.1).0

-- the signers of signatures have few labels
signers_short : (signatures : List Record)
    → AllByRecursion (λ (p : Place). length p ≤ 127) (filter_map (λ (s : Record). option_map (λ (sig : Rrsig). place sig.signer) (rrsig_of s.rdata)) signatures)
signers_short [] = tt
signers_short (s ∷ signatures) = by (signers_short signatures) (rrsig_of s.rdata) refl
  where
    later : List Place
    later = filter_map (λ (r : Record). option_map (λ (sig : Rrsig). place sig.signer) (rrsig_of r.rdata)) signatures

    by : AllByRecursion (λ (p : Place). length p ≤ 127) later → (o : Option Rrsig) → rrsig_of s.rdata ≡ o
        → AllByRecursion (λ (p : Place). length p ≤ 127) (cons_option (option_map (λ (sig : Rrsig). place sig.signer) o) later)
    by h None e = h
    by h (Some sig) e = (few_labels sig.signer (signer_named s.rdata sig e), h)

-- so has the zone that is to have signed a group, where its owner is a name
pub named_labels : (group : Group) → IsName group.owner → HasLabels 127 group
named_labels group is = labels_of_target 127 group (few_labels group.owner is) (signers_short group.signatures)

-- at most 255 questions are asked for each group whose owner is a name (RFC 1035 2.3.4, RFC 4035 5.2)
pub most_for_names : (w : World) (groups : List Group) → AllByRecursion (λ (g : Group). IsName g.owner) groups
    → most_for w groups ≤ 255 * length groups
most_for_names w groups h = most_for_each w groups (all_map (λ (g : Group). IsName g.owner) (HasLabels 127) groups named_labels h)

-- the owner of a record that is read is a name
record_named : (m : List ℕ) (at : ℕ) (r : Record × ℕ) → record_at m at ≡ Some r → IsName r.0.owner
unfolding record_at
record_named m at r e =
    let name = from_bind (name_at m at) _ r e in
    let rtype = from_bind (u16_at m name.0.1) _ r name.2 in
    let class = from_bind (u16_at m (name.0.1 + 2)) _ r rtype.2 in
    let ttl = from_bind (u32_at m (name.0.1 + 4)) _ r class.2 in
    let size = from_bind (u16_at m (name.0.1 + 8)) _ r ttl.2 in
    let fits = unrefused (nat_lt (length m) (name.0.1 + 10 + size.0)) _ r size.2 in
    let rdata = from_bind (data_at rtype.0 m (name.0.1 + 10) (name.0.1 + 10 + size.0)) _ r fits.1 in
    subst (λ (x : Record × ℕ). IsName x.0.owner) (same_Some _ r rdata.2) (from_name_at m at name.0.0 name.0.1 name.1).short

-- so are those of records one after the other
many_named : (m : List ℕ) (n at : ℕ) (r : List Record × ℕ) → many_of (record_at m) n at ≡ Some r
    → AllByRecursion (λ (x : Record). IsName x.owner) r.0
unfolding many_of
many_named m zero at r e = subst (λ (x : List Record × ℕ). AllByRecursion (λ (y : Record). IsName y.owner) x.0) (same_Some _ r e) tt
many_named m (suc n) at r e =
    let first = from_bind (record_at m at) _ r e in
    let others = from_bind (many_of (record_at m) n first.0.1) _ r first.2 in
    subst (λ (x : List Record × ℕ). AllByRecursion (λ (y : Record). IsName y.owner) x.0) (same_Some _ r others.2)
    (record_named m at first.0 first.1, many_named m n first.0.1 others.0 others.1)

answers_named : (m : List ℕ) (r : List Record × ℕ) → answers_of m ≡ Some r → AllByRecursion (λ (x : Record). IsName x.owner) r.0
unfolding answers_of
answers_named m r e =
    let header = from_bind (header_of m) _ r e in
    let before = from_bind (questions_of m) _ r header.2 in
    many_named m header.0.answers before.0.1 r before.2

authorities_named : (m : List ℕ) (r : List Record × ℕ) → authorities_of m ≡ Some r → AllByRecursion (λ (x : Record). IsName x.owner) r.0
unfolding authorities_of
authorities_named m r e =
    let header = from_bind (header_of m) _ r e in
    let before = from_bind (answers_of m) _ r header.2 in
    many_named m header.0.authorities before.0.1 r before.2

-- what holds of each holds of those that pass a test, and of the first of those that are alike
all_filter : {A : Type 0} (P : A → Type 0) (test : A → Bool) (xs : List A) → AllByRecursion P xs → AllByRecursion P (filter test xs)
all_filter P test [] h = tt
all_filter {A} P test (x ∷ xs) h = by (all_filter P test xs h.1) (test x)
  where
    by : AllByRecursion P (filter test xs) → (b : Bool) → AllByRecursion P (cond b (x ∷ filter test xs) (filter test xs))
    by later true = (h.0, later)
    by later false = later

all_firsts : {A : Type 0} (P : A → Type 0) (alike : A → A → Bool) (xs : List A) → AllByRecursion P xs → AllByRecursion P (firsts alike xs)
unfolding firsts
all_firsts P alike [] h = tt
all_firsts P alike (x ∷ xs) h = (h.0, all_filter P (λ y. not (alike x y)) (firsts alike xs) (all_firsts P alike xs h.1))

-- the owner of a group is that of one of its records
group_named : (first : Record) (members : List Record) → IsName first.owner → AllByRecursion (λ (x : Record). IsName x.owner) members
    → IsName (group_of first members).owner
group_named first members is h =
    by (plain_records (firsts are_duplicates members))
    (all_filter (λ (x : Record). IsName x.owner) (λ (r : Record). not (is_signature r)) (firsts are_duplicates members) (all_firsts (λ (x : Record). IsName x.owner) are_duplicates members h))
  where
    by : (rs : List Record) → AllByRecursion (λ (x : Record). IsName x.owner) rs → IsName (owner_among first rs)
    by [] g = is
    by (r ∷ rs) g = g.0

-- the owners of a section's groups are names
groups_named : (section : List Record) → AllByRecursion (λ (x : Record). IsName x.owner) section
    → AllByRecursion (λ (g : Group). IsName g.owner) (groups_of section)
groups_named section h = by (firsts of_one_group section) (all_firsts (λ (x : Record). IsName x.owner) of_one_group section h)
  where
    by : (rs : List Record) → AllByRecursion (λ (x : Record). IsName x.owner) rs
        → AllByRecursion (λ (g : Group). IsName g.owner) (map (λ (first : Record). group_of first (filter (of_one_group first) section)) rs)
    by [] g = tt
    by (r ∷ rs) g = (group_named r (filter (of_one_group r) section) g.0 (all_filter (λ (x : Record). IsName x.owner) (of_one_group r) section h), by rs g.1)

-- and stay so where bare aliases are moved
staying_named : (anchors : List Record) (groups : List Group) (n : ℕ) (gs : List Group) → AllByRecursion (λ (g : Group). IsName g.owner) gs
    → AllByRecursion (λ (g : Group). IsName g.owner) (staying_from anchors groups n gs)
unfolding staying_from
staying_named anchors groups n [] h = tt
staying_named anchors groups n (g ∷ gs) h =
    all_both (λ (x : Group). IsName x.owner) (stays anchors groups n g) (staying_from anchors groups (suc n) gs) (by (is_some (followed anchors groups g))) (staying_named anchors groups (suc n) gs h.1)
  where
    by : (b : Bool) → AllByRecursion (λ (x : Group). IsName x.owner) (cond b [] (redirection.with_followers g (redirection.followers anchors groups n) ∷ []))
    by true = tt
    by false = (h.0, tt)

moved_named : (anchors : List Record) (most : ℕ) (groups answers : List Group) → moved anchors most groups ≡ Some answers → AllByRecursion (λ (g : Group). IsName g.owner) groups
    → AllByRecursion (λ (g : Group). IsName g.owner) answers
moved_named anchors most groups answers e h =
    let u = unrefused (has_too_many most groups) (Some (staying_from anchors groups 0 groups)) answers e in
    subst (AllByRecursion (λ (g : Group). IsName g.owner)) (same_Some (staying_from anchors groups 0 groups) answers u.1) (staying_named anchors groups 0 groups h)

-- the owners of a message's groups are names
pub begun_named : (anchors : List Record) (most : ℕ) (message : List ℕ) (c : Course) → begun anchors most message ≡ Ok c → AllByRecursion (λ (g : Group). IsName g.owner) c.left
begun_named anchors most message c e = by_sections (sections_of message) refl e
  where
    Sections : Type 0
    Sections = List Question × List Record × List Record

    Named : Course → Type 0
    Named d = AllByRecursion (λ (g : Group). IsName g.owner) d.left

    by_moved : (s : Sections) → sections_of message ≡ Some s → (m : Option (List Group)) → moved anchors most (groups_of s.1) ≡ m
        → Named (begun_with most message s.0 m (groups_of s.2))
    by_moved s f None g = tt
    by_moved s f (Some answers) g =
        let authorities = from_bind (authorities_of message) _ s f in
        let answered = from_bind (answers_of message) _ s authorities.2 in
        let questions = from_bind (questions_of message) _ s answered.2 in
        let parts : (questions.0.0, answered.0.0, authorities.0.0) ≡ s = same_Some _ _ questions.2 in
        all_both (λ (x : Group). IsName x.owner) answers (groups_of s.2)
        (moved_named anchors most (groups_of s.1) answers g (subst (λ (x : Sections). AllByRecursion (λ (y : Group). IsName y.owner) (groups_of x.1)) parts (groups_named answered.0.0 (answers_named message answered.0 answered.1))))
        (subst (λ (x : Sections). AllByRecursion (λ (y : Group). IsName y.owner) (groups_of x.2)) parts (groups_named authorities.0.0 (authorities_named message authorities.0 authorities.1)))

    by_sections : (x : Option Sections) → sections_of message ≡ x → begun_by anchors most message x ≡ Ok c → Named c
    by_sections None f g = absurd cc
    by_sections (Some s) f g =
        let same : begun_with most message s.0 (moved anchors most (groups_of s.1)) (groups_of s.2) ≡ c = cc in
        subst Named same (by_moved s f (moved anchors most (groups_of s.1)) refl)
