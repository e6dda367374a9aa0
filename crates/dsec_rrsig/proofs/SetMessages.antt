-- What is signed of a set is its records one by one, in the order of their canonical data.
use Rattle.std.proofs.Common.{◌≡◌, ℕ, zero, suc, ◌+◌, ◌<◌, ◌≤◌, Bool, false, List, [], ◌∷◌, ◌++◌, length, drop, map, get_or, refl, sym, ap, ◌∙◌, subst, arith, append_assoc, length-append}
use Rattle.std.specs.Prelude.{IsPermutation, IsSorted}
use Rattle.std.specs.Borrow.{Bor}
use Rattle.std.specs.List.Sorted.{IsSortedBy}
use Rattle.std.specs.List.{flat_map}
use Rattle.std.specs.Ordering.{nat_cmp, is_lt, ordering_reverse}
use Rattle.std.specs.Cmp.Lexicographic.{slice_cmp}
use Rattle.std.specs.declared.cmp.Ordering.TheVariants.{Less, Equal}
use Rattle.std.proofs.lemmas.Cmp.{tied_itself, nat_cmp_total, nat_list_cmp_total}
use Rattle.std.proofs.lemmas.List.{get_or_default, get_or-map, length-map, append-nil}
use Rattle.std.proofs.lemmas.List.Sorted.{IsPermutation-map, IsPermutation-refl}
use Rattle.dsec_spec.specs.Names.{Labels, IsName, place, place_cmp, canonical_octets, wire_octets}
use Rattle.dsec_spec.specs.Numbers.{RRSIG}
use Rattle.dsec_spec.specs.RecordData.{canonical_data, lowered, plain, IsReadable}
use Rattle.dsec_spec.specs.Records.{Record, Rrsig, fixed_octets, set_of}
use Rattle.dsec_spec.specs.SignedBytes.{ascending, signed_record}
use Rattle.dsec_spec.specs.Signatures.{Signs, Signer, Period, rrsig_for, IsSignature}
use Rattle.dsec_spec.specs.CanonicalRecords.{record_cmp, IsCanonical}
use Rattle.dsec_spec.proofs.AscendingOrder.{ascending_is}
use Rattle.dsec_spec.proofs.Members.{first_in}
use Rattle.dsec_spec.proofs.NameOrder.{place_cmp_total}
use Rattle.dsec_spec.proofs.SignedOwner.{own_signed_owner}
use Rattle.dsec_spec.proofs.WireNameLemmas.{length-wire_octets}
use Rattle.dsec_link.specs.Sets.{AreRecordsOf, canonical_record}
use Rattle.dsec_link.specs.Signing.{head_octets}
use Rattle.dsec_link.proofs.SetLemmas.{canonical_records}
use Rattle.dsec_sorted.specs.Sets.{AreOfOneSet}
use Rattle.dsec_rrsig.specs.Lent.{lent}
use Rattle.dsec_rrsig.specs.Made.{IsRrsigOver, message_for}
use Rattle.dsec_rrsig.specs.Messages.{AreInOrder, piece}

-- the records of a set are of its type
pub set_types : (first : Record) (others : List Record) → AreOfOneSet (first ∷ others) → AreRecordsOf first.rtype others
set_types first others one k d lt = (one (get_or others k d) first (suc k, omega (arith, lt), get_or_default others k (get_or others k d) d lt) (first_in first others)).2

piece_is : (by : Signer) (period : Period) (first : Record) (others : List Record) (r : Record)
    → signed_record (rrsig_for by period first []) (set_of first others) (canonical_record r) ≡ piece first r
piece_is by period first others r = rw (own_signed_owner first.owner) (simp append_assoc)

pieces_are : (by : Signer) (period : Period) (first : Record) (others xs : List Record)
    → flat_map (signed_record (rrsig_for by period first []) (set_of first others)) (map canonical_record xs) ≡ flat_map (piece first) xs
pieces_are by period first others [] = refl
pieces_are by period first others (r ∷ xs) =
    ap (λ (o : List ℕ). o ++ flat_map (signed_record (rrsig_for by period first []) (set_of first others)) (map canonical_record xs)) (piece_is by period first others r)
    ∙ ap (λ (o : List ℕ). piece first r ++ o) (pieces_are by period first others xs)

-- what is signed of a set, record by record
pub message_is : (by : Signer) (period : Period) (first : Record) (others xs : List Record) → AreRecordsOf first.rtype others → AreInOrder (first ∷ others) xs
    → head_octets (rrsig_for by period first []) ++ flat_map (piece first) xs ≡ message_for by period (first ∷ others)
message_is by period first others xs typed ordered =
    let sig = rrsig_for by period first [] in
    let all : AreRecordsOf first.rtype (first ∷ others) = λ k d lt. one_by_one k d lt in
    let datas : map canonical_record xs ≡ ascending (map (canonical_data first.rtype) (map (λ (r : Record). r.rdata) (first ∷ others))) =
    ordered ∙ ap ascending (canonical_records first.rtype (first ∷ others) all) in
    append_assoc (fixed_octets sig) (canonical_octets by.owner) (flat_map (piece first) xs)
    ∙ ap (λ (o : List ℕ). fixed_octets sig ++ canonical_octets by.owner ++ o)
    (sym (pieces_are by period first others xs) ∙ ap (flat_map (signed_record sig (set_of first others))) datas)
  where
    one_by_one : (k : ℕ) (d : Record) → k < length (first ∷ others) → (get_or (first ∷ others) k d).rtype ≡ first.rtype
    one_by_one zero d lt = refl
    one_by_one (suc k) d lt = typed k d (omega (arith, lt))

-- ---- records in canonical order

-- of two records of a set that are in order, the data of the first are before those of the second
data_rise : (r s : Record) → place r.owner ≡ place s.owner → r.class ≡ s.class → r.rtype ≡ s.rtype → record_cmp r s ≡ Less
    → slice_cmp nat_cmp (canonical_record r) (canonical_record s) ≡ Less
data_rise r s owner class rtype less =
    let c : nat_cmp r.class s.class ≡ Equal = rw class (tied_itself nat_cmp_total s.class) in
    let o : place_cmp (place r.owner) (place s.owner) ≡ Equal = rw owner (tied_itself place_cmp_total (place s.owner)) in
    let t : nat_cmp r.rtype s.rtype ≡ Equal = rw rtype (tied_itself nat_cmp_total s.rtype) in
    rw (c, o, t) at less

not_behind : (x y : List ℕ) → slice_cmp nat_cmp x y ≡ Less → is_lt (slice_cmp nat_cmp y x) ≡ false
not_behind x y less = rw (nat_list_cmp_total.antisymm y x ∙ ap ordering_reverse less) refl

datas_rise : (set : List Record) → AreOfOneSet set → IsCanonical set → IsSorted (slice_cmp nat_cmp) (map canonical_record set)
datas_rise set one canonical k d low below =
    let long : k + 1 < length set = omega (arith, below, length-map set canonical_record) in
    let default = get_or set 0 (record { owner = []; class = 0; rtype = 0; ttl = 0; rdata = [] }) in
    let r = get_or set k default in
    let s = get_or set (k + 1) default in
    let same = one r s (k, omega (arith, long), get_or_default set k r default (omega (arith, long))) (k + 1, long, get_or_default set (k + 1) s default long) in
    let less = canonical k (k + 1) default (omega arith) long in
    rw (get_or-map canonical_record set (k + 1) default d long, get_or-map canonical_record set k default d (omega (arith, long)))
    (not_behind (canonical_record r) (canonical_record s) (data_rise r s same.0 same.1 same.2 less))

-- a set in canonical order is in the order of its canonical data
pub in_order : (set : List Record) → AreOfOneSet set → IsCanonical set → AreInOrder set set
in_order set one canonical = ascending_is (map canonical_record set) (map canonical_record set) (IsPermutation-refl _) (datas_rise set one canonical)

-- what is signed of a set, by its first record
pub set_message : (by : Signer) (period : Period) (set xs : List Record) (first : Record) → set ≡ first ∷ drop 1 set → AreOfOneSet set → AreInOrder set xs
    → head_octets (rrsig_for by period first []) ++ flat_map (piece first) xs ≡ message_for by period set
set_message by period [] xs first is one ordered = absurd cc
set_message by period (r ∷ others) xs first is one ordered =
    let same : r ≡ first = ap (λ (rs : List Record). get_or rs 0 r) is in
    rw (← same) (message_is by period r others xs (set_types r others one) ordered)

-- ---- the record of a signature

pub signature_is : (signs : Signs) (by : Signer) (period : Period) (set : List Record) (first : Record) (message : List ℕ) (r : Record) → set ≡ first ∷ drop 1 set → message ≡ message_for by period set
    → IsRrsigOver signs by period first message r → IsSignature signs period (set, by) r
signature_is signs by period [] first message r is said over = absurd cc
signature_is signs by period (one ∷ others) first message r is said over =
    let same : first ≡ one = sym (ap (λ (rs : List Record). get_or rs 0 one) is) in
    record {
      signature = over.signature;
      signed = subst (λ (m : List ℕ). signs by.key m over.signature) said over.signed;
      at_most = over.at_most;
      is = rw (← same) over.is;
    }

-- the data of an RRSIG record can be read
pub rrsig_readable : (sig : Rrsig) (signer : Labels) (signature : List ℕ) → IsName signer → length signature ≤ 60000 → IsReadable RRSIG (fixed_octets sig ++ wire_octets signer ++ signature)
rrsig_readable sig signer signature name short = record {
  parts = plain (fixed_octets sig) ∷ lowered signer ∷ plain signature ∷ [];
  are = record {
    fit = (refl, (name, (tt, tt)));
    is = ap (λ (x : List ℕ). fixed_octets sig ++ wire_octets signer ++ x) (sym (append-nil signature));
  };
  at_most =
      let most = name.at_most in
      let fixed : length (fixed_octets sig) ≡ 18 = refl in
      omega (arith, most, fixed, short, length-append (fixed_octets sig) (wire_octets signer ++ signature), length-append (wire_octets signer) signature, length-wire_octets signer);
}

-- ---- records that are lent, in the order of their canonical data

lent_canonical : (records : List (Bor Record)) → map canonical_record (lent records) ≡ map (λ (r : Bor Record). canonical_record r.now) records
lent_canonical [] = refl
lent_canonical (r ∷ records) = ap (λ (xs : List (List ℕ)). canonical_record r.now ∷ xs) (lent_canonical records)

-- whether a record that is lent comes before another
abbrev pub lent_before : Bor Record → Bor Record → Bool
lent_before r s = is_lt (slice_cmp nat_cmp (canonical_record r.now) (canonical_record s.now))

lent_sorted : (records : List (Bor Record)) (d : Bor Record) → IsSortedBy lent_before records → IsSorted (slice_cmp nat_cmp) (map (λ (r : Bor Record). canonical_record r.now) records)
lent_sorted records d sorted k x low below =
    let within : k + 1 < length records = omega (arith, length-map records (λ (r : Bor Record). canonical_record r.now), below) in
    rw (get_or-map (λ (r : Bor Record). canonical_record r.now) records (k + 1) d x within, get_or-map (λ (r : Bor Record). canonical_record r.now) records k d x (omega (arith, within)))
    (sorted k d low within)

all_sorted : (records : List (Bor Record)) → IsSortedBy lent_before records → IsSorted (slice_cmp nat_cmp) (map (λ (r : Bor Record). canonical_record r.now) records)
all_sorted [] sorted = λ k x low below. absurd (omega (arith, below))
all_sorted (r ∷ records) sorted = lent_sorted (r ∷ records) r sorted

-- a set is in the order of its canonical data once it is sorted by them
pub lent_in_order : (set : List Record) (records sorted : List (Bor Record)) → lent records ≡ set → IsPermutation records sorted → IsSortedBy lent_before sorted → AreInOrder set (lent sorted)
lent_in_order set records sorted is permuted ordered =
    lent_canonical sorted
    ∙ ascending_is (map canonical_record set) (map (λ (r : Bor Record). canonical_record r.now) sorted)
    (subst (λ (xs : List (List ℕ)). IsPermutation xs (map (λ (r : Bor Record). canonical_record r.now) sorted)) (sym (lent_canonical records) ∙ ap (map canonical_record) is)
    (IsPermutation-map (λ (r : Bor Record). canonical_record r.now) records sorted permuted))
    (all_sorted sorted ordered)
