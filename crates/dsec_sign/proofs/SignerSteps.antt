-- Signatures, one set and one key after the other.
use Rattle.std.proofs.Common.{◌≡◌, ℕ, zero, suc, ◌+◌, ◌<◌, ◌≤◌, List, [], ◌∷◌, ◌++◌, length, take, drop, map, get_or, slice_set, refl, sym, ap, ◌∙◌, subst, inl, inr, ◌⊎◌, arith, append_assoc, length-append}
use Rattle.std.proofs.lemmas.Bool.{cases_lt}
use Rattle.std.specs.Prelude.{All}
use Rattle.std.specs.List.{AllZip}
use Rattle.dsec_spec.specs.Numbers.{RRSIG}
use Rattle.std.proofs.lemmas.List.{append-nil, map-append, map-set, set-get_or, get_or-set_same, get_or-set_other, length-map, get_or-map, get_or_default}
use Rattle.std.proofs.lemmas.List.Elements.{All-cons}
use Rattle.std.proofs.lemmas.Grind.{flat_map-append}
use Rattle.std.proofs.Math.Seq.{take-suc}
use Rattle.dsec_spec.specs.KeyTag.{key_tag}
use Rattle.dsec_spec.specs.Outside.{Rose}
use Rattle.dsec_spec.specs.Records.{Key, Record}
use Rattle.dsec_spec.specs.Trying.{pairs}
use Rattle.dsec_spec.specs.Signatures.{Signs, Signer, Period, IsSignature, AreSignatures}
use Rattle.dsec_rrsig.specs.Signers.{count_in, flags_in, signer_of}
use Rattle.dsec_rrsig.specs.declared.signing_key.SigningKey.{SigningKey}
use Rattle.dsec_spec.specs.CanonicalRecords.{IsCanonical}
use Rattle.dsec_sorted.specs.Sets.{AreOfOneSet, differ_in_ttl}
use Rattle.dsec_sign.specs.Places.{IsSignable, set_at}
use Rattle.dsec_sign.specs.declared.zone_sets.SetAt.{SetAt}
use Rattle.dsec_sign.specs.SignerFaults.{AddsOfSet, AddsSignatures, AreSameSigners, SomeRose, tags_of}

-- ---- keys of which one was used

pub mapped_set : {A B : Type 0} (f : A → B) (xs : List A) (i : ℕ) (y d : A) → i < length xs → f y ≡ f (get_or xs i d) → map f (slice_set xs i y) ≡ map f xs
mapped_set f xs i y d lt e = map-set f xs i y ∙ (ap (slice_set (map f xs) i) (e ∙ sym (get_or-map f xs i d (f d) lt)) ∙ set-get_or (map f xs) i (f d))

pub map-take : {A B : Type 0} (f : A → B) (n : ℕ) (xs : List A) → map f (take n xs) ≡ take n (map f xs)
map-take f zero xs = refl
map-take f (suc n) [] = refl
map-take f (suc n) (x ∷ xs) = ap (λ bs. f x ∷ bs) (map-take f n xs)

-- a count that rose from a later value rose from an earlier one
pub rose_before : (a b c : ℕ) → a ≤ b → Rose b c → Rose a c
rose_before a b c le rose = omega (arith, le, rose)

module _ {I : Type 0} (key_of : I → Key) (count_of : I → ℕ) where
  pub same_at_first : (keys : List (SigningKey I)) → AreSameSigners key_of count_of keys keys
  same_at_first keys = record { kept = refl; flags = refl; later = λ k d lt. omega arith }

  pub same_length : (old new : List (SigningKey I)) → AreSameSigners key_of count_of old new → length new ≡ length old
  same_length old new same = sym (length-map new (signer_of key_of)) ∙ (ap length same.kept ∙ length-map old (signer_of key_of))

  pub same_then : (old mid new : List (SigningKey I)) → AreSameSigners key_of count_of old mid → AreSameSigners key_of count_of mid new → AreSameSigners key_of count_of old new
  same_then old mid new first second = record {
    kept = second.kept ∙ first.kept;
    flags = second.flags ∙ first.flags;
    later = λ k d lt. let a = first.later k d lt in let b = second.later k d (omega (arith, lt, same_length old mid first)) in omega (arith, a, b);
  }

  -- one of the keys was used
  pub same_once : (keys : List (SigningKey I)) (i : ℕ) (new d : SigningKey I) → i < length keys → signer_of key_of new ≡ signer_of key_of (get_or keys i d)
      → flags_in new ≡ flags_in (get_or keys i d) → count_in count_of (get_or keys i d) ≤ count_in count_of new → AreSameSigners key_of count_of keys (slice_set keys i new)
  same_once keys i new d lt same flags later = record {
    kept = mapped_set (signer_of key_of) keys i new d lt same;
    flags = mapped_set flags_in keys i new d lt flags;
    later = λ k e below. elim (same_or_not i k) [
      | inl is ↦ subst (λ (n : ℕ). count_in count_of (get_or keys n e) ≤ count_in count_of (get_or (slice_set keys i new) n e)) is
          (rw (get_or-set_same keys i new e lt) (rw (get_or_default keys i e d lt) later))
      | inr other ↦ rw (get_or-set_other keys i k new e (λ h. other (sym h))) (omega arith)
    ];
  }
    where
      same_or_not : (m n : ℕ) → (m ≡ n) ⊎ (m ≡ n → ⊥)
      same_or_not m n = elim (cases_lt m n) [
        | inl low ↦ inr (λ e. absurd (omega (arith, low, e)))
        | inr high ↦ elim (cases_lt n m) [
          | inl lower ↦ inr (λ e. absurd (omega (arith, lower, e)))
          | inr equal ↦ inl (omega (arith, high, equal))
        ]
      ]

  -- and failed
  pub rose_once : (old keys : List (SigningKey I)) (i : ℕ) (new d : SigningKey I) → AreSameSigners key_of count_of old keys → i < length keys
      → Rose (count_in count_of (get_or keys i d)) (count_in count_of new) → SomeRose count_of old (slice_set keys i new)
  rose_once old keys i new d same lt rose =
      let long = same_length old keys same in
      let within : i < length old = omega (arith, lt, long) in
      record {
        at = i;
        within = within;
        rose = λ e.
            rw (get_or-set_same keys i new e lt) (rose_before (count_in count_of (get_or old i e)) (count_in count_of (get_or keys i e)) (count_in count_of new) (same.later i e within)
            (subst (λ (k : SigningKey I). Rose (count_in count_of k) (count_in count_of new)) (get_or_default keys i d e lt) rose));
      }

  -- a count that rose since then rose since the beginning
  pub rose_then : (old mid new : List (SigningKey I)) → AreSameSigners key_of count_of old mid → SomeRose count_of mid new → SomeRose count_of old new
  rose_then old mid new same rose =
      let long = same_length old mid same in
      let within : rose.at < length old = let w = rose.within in omega (arith, w, long) in
      record {
        at = rose.at;
        within = within;
        rose = λ d. rose_before (count_in count_of (get_or old rose.at d)) (count_in count_of (get_or mid rose.at d)) (count_in count_of (get_or new rose.at d)) (same.later rose.at d within) (rose.rose d);
      }

  -- the tag of a key
  pub tag_there : (old keys : List (SigningKey I)) (tags : List ℕ) (i : ℕ) (d : SigningKey I) → AreSameSigners key_of count_of old keys → tags ≡ tags_of (map (signer_of key_of) old) → i < length keys
      → get_or tags i 0 ≡ key_tag (key_of (get_or keys i d).inner)
  tag_there old keys tags i d same are lt =
      ap (λ (ts : List ℕ). get_or ts i 0) (are ∙ ap tags_of (sym same.kept))
      ∙ (get_or-map (λ (by : Signer). key_tag by.key) (map (signer_of key_of) keys) i (signer_of key_of d) 0 (omega (arith, lt, length-map keys (signer_of key_of)))
      ∙ ap (λ (by : Signer). key_tag by.key) (get_or-map (signer_of key_of) keys i d (signer_of key_of d) lt))

-- ---- signatures

zip_append : {A B : Type 0} (R : A → B → Type 0) (xs us : List A) (ys vs : List B) → AllZip R xs ys → AllZip R us vs → AllZip R (xs ++ us) (ys ++ vs)
zip_append R [] us [] vs h g = g
zip_append R [] us (y ∷ ys) vs h g = absurd h
zip_append R (x ∷ xs) us [] vs h g = absurd h
zip_append R (x ∷ xs) us (y ∷ ys) vs h g = (h.0, zip_append R xs us ys vs h.1 g)

module _ (signs : Signs) (period : Period) where
  pub no_keys : (set : List Record) (signers : List Signer) (old : List Record) → AddsOfSet signs period set (take 0 signers) old old
  no_keys set signers old = record { signatures = []; is = sym (append-nil old); are = tt }

  -- a key more
  pub key_more : (set : List Record) (signers : List Signer) (i : ℕ) (by : Signer) (old mid : List Record) (r : Record) → i < length signers → get_or signers i by ≡ by
      → AddsOfSet signs period set (take i signers) old mid → IsSignature signs period (set, by) r → AddsOfSet signs period set (take (i + 1) signers) old (mid ++ r ∷ [])
  key_more set signers i by old mid r lt at adds is = record {
    signatures = adds.signatures ++ r ∷ [];
    is = ap (λ (x : List Record). x ++ r ∷ []) adds.is ∙ append_assoc old adds.signatures (r ∷ []);
    are =
        let next : i + 1 ≡ suc i = omega arith in
        let taken : take (i + 1) signers ≡ take i signers ++ by ∷ [] = ap (λ (n : ℕ). take n signers) next ∙ (take-suc signers i by lt ∙ ap (λ (k : Signer). take i signers ++ k ∷ []) at) in
        let mapped : map (λ (k : Signer). (set, k)) (take (i + 1) signers) ≡ map (λ (k : Signer). (set, k)) (take i signers) ++ (set, by) ∷ [] =
        ap (map (λ (k : Signer). (set, k))) taken ∙ map-append (λ (k : Signer). (set, k)) (take i signers) (by ∷ []) in
        subst (λ (xs : List (List Record × Signer)). AllZip (IsSignature signs period) xs (adds.signatures ++ r ∷ [])) (sym mapped)
        (zip_append (IsSignature signs period) (map (λ (k : Signer). (set, k)) (take i signers)) ((set, by) ∷ []) adds.signatures (r ∷ []) adds.are (is, tt));
  }

  pub no_sets : (sets : List (List Record)) (signers : List Signer) (old : List Record) → AddsSignatures signs period (take 0 sets) signers old old
  no_sets sets signers old = record { signatures = []; is = sym (append-nil old); are = tt }

  -- a set more
  pub set_more : (sets : List (List Record)) (signers : List Signer) (i : ℕ) (set : List Record) (old mid new : List Record) → i < length sets → get_or sets i set ≡ set
      → AddsSignatures signs period (take i sets) signers old mid → AddsOfSet signs period set signers mid new → AddsSignatures signs period (take (i + 1) sets) signers old new
  set_more sets signers i set old mid new lt at adds more =
      let next : i + 1 ≡ suc i = omega arith in
      let taken : take (i + 1) sets ≡ take i sets ++ set ∷ [] = ap (λ (n : ℕ). take n sets) next ∙ (take-suc sets i set lt ∙ ap (λ (s : List Record). take i sets ++ s ∷ []) at) in
      let paired : pairs (take (i + 1) sets) signers ≡ pairs (take i sets) signers ++ map (λ (k : Signer). (set, k)) signers =
      ap (λ (s : List (List Record)). pairs s signers) taken ∙ (flat_map-append (λ (x : List Record). map (λ (k : Signer). (x, k)) signers) (take i sets) (set ∷ [])
      ∙ ap (λ (x : List (List Record × Signer)). pairs (take i sets) signers ++ x) (append-nil (map (λ (k : Signer). (set, k)) signers))) in
      record {
        signatures = adds.signatures ++ more.signatures;
        is = more.is ∙ (ap (λ (x : List Record). x ++ more.signatures) adds.is ∙ append_assoc old adds.signatures more.signatures);
        are = subst (λ (xs : List (List Record × Signer)). AllZip (IsSignature signs period) xs (adds.signatures ++ more.signatures)) (sym paired)
            (zip_append (IsSignature signs period) (pairs (take i sets) signers) (map (λ (k : Signer). (set, k)) signers) adds.signatures more.signatures adds.are more.are);
      }

  -- the signatures of a set, put behind others
  pub appended : (set : List Record) (signers : List Signer) (made records new : List Record) → AddsOfSet signs period set signers [] made → new ≡ records ++ made → AddsOfSet signs period set signers records new
  appended set signers made records new adds is = record {
    signatures = adds.signatures;
    is = is ∙ ap (λ (xs : List Record). records ++ xs) adds.is;
    are = adds.are;
  }

-- ---- signatures are RRSIG records

signature_type : (signs : Signs) (period : Period) (pair : List Record × Signer) (r : Record) → IsSignature signs period pair r → r.rtype ≡ RRSIG
signature_type signs period ([], by) r h = absurd h
signature_type signs period (first ∷ others, by) r h = ap (λ (x : Record). x.rtype) h.is

signature_types : (signs : Signs) (period : Period) (all : List (List Record × Signer)) (signatures : List Record) → AllZip (IsSignature signs period) all signatures → All (λ r. r.rtype ≡ RRSIG) signatures
signature_types signs period [] [] h = λ k d lt. absurd (omega (arith, lt))
signature_types signs period [] (r ∷ rs) h = absurd h
signature_types signs period (p ∷ ps) [] h = absurd h
signature_types signs period (p ∷ ps) (r ∷ rs) h = All-cons (λ (x : Record). x.rtype ≡ RRSIG) r rs (signature_type signs period p r h.0) (signature_types signs period ps rs h.1)

pub signatures_only : (signs : Signs) (period : Period) (sets : List (List Record)) (signers : List Signer) (signatures : List Record) → AreSignatures signs period sets signers signatures → All (λ r. r.rtype ≡ RRSIG) signatures
signatures_only signs period sets signers signatures are = signature_types signs period (pairs sets signers) signatures are

pub take_front : (xs ys : List Record) → take (length xs) (xs ++ ys) ≡ xs
take_front [] ys = refl
take_front (x ∷ xs) ys = ap (λ (zs : List Record). x ∷ zs) (take_front xs ys)

pub drop_front : (xs ys : List Record) → drop (length xs) (xs ++ ys) ≡ ys
drop_front [] ys = refl
drop_front (x ∷ xs) ys = drop_front xs ys

-- ---- sets among the first of the records

in_front_of : (records more : List Record) (start size : ℕ) → start + size ≤ length records → take size (drop start (records ++ more)) ≡ take size (drop start records)
in_front_of records more zero size le = short size records more (omega (arith, le))
  where
    short : (n : ℕ) (xs ys : List Record) → n ≤ length xs → take n (xs ++ ys) ≡ take n xs
    short zero xs ys fits = refl
    short (suc n) [] ys fits = absurd (omega (arith, fits))
    short (suc n) (x ∷ xs) ys fits = ap (λ (zs : List Record). x ∷ zs) (short n xs ys (omega (arith, fits)))
in_front_of [] more (suc start) size le = absurd (omega (arith, le))
in_front_of (r ∷ records) more (suc start) size le = in_front_of records more start size (omega (arith, le))

pub set_in_front : (records more : List Record) (it : SetAt) → it.start + it.size ≤ length records → set_at (records ++ more) it ≡ set_at records it
set_in_front records more it le = in_front_of records more it.start it.size le

pub signable_in_front : (records more all : List Record) (it : SetAt) → all ≡ records ++ more → IsSignable records it → IsSignable all it
signable_in_front records more all it e is =
    let same : set_at all it ≡ set_at records it = ap (λ (xs : List Record). set_at xs it) e ∙ set_in_front records more it is.found.within in
    record {
      found = record { some = is.found.some; within = let w = is.found.within in omega (arith, w, ap length e, length-append records more) };
      one = subst AreOfOneSet (sym same) is.one;
      canonical = subst IsCanonical (sym same) is.canonical;
      ttls = ap differ_in_ttl same ∙ is.ttls;
    }
